-- `records::lists::again` meets its contract. The loop keeps what is asked of the rest equal to what is asked of the whole.
use native.Mathlib.Omega.{arith}
use mathlib.Core.Path.{refl, sym, ◌∙◌}
use Rattle.records.proofs.ListLaws.{good-one, good-after, good-rest, again-here, again_rest, again-end}
use Rattle.records.proofs.lists.again.Goals as goal

pub loop-i-init : goal.loop-i-init
loop-i-init g c = (c.requires.from_value, refl)

pub same-requires : goal.same-requires
same-requires g c =
    record { a_value = c.requires.at_value; b_value = good-one g.R.Comparable.read g.met.R.Comparable.forward _ _ c.loop-i.invariant.0 c.loop-i-test.true }

pub returns-then-same : goal.returns-then-same
returns-then-same g c =
    sym (c.loop-i.invariant.1
    ∙ again-here g.R.Comparable.read g.met.R.Comparable.forward _ _ c.loop-i.invariant.0 c.loop-i-test.true _ _ (sym c.same.ensures ∙ c.if-same.true))

pub end-i-requires : goal.end-i-requires
end-i-requires g c = good-one g.R.Comparable.read g.met.R.Comparable.forward _ _ c.loop-i.invariant.0 c.loop-i-test.true

pub loop-i-smaller : goal.loop-i-smaller
loop-i-smaller g c = omega (arith, good-after g.R.Comparable.read g.met.R.Comparable.forward _ _ c.loop-i.invariant.0 c.loop-i-test.true c.end-i.ensures)

pub loop-i-preserved : goal.loop-i-preserved
loop-i-preserved g c = (
  good-rest g.R.Comparable.read g.met.R.Comparable.forward _ _ c.loop-i.invariant.0 c.loop-i-test.true c.end-i.ensures,
  c.loop-i.invariant.1
      ∙ again_rest g.R.Comparable.read g.met.R.Comparable.forward _ _ c.loop-i.invariant.0 c.loop-i-test.true c.end-i.ensures _ _ (sym c.same.ensures ∙ c.if-same.false),
)

pub returns : goal.returns
returns g c = sym (c.loop-i.invariant.1 ∙ again-end g.R.Comparable.read g.met.R.Comparable.forward _ _ _ _ c.loop-i-test.false)
