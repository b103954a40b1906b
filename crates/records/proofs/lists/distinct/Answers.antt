-- `records::lists::distinct` meets its contract. The loop keeps what is asked of the rest equal to what is asked of the whole.
use native.Mathlib.Omega.{arith}
use mathlib.Core.Path.{refl, sym, ◌∙◌}
use Rattle.records.proofs.ListLaws.{good-one, good-after, good-rest, distinct-not, distinct-rest, distinct-end}
use Rattle.records.proofs.lists.distinct.Goals as goal

pub loop-at-init : goal.loop-at-init
loop-at-init g c = (c.requires, refl)

pub end-next-requires : goal.end-next-requires
end-next-requires g c = good-one g.R.Comparable.read g.met.R.Comparable.forward _ _ c.loop-at.invariant.0 c.loop-at-test.true

pub again-requires : goal.again-requires
again-requires g c = record {
  at_value = good-one g.R.Comparable.read g.met.R.Comparable.forward _ _ c.loop-at.invariant.0 c.loop-at-test.true;
  from_value = good-rest g.R.Comparable.read g.met.R.Comparable.forward _ _ c.loop-at.invariant.0 c.loop-at-test.true c.end-next.ensures;
}

pub returns-then-again : goal.returns-then-again
returns-then-again g c =
    sym (c.loop-at.invariant.1
    ∙ distinct-not g.R.Comparable.read g.met.R.Comparable.forward _ _ c.loop-at.invariant.0 c.loop-at-test.true c.end-next.ensures _ (sym c.again.ensures ∙ c.if-again.true))

pub loop-at-smaller : goal.loop-at-smaller
loop-at-smaller g c = omega (arith, good-after g.R.Comparable.read g.met.R.Comparable.forward _ _ c.loop-at.invariant.0 c.loop-at-test.true c.end-next.ensures)

pub loop-at-preserved : goal.loop-at-preserved
loop-at-preserved g c = (
  good-rest g.R.Comparable.read g.met.R.Comparable.forward _ _ c.loop-at.invariant.0 c.loop-at-test.true c.end-next.ensures,
  c.loop-at.invariant.1
      ∙ distinct-rest g.R.Comparable.read g.met.R.Comparable.forward _ _ c.loop-at.invariant.0 c.loop-at-test.true c.end-next.ensures _ (sym c.again.ensures ∙ c.if-again.false),
)

pub returns : goal.returns
returns g c = sym (c.loop-at.invariant.1 ∙ distinct-end g.R.Comparable.read g.met.R.Comparable.forward _ _ _ c.loop-at-test.false)
