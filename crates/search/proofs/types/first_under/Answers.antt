-- `search::types::first_under` meets its contract. The loop's invariant: from i on gives what the whole gives. Assumes nothing.
use native.Mathlib.Omega.{arith}
use mathlib.Core.Path.{◌≡◌, ◌∙◌}
use Rattle.search.proofs.TypeLaws.{skip-ends, skip-here, skip-on}
use Rattle.search.proofs.types.first_under.Goals as goal

pub returns-then-is_under : goal.returns-then-is_under
returns-then-is_under c =
    skip-here _ _ _ _ _ c.loop-i.invariant c.loop-i-test.true c.is_under.ensures c.if-is_under.true

pub loop-i-preserved : goal.loop-i-preserved
loop-i-preserved c =
    skip-on _ _ _ _ _ c.loop-i.invariant c.loop-i-test.true c.is_under.ensures c.if-is_under.false

pub returns : goal.returns
returns c =
    let e : c.args.count ≡ c.loop-i.i = omega (arith, c.loop-i-test.false, c.loop-i.auto.i-end c.requires.from_le_count) in
    e ∙ skip-ends _ _ _ _ _ c.loop-i.invariant c.loop-i-test.false
