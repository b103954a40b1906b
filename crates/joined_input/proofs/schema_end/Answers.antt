-- The loop: the end is still to be found from `at` on.
use Prim.Native.Nat.{◌-◌}
use native.Mathlib.Omega.{arith}
use Rattle.joined_input.proofs.EndLaws.{ends-start, ends-here, ends-out, ends_next, entry-none, entry-some, entry_zero}
use Rattle.joined_input.proofs.schema_end.Goals as goal

pub loop-at-init : goal.loop-at-init
loop-at-init c = (omega arith, omega arith, ends-start _ _ _)

pub returns-then-s-at-ne33 : goal.returns-then-s-at-ne33
returns-then-s-at-ne33 c = record { value = ends-here _ _ (entry-none _ c.if-s-at-ne33.true) c.loop-at.invariant.2; lower_bound = omega arith }

pub loop-at-preserved : goal.loop-at-preserved
loop-at-preserved c =
    (omega arith, omega arith, ends_next _ _ (entry-some _ c.if-s-at-ne33.false) (omega arith) c.loop-at.invariant.2 (omega arith))

pub returns : goal.returns
returns c = record { value = ends-out _ _ entry_zero (omega arith) c.loop-at.invariant.2; lower_bound = omega arith }
