-- `with_type::flagged` meets its contract. Invariant: the flags below `other` are there.
-- Assumes nothing.
use Prim.Native.Nat.{ℕ}
use native.Mathlib.Omega.{arith}
use mathlib.Core.Path.{refl, ap, sym}
use mathlib.Core.Bool.{false, ◌||◌}
use lib.ListN.{length-set}
use Rattle.laws.specs.Lists.{flag}
use Rattle.laws.proofs.Fill.{filled_more}
use Rattle.laws.proofs.Variables.{made-is}
use Rattle.with_type.specs.WithType.{pair_at, flagged}
use Rattle.with_type.proofs.flagged.Goals as goal

pub loop-other-init : goal.loop-other-init
loop-other-init c = (refl, λ k l. absurd (omega arith))

pub loop-other-preserved : goal.loop-other-preserved
loop-other-preserved c =
    let at : ℕ → ℕ = pair_at c.args.objects c.args.x in (
      rw length-set c.loop-other.invariant.0,
      filled_more false (λ k. flag c.args.flags k || flag c.args.edges (at k)) c.loop-other.more c.loop-other.other (omega arith)
          c.loop-other.invariant.1 (ap (λ n. flag c.args.flags c.loop-other.other || flag c.args.edges n) c.pair_at-at.ensures.0),
    )

pub returns : goal.returns
unfolding flagged
returns c = sym (made-is false _ _ c.loop-other.invariant.0 (λ k l. sym (c.loop-other.invariant.1 k (omega arith))))
