-- `readoff::all_reported` meets its contract. Invariant: the types below `x` are there.
use native.Mathlib.Omega.{arith}
use mathlib.Core.Path.{refl}
use lib.ListN.{length-set}
use Rattle.laws.proofs.Fill.{filled_more}
use Rattle.facts.specs.Codes.{all_written}
use Rattle.facts.specs.Answers.{reported_at}
use Rattle.readoff.proofs.ReadOffLaws.{filled-all, written-length}
use Rattle.readoff.proofs.all_reported.Goals as goal

pub loop-x-init : goal.loop-x-init
loop-x-init c = (refl, λ k l. absurd (omega arith))

pub reported-requires : goal.reported-requires
reported-requires c = (c.requires.0, omega arith, c.requires.1)

pub loop-x-preserved : goal.loop-x-preserved
loop-x-preserved c = (
  rw length-set c.loop-x.invariant.0,
  filled_more 0 (reported_at c.args.t (all_written c.args.written.now)) c.loop-x.types c.loop-x.x (omega arith)
      c.loop-x.invariant.1 c.reported.ensures,
)

pub returns : goal.returns
returns c = filled-all _ _ _ (written-length _ c.requires.1) c.loop-x.invariant.0 (λ k l. c.loop-x.invariant.1 k (omega arith))
