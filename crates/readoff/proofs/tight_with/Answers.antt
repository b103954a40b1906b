-- `readoff::tight_with` meets its contract. Invariant: all below `x` pass.
use native.Mathlib.Omega.{arith}
use mathlib.Core.Bool.{true}
use Rattle.facts.specs.Infer.{tight}
use Rattle.readoff.proofs.ReadOffLaws.{below_none, below_more, below_fails, below-done}
use Rattle.readoff.proofs.tight_with.Goals as goal

pub loop-x-init : goal.loop-x-init
loop-x-init c = below_none _

pub tight-requires : goal.tight-requires
tight-requires c = (c.requires.0, c.requires.1, omega arith)

pub returns-then-not-tight : goal.returns-then-not-tight
returns-then-not-tight c = below_fails _ _ _ c.loop-x-test.true c.tight.ensures c.if-not-tight.true

pub loop-x-preserved : goal.loop-x-preserved
loop-x-preserved c = below_more _ _ c.loop-x.invariant c.tight.ensures c.if-not-tight.false

pub returns : goal.returns
returns c = below-done _ _ _ (omega arith) (omega arith) c.loop-x.invariant
