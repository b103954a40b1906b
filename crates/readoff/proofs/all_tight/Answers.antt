-- `readoff::all_tight` meets its contract. Invariant: all below `p` pass.
use native.Mathlib.Omega.{arith}
use mathlib.Core.Bool.{true}
use Rattle.readoff.proofs.ReadOffLaws.{below_none, below_more, below_fails, below-done}
use Rattle.readoff.proofs.all_tight.Goals as goal

pub loop-p-init : goal.loop-p-init
loop-p-init c = below_none _

pub tight_with-requires : goal.tight_with-requires
tight_with-requires c = (c.requires, omega arith)

pub returns-then-not-tight_with : goal.returns-then-not-tight_with
returns-then-not-tight_with c = below_fails _ _ _ c.loop-p-test.true c.tight_with.ensures c.if-not-tight_with.true

pub loop-p-preserved : goal.loop-p-preserved
loop-p-preserved c = below_more _ _ c.loop-p.invariant c.tight_with.ensures c.if-not-tight_with.false

pub returns : goal.returns
returns c = below-done _ _ _ (omega arith) (omega arith) c.loop-p.invariant
