-- `gathering::entries::one_for` meets its contract.
use native.Mathlib.Omega.{arith}
use Rattle.gathering.proofs.EntryLaws.{one_none, one-some}
use Rattle.gathering.proofs.entries.one_for.Goals as goal

pub returns-then-datatype-eq0 : goal.returns-then-datatype-eq0
returns-then-datatype-eq0 c = (one_none _ c.if-datatype-eq0.true, omega arith)

pub returns-else-datatype-eq0 : goal.returns-else-datatype-eq0
returns-else-datatype-eq0 c = (one-some _ c.if-datatype-eq0.false, omega arith)
