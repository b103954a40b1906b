-- `end` of schema records meets its contract.
use native.Mathlib.Omega.{arith}
use Rattle.fields.proofs.SameLaws.{entry-inside, entry-ends}
use Rattle.records.proofs.lists.EntryRecordComparable.end.Goals as goal

pub overflow_add-result : goal.overflow_add-result
overflow_add-result c = omega (arith, entry-inside _ _ c.requires)

pub returns : goal.returns
returns c = entry-ends _ _ c.requires
