-- `page_reader::record_end` meets its contract.
use native.Mathlib.Omega.{arith}
use Rattle.page_reader.proofs.RecordLaws.{triple-inside, triple-kind, triple-ends, triple-fits}
use Rattle.page_reader.proofs.record_end.Goals as goal

pub bounds-page-at : goal.bounds-page-at
bounds-page-at c = omega (arith, triple-inside _ _ c.requires)

pub overflow_sub-kind : goal.overflow_sub-kind
overflow_sub-kind c = omega (arith, triple-kind _ _ c.requires)

pub overflow_add-result : goal.overflow_add-result
overflow_add-result c = omega (arith, triple-inside _ _ c.requires)

pub overflow_add-result-2 : goal.overflow_add-result-2
overflow_add-result-2 c = omega (arith, triple-fits _ _ c.requires c.body_width.ensures)

pub returns : goal.returns
returns c = triple-ends _ _ c.requires c.body_width.ensures
