-- `records::lists::term_end` meets its contract.
use native.Mathlib.Omega.{arith}
use Rattle.fields.proofs.SameLaws.{term-inside, term-ends, term_fits}
use Rattle.records.proofs.lists.term_end.Goals as goal

pub overflow_add-body : goal.overflow_add-body
overflow_add-body c = omega (arith, term-inside _ _ c.requires)

pub bounds-s-at : goal.bounds-s-at
bounds-s-at c = term-inside _ _ c.requires

pub overflow_add-result : goal.overflow_add-result
overflow_add-result c = omega (arith, term_fits _ _ c.requires c.body_width.ensures)

pub returns : goal.returns
returns c = term-ends _ _ c.requires c.body_width.ensures
