-- `same` of term records meets its contract.
use native.Mathlib.Omega.{arith}
use Rattle.fields.proofs.SameLaws.{term-next, same-terms, compared}
use Rattle.records.proofs.lists.TermRecordComparable.same.Goals as goal

pub slice_bounds-same_bytes-count : goal.slice_bounds-same_bytes-count
slice_bounds-same_bytes-count c = omega (arith, term-next _ _ c.requires.a_value c.term_end-a_end.ensures)

pub slice_bounds-same_bytes-start : goal.slice_bounds-same_bytes-start
slice_bounds-same_bytes-start c = omega (arith, term-next _ _ c.requires.a_value c.term_end-a_end.ensures)

pub slice_bounds-same_bytes-end : goal.slice_bounds-same_bytes-end
slice_bounds-same_bytes-end c = omega (arith, term-next _ _ c.requires.a_value c.term_end-a_end.ensures)

pub slice_bounds-same_bytes-count-2 : goal.slice_bounds-same_bytes-count-2
slice_bounds-same_bytes-count-2 c = omega (arith, term-next _ _ c.requires.b_value c.term_end-b_end.ensures)

pub slice_bounds-same_bytes-start-2 : goal.slice_bounds-same_bytes-start-2
slice_bounds-same_bytes-start-2 c = omega (arith, term-next _ _ c.requires.b_value c.term_end-b_end.ensures)

pub slice_bounds-same_bytes-end-2 : goal.slice_bounds-same_bytes-end-2
slice_bounds-same_bytes-end-2 c = omega (arith, term-next _ _ c.requires.b_value c.term_end-b_end.ensures)

pub returns : goal.returns
returns c =
    same-terms c.args.s.now (λ i. omega (arith, c.type_inv.s i)) _ _ _ _ c.term_end-a_end.ensures c.term_end-b_end.ensures (compared _ _ _ c.same_bytes.ensures)
