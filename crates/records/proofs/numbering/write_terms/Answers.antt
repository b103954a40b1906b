-- `records::numbering::write_terms` meets its contract. The loop keeps what is read so far, and written as long as there was room.
use Prim.Native.Nat.{ℕ}
use native.Mathlib.Omega.{arith}
use mathlib.Core.Path.{◌≡◌, sym, ap, ◌∙◌}
use borrow.Author.Rules.{rules}
use lib.ListN.{length, length-replicate}
use Rattle.definitions.specs.Limits.{term_table_width}
use Rattle.records.proofs.NumberingLaws.{term-after, writing_start, still-hashed, writing-bad, writing-next, writing-count, writing-end}
use Rattle.records.proofs.numbering.write_terms.Goals as goal

pub loop-at-init : goal.loop-at-init
loop-at-init c = writing_start _ _ _ c.requires.table_value c.requires.hashes_len

pub shape_of-table-in_err-end : goal.shape_of-table-in_err-end
shape_of-table-in_err-end c =
    c.loop-at.invariant.width ∙ sym (ap length c.requires.table_value ∙ length-replicate {A = ℕ} term_table_width 0)

pub shape_of-hashes-in_err-end : goal.shape_of-hashes-in_err-end
shape_of-hashes-in_err-end c = c.loop-at.invariant.room ∙ sym c.requires.hashes_len

pub returns-in_err-end : goal.returns-in_err-end
returns-in_err-end c = record { value = c.from_residual.ensures ∙ writing-bad _ _ _ _ _ c.loop-at.invariant c.loop-at-test.true c.read_term.ensures c.in_err-end.was; by_index = λ n e. let q = c.from_residual.ensures in absurd (let z : ◌≡◌ {A = ℕ} 0 1 = cc in omega arith) }

pub write_term-requires : goal.write_term-requires
write_term-requires c = record { end_value = sym c.in_ok-end.was ∙ c.read_term.ensures; table_len = c.loop-at.invariant.width; hashes_len = c.loop-at.invariant.room; hashed = still-hashed _ _ _ _ _ c.loop-at.invariant }

pub overflow_add-n : goal.overflow_add-n
overflow_add-n c = omega (arith, c.loop-at.invariant.past)

pub loop-at-smaller : goal.loop-at-smaller
loop-at-smaller c =
    omega (arith, c.loop-at-test.true, term-after _ _ _ (sym c.in_ok-end.was ∙ c.read_term.ensures))

pub loop-at-preserved : goal.loop-at-preserved
loop-at-preserved c =
    writing-next _ _ _ _ _ c.loop-at.invariant c.loop-at-test.true c.read_term.ensures c.in_ok-end.was (search rules) (search rules) c.write_term.ensures

pub shape_of-table : goal.shape_of-table
shape_of-table c = c.loop-at.invariant.width ∙ sym (ap length c.requires.table_value ∙ length-replicate {A = ℕ} term_table_width 0)

pub shape_of-hashes : goal.shape_of-hashes
shape_of-hashes c = c.loop-at.invariant.room ∙ sym c.requires.hashes_len

pub returns : goal.returns
returns c = record { value = writing-count _ _ _ _ _ c.loop-at.invariant c.loop-at-test.false; by_index = writing-end _ _ _ _ _ c.loop-at.invariant c.loop-at-test.false }
