-- `table::hashes::slot_again` meets its contract.
use native.Mathlib.Omega.{arith}
use Rattle.table.proofs.TableLaws.{holds-few, slot-good}
use Rattle.table.proofs.FindLaws.{slot-hash, slot-after}
use Rattle.table.proofs.hashes.slot_again.Goals as goal

pub overflow_mul-at : goal.overflow_mul-at
overflow_mul-at c = omega (arith, holds-few _ _ c.requires.holds_terms, c.requires.i_lt_n)

pub overflow_add-end : goal.overflow_add-end
overflow_add-end c = omega (arith, holds-few _ _ c.requires.holds_terms, c.requires.i_lt_n)

pub slice_bounds-find_slot-start : goal.slice_bounds-find_slot-start
slice_bounds-find_slot-start c = omega (arith, c.requires.holds_terms.width, holds-few _ _ c.requires.holds_terms, c.requires.i_lt_n)

pub slice_bounds-find_slot-end : goal.slice_bounds-find_slot-end
slice_bounds-find_slot-end c = omega (arith, c.requires.holds_terms.width, holds-few _ _ c.requires.holds_terms, c.requires.i_lt_n)

pub offset_bounds-hashes-i : goal.offset_bounds-hashes-i
offset_bounds-hashes-i c = omega (arith, holds-few _ _ c.requires.holds_terms, c.requires.i_lt_n)

pub bounds-hashes-i : goal.bounds-hashes-i
bounds-hashes-i c = omega (arith, c.requires.hashes_len, holds-few _ _ c.requires.holds_terms, c.requires.i_lt_n)

pub find_slot-requires : goal.find_slot-requires
find_slot-requires c = record { holds_terms = c.requires.holds_terms; hashes_len = c.requires.hashes_len; hashed = c.requires.hashed; good_slot = slot-good _ _ c.requires.holds_terms _ c.requires.i_lt_n; hash_value = slot-hash _ c.args.hashes.now _ _ c.requires.hashed c.requires.i_lt_n; from_le_n = omega (arith, c.requires.i_lt_n) }

pub returns : goal.returns
returns c = slot-after c.args.table.now c.args.n c.args.i c.find_slot.ensures
