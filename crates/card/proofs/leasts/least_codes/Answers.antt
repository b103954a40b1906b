-- `card::leasts::least_codes` meets its contract. The loop keeps the codes of the terms passed in front, and what was there after them.
use native.Mathlib.Omega.{arith}
use mathlib.Core.Path.{refl}
use lib.ListN.{length-set}
use Rattle.table.proofs.TableLaws.{holds-few, slot-good}
use Rattle.card.proofs.LeastLaws.{least_first, least-next, least-done}
use Rattle.card.proofs.leasts.least_codes.Goals as goal

pub loop-i-init : goal.loop-i-init
loop-i-init c =
    (least_first _ _ _ c.requires.schema_value c.requires.holds_terms _ c.args.from c.requires.out_value, refl)

pub overflow_mul-at : goal.overflow_mul-at
overflow_mul-at c = omega (arith, c.loop-i-test.true, c.requires.holds_terms.width, holds-few _ _ c.requires.holds_terms)

pub overflow_add-end : goal.overflow_add-end
overflow_add-end c = omega (arith, c.loop-i-test.true, c.requires.holds_terms.width, holds-few _ _ c.requires.holds_terms)

pub slice_bounds-least_type-count : goal.slice_bounds-least_type-count
slice_bounds-least_type-count c =
    omega (arith, c.loop-i-test.true, c.requires.holds_terms.width, holds-few _ _ c.requires.holds_terms)

pub slice_bounds-least_type-start : goal.slice_bounds-least_type-start
slice_bounds-least_type-start c =
    omega (arith, c.loop-i-test.true, c.requires.holds_terms.width, holds-few _ _ c.requires.holds_terms)

pub slice_bounds-least_type-end : goal.slice_bounds-least_type-end
slice_bounds-least_type-end c =
    omega (arith, c.loop-i-test.true, c.requires.holds_terms.width, holds-few _ _ c.requires.holds_terms)

pub least_type-requires : goal.least_type-requires
least_type-requires c = record { schema_value = c.requires.schema_value; hashed_entries = c.requires.hashed_entries; good_slot = slot-good _ _ c.requires.holds_terms _ c.loop-i-test.true }

pub bounds-out-i : goal.bounds-out-i
bounds-out-i c = omega (arith, c.loop-i-test.true, c.requires.count_in_bounds, c.loop-i.invariant.1)

pub loop-i-preserved : goal.loop-i-preserved
loop-i-preserved c = (
  least-next _ _ _ c.requires.schema_value c.requires.holds_terms _ _ _ c.loop-i.invariant.0 c.requires.count_in_bounds c.loop-i-test.true c.least_type.ensures,
  simp
      length-set c.loop-i.invariant.1,
)

pub returns : goal.returns
returns c =
    least-done _ _ _ c.requires.schema_value c.requires.holds_terms c.args.out.now _ _ c.loop-i.invariant.0 (omega arith) (omega arith)
