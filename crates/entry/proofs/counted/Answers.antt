-- `entry::counted` meets its contract.
use Prim.Native.Nat.{◌*◌}
use native.Mathlib.Omega.{arith}
use mathlib.Core.Path.{sym}
use lib.Seq.{length-take-le}
use Rattle.definitions.specs.Limits.{slot_width}
use Rattle.table.proofs.TableLaws.{holds-few, begun-as}
use Rattle.fields.proofs.SameLaws.{compared}
use Rattle.entry.proofs.counted.Goals as goal

pub overflow_mul-end : goal.overflow_mul-end
overflow_mul-end c = omega (arith, holds-few _ _ c.requires.holds_terms)

pub slice_bounds-same_bytes-end : goal.slice_bounds-same_bytes-end
slice_bounds-same_bytes-end c =
    sym (length-take-le (c.args.loaded * slot_width) c.args.loading.now (omega (arith, holds-few _ _ c.requires.holds_terms, c.requires.holds_terms.width)))

pub slice_bounds-same_bytes-end-2 : goal.slice_bounds-same_bytes-end-2
slice_bounds-same_bytes-end-2 c =
    sym (length-take-le (c.args.loaded * slot_width) c.args.table.now (omega (arith, holds-few _ _ c.requires.holds_terms, c.requires.table_len)))

pub used_terms-requires : goal.used_terms-requires
used_terms-requires c =
    begun-as _ _ _ c.requires.holds_terms c.requires.table_len ((compared _ _ _ c.same_bytes.ensures).0 c.if-same_bytes.true)

pub used_terms-requires-2 : goal.used_terms-requires-2
used_terms-requires-2 c =
    record { width = c.requires.table_len; few = omega arith; each = λ i l. absurd (omega arith) }
