-- `soundness::terms::begins_with` meets its contract. Each return is one law.
use Prim.Native.Nat.{◌*◌}
use mathlib.Core.Path.{sym}
use lib.Seq.{length-take-le}
use Rattle.definitions.specs.Limits.{slot_width}
use native.Mathlib.Omega.{arith}
use Rattle.table.proofs.TableLaws.{holds-few}
use Rattle.soundness.proofs.BeginLaws.{fewer, begins}
use Rattle.fields.proofs.SameLaws.{compared}
use Rattle.soundness.proofs.terms.begins_with.Goals as goal

pub returns-then-count-loaded : goal.returns-then-count-loaded
returns-then-count-loaded c = fewer _ _ _ _ c.requires.holds_terms c.requires.holds_terms_2 c.if-count-loaded.true

pub overflow_mul-end : goal.overflow_mul-end
overflow_mul-end c = omega (arith, holds-few _ _ c.requires.holds_terms)

pub slice_bounds-same_bytes-end : goal.slice_bounds-same_bytes-end
slice_bounds-same_bytes-end c =
    sym (length-take-le (c.args.loaded * slot_width) c.args.loading.now (omega (arith, holds-few _ _ c.requires.holds_terms, c.requires.holds_terms.width)))

pub slice_bounds-same_bytes-end-2 : goal.slice_bounds-same_bytes-end-2
slice_bounds-same_bytes-end-2 c =
    sym (length-take-le (c.args.loaded * slot_width) c.args.table.now (omega (arith, holds-few _ _ c.requires.holds_terms_2, c.requires.holds_terms_2.width, c.if-count-loaded.false)))

pub returns : goal.returns
returns c =
    begins _ _ _ _ c.requires.holds_terms c.requires.holds_terms_2 (λ k. omega (arith, c.type_inv.loading k)) (λ k. omega (arith, c.type_inv.table k)) (omega arith)
    (compared _ _ _ c.same_bytes.ensures)
