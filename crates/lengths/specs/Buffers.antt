-- The lengths of what is lent to a run or a page call, and to a publish call.
use Rattle.std.specs.Prelude.{ℕ, Bool, ◌&&◌, eqb}
use Rattle.definitions.specs.Calls.{Lengths, tables_fit}
use Rattle.definitions.specs.Limits.{saved_width, term_table_width, quad_table_width}

-- ranks, tables, saved run and report have their lengths
unfoldable pub buffers_fit : Lengths → (saved_bytes report_bytes report_width : ℕ) → Bool
buffers_fit lent saved_bytes report_bytes report_width = tables_fit lent && (eqb saved_bytes saved_width && eqb report_bytes report_width)

-- the same without ranks
unfoldable pub saved_fits : (term_bytes quad_bytes saved_bytes report_bytes report_width : ℕ) → Bool
saved_fits term_bytes quad_bytes saved_bytes report_bytes report_width =
    (eqb term_bytes term_table_width && eqb quad_bytes quad_table_width) && (eqb saved_bytes saved_width && eqb report_bytes report_width)
