-- The lengths of what is lent to a run, a page or a publish call, from the test of all.
use Prim.Native.Nat.{ℕ}
use mathlib.Core.Path.{◌≡◌, refl, sym, ◌∙◌}
use mathlib.Core.Bool.{Bool, false, not, ◌&&◌}
use lib.Dec.{T, eqb, eqb→eq}
use borrow.Author.Tests.{not-false}
use Rattle.definitions.specs.Calls.{Lengths, tables_fit}
use Rattle.definitions.specs.Limits.{ranks_width, saved_width, term_table_width, quad_table_width}
use Rattle.lengths.specs.Buffers.{buffers_fit, saved_fits}
use Rattle.laws.proofs.Tests.{and_left, and_right, is_true, true_is}
use Rattle.lengths.proofs.TableLaws.{fit-ranks}

module _ (lent : Lengths) (saved report width : ℕ) {b : Bool} (is : b ≡ buffers_fit lent saved report width) (t : not b ≡ false) where
  abbrev others : Bool
  others = eqb saved saved_width && eqb report width

  all : T (tables_fit lent && others)
  unfolding buffers_fit
  all = true_is (tables_fit lent && others) (sym is ∙ not-false b t)

  pub tables-fit : T (tables_fit lent)
  tables-fit = and_left (tables_fit lent) others all

  pub ranks-fit : lent.ranks ≡ ranks_width
  ranks-fit = fit-ranks lent refl (is_true (tables_fit lent) tables-fit)

  pub saved-fits : saved ≡ saved_width
  saved-fits = eqb→eq saved saved_width (and_left (eqb saved saved_width) (eqb report width) (and_right (tables_fit lent) others all))

  pub report-fits : report ≡ width
  report-fits = eqb→eq report width (and_right (eqb saved saved_width) (eqb report width) (and_right (tables_fit lent) others all))

-- without ranks
module _ (terms quads saved report width : ℕ) {b : Bool} (is : b ≡ saved_fits terms quads saved report width) (t : not b ≡ false) where
  abbrev both_tables : Bool
  both_tables = eqb terms term_table_width && eqb quads quad_table_width

  abbrev last_two : Bool
  last_two = eqb saved saved_width && eqb report width

  all_four : T (both_tables && last_two)
  unfolding saved_fits
  all_four = true_is (both_tables && last_two) (sym is ∙ not-false b t)

  pub saved-is : saved ≡ saved_width
  saved-is = eqb→eq saved saved_width (and_left (eqb saved saved_width) (eqb report width) (and_right both_tables last_two all_four))

  pub report-is : report ≡ width
  report-is = eqb→eq report width (and_right (eqb saved saved_width) (eqb report width) (and_right both_tables last_two all_four))

-- of one buffer alone
pub width_is : {n width : ℕ} {b : Bool} → b ≡ eqb n width → not b ≡ false → n ≡ width
width_is {n} {width} {b} is t = eqb→eq n width (true_is (eqb n width) (sym is ∙ not-false b t))
