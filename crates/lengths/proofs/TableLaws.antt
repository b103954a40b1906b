-- The lengths of ranks and tables, from the test of all three.
use mathlib.Core.Path.{◌≡◌, sym, ◌∙◌}
use mathlib.Core.Bool.{Bool, true, ◌&&◌}
use lib.Dec.{T, eqb, eqb→eq}
use Rattle.definitions.specs.Limits.{ranks_width, term_table_width, quad_table_width}
use Rattle.definitions.specs.Calls.{Lengths, both_tables_fit, tables_fit}
use Rattle.laws.proofs.Tests.{true_is, and_left, and_right}

pub both-fit : (n : Lengths) → T (both_tables_fit n) → (n.term_table ≡ term_table_width) × (n.quad_table ≡ quad_table_width)
both-fit n both =
    let terms = eqb n.term_table term_table_width in
    let quads = eqb n.quad_table quad_table_width in
    (eqb→eq n.term_table term_table_width (and_left terms quads both), eqb→eq n.quad_table quad_table_width (and_right terms quads both))

module _ (n : Lengths) {a : Bool} (ea : a ≡ tables_fit n) (fit : a ≡ true) where
  abbrev ranks_fit : Bool
  ranks_fit = eqb n.ranks ranks_width

  all_fit : T (ranks_fit && both_tables_fit n)
  unfolding tables_fit
  all_fit = true_is (ranks_fit && both_tables_fit n) (sym ea ∙ fit)

  pub fit-ranks : n.ranks ≡ ranks_width
  fit-ranks = eqb→eq n.ranks ranks_width (and_left ranks_fit (both_tables_fit n) all_fit)

  pub fit-both : (n.term_table ≡ term_table_width) × (n.quad_table ≡ quad_table_width)
  fit-both = both-fit n (and_right ranks_fit (both_tables_fit n) all_fit)
