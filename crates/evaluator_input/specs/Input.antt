-- The evaluator's input in bytes: what a run call is lent, then tuples for the block on top; and whether it is whole.
use Rattle.std.specs.Prelude.{ℕ, zero, suc, ◌+◌, ◌-◌, ◌*◌, ◌/◌, ◌%◌, List, [], ◌∷◌, Bool, true, false, ◌&&◌, eqb, leb, ℤ, length}
use Rattle.definitions.specs.Limits.{pair_limit, ranks_width, number_width, printer_limit, term_table_width, quad_table_width, saved_width}
use Rattle.definitions.specs.Bytes.{part, word, little, signed}
use Rattle.definitions.specs.Search.{Tuple}
use Rattle.definitions.specs.Calls.{Lent}
use Rattle.definitions.specs.Exports.{words_from}
use Rattle.evaluator_input.specs.declared.Shape.{Shape}
use Rattle.evaluator_input.specs.declared.Shape.TheVariants.{Whole, CutOff, TooLong}

-- ── tuples in bytes ─────────────────────────────────────────────────────────────────────────

abbrev pub tuple_width : ℕ
tuple_width = 2 * pair_limit

-- so many tuples from an offset on
unfoldable pub tuples_from : (count : ℕ) → List ℕ → ℕ → List Tuple
tuples_from zero s at = []
tuples_from (suc n) s at = words_from pair_limit s at ∷ tuples_from n s (at + tuple_width)

-- all that bytes have
abbrev pub tuples_in : List ℕ → List Tuple
tuples_in s = tuples_from (length s / tuple_width) s 0

-- ── the input ───────────────────────────────────────────────────────────────────────────────

-- the ranks, and the lengths of terms, schema and script
abbrev pub head_width : ℕ
head_width = ranks_width + 6

-- so many tuples there is room for beside terms, schema and script that are full
abbrev pub tuple_limit : ℕ
tuple_limit = 64

abbrev pub input_limit : ℕ
input_limit = head_width + printer_limit + term_table_width + quad_table_width + saved_width + number_width + tuple_limit * tuple_width

-- where each part begins
abbrev pub schema_at : List ℕ → ℕ
schema_at s = head_width + word s ranks_width

abbrev pub script_at : List ℕ → ℕ
script_at s = schema_at s + word s (ranks_width + 2)

abbrev pub term_table_at : List ℕ → ℕ
term_table_at s = script_at s + word s (ranks_width + 4)

abbrev pub quad_table_at : List ℕ → ℕ
quad_table_at s = term_table_at s + term_table_width

abbrev pub saved_at : List ℕ → ℕ
saved_at s = quad_table_at s + quad_table_width

abbrev pub now_at : List ℕ → ℕ
now_at s = saved_at s + saved_width

abbrev pub tuples_at : List ℕ → ℕ
tuples_at s = now_at s + number_width

unfoldable pub lent_in : List ℕ → Lent
lent_in s =
    record {
      ranks = part s 0 ranks_width;
      terms = part s head_width (word s ranks_width);
      schema = part s (schema_at s) (word s (ranks_width + 2));
      script = part s (script_at s) (word s (ranks_width + 4));
      term_table = part s (term_table_at s) term_table_width;
      quad_table = part s (quad_table_at s) quad_table_width;
    }

abbrev pub saved_in : List ℕ → List ℕ
saved_in s = part s (saved_at s) saved_width

abbrev pub now_in : List ℕ → ℤ
now_in s = signed (little (part s (now_at s) number_width))

-- the first tuple may begin, and the last one ends
abbrev pub uncut : List ℕ → Bool
uncut s = leb (tuples_at s) (length s) && eqb ((length s - tuples_at s) % tuple_width) 0

unfoldable pub shape_of : List ℕ → Shape
shape_of s = elim (leb (length s) input_limit) [ true ↦ elim (uncut s) [ true ↦ Whole | false ↦ CutOff ] | false ↦ TooLong ]
