-- All that is put out: the parts of the input, and what is cut off or too long.
use Prim.Native.Nat.{ℕ, ◌+◌, ◌-◌, ◌*◌, ◌/◌, ◌%◌, ◌≤◌}
use native.Mathlib.Omega.{arith}
use mathlib.Core.Path.{◌≡◌, refl, sym, ap, ap₂, subst, ◌∙◌}
use mathlib.Core.List.{List}
use mathlib.Core.Bool.{Bool, true, false, ◌&&◌}
use lib.Dec.{T, leb, eqb, leb→le}
use lib.ListN.{length, take, drop, length-drop}
use lib.Seq.{length-take-le}
use borrow.Author.Tests.{le-leb, eq-eqb}
use Rattle.definitions.specs.Limits.{ranks_width, term_table_width, quad_table_width, saved_width, number_width}
use Rattle.definitions.specs.Ascii.{ascii}
use Rattle.definitions.specs.Bytes.{part, word, little, signed}
use Rattle.definitions.specs.Calls.{Lent, tables_fit, lengths_fit}
use Rattle.definitions.specs.Printer.{line}
use Rattle.laws.proofs.Tests.{is_true, true_is, and_left, and_right}
use Rattle.evaluator_input.specs.declared.Shape.{Shape}
use Rattle.evaluator_input.specs.declared.Shape.TheVariants.{Whole, CutOff, TooLong}
use Rattle.evaluator_input.specs.Input.{head_width, input_limit, schema_at, script_at, term_table_at, quad_table_at, saved_at, now_at, tuples_at, lent_in, saved_in, now_in, uncut, shape_of}
use Rattle.evaluate.specs.Evaluator.{output_room}
use Rattle.evaluate.specs.Evaluator.{evaluated}
use Rattle.evaluator_input.specs.Input.{tuple_width, tuples_in}
use Rattle.tuples.specs.Asking.{entered, entered_lines}
use Rattle.tuple_lines.specs.TriedLine.{line_room}

-- bytes lent keep their length
pub still-within : {r n m : ℕ} → r ≤ n → m ≡ n → r ≤ m
still-within h e = omega (arith, h, e)

-- ── by the shape of the input ───────────────────────────────────────────────────────────────

-- whether it is whole
abbrev is_whole : Shape → Bool
is_whole Whole = true
is_whole CutOff = false
is_whole TooLong = false

module _ (s : List ℕ) where
  abbrev parts : List ℕ
  parts = entered_lines (lent_in s).ranks (now_in s) (tuples_in (part s (tuples_at s) (length s - tuples_at s))) (entered (lent_in s) (saved_in s) (now_in s))

  abbrev by_shape : Shape → List ℕ
  by_shape Whole = parts
  by_shape CutOff = line (ascii "cut off")
  by_shape TooLong = line (ascii "too long")

  abbrev fits : Bool
  fits = leb (length s) input_limit

  by_shape_lem : by_shape (shape_of s) ≡ evaluated s
  unfolding evaluated shape_of
  by_shape_lem = go fits refl (uncut s) refl
    where
      go : (a : Bool) → fits ≡ a → (b : Bool) → uncut s ≡ b → by_shape (shape_of s) ≡ evaluated s
      go true e true f = rw (evaluated, shape_of, e, f) refl
      go true e false f = rw (evaluated, shape_of, e, f) refl
      go false e b f = rw (evaluated, shape_of, e) refl

  shape-whole : is_whole (shape_of s) ≡ (fits && uncut s)
  unfolding shape_of
  shape-whole = go fits refl (uncut s) refl
    where
      go : (a : Bool) → fits ≡ a → (b : Bool) → uncut s ≡ b → is_whole (shape_of s) ≡ (fits && uncut s)
      go true e true f = rw (shape_of, e, f) refl
      go true e false f = rw (shape_of, e, f) refl
      go false e b f = rw (shape_of, e) refl

  module _ {found : Shape} (e : found ≡ shape_of s) where
    pub too_long : found ≡ TooLong → line (ascii "too long") ≡ evaluated s
    too_long f = ap by_shape (sym f ∙ e) ∙ by_shape_lem

    pub cut_off : found ≡ CutOff → line (ascii "cut off") ≡ evaluated s
    cut_off f = ap by_shape (sym f ∙ e) ∙ by_shape_lem

    whole_is : found ≡ Whole → T (fits && uncut s)
    whole_is f = true_is (fits && uncut s) (sym shape-whole ∙ ap is_whole (sym e ∙ f))

    pub whole-short : found ≡ Whole → length s ≤ input_limit
    whole-short f = leb→le (length s) input_limit (and_left fits (uncut s) (whole_is f))

    pub whole-uncut : found ≡ Whole → uncut s ≡ true
    whole-uncut f = is_true (uncut s) (and_right fits (uncut s) (whole_is f))

-- ── the parts of the input ──────────────────────────────────────────────────────────────────

module _ (s : List ℕ) where
  segment-length : (from to : ℕ) → from ≤ to → to ≤ length s → length (take (to - from) (drop from s)) ≡ to - from
  segment-length from to h k = length-take-le (to - from) (drop from s) (omega (arith, length-drop from s))

  segment : (from to m n : ℕ) → from ≡ m → to ≡ m + n → take (to - from) (drop from s) ≡ part s m n
  segment from to m n e f = let k : to - from ≡ n = omega arith in λ i. take (k i) (drop (e i) s)

  -- refusal 1, of tables of other lengths, never comes
  pub tables-fit : uncut s ≡ true → lengths_fit (lent_in s) ≡ true
  unfolding lent_in tables_fit
  tables-fit e =
      let begins = leb (tuples_at s) (length s) in
      let k = leb→le (tuples_at s) (length s) (and_left begins (eqb ((length s - tuples_at s) % tuple_width) 0) (true_is (uncut s) e)) in
      let terms = length-take-le term_table_width (drop (term_table_at s) s) (omega (arith, length-drop (term_table_at s) s, k)) in
      let quads = length-take-le quad_table_width (drop (quad_table_at s) s) (omega (arith, length-drop (quad_table_at s) s, k)) in
      let ranks = length-take-le ranks_width (drop 0 s) (omega (arith, length-drop 0 s, k)) in
      ap₂ ◌&&◌ (eq-eqb (length (part s 0 ranks_width)) ranks_width ranks)
      (ap₂ ◌&&◌ (eq-eqb (length (part s (term_table_at s) term_table_width)) term_table_width terms) (eq-eqb (length (part s (quad_table_at s) quad_table_width)) quad_table_width quads))

  -- the first tuple begins within
  pub begun : uncut s ≡ true → tuples_at s ≤ length s
  begun e = leb→le (tuples_at s) (length s) (and_left (leb (tuples_at s) (length s)) (eqb ((length s - tuples_at s) % tuple_width) 0) (true_is (uncut s) e))

  -- the parts as the code cuts them
  module _ (x y z clock : ℕ) (ex : x ≡ schema_at s) (ey : y ≡ script_at s) (ez : z ≡ term_table_at s) (u : uncut s ≡ true) where
    abbrev first : ℕ
    first = z + term_table_width + quad_table_width + saved_width + number_width

    begins : first ≡ tuples_at s
    begins = omega (arith, ez)

    within : first ≤ length s
    within = omega (arith, begins, begun u)

    pub saved-long : length (take (z + term_table_width + quad_table_width + saved_width - (z + term_table_width + quad_table_width)) (drop (z + term_table_width + quad_table_width) s)) ≡ saved_width
    saved-long =
        let from = z + term_table_width + quad_table_width in
        let width : from + saved_width - from ≡ saved_width = omega arith in
        segment-length from (from + saved_width) (omega arith) (omega (arith, within)) ∙ width

    pub lines_fit : length s ≤ input_limit → line_room * (length (take (length s - first) (drop first s)) / tuple_width) ≤ output_room
    lines_fit h = omega (arith, segment-length first (length s) within (omega arith))

    -- what is lent, as the code cuts it
    abbrev lent_cut : Lent
    lent_cut =
        record {
          ranks = take ranks_width (drop 0 s);
          terms = take (x - head_width) (drop head_width s);
          schema = take (y - x) (drop x s);
          script = take (z - y) (drop y s);
          term_table = take (z + term_table_width - z) (drop z s);
          quad_table = take (z + term_table_width + quad_table_width - (z + term_table_width)) (drop (z + term_table_width) s);
        }

    lent_is : lent_cut ≡ lent_in s
    unfolding lent_in
    lent_is =
        let terms = segment head_width x head_width (word s ranks_width) refl (omega (arith, ex)) in
        let schema = segment x y (schema_at s) (word s (ranks_width + 2)) ex (omega (arith, ey)) in
        let script = segment y z (script_at s) (word s (ranks_width + 4)) ey (omega (arith, ez)) in
        let table = segment z (z + term_table_width) (term_table_at s) term_table_width ez (omega (arith, ez)) in
        let store = segment (z + term_table_width) (z + term_table_width + quad_table_width) (quad_table_at s) quad_table_width (omega (arith, ez)) (omega (arith, ez)) in
        λ i. record { ranks = part s 0 ranks_width; terms = terms i; schema = schema i; script = script i; term_table = table i; quad_table = store i }

    pub lent_fits : T (lengths_fit lent_cut)
    lent_fits = subst (λ (l : Lent). T (lengths_fit l)) (sym lent_is) (true_is (lengths_fit (lent_in s)) (tables-fit u))

    pub parts_are : length s ≤ input_limit
        → clock ≡ little (part s (z + term_table_width + quad_table_width + saved_width) number_width)
        → entered_lines lent_cut.ranks (signed clock) (tuples_in (take (length s - first) (drop first s)))
        (entered lent_cut
        (take (z + term_table_width + quad_table_width + saved_width - (z + term_table_width + quad_table_width)) (drop (z + term_table_width + quad_table_width) s))
        (signed clock))
        ≡ evaluated s
    unfolding evaluated
    parts_are h t =
        let rest : length s ≡ tuples_at s + (length s - tuples_at s) = omega (arith, begun u) in
        let saved = segment (z + term_table_width + quad_table_width) (z + term_table_width + quad_table_width + saved_width) (saved_at s) saved_width (omega (arith, ez)) (omega (arith, ez)) in
        let tuples = segment first (length s) (tuples_at s) (length s - tuples_at s) begins rest in
        let now : clock ≡ little (part s (now_at s) number_width) =
        t ∙ ap (λ (n : ℕ). little (part s (n + term_table_width + quad_table_width + saved_width) number_width)) ez in
        (λ i. entered_lines (lent_is i).ranks (signed (now i)) (tuples_in (tuples i)) (entered (lent_is i) (saved i) (signed (now i))))
        ∙ sym (rw (evaluated, le-leb (length s) input_limit h, u))
