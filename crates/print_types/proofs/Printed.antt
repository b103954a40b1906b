-- What is printed of a check's result, by its number and the reported types.
use Rattle.definitions.specs.declared.Refusal.{Refusal}
use Rattle.definitions.specs.declared.Refusal.TheVariants.{BadScript}
use Prim.Native.Nat.{ℕ, zero, suc, ◌-◌, ◌≤◌, ◌<◌, min}
use native.Mathlib.Omega.{arith}
use mathlib.Core.Path.{◌≡◌, refl, sym, ap, ap₂, ◌∙◌}
use mathlib.Core.List.{List, [], ◌∷◌, ◌++◌}
use mathlib.Core.Option.{Option, none, some}
use lib.ListN.{length, take, drop}
use borrow.Author.Tests.{le-leb, lt-leb}
use Rattle.definitions.specs.Limits.{printer_limit}
use Rattle.definitions.specs.Lists.{distinct}
use Rattle.definitions.specs.Ascii.{ascii}
use Rattle.definitions.specs.Types.{Datatype, datatype_name, Ty, plain, range, type_code}
use Rattle.definitions.specs.Terms.{Term, Schema, read_terms, read_schema, same_term, same_property}
use Rattle.definitions.specs.Reading.{parsed}
use Rattle.definitions.specs.Scope.{in_scope}
use Rattle.definitions.specs.Typing.{Written, unbound, undecided, fixed, written_types, Verdict, no_typing, no_greatest, greatest, verdict}
use Rattle.definitions.specs.Values.{natural_text}
use Rattle.definitions.specs.Machine.{with_properties}
use Rattle.definitions.specs.Result.{Result, refused, passed, ◌>>=◌, given}
use Rattle.definitions.specs.Calls.{Checked, check, reported, reported_types}
use Rattle.definitions.specs.Printer.{line, type_name, type_lines, bound_count, printed_result, printed, entry_body, end_from, terms_end, schema_end, terms_part, schema_part, script_part}
use Rattle.laws.proofs.Check.{check-passed, types-length, variable-count}
use Rattle.type_lines.specs.Lines.{datatype_text, type_text, variable_line, bound_line, bound_lines, counts, bound_ones, accepted_text, refused_line, refused_text}
use Rattle.print_types.proofs.PartLaws.{first_part, second-part, last-part}

-- ── a type by its code ──────────────────────────────────────────────────────────────────────

type-text : (τ : Ty) → type_text (type_code τ) ≡ type_name τ
unfolding type_text datatype_text type_name datatype_name
type-text (plain Datatype.any_uri) = refl
type-text (plain Datatype.string) = refl
type-text (plain Datatype.decimal) = refl
type-text (plain Datatype.date_time) = refl
type-text (plain Datatype.integer) = refl
type-text (range Datatype.any_uri) = refl
type-text (range Datatype.string) = refl
type-text (range Datatype.decimal) = refl
type-text (range Datatype.date_time) = refl
type-text (range Datatype.integer) = refl

-- a code is not 0
line_of : (v : ℕ) (τ : Ty) → bound_line v (type_code τ) ≡ variable_line v (type_code τ)
unfolding bound_line
line_of v (plain Datatype.any_uri) = refl
line_of v (plain Datatype.string) = refl
line_of v (plain Datatype.decimal) = refl
line_of v (plain Datatype.date_time) = refl
line_of v (plain Datatype.integer) = refl
line_of v (range Datatype.any_uri) = refl
line_of v (range Datatype.string) = refl
line_of v (range Datatype.decimal) = refl
line_of v (range Datatype.date_time) = refl
line_of v (range Datatype.integer) = refl

one_of : (τ : Ty) → counts (type_code τ) ≡ 1
one_of (plain Datatype.any_uri) = refl
one_of (plain Datatype.string) = refl
one_of (plain Datatype.decimal) = refl
one_of (plain Datatype.date_time) = refl
one_of (plain Datatype.integer) = refl
one_of (range Datatype.any_uri) = refl
one_of (range Datatype.string) = refl
one_of (range Datatype.decimal) = refl
one_of (range Datatype.date_time) = refl
one_of (range Datatype.integer) = refl

type-line : (v : ℕ) (τ : Ty) → line (natural_text v ++ (ascii " " ++ type_name τ)) ≡ bound_line v (type_code τ)
unfolding variable_line
type-line v τ = sym (line_of v τ ∙ ap (λ (t : List ℕ). line (natural_text v ++ (ascii " " ++ t))) (type-text τ))

-- ── all the lines, and their number ─────────────────────────────────────────────────────────

lines_of : (v : ℕ) (ws : List Written) (Γ : List Ty) → type_lines v ws Γ ≡ bound_lines v (reported_types ws Γ)
unfolding type_lines bound_lines bound_line reported_types
lines_of v [] Γ = refl
lines_of v (w ∷ ws) [] = refl
lines_of v (unbound ∷ ws) (τ ∷ Γ) = lines_of (suc v) ws Γ
lines_of v (undecided ∷ ws) (τ ∷ Γ) = ap₂ ◌++◌ (type-line v τ) (lines_of (suc v) ws Γ)
lines_of v (fixed σ ∷ ws) (τ ∷ Γ) = ap₂ ◌++◌ (type-line v τ) (lines_of (suc v) ws Γ)

count_of : (ws : List Written) (Γ : List Ty) → length Γ ≡ length ws → bound_count ws ≡ bound_ones (reported_types ws Γ)
unfolding bound_count bound_ones reported_types
count_of [] Γ e = refl
count_of (w ∷ ws) [] e = absurd (omega arith)
count_of (unbound ∷ ws) (τ ∷ Γ) e = omega (arith, count_of ws Γ (omega arith))
count_of (undecided ∷ ws) (τ ∷ Γ) e = omega (arith, count_of ws Γ (omega arith), one_of τ)
count_of (fixed σ ∷ ws) (τ ∷ Γ) e = omega (arith, count_of ws Γ (omega arith), one_of τ)

-- ── the whole ───────────────────────────────────────────────────────────────────────────────

accepted-said : (c : Checked) {types : List ℕ} → length c.types ≡ length (written_types c.root) → types ≡ reported c → accepted_text types ≡ printed_result (passed c)
unfolding accepted_text printed_result
accepted-said c full e =
    let ws = written_types c.root in
    ap accepted_text e ∙ sym (λ i. line (ascii "accepted " ++ natural_text (count_of ws c.types full i)) ++ lines_of 0 ws c.types i)

refused-said : (r : Refusal) → refused_text r ≡ printed_result (refused r)
unfolding refused_line printed_result
refused-said r = refl

pub too_long : (s : List ℕ) → printer_limit < length s → refused_text BadScript ≡ printed s
unfolding printed
too_long s h = refused-said BadScript ∙ sym (rw (printed, lt-leb (length s) printer_limit h))

-- the parts as the code cuts them
pub parts-checked : (s : List ℕ) {a b first second : ℕ} → first ≡ terms_end s → second ≡ end_from entry_body (length s) s first → a ≡ min first (length s)
    → b ≡ min second (length s)
    → check (take (a - 0) (drop 0 s)) (take (b - a) (drop a s)) (take (length s - b) (drop b s)) ≡ check (terms_part s) (schema_part s) (script_part s)
unfolding schema_end
parts-checked s {a} {b} {first} {second} e k cut end =
    let m : second ≡ schema_end s = k ∙ ap (end_from entry_body (length s) s) e in
    let one = first_part s first second cut end ∙ ap (λ (n : ℕ). take n s) e in
    let two = second-part s first second cut end ∙ (λ i. drop (e i) (take (m i) s)) in
    let three = last-part s first second cut end ∙ ap (λ (n : ℕ). drop n s) m in
    λ i. check (one i) (two i) (three i)

module _ (s : List ℕ) (h : length s ≤ printer_limit) where
  abbrev pub parts : Result Checked
  parts = check (terms_part s) (schema_part s) (script_part s)

  printed-is : printed_result parts ≡ printed s
  unfolding printed
  printed-is = sym (rw (printed, le-leb (length s) printer_limit h))

  pub refused-printed : {r : Refusal} → parts ≡ refused r → refused_text r ≡ printed s
  refused-printed {r} e = refused-said r ∙ (ap printed_result (sym e) ∙ printed-is)

  pub accepted-printed : {types : List ℕ} (c : Checked) → parts ≡ passed c → types ≡ reported c → accepted_text types ≡ printed s
  accepted-printed c e k =
      let full = types-length (terms_part s) (schema_part s) (script_part s) c (check-passed (terms_part s) (schema_part s) (script_part s) c e)
      ∙ sym (variable-count c.root) in
      accepted-said c full k ∙ (ap printed_result (sym e) ∙ printed-is)
