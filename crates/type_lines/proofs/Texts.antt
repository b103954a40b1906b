-- The texts of the lines: digits, names, and a line after the other.
use Prim.Native.Nat.{ℕ, zero, suc, ◌+◌, ◌-◌, ◌/◌, ◌%◌, ◌≤◌, ◌<◌}
use native.Mathlib.Omega.{arith}
use native.Mathlib.Numerals.{add-one}
use mathlib.Core.Path.{◌≡◌, refl, sym, ap, ◌∙◌}
use mathlib.Core.List.{List, [], ◌∷◌, ◌++◌, append_assoc, append-nil}
use lib.ListN.{length, take, drop, get_or}
use lib.Seq.{take-suc, take_all, drop-cons, length-take-le}
use borrow.Author.Tests.{lt-ltb, le-ltb, ne_eqb}
use Rattle.definitions.specs.Ascii.{ascii}
use Rattle.definitions.specs.Values.{short_digits, natural_text}
use Rattle.definitions.specs.Printer.{line}
use Rattle.type_lines.specs.Lines.{datatype_text, type_text, variable_line, bound_line, bound_lines, counts, bound_ones, refused_line, accepted_text, card_text}

-- ── digits ──────────────────────────────────────────────────────────────────────────────────

short-one : (left n : ℕ) → n < 10 → short_digits (suc left) n ≡ (0x30 + n) ∷ []
unfolding short_digits
short-one left n h = rw (short_digits, lt-ltb n 10 h)

short-more : (left n : ℕ) → 10 ≤ n → short_digits (suc left) n ≡ short_digits left (n / 10) ++ ((0x30 + n % 10) ∷ [])
unfolding short_digits
short-more left n h = rw (short_digits, le-ltb n 10 h)

pub one-digit : (n : ℕ) → n < 10 → (0x30 + n) ∷ [] ≡ natural_text n
unfolding natural_text
one-digit n h = sym (short-one 19 n h)

pub two_digits : (n : ℕ) → 10 ≤ n → n < 100 → ((0x30 + n / 10) ∷ []) ++ ((0x30 + n % 10) ∷ []) ≡ natural_text n
unfolding natural_text
two_digits n low high =
    sym (short-more 19 n low ∙ ap (λ (t : List ℕ). t ++ ((0x30 + n % 10) ∷ [])) (short-one 18 (n / 10) (omega arith)))

pub three-digits : (n : ℕ) → 100 ≤ n → n < 256 → (((0x30 + n / 100) ∷ []) ++ ((0x30 + n / 10 % 10) ∷ [])) ++ ((0x30 + n % 10) ∷ []) ≡ natural_text n
unfolding natural_text
three-digits n low high =
    let first : n / 10 / 10 ≡ n / 100 = omega arith in
    let two : short_digits 19 (n / 10) ≡ ((0x30 + n / 100) ∷ []) ++ ((0x30 + n / 10 % 10) ∷ []) =
    short-more 18 (n / 10) (omega arith) ∙ ap (λ (t : List ℕ). t ++ ((0x30 + n / 10 % 10) ∷ []))
    (short-one 17 (n / 10 / 10) (omega arith) ∙ ap (λ (k : ℕ). (0x30 + k) ∷ []) first) in
    sym (short-more 19 n (omega arith) ∙ ap (λ (t : List ℕ). t ++ ((0x30 + n % 10) ∷ [])) two)

-- ── names ───────────────────────────────────────────────────────────────────────────────────

pub no-datatype : (k : ℕ) → (k ≡ 1 → ⊥) → (k ≡ 2 → ⊥) → (k ≡ 3 → ⊥) → (k ≡ 4 → ⊥) → (k ≡ 5 → ⊥) → [] ≡ datatype_text k
unfolding datatype_text
no-datatype k a b c d e = rw (ne_eqb k 1 a, ne_eqb k 2 b, ne_eqb k 3 c, ne_eqb k 4 d, ne_eqb k 5 e)

pub plain-text : (k : ℕ) → k < 9 → datatype_text k ≡ type_text k
unfolding type_text
plain-text k h = rw (type_text, lt-ltb k 9 h)

pub range-text : (k : ℕ) → 9 ≤ k → (ascii "range(" ++ datatype_text (k - 8)) ++ ascii ")" ≡ type_text k
unfolding type_text
range-text k h = rw (type_text, le-ltb k 9 h) (append_assoc (ascii "range(") (datatype_text (k - 8)) (ascii ")"))

-- ── lines ───────────────────────────────────────────────────────────────────────────────────

pub line-text : (v code : ℕ) → ((natural_text v ++ ascii " ") ++ type_text code) ++ (0x0A ∷ []) ≡ variable_line v code
unfolding variable_line line
line-text v code = ap (λ (t : List ℕ). t ++ (0x0A ∷ [])) (append_assoc (natural_text v) (ascii " ") (type_text code))

pub no_line : (v code : ℕ) → code ≡ 0 → [] ≡ bound_line v code
unfolding bound_line
no_line v code e = ap (bound_line v) (sym e)

pub a-line : (v code : ℕ) → (code ≡ 0 → ⊥) → variable_line v code ≡ bound_line v code
unfolding bound_line
a-line v zero h = absurd (h refl)
a-line v (suc k) h = refl

lines-append : (v : ℕ) (ks js : List ℕ) → bound_lines v (ks ++ js) ≡ bound_lines v ks ++ bound_lines (v + length ks) js
unfolding bound_lines
lines-append v [] js = let e : v ≡ v + 0 = omega arith in ap (λ (n : ℕ). bound_lines n js) e
lines-append v (k ∷ ks) js =
    let e : suc v + length ks ≡ v + suc (length ks) = omega arith in
    ap (λ (t : List ℕ). bound_line v k ++ t) (lines-append (suc v) ks js ∙ ap (λ (n : ℕ). bound_lines (suc v) ks ++ bound_lines n js) e)
    ∙ sym (append_assoc (bound_line v k) (bound_lines (suc v) ks) (bound_lines (v + suc (length ks)) js))

one_line : (v k : ℕ) → bound_lines v (k ∷ []) ≡ bound_line v k
unfolding bound_lines
one_line v k = append-nil (bound_line v k)

-- one more
pub lines_next : (codes : List ℕ) (i : ℕ) → i < length codes
    → bound_lines 0 (take i codes) ++ bound_line i (get_or codes i 0) ≡ bound_lines 0 (take (i + 1) codes)
lines_next codes i h =
    let k = get_or codes i 0 in
    let n : 0 + length (take i codes) ≡ i = omega (arith, length-take-le i codes (omega arith)) in
    let last : bound_line i k ≡ bound_lines (0 + length (take i codes)) (k ∷ []) = sym (one_line i k) ∙ ap (λ (m : ℕ). bound_lines m (k ∷ [])) (sym n) in
    ap (λ (t : List ℕ). bound_lines 0 (take i codes) ++ t) last
    ∙ (sym (lines-append 0 (take i codes) (k ∷ [])) ∙ ap (bound_lines 0) (sym (take-suc codes i 0 h) ∙ ap (λ (m : ℕ). take m codes) (sym (add-one i))))

-- all
pub lines-all : (codes : List ℕ) (i : ℕ) → length codes ≤ i → bound_lines 0 (take i codes) ≡ bound_lines 0 codes
lines-all codes i h = ap (bound_lines 0) (take_all i codes h)

-- none yet
pub lines_none : (codes : List ℕ) → [] ≡ bound_lines 0 (take 0 codes)
unfolding bound_lines
lines_none codes = refl

-- ── counting ────────────────────────────────────────────────────────────────────────────────

pub counts-one : (code : ℕ) → (code ≡ 0 → ⊥) → 1 ≡ counts code
counts-one zero h = absurd (h refl)
counts-one (suc k) h = refl

pub ones-next : (codes : List ℕ) (i : ℕ) → i < length codes → bound_ones (drop i codes) ≡ counts (get_or codes i 0) + bound_ones (drop (i + 1) codes)
unfolding bound_ones
ones-next codes i h = ap bound_ones (drop-cons codes i 0 h ∙ ap (λ (n : ℕ). get_or codes i 0 ∷ drop n codes) (sym (add-one i)))

pub drop-out : (l : List ℕ) (n : ℕ) → length l ≤ n → drop n l ≡ []
drop-out [] zero h = refl
drop-out [] (suc n) h = refl
drop-out (x ∷ l) zero h = absurd (omega arith)
drop-out (x ∷ l) (suc n) h = drop-out l n (omega arith)

pub ones_none : (codes : List ℕ) (i : ℕ) → length codes ≤ i → bound_ones (drop i codes) ≡ 0
unfolding bound_ones
ones_none codes i h = ap bound_ones (drop-out codes i h)

-- ── the whole ───────────────────────────────────────────────────────────────────────────────

pub refused-text : (n : ℕ) → (ascii "refused " ++ natural_text n) ++ (0x0A ∷ []) ≡ refused_line n
unfolding refused_line line
refused-text n = refl

pub refused-card : (n : ℕ) (codes : List ℕ) → (n ≡ 0 → ⊥) → refused_line n ≡ card_text n codes
unfolding card_text
refused-card zero codes h = absurd (h refl)
refused-card (suc n) codes h = refl

pub accepted-card : (n : ℕ) (codes : List ℕ) → n ≡ 0 → accepted_text codes ≡ card_text n codes
unfolding card_text
accepted-card zero codes h = refl
accepted-card (suc n) codes h = absurd (omega (arith, h))

pub accepted-text : (m : ℕ) (codes : List ℕ) → m ≡ bound_ones codes
    → ((ascii "accepted " ++ natural_text m) ++ (0x0A ∷ [])) ++ bound_lines 0 codes ≡ accepted_text codes
unfolding accepted_text line
accepted-text m codes k = ap (λ (j : ℕ). ((ascii "accepted " ++ natural_text j) ++ (0x0A ∷ [])) ++ bound_lines 0 codes) k
