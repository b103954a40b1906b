-- Laws of lines: texts put one after the other, and how long the digits of a number are.
use Prim.Native.Nat.{ℕ, zero, suc, ◌+◌, ◌-◌, ◌/◌, ◌%◌, ◌≤◌, ◌<◌}
use mathlib.Core.Bool.{Bool, true, false}
use mathlib.Core.List.{[], ◌∷◌, ◌++◌, append-nil, append_assoc}
use mathlib.Core.Path.{◌≡◌, refl, sym, ap, ◌∙◌, subst}
use native.Mathlib.Omega.{arith}
use native.Mathlib.Numerals.{sub-one}
use lib.Dec.{ltb}
use lib.ListN.{length, set, length-append}
use borrow.Author.Tests.{eq-eqb, ne_eqb, lt-ltb, le-ltb}
use Rattle.definitions.specs.Limits.{text_width}
use Rattle.definitions.specs.Bytes.{filled}
use Rattle.definitions.specs.Terms.{Text}
use Rattle.definitions.specs.Calendar.{digits}
use Rattle.definitions.specs.Values.{short_digits, fraction_text}
use Rattle.laws.proofs.Fill.{set-end}
use Rattle.strings.specs.declared.line.Line.{Line}
use Rattle.strings.specs.Lines.{line_of, last_digit, Puts}

-- ── putting ─────────────────────────────────────────────────────────────────────────────────

pub puts_none : (l : Line) → Puts l l []
puts_none l = record { size = omega arith; is = λ t e. e ∙ ap line_of (sym (append-nil t)) }

pub puts_then : {l m r : Line} {x y : Text} → Puts l m x → Puts m r y → Puts l r (x ++ y)
puts_then {x = x} {y = y} p q =
    record { size = omega (arith, p.size, q.size, length-append x y); is = λ t e. q.is (t ++ x) (p.is t e) ∙ ap line_of (append_assoc t x y) }

pub puts-same : {l r : Line} {x y : Text} → Puts l r x → x ≡ y → Puts l r y
puts-same {l} {r} p e = subst (Puts l r) e p

-- a line with one byte more
abbrev longer : Line → ℕ → Line
longer l b = record { bytes = set l.bytes l.len b; len = l.len + 1 }

longer-of : (t : Text) (b : ℕ) → length t < text_width → longer (line_of t) b ≡ line_of (t ++ (b ∷ []))
unfolding filled
longer-of t b h =
    let one : length (t ++ (b ∷ [])) ≡ length t + 1 = length-append t (b ∷ []) in
    let room : text_width - length t ≡ suc (text_width - length (t ++ (b ∷ []))) = omega arith in
    let bytes : set (filled text_width t) (length t) b ≡ filled text_width (t ++ (b ∷ [])) = rw room (set-end 0 b t (text_width - length (t ++ (b ∷ [])))) in
    λ i. record { bytes = bytes i; len = sym one i }

pub puts-byte : (l : Line) (b : ℕ) → l.len < text_width → Puts l (longer l b) (b ∷ [])
puts-byte l b h =
    record { size = refl; is = λ t e. let len : l.len ≡ length t = ap (λ m. m.len) e in ap (λ m. longer m b) e ∙ longer-of t b (omega arith) }

-- ── digits ──────────────────────────────────────────────────────────────────────────────────

pub digits-length : (k n : ℕ) → length (digits k n) ≡ k
unfolding digits
digits-length zero n = refl
digits-length (suc k) n = omega (arith, length-append (digits k (n / 10)) ((0x30 + n % 10) ∷ []), digits-length k (n / 10))

digits_step : (k n : ℕ) → 0 < k → digits k n ≡ digits (k - 1) (n / 10) ++ (last_digit n ∷ [])
unfolding digits
digits_step zero n h = absurd (omega arith)
digits_step (suc k) n h = rw (sub-one (suc k))

pub puts-no-digits : (l : Line) (k n : ℕ) → k ≡ 0 → Puts l l (digits k n)
unfolding digits
puts-no-digits l k n e = rw e (puts_none l)

pub puts-digits : {l m r : Line} (k n : ℕ) → 0 < k → Puts l m (digits (k - 1) (n / 10)) → Puts m r (last_digit n ∷ []) → Puts l r (digits k n)
puts-digits k n h p q = puts-same (puts_then p q) (sym (digits_step k n h))

-- ── digits with no needless zero ────────────────────────────────────────────────────────────

short-small : (k n : ℕ) → 0 < k → n < 10 → short_digits k n ≡ last_digit n ∷ []
unfolding short_digits
short-small zero n h l = absurd (omega arith)
short-small (suc k) n h l = rw (lt-ltb n 10 l, short_digits) (ap (λ d. d ∷ []) (omega arith))

short-step : (k n : ℕ) → 0 < k → 10 ≤ n → short_digits k n ≡ short_digits (k - 1) (n / 10) ++ (last_digit n ∷ [])
unfolding short_digits
short-step zero n h l = absurd (omega arith)
short-step (suc k) n h l = rw (le-ltb n 10 l, short_digits, sub-one (suc k))

pub short-length : (k n : ℕ) → length (short_digits k n) ≤ k
unfolding short_digits
short-length zero n = omega arith
short-length (suc k) n = go (ltb n 10) (short-length k (n / 10))
  where
    go : (t : Bool) → length (short_digits k (n / 10)) ≤ k → length {A = ℕ} (elim t as (λ c. Text) [ true ↦ (0x30 + n) ∷ [] | false ↦ short_digits k (n / 10) ++ ((0x30 + n % 10) ∷ []) ]) ≤ suc k
    go true h = omega arith
    go false h = omega (arith, length-append (short_digits k (n / 10)) ((0x30 + n % 10) ∷ []))

pub puts-nothing : (l : Line) (k n : ℕ) → k ≡ 0 → Puts l l (short_digits k n)
unfolding short_digits
puts-nothing l k n e = rw e (puts_none l)

pub puts-small : {l r : Line} (k n : ℕ) → 0 < k → n < 10 → Puts l r (last_digit n ∷ []) → Puts l r (short_digits k n)
puts-small k n h l p = puts-same p (sym (short-small k n h l))

pub puts-natural : {l m r : Line} (k n : ℕ) → 0 < k → 10 ≤ n → Puts l m (short_digits (k - 1) (n / 10)) → Puts m r (last_digit n ∷ []) → Puts l r (short_digits k n)
puts-natural k n h l p q = puts-same (puts_then p q) (sym (short-step k n h l))

-- ── a fraction ──────────────────────────────────────────────────────────────────────────────

fraction-one : (k m : ℕ) → k ≡ 1 → fraction_text k m ≡ digits 1 m
unfolding fraction_text
fraction-one k m e = rw e

fraction-zero : (k m : ℕ) → 2 ≤ k → m % 10 ≡ 0 → fraction_text k m ≡ fraction_text (k - 1) (m / 10)
unfolding fraction_text
fraction-zero zero m h e = absurd (omega arith)
fraction-zero (suc zero) m h e = absurd (omega arith)
fraction-zero (suc (suc k)) m h e = rw (eq-eqb (m % 10) 0 e, fraction_text, sub-one (suc (suc k)))

fraction-digits : (k m : ℕ) → 2 ≤ k → (m % 10 ≡ 0 → ⊥) → fraction_text k m ≡ digits k m
unfolding fraction_text
fraction-digits zero m h n = absurd (omega arith)
fraction-digits (suc zero) m h n = absurd (omega arith)
fraction-digits (suc (suc k)) m h n = rw (ne_eqb (m % 10) 0 n, fraction_text)

module _ {l r : Line} (k m : ℕ) where
  pub puts-last : k ≡ 1 → Puts l r (digits 1 m) → Puts l r (fraction_text k m)
  puts-last e p = puts-same p (sym (fraction-one k m e))

  pub puts-shorter : 2 ≤ k → m % 10 ≡ 0 → Puts l r (fraction_text (k - 1) (m / 10)) → Puts l r (fraction_text k m)
  puts-shorter h e p = puts-same p (sym (fraction-zero k m h e))

  pub puts-fraction : 2 ≤ k → (m % 10 ≡ 0 → ⊥) → Puts l r (digits k m) → Puts l r (fraction_text k m)
  puts-fraction h n p = puts-same p (sym (fraction-digits k m h n))
