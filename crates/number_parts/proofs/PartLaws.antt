-- Laws of the parts of a number's text, as the code reads them.
use Rattle.std.specs.Prelude.{Some, None}
use Rattle.std.specs.declared.option.Option as Answer
use Prim.Native.Nat.{ℕ, zero, suc, ◌+◌, ◌*◌, ◌-◌, ◌≤◌, ◌<◌}
use native.Mathlib.Omega.{arith}
use mathlib.Core.Bool.{Bool, true, false, cond}
use mathlib.Core.List.{[], ◌∷◌}
use mathlib.Core.Option.{none, some}
use mathlib.Core.Path.{◌≡◌, refl, sym, ap, ◌∙◌}
use lib.Dec.{T, leb}
use lib.ListN.{length, take, drop, get_or, drop_of_length-le, length-take, length-drop}
use Rattle.std.specs.Char.{is_ascii_digit}
use Rattle.std.specs.List.{take_while, slice_range}
use lib.Seq.{take-length}
use mathlib.Core.Logic.{◌⊎◌, inl, inr}
use Rattle.std.proofs.lemmas.List.Sums.{take_while-cons}
use borrow.Author.Tests.{le-leb, lt-leb, eq-eqb, ne_eqb}
use Rattle.definitions.specs.Limits.{number_text_limit}
use Rattle.definitions.specs.Lists.{every}
use Rattle.definitions.specs.Bytes.{byte, provided, onward}
use Rattle.definitions.specs.Terms.{Text}
use Rattle.definitions.specs.Numerals.{exponent_digits, is_sign, is_minus, is_e, is_digit, leading, after_sign, digits_at, fraction_at, exponent_at, natural_of}
use Rattle.laws.specs.ReadAnswers.{next_of}
use Rattle.laws.proofs.Tests.{and_left, and_right}
use Rattle.laws.proofs.ReadAnswers.{next-got, next-lost, next_map}
use Rattle.laws.proofs.Bytes.{byte-within}
use Rattle.laws.proofs.Numerals.{leading-leads, DigitsAt, digits_are}
use Rattle.number_parts.specs.declared.Shift.{Shift}
use Rattle.number_parts.specs.Parts.{shift_of}

-- a byte that passes a test which 0 fails lies within the text
pub inside : (p : ℕ → Bool) → p 0 ≡ false → (s : Text) (at : ℕ) → p (byte s at) ≡ true → at < length s
inside p z s at h = byte-within s at (λ e. let k : ◌≡◌ {A = ℕ} 0 1 = cc (z, h, ap p e) in omega arith)

-- ── signs ───────────────────────────────────────────────────────────────────────────────────

pub is-sign : {b : ℕ} → (b ≡ 0x2B) ⊎ (b ≡ 0x2D) → is_sign b ≡ true
is-sign (inl e) = rw e
is-sign (inr e) = rw e

pub other_sign : (b : ℕ) → ((b ≡ 0x2B) ⊎ (b ≡ 0x2D) → ⊥) → is_sign b ≡ false
other_sign b n = rw (ne_eqb b 0x2B (λ e. n (inl e)), ne_eqb b 0x2D (λ e. n (inr e)))

module _ (s : Text) (at b : ℕ) (e : b ≡ byte s at) where
  pub sign-inside : is_sign b ≡ true → at < length s
  sign-inside h = inside is_sign refl s at (ap is_sign (sym e) ∙ h)

  pub sign-there : is_sign b ≡ true → at + 1 ≡ after_sign s at
  unfolding after_sign
  sign-there h = rw (ap is_sign (sym e) ∙ h)

  pub no_sign : is_sign b ≡ false → at ≡ after_sign s at
  unfolding after_sign
  no_sign h = rw (ap is_sign (sym e) ∙ h)

-- ── one to so many digits ───────────────────────────────────────────────────────────────────

-- the part of a text from an offset to its end
pub rest-is : (s : Text) (at : ℕ) → slice_range s at (length s) ≡ drop at s
rest-is s at = ap (λ n. take n (drop at s)) (sym (length-drop at s)) ∙ take-length (drop at s)

-- the digits at the front, in the words of std
pub leading-is : (s : Text) → leading s ≡ take_while is_ascii_digit s
unfolding leading is_digit
leading-is [] = refl
leading-is (b ∷ t) = sym (take_while-cons is_ascii_digit b t ∙ by-case (is_digit b) (is_ascii_digit b) refl (leading-is t))
  where
    by-case : (c e : Bool) → c ≡ e → leading t ≡ take_while is_ascii_digit t → cond e (b ∷ take_while is_ascii_digit t) [] ≡ elim c as (λ z. Text) [ true ↦ b ∷ leading t | false ↦ [] ]
    by-case true true q h = ap (λ z. b ∷ z) (sym h)
    by-case false false q h = refl
    by-case true false q h = cc
    by-case false true q h = cc

module _ (most : ℕ) (s : Text) (at : ℕ) where
  pub none-there : length s < at → None ≡ next_of (digits_at most s at)
  unfolding digits_at provided next_of leading
  none-there h = let l : length s ≤ at = omega arith in rw (drop_of_length-le s l)

  module _ (count : ℕ) (e : count ≡ length (take_while is_ascii_digit (drop at s))) where
    count-is : count ≡ length (leading (drop at s))
    count-is = e ∙ ap length (sym (leading-is (drop at s)))

    pub no-digits : count ≡ 0 → None ≡ next_of (digits_at most s at)
    unfolding digits_at provided next_of
    no-digits h = rw (lt-leb 1 (length (leading (drop at s))) (omega (arith, count-is)))

    module _ (h : count ≡ 0 → ⊥) where
      one : leb 1 (length (leading (drop at s))) ≡ true
      one = le-leb 1 (length (leading (drop at s))) (omega (arith, count-is, h))

      pub many-digits : most < count → None ≡ next_of (digits_at most s at)
      unfolding digits_at provided next_of
      many-digits k = rw (one, lt-leb (length (leading (drop at s))) most (omega (arith, count-is)))

      pub some-digits : count ≤ most → Some (at + count) ≡ next_of (digits_at most s at)
      unfolding digits_at provided next_of
      some-digits k = rw (one, le-leb (length (leading (drop at s))) most (omega (arith, count-is))) (ap (λ n. Some (at + n)) count-is)

      pub within : at ≤ length s → at + count ≤ length s
      within k = let l = leading-leads (drop at s) in omega (arith, count-is, ap length l.here, length-take (length (leading (drop at s))) (drop at s), length-drop at s)

-- digits that were read, and the text between their offsets
pub record Found (most : ℕ) (s : Text) (at end : ℕ) : Type 0 where
  pub digits : Text
  pub read : digits_at most s at ≡ some (digits, end)
  pub are : DigitsAt most s at digits end
  pub between : take (end - at) (drop at s) ≡ digits

pub found : (most : ℕ) (s : Text) (at end : ℕ) {r : Answer.Option ℕ} → r ≡ next_of (digits_at most s at) → r ≡ Some end → Found most s at end
found most s at end e h =
    let g = next-got (digits_at most s at) (sym e ∙ h) in
    let d = digits_are most s at g.0 end g.1 in
    let n : end - at ≡ length g.0 = omega (arith, d.next) in
    record { digits = g.0; read = g.1; are = d; between = ap (λ k. take k (drop at s)) n ∙ d.here }

-- ── a fraction ──────────────────────────────────────────────────────────────────────────────

module _ (s : Text) (at b : ℕ) (e : b ≡ byte s at) where
  pub no_fraction : (b ≡ 0x2E → ⊥) → Some at ≡ next_of (fraction_at s at)
  unfolding fraction_at next_of
  no_fraction h = rw (ne_eqb (byte s at) 0x2E (λ z. h (e ∙ z)))

  pub point-inside : b ≡ 0x2E → at < length s
  point-inside h = byte-within s at (λ z. omega (arith, e, z))

  pub fraction-after : b ≡ 0x2E → {r : Answer.Option ℕ} → r ≡ next_of (digits_at number_text_limit s (at + 1)) → r ≡ next_of (fraction_at s at)
  unfolding fraction_at
  fraction-after h k = k ∙ (sym (next_map (digits_at number_text_limit s (at + 1)) (λ d. some d.0)) ∙ rw (eq-eqb (byte s at) 0x2E (sym e ∙ h)))

-- ── an exponent ─────────────────────────────────────────────────────────────────────────────

-- a digit of a text of digits
pub digit-in : (d : Text) (i : ℕ) → T (every is_digit d) → i < length d → T (is_digit (get_or d i 0))
digit-in [] i h l = absurd (omega arith)
digit-in (b ∷ t) zero h l = and_left (is_digit b) (every is_digit t) h
digit-in (b ∷ t) (suc i) h l = digit-in t i (and_right (is_digit b) (every is_digit t) h) (omega arith)

pub one-digit : (d : Text) → length d ≡ 1 → get_or d 0 0 - 0x30 ≡ natural_of d
unfolding natural_of
one-digit [] e = absurd (omega arith)
one-digit (a ∷ []) e = omega arith
one-digit (a ∷ b ∷ t) e = absurd (omega arith)

pub two_digits : (d : Text) → 0 < length d → (length d ≡ 1 → ⊥) → length d ≤ exponent_digits → (get_or d 0 0 - 0x30) * 10 + (get_or d 1 0 - 0x30) ≡ natural_of d
unfolding natural_of
two_digits [] l n h = absurd (omega arith)
two_digits (a ∷ []) l n h = absurd (n refl)
two_digits (a ∷ b ∷ []) l n h = omega arith
two_digits (a ∷ b ∷ c ∷ t) l n h = absurd (omega arith)

pub is-e : {b : ℕ} → (b ≡ 0x45) ⊎ (b ≡ 0x65) → is_e b ≡ true
is-e (inl e) = rw e
is-e (inr e) = rw e

pub other_e : (b : ℕ) → ((b ≡ 0x45) ⊎ (b ≡ 0x65) → ⊥) → is_e b ≡ false
other_e b n = rw (ne_eqb b 0x65 (λ e. n (inr e)), ne_eqb b 0x45 (λ e. n (inl e)))

abbrev pub shift : (up down after : ℕ) → Shift
shift up down after = record { up = up; down = down; after = after }

module _ (s : Text) (at b : ℕ) (e : b ≡ byte s at) where
  pub no_shift : is_e b ≡ false → Some (shift 0 0 at) ≡ shift_of (exponent_at s at)
  unfolding exponent_at shift_of
  no_shift h = rw (ap is_e (sym e) ∙ h)

  module _ (h : is_e b ≡ true) where
    e-there : is_e (byte s at) ≡ true
    e-there = ap is_e (sym e) ∙ h

    pub e-inside : at < length s
    e-inside = inside is_e refl s at e-there

    pub bad-shift : {from : ℕ} {r : Answer.Option ℕ} → from ≡ after_sign s (at + 1) → r ≡ next_of (digits_at exponent_digits s from) → r ≡ None → None ≡ shift_of (exponent_at s at)
    unfolding exponent_at shift_of onward
    bad-shift {from} f k m =
        let z : digits_at exponent_digits s (after_sign s (at + 1)) ≡ none = rw f at (next-lost (digits_at exponent_digits s from) (sym k ∙ m)) in
        rw (e-there, z)

    module _ {from end : ℕ} (f : from ≡ after_sign s (at + 1)) (d : Found exponent_digits s from end) {n : ℕ} (w : n ≡ natural_of (take (end - from) (drop from s))) where
      read-it : digits_at exponent_digits s (after_sign s (at + 1)) ≡ some (d.digits, end)
      read-it = rw f at d.read

      number_is : n ≡ natural_of d.digits
      number_is = w ∙ ap natural_of d.between

      pub shift-down : is_minus (byte s (at + 1)) ≡ true → Some (shift 0 n end) ≡ shift_of (exponent_at s at)
      unfolding exponent_at shift_of onward
      shift-down m = rw (e-there, read-it, m) (ap (λ k. Some (shift 0 k end)) number_is)

      pub shift-up : is_minus (byte s (at + 1)) ≡ false → Some (shift n 0 end) ≡ shift_of (exponent_at s at)
      unfolding exponent_at shift_of onward
      shift-up m = rw (e-there, read-it, m) (ap (λ k. Some (shift k 0 end)) number_is)
