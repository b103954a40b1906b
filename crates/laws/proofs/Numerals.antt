-- Laws of a number's text: its digits and the number that they write, its parts as they are read, and the decimal of a mantissa and a power of ten.
use Prim.Native.Nat.{ℕ, ◌+◌, ◌*◌, ◌-◌, ◌/◌, ◌^◌, ◌≤◌, ◌<◌}
use native.Mathlib.Nat.{zero-mul, mul_assoc, add-mul, one-le-pow, mul-mod_left, mul-div_cancel}
use native.Mathlib.Omega.{arith}
use mathlib.Core.Bool.{Bool, true, false}
use mathlib.Core.List.{[], ◌∷◌, ◌++◌}
use mathlib.Core.Logic.{◌⊎◌, inl, inr}
use mathlib.Core.Option.{Option, none, some}
use mathlib.Core.Path.{◌≡◌, refl, sym, ap, ◌∙◌, subst}
use lib.Dec.{T, leb, eqb, leb→le, eqb→eq}
use lib.ListN.{length, take, drop, length-append, length-take, length-drop}
use lib.Pow.{pow-add}
use borrow.Author.Tests.{le-leb, lt-leb, eq-eqb}
use Rattle.definitions.specs.Limits.{number_text_limit}
use Rattle.definitions.specs.Lists.{every}
use Rattle.definitions.specs.Bytes.{byte, provided, onward}
use Rattle.definitions.specs.Terms.{Text, Term, between, is_decimal, limited_term}
use Rattle.definitions.specs.Values.{million}
use Rattle.definitions.specs.Numerals.{exponent_digits, Exponent, Numeral, is_minus, is_point, is_e, is_digit, leading, after_sign, digits_at, fraction_at, exponent_at, numeral_of}
use Rattle.definitions.specs.Numerals.{natural_of, with_sign, decimal_term}
use Rattle.laws.proofs.Tests.{and_left, and_right, and_make, is_true, true_is, by-test}
use Rattle.laws.proofs.Options.{some_is, pair_is, provided-inv, provided-yes, onward-inv}

-- ── digits ──────────────────────────────────────────────────────────────────────────────────

pub is_digit_lem : (b : ℕ) → 0x30 ≤ b → b ≤ 0x39 → is_digit b ≡ true
unfolding is_digit
is_digit_lem b low high = rw (le-leb 0x30 b low, le-leb b 0x39 high)

pub no_digit : (b : ℕ) → (b < 0x30) ⊎ (0x39 < b) → is_digit b ≡ false
unfolding is_digit
no_digit b (inl low) = rw (lt-leb 0x30 b low)
no_digit b (inr high) = let l : 0x30 ≤ b = omega arith in rw (le-leb 0x30 b l, lt-leb b 0x39 high)

pub digit-range : (b : ℕ) → T (is_digit b) → (0x30 ≤ b) × (b ≤ 0x39)
unfolding is_digit
digit-range b h = (leb→le 0x30 b (and_left (leb 0x30 b) (leb b 0x39) h), leb→le b 0x39 (and_right (leb 0x30 b) (leb b 0x39) h))

pub leading-digit : (b : ℕ) (t : Text) → is_digit b ≡ true → leading (b ∷ t) ≡ b ∷ leading t
unfolding leading
leading-digit b t e = rw (e, leading)

pub leading-other : (b : ℕ) (t : Text) → is_digit b ≡ false → leading (b ∷ t) ≡ []
unfolding leading
leading-other b t e = rw (e, leading)

-- digits, then what does not begin with one
pub leading-append : (d u : Text) → T (every is_digit d) → leading u ≡ [] → leading (d ++ u) ≡ d
leading-append [] u h e = e
leading-append (b ∷ d) u h e =
    leading-digit b (d ++ u) (is_true (is_digit b) (and_left (is_digit b) (every is_digit d) h))
    ∙ ap (λ z. b ∷ z) (leading-append d u (and_right (is_digit b) (every is_digit d) h) e)

-- digits that stand at the front
pub record Leads (t d : Text) : Type 0 where
  pub all : T (every is_digit d)
  pub here : take (length d) t ≡ d

pub leading-leads : (t : Text) → Leads t (leading t)
unfolding leading
leading-leads [] = record { all = tt; here = refl }
leading-leads (b ∷ t) = go (is_digit b) refl (leading-leads t)
  where
    go : (c : Bool) → is_digit b ≡ c → Leads t (leading t) → Leads (b ∷ t) (elim c as (λ z. Text) [ true ↦ b ∷ leading t | false ↦ [] ])
    go true e h = record { all = and_make (is_digit b) (every is_digit (leading t)) (true_is (is_digit b) e) h.all; here = ap (λ z. b ∷ z) h.here }
    go false e h = record { all = tt; here = refl }

-- ── the parts of a text, where there are such ───────────────────────────────────────────────

-- one to so many digits from an offset on, and the offset after them
pub record DigitsAt (most : ℕ) (t : Text) (at : ℕ) (d : Text) (n : ℕ) : Type 0 where
  pub all : T (every is_digit d)
  pub some : 1 ≤ length d
  pub few : length d ≤ most
  pub here : take (length d) (drop at t) ≡ d
  pub next : n ≡ at + length d
  pub inside : n ≤ length t

pub digits_are : (most : ℕ) (t : Text) (at : ℕ) (d : Text) (n : ℕ) → digits_at most t at ≡ some (d, n) → DigitsAt most t at d n
unfolding digits_at
digits_are most t at d n e =
    let l = leading (drop at t) in
    let p = provided-inv (between 1 most (length l)) (some (l, at + length l)) e in
    let q = pair_is p.1 in
    let low = leb→le 1 (length l) (and_left (leb 1 (length l)) (leb (length l) most) p.0) in
    let high = leb→le (length l) most (and_right (leb 1 (length l)) (leb (length l) most) p.0) in
    let s = leading-leads (drop at t) in
    let fits : at + length l ≤ length t = omega (arith, low, ap length s.here, length-take (length l) (drop at t), length-drop at t) in
    subst (λ x. DigitsAt most t at x n) q.0
    (record { all = s.all; some = low; few = high; here = s.here; next = sym q.1; inside = subst (λ m. m ≤ length t) q.1 fits })

-- a point with digits after it, if there is one
pub data FractionAt (t : Text) (at : ℕ) : Option Text → ℕ → Type 0 where
  without-point : FractionAt t at none at
  with-point : {d : Text} {n : ℕ} → T (is_point (byte t at)) → DigitsAt number_text_limit t (at + 1) d n → FractionAt t at (some d) n

-- e or E with an optional sign and one or two digits, if there is one
pub data ExponentAt (t : Text) (at : ℕ) : Option Exponent → ℕ → Type 0 where
  without-exponent : ExponentAt t at none at
  with-exponent : {d : Text} {n : ℕ} → T (is_e (byte t at)) → DigitsAt exponent_digits t (after_sign t (at + 1)) d n
      → ExponentAt t at (some (record { minus = is_minus (byte t (at + 1)); digits = d })) n

module _ (t : Text) (at : ℕ) where
  pub fraction-is : (f : Option Text) (n : ℕ) → fraction_at t at ≡ some (f, n) → FractionAt t at f n
  unfolding fraction_at
  fraction-is f n =
      let digits = digits_at number_text_limit t (at + 1) in
      let made : Text × ℕ → Option (Option Text × ℕ) = λ d. some (some d.0, d.1) in
      by-test (λ o. o ≡ some (f, n) → FractionAt t at f n) (is_point (byte t at)) (onward digits made) (some (none, at))
      (λ h k.
      let i = onward-inv digits made k in
      subst (λ (p : Option Text × ℕ). FractionAt t at p.0 p.1) (some_is i.2) (with-point h (digits_are number_text_limit t (at + 1) i.0.0 i.0.1 i.1)))
      (λ h k. subst (λ (p : Option Text × ℕ). FractionAt t at p.0 p.1) (some_is k) without-point)

  pub exponent-is : (e : Option Exponent) (n : ℕ) → exponent_at t at ≡ some (e, n) → ExponentAt t at e n
  unfolding exponent_at
  exponent-is e n =
      let from = after_sign t (at + 1) in
      let digits = digits_at exponent_digits t from in
      let made : Text × ℕ → Option (Option Exponent × ℕ) = λ d. some (some (record { minus = is_minus (byte t (at + 1)); digits = d.0 }), d.1) in
      by-test (λ o. o ≡ some (e, n) → ExponentAt t at e n) (is_e (byte t at)) (onward digits made) (some (none, at))
      (λ h k.
      let i = onward-inv digits made k in
      subst (λ (p : Option Exponent × ℕ). ExponentAt t at p.0 p.1) (some_is i.2) (with-exponent h (digits_are exponent_digits t from i.0.0 i.0.1 i.1)))
      (λ h k. subst (λ (p : Option Exponent × ℕ). ExponentAt t at p.0 p.1) (some_is k) without-exponent)

-- the parts of a numeral, one after the other to the end of the text
pub record NumeralIn (t : Text) (x : Numeral) : Type 0 where
  pub few : length t ≤ number_text_limit
  pub minus : x.minus ≡ is_minus (byte t 0)
  pub point : ℕ
  pub whole : digits_at number_text_limit t (after_sign t 0) ≡ some (x.whole, point)
  pub tail : ℕ
  pub fraction : fraction_at t point ≡ some (x.fraction, tail)
  pub exponent : exponent_at t tail ≡ some (x.exponent, length t)

pub numeral-made : (t : Text) (x : Numeral) → NumeralIn t x → numeral_of t ≡ some x
unfolding numeral_of provided onward
numeral-made t x h =
    rw (le-leb (length t) number_text_limit h.few, h.whole, h.fraction, h.exponent, eq-eqb (length t) (length t) refl)
    (λ i. some (record { minus = sym h.minus i; whole = x.whole; fraction = x.fraction; exponent = x.exponent }))

pub numeral-in : (t : Text) (x : Numeral) → numeral_of t ≡ some x → NumeralIn t x
unfolding numeral_of
numeral-in t x e =
    let p = provided-inv (leb (length t) number_text_limit) _ e in
    let w = onward-inv (digits_at number_text_limit t (after_sign t 0)) _ p.1 in
    let f = onward-inv (fraction_at t w.0.1) _ w.2 in
    let g = onward-inv (exponent_at t f.0.1) _ f.2 in
    let q = provided-inv (eqb g.0.1 (length t)) _ g.2 in
    let last : g.0.1 ≡ length t = eqb→eq g.0.1 (length t) q.0 in
    subst (NumeralIn t) (some_is q.1)
    (record {
      few = leb→le (length t) number_text_limit p.0;
      minus = refl;
      point = w.0.1;
      whole = w.1;
      tail = f.0.1;
      fraction = f.1;
      exponent = g.1 ∙ ap (λ n. some (g.0.0, n)) last;
    })

-- ── numbers ─────────────────────────────────────────────────────────────────────────────────

pub ten-pos : (k : ℕ) → 0 < 10 ^ k
ten-pos k = let h : 1 ≤ 10 ^ k = one-le-pow k 10 (omega arith) in omega arith

-- the number that digits write, and then some more
pub natural-append : (x y : Text) → natural_of (x ++ y) ≡ natural_of x * 10 ^ length y + natural_of y
unfolding natural_of
natural-append [] y = rw zero-mul (omega arith)
natural-append (b ∷ t) y =
    let P = 10 ^ length t in
    let Q = 10 ^ length y in
    let e : ((b - 0x30) * P + natural_of t) * Q ≡ (b - 0x30) * P * Q + natural_of t * Q = add-mul ((b - 0x30) * P) (natural_of t) Q in
    let f : (b - 0x30) * P * Q ≡ (b - 0x30) * (P * Q) = mul_assoc (b - 0x30) P Q in
    rw (length-append t y, pow-add 10 (length t) (length y), natural-append t y) (omega arith)

-- m · 10^up / 10^down is the count that, times 10^down, is m · 10^up
pub decimal-is : (minus : Bool) (m up down q : ℕ) → m * million * 10 ^ up ≡ q * 10 ^ down
    → decimal_term minus m up down ≡ limited_term is_decimal Term.decimal (with_sign minus q)
unfolding decimal_term
decimal-is minus m up down q e = rw (e, mul-mod_left q (10 ^ down), mul-div_cancel q (ten-pos down)) (provided-yes _ refl)
