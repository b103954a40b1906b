-- Document 02, Ask 1, proved: str's text of a number reads as that number.
use Rattle.definitions.specs.declared.Refusal.TheVariants.{BadNumberText, NoSuchNumber}
use Prim.Native.Nat.{ℕ, zero, suc, ◌+◌, ◌*◌, ◌-◌, ◌/◌, ◌%◌, ◌^◌, ◌≤◌}
use native.Mathlib.Nat.{mul_assoc, mul_right_comm, add-mul, div-add-mod'}
use native.Mathlib.Omega.{arith}
use mathlib.Core.Bool.{Bool, true, false}
use mathlib.Core.List.{[], ◌∷◌, ◌++◌, append-nil}
use mathlib.Core.Option.{none, some}
use mathlib.Core.Path.{◌≡◌, refl, sym, ap, ◌∙◌, subst}
use lib.Dec.{T, eqb, eqb→eq}
use lib.IntN.{ℤ, pos, negsuc, nat_abs}
use lib.ListN.{length, length-append}
use lib.Pow.{pow-add}
use Rattle.definitions.specs.Ascii.{ascii}
use Rattle.definitions.specs.Limits.{number_text_limit, integer_limit, decimal_limit}
use Rattle.definitions.specs.Terms.{Text, Term, is_integer, is_decimal, limited_term}
use Rattle.definitions.specs.Values.{million, value_of, text_of, natural_text, sign_text, integer_text, fraction_text, decimal_text}
use Rattle.definitions.specs.Numerals.{Numeral, numeral_of, natural_of, fraction_digits, raised, lowered, with_sign, integer_term, decimal_term, is_plain, term_of}
use Rattle.definitions.specs.Result.{passed, given}
use Rattle.definitions.specs.Calls.{number_call}
use Rattle.laws.proofs.Options.{some_is, provided-holds, provided-inv}
use Rattle.laws.proofs.Results.{given-bind, given-bind-inv, given-inv}
use Rattle.laws.proofs.Tests.{by-test}
use Rattle.laws.proofs.Bytes.{at_most}
use Rattle.laws.proofs.Numerals.{natural-append, decimal-is}
use Rattle.theorems.specs.NumberTexts.{Digits, WritesSign, no_sign, minus, no-point, point, no-exponent, Writes, parts, ReadsBack, NumberTexts}
use Rattle.theorems.proofs.NumeralForms.{written_read, read-written}
use Rattle.theorems.proofs.PrintedDigits.{Prints, short-prints, PrintsFraction, fraction-prints}

-- ── signs ───────────────────────────────────────────────────────────────────────────────────

is_below : ℤ → Bool
is_below (pos n) = false
is_below (negsuc n) = true

sign-writes : (z : ℤ) → WritesSign (is_below z) (sign_text z)
unfolding is_below sign_text ascii
sign-writes (pos n) = no_sign
sign-writes (negsuc n) = minus

sign-short : (z : ℤ) → length (sign_text z) ≤ 1
unfolding sign_text ascii
sign-short (pos n) = omega arith
sign-short (negsuc n) = omega arith

sign-back : (z : ℤ) → with_sign (is_below z) (nat_abs z) ≡ z
unfolding is_below with_sign
sign-back (pos n) = refl
sign-back (negsuc n) = refl

-- ── a text that is written reads as the numeral's term ──────────────────────────────────────

reads : (t : Text) (x : Numeral) (r : Term) → Writes x t → length t ≤ number_text_limit → term_of x ≡ some r → number_call t ≡ passed r
unfolding number_call given
reads t x r w l e = given-bind BadNumberText (λ y. given NoSuchNumber (term_of y)) (written_read t x w l) ∙ rw e

longer : {most more : ℕ} {d : Text} → most ≤ more → Digits most d → Digits more d
longer l h = record { all = h.all; some = h.some; few = omega (arith, h.few) }

module _ (n : ℤ) (h : T (is_integer n)) where
  small : nat_abs n ≤ integer_limit
  small = at_most integer_limit n h

  whole : Prints 20 (nat_abs n) (natural_text (nat_abs n))
  unfolding natural_text
  whole = short-prints 19 (nat_abs n) (omega (arith, small))

  abbrev integer_numeral : Numeral
  integer_numeral = record { minus = is_below n; whole = natural_text (nat_abs n); fraction = none; exponent = none }

  integer-term : term_of integer_numeral ≡ some (Term.integer n)
  unfolding term_of integer_term
  integer-term =
      let m : natural_of (natural_text (nat_abs n) ++ []) ≡ nat_abs n = ap natural_of (append-nil (natural_text (nat_abs n))) ∙ whole.is in
      rw (m, sign-back n) (provided-holds (is_integer n) h refl)

  pub integer-back : ReadsBack (Term.integer n)
  unfolding text_of value_of integer_text
  integer-back =
      let t = natural_text (nat_abs n) in
      let same : sign_text n ++ (t ++ []) ≡ sign_text n ++ t = ap (λ u. sign_text n ++ u) (append-nil t) in
      let w = subst (Writes integer_numeral) same (parts (sign-writes n) (longer (omega arith) whole.digits) no-point no-exponent) in
      record {
        str = record { tag = []; text = integer_text n };
        is = refl;
        reads = reads (sign_text n ++ t) integer_numeral (Term.integer n) w (omega (arith, length-append (sign_text n) t, sign-short n, whole.digits.few)) integer-term;
      }

-- W · 10^f + d, times 10^(f + g), is W · 10^(f + g) + d · 10^g, times 10^f
shifted : (W d f g : ℕ) → (W * 10 ^ f + d) * 10 ^ (f + g) ≡ (W * 10 ^ (f + g) + d * 10 ^ g) * 10 ^ f
shifted W d f g =
    let F = 10 ^ f in
    let G = 10 ^ g in
    let S = 10 ^ (f + g) in
    let a : (W * F + d) * S ≡ W * F * S + d * S = add-mul (W * F) d S in
    let b : (W * S + d * G) * F ≡ W * S * F + d * G * F = add-mul (W * S) (d * G) F in
    let c : W * F * S ≡ W * S * F = mul_right_comm W F S in
    let e : d * S ≡ d * G * F = ap (λ z. d * z) (pow-add 10 f g) ∙ (sym (mul_assoc d F G) ∙ mul_right_comm d F G) in
    omega arith

module _ (n : ℤ) (h : T (is_decimal n)) where
  near : nat_abs n ≤ decimal_limit
  near = at_most decimal_limit n h

  above : Text
  above = natural_text (nat_abs n / million)

  below : Text
  below = fraction_text 6 (nat_abs n % million)

  above-prints : Prints 20 (nat_abs n / million) above
  unfolding natural_text above
  above-prints = short-prints 19 (nat_abs n / million) (omega (arith, near))

  below-prints : PrintsFraction 6 (nat_abs n % million) below
  unfolding below
  below-prints = fraction-prints 5 (nat_abs n % million) (omega arith)

  abbrev decimal_numeral : Numeral
  decimal_numeral = record { minus = is_below n; whole = above; fraction = some below; exponent = none }

  -- the digits' number in millionths
  amount : natural_of (above ++ below) * million * 10 ^ 0 ≡ nat_abs n * 10 ^ length below
  amount =
      let f = length below in
      let six : f + (6 - f) ≡ 6 = omega (arith, below-prints.digits.few) in
      let whole : natural_of above * million + natural_of below * 10 ^ (6 - f) ≡ nat_abs n = omega (arith, above-prints.is, below-prints.is) in
      let k = rw six at (shifted (natural_of above) (natural_of below) f (6 - f)) in
      ap (λ z. z * million * 1) (natural-append above below) ∙ (omega (arith, k) ∙ ap (λ z. z * 10 ^ f) whole)

  decimal-term : term_of decimal_numeral ≡ some (Term.decimal n)
  unfolding term_of
  decimal-term =
      let z : length below + 0 ≡ length below = omega arith in
      rw z (decimal-is (is_below n) (natural_of (above ++ below)) 0 (length below) (nat_abs n) amount ∙ rw (sign-back n) (provided-holds (is_decimal n) h refl))

  pub decimal-back : ReadsBack (Term.decimal n)
  unfolding text_of value_of decimal_text above below ascii
  decimal-back =
      let same : sign_text n ++ (above ++ (0x2E ∷ below ++ [])) ≡ decimal_text n = ap (λ u. sign_text n ++ (above ++ (0x2E ∷ u))) (append-nil below) in
      let w = subst (Writes decimal_numeral) same (parts (sign-writes n) (longer (omega arith) above-prints.digits) (point (longer (omega arith) below-prints.digits)) no-exponent) in
      let l : length (decimal_text n) ≤ number_text_limit =
      omega (arith, length-append (sign_text n) (above ++ (0x2E ∷ below)), length-append above (0x2E ∷ below), sign-short n, above-prints.digits.few, below-prints.digits.few) in
      record {
        str = record { tag = []; text = decimal_text n };
        is = refl;
        reads = reads (decimal_text n) decimal_numeral (Term.decimal n) w l decimal-term;
      }

-- ── what is read is exact, and within its kind's limits ─────────────────────────────────────

abs-sign : (b : Bool) (n : ℕ) → nat_abs (with_sign b n) ≡ n
unfolding with_sign
abs-sign true zero = refl
abs-sign true (suc n) = refl
abs-sign false n = refl

-- the millionths n are the digits' number times its power of ten
abbrev Exact : (n m up down : ℕ) → Type 0
Exact n m up down = n * 10 ^ down ≡ m * million * 10 ^ up

abbrev DecimalOf : (m up down : ℕ) → Term → Type 0
DecimalOf m up down t = (n : ℤ) × T (is_decimal n) × Exact (nat_abs n) m up down × (Term.decimal n ≡ t)

decimal-inv : (b : Bool) (m up down : ℕ) (t : Term) → decimal_term b m up down ≡ some t → DecimalOf m up down t
unfolding decimal_term
decimal-inv b m up down t e =
    let count = m * million * 10 ^ up in
    let q = count / 10 ^ down in
    let p = provided-inv (eqb (count % 10 ^ down) 0) (limited_term is_decimal Term.decimal (with_sign b q)) e in
    let l = provided-inv (is_decimal (with_sign b q)) (some (Term.decimal (with_sign b q))) p.1 in
    let z = eqb→eq (count % 10 ^ down) 0 p.0 in
    (with_sign b q, l.0, rw (abs-sign b q) (omega (arith, div-add-mod' count (10 ^ down), z)), some_is l.1)

integer-inv : (b : Bool) (m : ℕ) (t : Term) → integer_term b m ≡ some t → (n : ℤ) × T (is_integer n) × (Term.integer n ≡ t)
unfolding integer_term
integer-inv b m t e = let l = provided-inv (is_integer (with_sign b m)) (some (Term.integer (with_sign b m))) e in (with_sign b m, l.0, some_is l.1)

module _ (x : Numeral) where
  abbrev mantissa : ℕ
  mantissa = natural_of (x.whole ++ fraction_digits x.fraction)

  abbrev divisor : ℕ
  divisor = length (fraction_digits x.fraction) + lowered x.exponent

  -- by the two kinds
  by_kind : (P : Term → Type 0) → ((n : ℤ) → T (is_integer n) → P (Term.integer n))
      → ((n : ℤ) → T (is_decimal n) → Exact (nat_abs n) mantissa (raised x.exponent) divisor → P (Term.decimal n)) → (t : Term) → term_of x ≡ some t → P t
  unfolding term_of
  by_kind P f g t =
      by-test (λ o. o ≡ some t → P t) (is_plain x.fraction x.exponent) (integer_term x.minus mantissa) (decimal_term x.minus mantissa (raised x.exponent) divisor)
      (λ h e. let i = integer-inv x.minus mantissa t e in subst P i.2 (f i.0 i.1))
      (λ h e. let i = decimal-inv x.minus mantissa (raised x.exponent) divisor t e in subst P i.3 (g i.0 i.1 i.2))

  exact : (n : ℤ) → term_of x ≡ some (Term.decimal n) → Exact (nat_abs n) mantissa (raised x.exponent) divisor
  exact n e =
      by_kind (λ t. t ≡ Term.decimal n → Exact (nat_abs n) mantissa (raised x.exponent) divisor)
      (λ m h k. let z : ◌≡◌ {A = ℕ} 0 1 = cc in absurd (omega arith))
      (λ m h q k. subst (λ z. Exact (nat_abs z) mantissa (raised x.exponent) divisor) (let z : m ≡ n = cc in z) q)
      (Term.decimal n) e refl

again : (text : Text) (t : Term) → number_call text ≡ passed t → ReadsBack t
unfolding number_call
again text t e =
    let i = given-bind-inv BadNumberText (numeral_of text) (λ y. given NoSuchNumber (term_of y)) e in
    by_kind i.0 ReadsBack integer-back (λ n h q. decimal-back n h) t (given-inv NoSuchNumber (term_of i.0) i.2)

-- ── the theorem ─────────────────────────────────────────────────────────────────────────────

pub number-texts : NumberTexts
number-texts = record {
  form = λ t x. (read-written t x, λ h. written_read t x h.0 h.1);
  exact = exact;
  integers = integer-back;
  decimals = decimal-back;
  again = again;
}
