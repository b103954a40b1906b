-- What str writes of a number: digits that write that number.
use Prim.Native.Nat.{ℕ, zero, suc, ◌+◌, ◌*◌, ◌-◌, ◌/◌, ◌%◌, ◌^◌, ◌<◌}
use native.Mathlib.Nat.{pow-suc, mul-one, mul_assoc}
use native.Mathlib.Omega.{arith}
use mathlib.Core.Bool.{Bool, true, false}
use mathlib.Core.List.{[], ◌∷◌, ◌++◌}
use mathlib.Core.Path.{◌≡◌, refl, sym, ap, ◌∙◌}
use lib.Dec.{T, ltb, eqb}
use lib.ListN.{length, length-append}
use borrow.Author.Tests.{ltb-true, ltb-false, eqb-true}
use Rattle.definitions.specs.Terms.{Text}
use Rattle.definitions.specs.Calendar.{digits}
use Rattle.definitions.specs.Values.{short_digits, fraction_text}
use Rattle.definitions.specs.Numerals.{is_digit, natural_of}
use Rattle.laws.proofs.Tests.{and_make, true_is}
use Rattle.laws.proofs.All.{every-end}
use Rattle.laws.proofs.Numerals.{is_digit_lem, natural-append}
use Rattle.theorems.specs.NumberTexts.{Digits}

-- digits that write a number
pub record Prints (most n : ℕ) (t : Text) : Type 0 where
  pub digits : Digits most t
  pub is : natural_of t ≡ n

digit-printed : (n : ℕ) → n < 10 → T (is_digit (0x30 + n))
digit-printed n h = true_is (is_digit (0x30 + n)) (is_digit_lem (0x30 + n) (omega arith) (omega arith))

one-prints : (k n : ℕ) → n < 10 → Prints (suc k) n ((0x30 + n) ∷ [])
unfolding natural_of
one-prints k n h = record { digits = record { all = and_make (is_digit (0x30 + n)) true (digit-printed n h) tt; some = omega arith; few = omega arith }; is = omega arith }

more-prints : (k n : ℕ) (t : Text) → Prints k (n / 10) t → Prints (suc k) n (t ++ ((0x30 + n % 10) ∷ []))
unfolding natural_of
more-prints k n t p =
    let last = (0x30 + n % 10) ∷ [] in
    let l : length (t ++ last) ≡ length t + 1 = length-append t last in
    record {
      digits = record {
        all = every-end is_digit (0x30 + n % 10) t p.digits.all (digit-printed (n % 10) (omega arith));
        some = omega arith;
        few = omega (arith, p.digits.few);
      };
      is = omega (arith, natural-append t last, p.is);
    }

pub short-prints : (k n : ℕ) → n < 10 ^ suc k → Prints (suc k) n (short_digits (suc k) n)
unfolding short_digits
short-prints zero n h = go (ltb n 10) refl
  where
    go : (b : Bool) → ltb n 10 ≡ b → Prints 1 n (elim b as (λ c. Text) [ true ↦ (0x30 + n) ∷ [] | false ↦ short_digits zero (n / 10) ++ ((0x30 + n % 10) ∷ []) ])
    go true e = one-prints zero n (ltb-true n 10 e)
    go false e = absurd (omega (arith, ltb-false n 10 e))
short-prints (suc k) n h = go (ltb n 10) refl (short-prints k (n / 10) (omega (arith, pow-suc 10 (suc k))))
  where
    go : (b : Bool) → ltb n 10 ≡ b → Prints (suc k) (n / 10) (short_digits (suc k) (n / 10))
        → Prints (suc (suc k)) n (elim b as (λ c. Text) [ true ↦ (0x30 + n) ∷ [] | false ↦ short_digits (suc k) (n / 10) ++ ((0x30 + n % 10) ∷ []) ])
    go true e p = one-prints (suc k) n (ltb-true n 10 e)
    go false e p = more-prints (suc k) n (short_digits (suc k) (n / 10)) p

-- digits of a fraction: filled up with zeros to k digits they write the number
pub record PrintsFraction (k n : ℕ) (t : Text) : Type 0 where
  pub digits : Digits k t
  pub is : natural_of t * 10 ^ (k - length t) ≡ n

all-printed : (k n : ℕ) → n < 10 ^ suc k → Prints (suc k) n (digits (suc k) n) × (length (digits (suc k) n) ≡ suc k)
unfolding digits natural_of
all-printed zero n h = let e : n % 10 ≡ n = omega arith in (rw e (one-prints zero n (omega arith)), refl)
all-printed (suc k) n h =
    let p = all-printed k (n / 10) (omega (arith, pow-suc 10 (suc k))) in
    (more-prints (suc k) n (digits (suc k) (n / 10)) p.0, omega (arith, p.1, length-append (digits (suc k) (n / 10)) ((0x30 + n % 10) ∷ [])))

whole-fraction : (k n : ℕ) (t : Text) → Prints k n t × (length t ≡ k) → PrintsFraction k n t
whole-fraction k n t p = let z : k - length t ≡ 0 = omega (arith, p.1) in record { digits = p.0.digits; is = rw z (mul-one (natural_of t) ∙ p.0.is) }

longer-fraction : (k n : ℕ) (t : Text) → n % 10 ≡ 0 → PrintsFraction k (n / 10) t → PrintsFraction (suc k) n t
longer-fraction k n t z p =
    let d = p.digits in
    let e : suc k - length t ≡ suc (k - length t) = omega (arith, d.few) in
    let m = ap (λ x. natural_of t * x) (pow-suc 10 (k - length t)) ∙ sym (mul_assoc (natural_of t) (10 ^ (k - length t)) 10) in
    record { digits = record { all = d.all; some = d.some; few = omega (arith, d.few) }; is = rw e (omega (arith, m, p.is)) }

pub fraction-prints : (k n : ℕ) → n < 10 ^ suc k → PrintsFraction (suc k) n (fraction_text (suc k) n)
unfolding fraction_text
fraction-prints zero n h = whole-fraction 1 n (digits 1 n) (all-printed zero n h)
fraction-prints (suc k) n h = go (eqb (n % 10) 0) refl (fraction-prints k (n / 10) (omega (arith, pow-suc 10 (suc k))))
  where
    go : (b : Bool) → eqb (n % 10) 0 ≡ b → PrintsFraction (suc k) (n / 10) (fraction_text (suc k) (n / 10))
        → PrintsFraction (suc (suc k)) n (elim b as (λ c. Text) [ true ↦ fraction_text (suc k) (n / 10) | false ↦ digits (suc (suc k)) n ])
    go true e p = longer-fraction (suc k) n (fraction_text (suc k) (n / 10)) (eqb-true (n % 10) 0 e) p
    go false e p = whole-fraction (suc (suc k)) n (digits (suc (suc k)) n) (all-printed (suc k) n h)
