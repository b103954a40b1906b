-- Laws of signed numbers: how large a sum, a difference and a product are, and what the operations of an i64 give.
use Prim.Native.Nat.{ℕ, zero, suc, ◌+◌, ◌*◌, ◌-◌, ◌^◌, ◌<◌, ◌≤◌}
use mathlib.Core.Bool.{Bool, true, false, cond}
use mathlib.Core.Path.{◌≡◌, refl, sym, ap₂, ◌∙◌, subst}
use native.Mathlib.Omega.{arith}
use lib.Dec.{T, ltb, eqb}
use lib.IntN.{ℤ, pos, negsuc, nat_abs, neg_ℤ, ◌+ℤ◌, ◌-ℤ◌, ◌*ℤ◌}
use lib.Signed.{mag}
use borrow.Author.Tests.{ltb-true, eqb-true, eqb-false, eq-eqb, ne_eqb}
use mir.Syntax.{w64}
use mir.Val.{SFits, to_z, of_z}
use mir.Facts.{to_z-of_z}
use Rattle.definitions.specs.Limits.{integer_limit, decimal_limit}
use Rattle.definitions.specs.Terms.{is_integer, is_decimal, same_number}
use Rattle.laws.proofs.Bytes.{at_most}

-- ── sizes ───────────────────────────────────────────────────────────────────────────────────

pub mag-abs : (n : ℤ) → mag n ≤ nat_abs n
mag-abs (pos n) = omega arith
mag-abs (negsuc n) = omega arith

abs_neg : (n : ℤ) → nat_abs (neg_ℤ n) ≡ nat_abs n
abs_neg (pos zero) = refl
abs_neg (pos (suc n)) = refl
abs_neg (negsuc n) = refl

abs-sub : (t : Bool) (a b : ℕ) → ltb a b ≡ t → nat_abs (cond t (negsuc (b - suc a)) (pos (a - b))) ≤ a + b
abs-sub true a b e = let l = ltb-true a b e in omega arith
abs-sub false a b e = omega arith

abs-sum : (a b : ℤ) → nat_abs (a +ℤ b) ≤ nat_abs a + nat_abs b
abs-sum (pos a) (pos b) = omega arith
abs-sum (pos a) (negsuc b) = abs-sub (ltb a (suc b)) a (suc b) refl
abs-sum (negsuc a) (pos b) = let h = abs-sub (ltb b (suc a)) b (suc a) refl in omega arith
abs-sum (negsuc a) (negsuc b) = omega arith

pub abs-scaled : (n : ℤ) → nat_abs (n *ℤ pos 1000000) ≡ nat_abs n * 1000000
abs-scaled (pos n) = refl
abs-scaled (negsuc n) = abs_neg (pos (suc n * 1000000))

-- ── operations of an i64 ────────────────────────────────────────────────────────────────────

-- an operation whose result is small enough
module _ (f : ℤ → ℤ → ℤ) (a b : ℤ) (fa : SFits w64 a) (fb : SFits w64 b) (small : nat_abs (f a b) < 2 ^ 63) where
  operands : f (to_z w64 (of_z w64 a)) (to_z w64 (of_z w64 b)) ≡ f a b
  operands = ap₂ f (to_z-of_z fa) (to_z-of_z fb)

  pub op_fits : SFits w64 (f (to_z w64 (of_z w64 a)) (to_z w64 (of_z w64 b)))
  op_fits = subst (λ (z : ℤ). SFits w64 z) (sym operands) (record { sfits = omega (arith, mag-abs (f a b)) })

  pub op-is : to_z w64 (of_z w64 (f (to_z w64 (of_z w64 a)) (to_z w64 (of_z w64 b)))) ≡ f a b
  op-is = to_z-of_z op_fits ∙ operands

pub sum-small : (a b : ℤ) → T (is_decimal a) → T (is_decimal b) → nat_abs (a +ℤ b) < 2 ^ 63
sum-small a b ha hb = omega (arith, abs-sum a b, at_most decimal_limit a ha, at_most decimal_limit b hb)

pub difference-small : (a b : ℤ) → T (is_decimal a) → T (is_decimal b) → nat_abs (a -ℤ b) < 2 ^ 63
difference-small a b ha hb = omega (arith, abs-sum a (neg_ℤ b), abs_neg b, at_most decimal_limit a ha, at_most decimal_limit b hb)

pub scaled_small : (n : ℤ) → T (is_integer n) → nat_abs (n *ℤ pos 1000000) < 2 ^ 63
scaled_small n h = omega (arith, abs-scaled n, at_most integer_limit n h)

-- ── tests of an i64 ─────────────────────────────────────────────────────────────────────────

pub test-is : (f : ℤ → ℤ → Bool) (a b : ℤ) → SFits w64 a → SFits w64 b → f (to_z w64 (of_z w64 a)) (to_z w64 (of_z w64 b)) ≡ f a b
test-is f a b fa fb = ap₂ f (to_z-of_z fa) (to_z-of_z fb)

pub same-is : (a b : ℤ) → SFits w64 a → SFits w64 b → eqb (of_z w64 a) (of_z w64 b) ≡ same_number a b
unfolding same_number
same-is (pos a) (pos b) fa fb = refl
same-is (pos a) (negsuc b) fa fb = ne_eqb a (2 ^ 64 - suc b) (λ e. omega (arith, fa.sfits, fb.sfits))
same-is (negsuc a) (pos b) fa fb = ne_eqb (2 ^ 64 - suc a) b (λ e. omega (arith, fa.sfits, fb.sfits))
same-is (negsuc a) (negsuc b) fa fb = go (eqb a b) refl
  where
    go : (t : Bool) → eqb a b ≡ t → eqb (2 ^ 64 - suc a) (2 ^ 64 - suc b) ≡ t
    go true e = let h = eqb-true a b e in eq-eqb (2 ^ 64 - suc a) (2 ^ 64 - suc b) (omega arith)
    go false e = ne_eqb (2 ^ 64 - suc a) (2 ^ 64 - suc b) (λ h. eqb-false a b e (omega (arith, fa.sfits, fb.sfits)))

-- ── the distance from 0 ─────────────────────────────────────────────────────────────────────

pub negated-fits : (n : ℤ) → SFits w64 n → T (is_decimal n) → SFits w64 (neg_ℤ (to_z w64 (of_z w64 n)))
negated-fits n f h = rw (to_z-of_z f) (record { sfits = omega (arith, mag-abs (neg_ℤ n), abs_neg n, at_most decimal_limit n h) })
