-- Laws of tests: the cases of a Boolean, and what holds where a test is passed.
use mathlib.Core.Path.{◌≡◌, refl, sym, subst}
use mathlib.Core.Logic.{◌⊎◌, inl, inr}
use mathlib.Core.Bool.{Bool, true, false, cond, not, ◌&&◌, ◌||◌}
use lib.Dec.{T}

pub and_left : (a b : Bool) → T (a && b) → T a
and_left true b t = tt
and_left false b t = t

pub and_right : (a b : Bool) → T (a && b) → T b
and_right true b t = t
and_right false b t = absurd t

pub and_make : (a b : Bool) → T a → T b → T (a && b)
and_make true b p q = q
and_make false b p q = p

pub and_false : (a : Bool) → (a && false) ≡ false
and_false true = refl
and_false false = refl

pub or_cases : (a b : Bool) → T (a || b) → T a ⊎ T b
or_cases true b t = inl tt
or_cases false b t = inr t

pub or_left : (a b : Bool) → T a → T (a || b)
or_left true b t = tt
or_left false b t = absurd t

pub or_right : (a b : Bool) → T b → T (a || b)
or_right true b t = tt
or_right false b t = t

abbrev pub implies : Bool → Bool → Bool
implies true b = b
implies false b = true

pub apply : (a b : Bool) → T (implies a b) → T a → T b
apply true b f t = f
apply false b f t = absurd t

pub decide : (b : Bool) → T b ⊎ T (not b)
decide true = inl tt
decide false = inr tt

pub not_both : (b : Bool) → T b → T (not b) → ⊥
not_both true p q = q
not_both false p q = p

pub is_true : (b : Bool) → T b → b ≡ true
is_true true t = refl
is_true false t = absurd t

pub is_false : (b : Bool) → T (not b) → b ≡ false
is_false true h = absurd h
is_false false h = refl

pub true_is : (b : Bool) → b ≡ true → T b
true_is b e = subst (λ c. T c) (sym e) tt

pub false_is : (b : Bool) → b ≡ false → T (not b)
false_is b e = subst (λ c. T (not c)) (sym e) tt

-- by the cases of a test
pub by-test : {A : Type 0} (P : A → Type 0) (b : Bool) (x y : A) → (T b → P x) → (T (not b) → P y) → P (cond b x y)
by-test P true x y h k = h tt
by-test P false x y h k = k tt
