-- Laws of `provided` and `onward`: what is there where the parts are, and what the parts are where something is there.
use Prim.Native.Nat.{ℕ}
use mathlib.Core.Bool.{Bool, true, false}
use mathlib.Core.Option.{Option, none, some}
use mathlib.Core.Path.{◌≡◌, refl, ap}
use native.Mathlib.Omega.{arith}
use lib.Dec.{T}
use Rattle.definitions.specs.Bytes.{provided, onward}

pub some-not-none : {A : Type 0} {o : Option A} {a : A} → o ≡ some a → o ≡ none → ⊥
some-not-none p q = let z : ◌≡◌ {A = ℕ} 0 1 = cc in omega arith

pub some_is : {A : Type 0} {a b : A} → some a ≡ some b → a ≡ b
some_is e = cc

pub pair_is : {A B : Type 0} {a c : A} {b d : B} → ◌≡◌ {A = Option (A × B)} (some (a, b)) (some (c, d)) → (a ≡ c) × (b ≡ d)
pair_is {A} {B} {a} {c} {b} {d} e =
    let f : ◌≡◌ {A = A × B} (a, b) (c, d) = some_is e in
    (ap (λ (p : A × B). p.0) f, ap (λ (p : A × B). p.1) f)

-- what is there is one thing
pub same_some : {A : Type 0} {o : Option A} {a b : A} → o ≡ some a → o ≡ some b → a ≡ b
same_some p q = cc

module _ {A : Type 0} where
  pub provided-yes : {b : Bool} (o : Option A) → b ≡ true → provided b o ≡ o
  unfolding provided
  provided-yes o e = rw e

  pub provided-holds : (b : Bool) {o : Option A} {a : A} → T b → o ≡ some a → provided b o ≡ some a
  unfolding provided
  provided-holds true t e = e
  provided-holds false t e = absurd t

  pub provided-inv : (b : Bool) (o : Option A) {a : A} → provided b o ≡ some a → T b × (o ≡ some a)
  unfolding provided
  provided-inv true o e = (tt, e)
  provided-inv false o e = absurd (some-not-none e refl)

module _ {A B : Type 0} where
  pub onward-some : {o : Option A} (f : A → Option B) {a : A} → o ≡ some a → onward o f ≡ f a
  unfolding onward
  onward-some f e = rw e

  pub onward-none : {o : Option A} (f : A → Option B) → o ≡ none → onward o f ≡ none
  unfolding onward
  onward-none f e = rw e

  pub onward-inv : (o : Option A) (f : A → Option B) {b : B} → onward o f ≡ some b → (a : A) × (o ≡ some a) × (f a ≡ some b)
  unfolding onward
  onward-inv none f e = absurd (some-not-none e refl)
  onward-inv (some a) f e = (a, refl, e)
