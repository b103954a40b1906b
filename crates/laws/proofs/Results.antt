-- Laws of a call's tests: what has passed where the whole has, and the whole where its parts have.
use Rattle.definitions.specs.declared.Refusal.{Refusal}
use Prim.Native.Nat.{ℕ}
use mathlib.Core.Bool.{Bool, true, false}
use mathlib.Core.Option.{Option, none, some}
use mathlib.Core.Path.{◌≡◌, refl, ap}
use native.Mathlib.Omega.{arith}
use lib.Dec.{T}
use Rattle.definitions.specs.Result.{Result, refused, passed, ◌>>=◌, ◌>>◌, require, given}

pub passed_is : {A : Type 0} {a b : A} → passed a ≡ passed b → a ≡ b
passed_is e = cc

pub not-refused : {A : Type 0} {n : Refusal} {a : A} → refused n ≡ passed a → ⊥
not-refused e = let z : ◌≡◌ {A = ℕ} 0 1 = cc in omega arith

-- ── of a passed whole, the parts ────────────────────────────────────────────────────────────

pub require-inv : (n : Refusal) (t : Bool) {u : Unit {0}} → require n t ≡ passed u → T t
unfolding require
require-inv n true e = tt
require-inv n false e = absurd (not-refused e)

pub given-inv : {A : Type 0} (n : Refusal) (o : Option A) {a : A} → given n o ≡ passed a → o ≡ some a
unfolding given
given-inv n none e = absurd (not-refused e)
given-inv n (some a) e = ap some (passed_is e)

module _ {A B : Type 0} where
  pub bind_inv : (m : Result A) (f : A → Result B) {b : B} → (m >>= f) ≡ passed b → (a : A) × (m ≡ passed a) × (f a ≡ passed b)
  unfolding ◌>>=◌
  bind_inv (refused n) f e = absurd (not-refused e)
  bind_inv (passed a) f e = (a, refl, e)

  pub after-inv : (m : Result A) (k : Result B) {b : B} → (m >> k) ≡ passed b → (a : A) × (m ≡ passed a) × (k ≡ passed b)
  unfolding ◌>>◌
  after-inv (refused n) k e = absurd (not-refused e)
  after-inv (passed a) k e = (a, refl, e)

  -- what goes on after a refusal, and after what has passed
  pub bind-refused : {m : Result A} (f : A → Result B) {n : Refusal} → m ≡ refused n → (m >>= f) ≡ refused n
  unfolding ◌>>=◌
  bind-refused f e = rw e

  pub bind-passed : {m : Result A} (f : A → Result B) {a : A} → m ≡ passed a → (m >>= f) ≡ f a
  unfolding ◌>>=◌
  bind-passed f e = rw e

-- what is given, and what goes on with it
pub given-bind-inv : {A B : Type 0} (n : Refusal) (o : Option A) (f : A → Result B) {b : B} → (given n o >>= f) ≡ passed b → (a : A) × (o ≡ some a) × (f a ≡ passed b)
given-bind-inv n o f e = let i = bind_inv (given n o) f e in (i.0, given-inv n o i.1, i.2)

-- a test, and what comes after it
pub require-after-inv : {B : Type 0} (n : Refusal) (t : Bool) (k : Result B) {b : B} → (require n t >> k) ≡ passed b → T t × (k ≡ passed b)
require-after-inv n t k e = let i = after-inv (require n t) k e in (require-inv n t i.1, i.2)

-- ── of passed parts, the whole ──────────────────────────────────────────────────────────────

pub given-bind : {A B : Type 0} (n : Refusal) {o : Option A} (f : A → Result B) {a : A} → o ≡ some a → (given n o >>= f) ≡ f a
unfolding given ◌>>=◌
given-bind n f e = rw e

pub require-after : {B : Type 0} (n : Refusal) (t : Bool) (k : Result B) → T t → (require n t >> k) ≡ k
unfolding require ◌>>◌
require-after n true k h = refl
require-after n false k h = absurd h

-- ── of a broken part, the refusal ───────────────────────────────────────────────────────────

pub given-refused : {A B : Type 0} (n : Refusal) {o : Option A} (f : A → Result B) → o ≡ none → (given n o >>= f) ≡ refused n
unfolding given ◌>>=◌
given-refused n f e = rw e

pub require-refused : {B : Type 0} (n : Refusal) {t : Bool} (k : Result B) → t ≡ false → (require n t >> k) ≡ refused n
unfolding require ◌>>◌
require-refused n k e = rw e

-- ── tests in two parts ──────────────────────────────────────────────────────────────────────

-- what holds of tests one after the other holds where some of them stand together
module _ {A B C : Type 0} (P : Result C → Type 0) where
  pub by-bind : (m : Result A) (f : A → Result B) (k : B → Result C) → P (m >>= λ a. f a >>= k) → P ((m >>= f) >>= k)
  unfolding ◌>>=◌
  by-bind (refused n) f k h = h
  by-bind (passed a) f k h = h

  pub by_after : (m : Result A) (n : Result B) (k : B → Result C) → P (m >> (n >>= k)) → P ((m >> n) >>= k)
  unfolding ◌>>=◌ ◌>>◌
  by_after (refused n) r k h = h
  by_after (passed a) r k h = h
