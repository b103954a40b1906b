-- A call's tests in their order: the first one broken gives its refusal.
use Rattle.std.specs.Prelude.{Bool, true, false}
use Rattle.std.proofs.Math.Option.{Option, none, some}
use Rattle.std.specs.declared.result.Result as Std
use Rattle.definitions.specs.declared.Refusal.{Refusal}

pub data Result (A : Type 0) : Type 0 where
  refused : Refusal → Result A
  passed : A → Result A

infixl 10 ◌>>=◌
infixl 10 ◌>>◌
unfoldable pub ◌>>=◌ : {A B : Type 0} → Result A → (A → Result B) → Result B
refused n >>= f = refused n
passed a >>= f = f a

unfoldable pub ◌>>◌ : {A B : Type 0} → Result A → Result B → Result B
refused n >> m = refused n
passed a >> m = m

-- refused where a test fails, or where there is nothing
unfoldable pub require : Refusal → Bool → Result (Unit {0})
require n true = passed tt
require n false = refused n

unfoldable pub given : {A : Type 0} → Refusal → Option A → Result A
given n none = refused n
given n (some a) = passed a

-- what a call answers: a refusal, or its result
abbrev pub OrRefusal : Type 0 → Type 0
OrRefusal A = Std.Result A Refusal
