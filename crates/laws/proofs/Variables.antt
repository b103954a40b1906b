-- The variables, one by one: a list with something for each of them, and a test of all of them.
use Prim.Native.Nat.{ℕ, zero, suc, ◌+◌, ◌<◌}
use native.Mathlib.Omega.{arith}
use native.Mathlib.Nat.{add-zero}
use mathlib.Core.Path.{◌≡◌, refl, sym, ap, ◌∙◌}
use mathlib.Core.List.{List, map}
use mathlib.Core.Bool.{Bool}
use lib.Dec.{T}
use lib.ListN.{length, get_or}
use lib.Seq.{ext_get_or}
use Rattle.definitions.specs.Limits.{variable_limit}
use Rattle.definitions.specs.Lists.{every}
use Rattle.definitions.specs.Scope.{variables}
use Rattle.laws.specs.Lists.{up_from}
use Rattle.laws.proofs.Ranges.{every_in}

at-number : {A : Type 0} (f : ℕ → A) (d : A) (lo n v : ℕ) → v < n → get_or (map f (up_from lo n)) v d ≡ f (lo + v)
unfolding up_from
at-number f d lo zero v l = absurd (omega arith)
at-number f d lo (suc n) zero l = ap f (sym (add-zero lo))
at-number f d lo (suc n) (suc v) l = at-number f d (suc lo) n v (omega arith) ∙ ap f (omega arith)

-- what stands at a variable's place
pub at-variable : {A : Type 0} (f : ℕ → A) (d : A) (v : ℕ) → v < variable_limit → get_or (map f variables) v d ≡ f v
unfolding up_from
at-variable f d v l = let e : 0 + v ≡ v = omega arith in at-number f d 0 variable_limit v l ∙ ap f e

-- what is made for each variable is another list, one by one
pub made-is : {A : Type 0} (d : A) (f : ℕ → A) (l : List A) → length l ≡ variable_limit → ((v : ℕ) → v < variable_limit → f v ≡ get_or l v d) → map f variables ≡ l
made-is d f l e h = ext_get_or d (map f variables) l (sym e) (λ v k. at-variable f d v k ∙ h v k)

pub made-same : {A : Type 0} (f g : ℕ → A) → ((v : ℕ) → v < variable_limit → f v ≡ g v) → map f variables ≡ map g variables
made-same f g h = made-is (f 0) f (map g variables) refl (λ v k. h v k ∙ sym (at-variable g (f 0) v k))

-- a test of the variables
pub every-variable : (p : ℕ → Bool) → T (every p variables) → (v : ℕ) → v < variable_limit → T (p v)
every-variable p h v l = every_in p 0 variable_limit h v (omega arith) l
