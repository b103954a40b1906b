-- Laws of counts: how many there are, from a number on.
use Rattle.std.specs.Prelude.{Some, None}
use Rattle.std.specs.declared.option.Option as Answer
use Prim.Native.Nat.{ℕ, ◌+◌}
use mathlib.Core.Bool.{Bool, true, false, not, ◌&&◌, ◌||◌}
use mathlib.Core.List.{List, [], ◌∷◌}
use mathlib.Core.Option.{Option, none, some}
use mathlib.Core.Path.{◌≡◌, refl, ap}
use native.Mathlib.Omega.{arith}
use lib.ListN.{length}
use Rattle.definitions.specs.Lists.{every, some?}
use Rattle.laws.specs.ReadAnswers.{is_some}
use Rattle.fields.specs.Answers.{count_of}

-- so many, and those of a list
unfoldable pub count_from : {A : Type 0} → ℕ → Option (List A) → Answer.Option ℕ
count_from n none = None
count_from n (some xs) = Some (n + length xs)

pub count-zero : {A : Type 0} (o : Option (List A)) → count_of o ≡ count_from 0 o
unfolding count_of count_from
count-zero none = refl
count-zero (some xs) = ap Some (omega arith)

-- what a count says
module _ {A : Type 0} where
  pub count_none : (o : Option (List A)) → count_of o ≡ None → o ≡ none
  unfolding count_of
  count_none none e = refl
  count_none (some xs) e = absurd (let z : ◌≡◌ {A = ℕ} 0 1 = cc in omega arith)

  pub count-some : (o : Option (List A)) {n : ℕ} → count_of o ≡ Some n → (xs : List A) × (o ≡ some xs) × (length xs ≡ n)
  unfolding count_of
  count-some none e = absurd (let z : ◌≡◌ {A = ℕ} 0 1 = cc in omega arith)
  count-some (some xs) {n} e = let l : length xs ≡ n = cc in (xs, refl, l)

pub counted-some : {A : Type 0} (o : Option (List A)) {n : ℕ} → count_of o ≡ Some n → is_some o ≡ true
counted-some o e = rw (count-some o e).1

pub none_of : {A : Type 0} (p : A → Bool) (xs : List A) → every (λ x. not (p x)) xs ≡ not (some? p xs)
none_of p [] = refl
none_of p (x ∷ xs) = go (p x) (none_of p xs)
  where
    go : (b : Bool) → every (λ x. not (p x)) xs ≡ not (some? p xs) → (not b && every (λ x. not (p x)) xs) ≡ not (b || some? p xs)
    go true e = refl
    go false e = e
