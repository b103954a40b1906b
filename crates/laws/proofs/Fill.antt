-- A list and what fills it up: its places taken and given back one by one.
use Prim.Native.Nat.{ℕ, suc, ◌+◌, ◌≤◌, ◌<◌}
use native.Mathlib.Decide.{ℕ_discrete}
use native.Mathlib.Omega.{arith}
use mathlib.Core.Path.{◌≡◌, refl, ap, sym, subst, ◌∙◌}
use mathlib.Core.List.{List, [], ◌∷◌, ◌++◌, append-nil}
use native.Mathlib.Numerals.{add-one}
use lib.ListN.{length, set, get_or, drop, replicate, drop_of_length-le}
use lib.Seq.{drop-cons, get_or-set_same, get_or-set_other}

module _ {A : Type 0} (z x : A) where
  -- the first place after the list is taken
  pub set-end : (l : List A) (n : ℕ) → set (l ++ replicate (suc n) z) (length l) x ≡ (l ++ (x ∷ [])) ++ replicate n z
  set-end [] n = refl
  set-end (a ∷ l) n = ap (λ m. a ∷ m) (set-end l n)

  -- the last place is given back
  pub set_back : (l : List A) (n : ℕ) → set ((l ++ (x ∷ [])) ++ replicate n z) (length l) z ≡ l ++ replicate (suc n) z
  set_back [] n = refl
  set_back (a ∷ l) n = ap (λ m. a ∷ m) (set_back l n)

  -- the last place is what was put there, and takes another
  pub get-last : (l m : List A) (d : A) → get_or ((l ++ (x ∷ [])) ++ m) (length l) d ≡ x
  get-last [] m d = refl
  get-last (a ∷ l) m d = get-last l m d

  pub set_last : (y : A) (l m : List A) → set ((l ++ (x ∷ [])) ++ m) (length l) y ≡ (l ++ (y ∷ [])) ++ m
  set_last y [] m = refl
  set_last y (a ∷ l) m = ap (λ k. a ∷ k) (set_last y l m)

-- an array whose places are written one after the other: the next place taken, and all of them
module _ {A : Type 0} where
  set_here : (l m : List A) (y x : A) → set (l ++ (y ∷ m)) (length l) x ≡ (l ++ (x ∷ [])) ++ m
  set_here [] m y x = refl
  set_here (a ∷ l) m y x = ap (λ (k : List A). a ∷ k) (set_here l m y x)

  pub write-next : (old array l : List A) (i : ℕ) (d x : A) → i < length old → length l ≡ i → array ≡ l ++ drop i old
      → set array i x ≡ (l ++ (x ∷ [])) ++ drop (i + 1) old
  write-next old array l i d x h k e =
      ap (λ (m : List A). set m i x) (e ∙ ap (λ (m : List A). l ++ m) (drop-cons old i d h))
      ∙ (ap (λ (n : ℕ). set (l ++ (get_or old i d ∷ drop (suc i) old)) n x) (sym k)
      ∙ (set_here l (drop (suc i) old) (get_or old i d) x
      ∙ ap (λ (n : ℕ). (l ++ (x ∷ [])) ++ drop n old) (sym (add-one i))))

  pub write_done : (old array l : List A) (i : ℕ) → length old ≤ i → array ≡ l ++ drop i old → array ≡ l
  write_done old array l i h e = e ∙ (ap (λ (m : List A). l ++ m) (drop_of_length-le old h) ∙ append-nil l)

-- one more place of a list whose first places are known
pub filled_more : {A : Type 0} (d : A) (R : ℕ → A) (l : List A) (x : ℕ) {v : A} → x < length l → ((k : ℕ) → k < x → get_or l k d ≡ R k) → v ≡ R x
    → (k : ℕ) → k < x + 1 → get_or (set l x v) k d ≡ R k
filled_more d R l x {v} inside h e k m = go (ℕ_discrete k x)
  where
    go : Dec (k ≡ x) → get_or (set l x v) k d ≡ R k
    go (yes s) = subst (λ j. get_or (set l x v) j d ≡ R j) (sym s) (get_or-set_same l x v d inside ∙ e)
    go (no n) = get_or-set_other l x k v d n ∙ h k (omega (arith, n))
