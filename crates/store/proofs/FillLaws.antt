-- Arrays that are filled place by place from zeros; and a look through a list.
use Prim.Native.Nat.{ℕ, suc, ◌+◌, ◌-◌, ◌≤◌, ◌<◌}
use native.Mathlib.Omega.{arith}
use native.Mathlib.Numerals.{add-one}
use mathlib.Core.Path.{◌≡◌, ap, sym, ◌∙◌}
use mathlib.Core.List.{List, [], ◌∷◌, ◌++◌, map, map-append, map-id}
use lib.ListN.{length, set, get_or, take, drop, replicate, length-take, length-map}
use lib.Seq.{take-suc}
use Rattle.fields.proofs.PartLaws.{drop-replicate}
use Rattle.definitions.specs.Bytes.{filled}
use Rattle.definitions.specs.Scope.{variables}
use Rattle.laws.proofs.Fill.{set-end}
use Rattle.laws.proofs.Variables.{at-variable}

-- the next place of a list with zeros after it
pub put_next : {A : Type 0} (z x : A) (l : List A) (n i : ℕ) → length l ≡ i → i < n
    → set (l ++ replicate (n - i) z) i x ≡ (l ++ (x ∷ [])) ++ replicate (n - (i + 1)) z
put_next z x l n i e h =
    let m : n - i ≡ suc (n - (i + 1)) = omega arith in
    ap (λ (j : ℕ). set (l ++ replicate j z) i x) m
    ∙ (ap (λ (j : ℕ). set (l ++ replicate (suc (n - (i + 1))) z) j x) (sym e) ∙ set-end z x l (n - (i + 1)))

module _ {A B : Type 0} (f : A → B) (z : B) (old : List A) (n : ℕ) where
  -- the first places made from those of a list, zeros after them
  abbrev pub made_to : ℕ → List B
  made_to i = map f (take i old) ++ replicate (n - i) z

  pub made-next : (i : ℕ) (d : A) → i < length old → i < n → (array : List B) → array ≡ made_to i → (x : B) → x ≡ f (get_or old i d)
      → set array i x ≡ made_to (i + 1)
  made-next i d h k array e x q =
      let size : length (map f (take i old)) ≡ i = length-map (take i old) f ∙ omega (arith, length-take i old) in
      let more : map f (take (i + 1) old) ≡ map f (take i old) ++ (f (get_or old i d) ∷ []) =
      ap (λ (j : ℕ). map f (take j old)) (add-one i) ∙ (ap (map f) (take-suc old i d h) ∙ map-append f (take i old) (get_or old i d ∷ [])) in
      (λ t. set (e t) i (q t))
      ∙ (put_next z (f (get_or old i d)) (map f (take i old)) n i size k ∙ ap (λ (l : List B). l ++ replicate (n - (i + 1)) z) (sym more))

-- the first places of a list, zeros after them
pub copied-front : (old : List ℕ) (w n count : ℕ) {front : List ℕ} → front ≡ take n old → take n old ≡ take count old → n ≤ length old → n ≤ w
    → front ++ drop n (replicate w 0) ≡ filled w (take count old)
unfolding filled
copied-front old w n count e f h k =
    let size : length (take n old) ≡ n = omega (arith, length-take n old) in
    rw (e, drop-replicate)
    (ap (λ (j : ℕ). take n old ++ replicate (w - j) 0) (sym size) ∙ ap (λ (l : List ℕ). l ++ replicate (w - length l) 0) f)

-- the numbers of the variables
pub made-variable : {B : Type 0} (f : ℕ → B) (z : B) (v : ℕ) (array : List B) → array ≡ made_to f z variables 16 v → v < 16 → (x : B) → x ≡ f v
    → set array v x ≡ made_to f z variables 16 (v + 1)
made-variable f z v array e h x q = made-next f z variables 16 v 0 h h array e x (q ∙ ap f (sym (variable-at v h)))
  where
    variable-at : (v : ℕ) → v < 16 → get_or variables v 0 ≡ v
    variable-at v h = ap (λ (l : List ℕ). get_or l v 0) (sym (map-id variables)) ∙ at-variable (λ (w : ℕ). w) 0 v h

pub made-variables : {B : Type 0} (f : ℕ → B) (z : B) (v : ℕ) (array : List B) → array ≡ made_to f z variables 16 v → 16 ≤ v → v ≤ 16 → array ≡ map f variables
made-variables f z v array e h k = let q : v ≡ 16 = omega arith in e ∙ ap (made_to f z variables 16) q

-- as many as were asked for
pub made_all : {A B : Type 0} (f : A → B) (z : B) (old : List A) (n i count : ℕ) (array : List B) → array ≡ made_to f z old n i → i ≡ count → array ≡ made_to f z old n count
made_all f z old n i count array e q = e ∙ ap (made_to f z old n) q
