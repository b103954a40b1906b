-- Laws of a number's place in a list: looked for one by one and by blocks, and what goes over from one place to the next.
use Prim.Native.Nat.{ℕ, zero, suc, ◌+◌, ◌-◌, ◌≤◌, ◌<◌}
use native.Mathlib.Omega.{arith}
use mathlib.Core.Bool.{Bool, true, false, cond, not, ◌||◌}
use mathlib.Core.List.{List, [], ◌∷◌, ◌++◌}
use mathlib.Core.Path.{◌≡◌, refl, sym, ap, ◌∙◌, subst}
use lib.Dec.{eqb}
use lib.ListN.{length, get_or, drop, length-drop, take-append-drop}
use lib.Seq.{drop-drop, length-take-le, get_or-drop}
use borrow.Author.Tests.{eqb-false, eqb-true, eq-eqb, ne_eqb, lt-ltb, le-ltb}
use Rattle.definitions.specs.Lists.{is_in}
use Rattle.definitions.specs.Bytes.{part}
use Rattle.laws.proofs.Tests.{true_is}
use Rattle.table.specs.Hashes.{below, place_in, NoneWith, FirstWith}
use Rattle.laws.proofs.Ranges.{split}
use Rattle.std.specs.Prelude.{Some, None, position}
use Rattle.std.specs.List.{position_or_len}
use Rattle.std.specs.Option.{is_some}
use Rattle.laws.proofs.TestEquations.{eqb_swap}
use Rattle.std.specs.declared.option.Option as Answer
use mathlib.Core.Logic.{◌⊎◌, inl, inr, ⊎_elim}
use Rattle.fields.proofs.PartLaws.{some-part, rest_part}

-- ── a place in a list ───────────────────────────────────────────────────────────────────────

place_is : (x y : ℕ) (ys : List ℕ) → y ≡ x → place_in x (y ∷ ys) ≡ 0
unfolding place_in
place_is x y ys e = rw (eq-eqb x y (sym e))

place-not : (x y : ℕ) (ys : List ℕ) → (y ≡ x → ⊥) → place_in x (y ∷ ys) ≡ 1 + place_in x ys
unfolding place_in
place-not x y ys d = rw (ne_eqb x y (λ e. d (sym e)))

pub place-most : (x : ℕ) (xs : List ℕ) → place_in x xs ≤ length xs
unfolding place_in
place-most x [] = omega arith
place-most x (y ∷ ys) = go (eqb x y) (place-most x ys)
  where
    go : (b : Bool) → place_in x ys ≤ length ys → cond b 0 (1 + place_in x ys) ≤ suc (length ys)
    go true l = omega arith
    go false l = omega arith

place-before : (x : ℕ) (xs ys : List ℕ) → is_in x xs ≡ true → place_in x (xs ++ ys) ≡ place_in x xs
unfolding place_in
place-before x [] ys e = absurd (true_is false e)
place-before x (y ∷ xs) ys e = go (eqb x y) e (place-before x xs ys)
  where
    go : (b : Bool) → (b || is_in x xs) ≡ true → (is_in x xs ≡ true → place_in x (xs ++ ys) ≡ place_in x xs)
        → cond b 0 (1 + place_in x (xs ++ ys)) ≡ cond b 0 (1 + place_in x xs)
    go true e later = refl
    go false e later = ap (λ (n : ℕ). 1 + n) (later e)

place_after : (x : ℕ) (xs ys : List ℕ) → is_in x xs ≡ false → place_in x (xs ++ ys) ≡ length xs + place_in x ys
unfolding place_in
place_after x [] ys e = omega arith
place_after x (y ∷ xs) ys e = go (eqb x y) e (place_after x xs ys)
  where
    go : (b : Bool) → (b || is_in x xs) ≡ false → (is_in x xs ≡ false → place_in x (xs ++ ys) ≡ length xs + place_in x ys)
        → cond b 0 (1 + place_in x (xs ++ ys)) ≡ suc (length xs) + place_in x ys
    go true e later = absurd (true_is false (sym e))
    go false e later = omega (arith, later e)

-- what stands at a place, and what stands before it
pub place-get : (x : ℕ) (xs : List ℕ) → place_in x xs < length xs → get_or xs (place_in x xs) 0 ≡ x
unfolding place_in
place-get x [] h = absurd (omega arith)
place-get x (y ∷ ys) h = go (eqb x y) refl h (place-get x ys)
  where
    go : (b : Bool) → eqb x y ≡ b → cond b 0 (1 + place_in x ys) < suc (length ys) → (place_in x ys < length ys → get_or ys (place_in x ys) 0 ≡ x)
        → get_or (y ∷ ys) (cond b 0 (1 + place_in x ys)) 0 ≡ x
    go true e l later = sym (eqb-true x y e)
    go false e l later = let q : 1 + place_in x ys ≡ suc (place_in x ys) = omega arith in rw q (later (omega arith))

pub place-other : (x : ℕ) (xs : List ℕ) (j : ℕ) → j < place_in x xs → get_or xs j 0 ≡ x → ⊥
unfolding place_in
place-other x [] j h e = omega arith
place-other x (y ∷ ys) j h e = go (eqb x y) refl j h e (place-other x ys)
  where
    go : (b : Bool) → eqb x y ≡ b → (j : ℕ) → j < cond b 0 (1 + place_in x ys) → get_or (y ∷ ys) j 0 ≡ x
        → ((j : ℕ) → j < place_in x ys → get_or ys j 0 ≡ x → ⊥) → ⊥
    go true q j h e later = omega arith
    go false q zero h e later = eqb-false x y q (sym e)
    go false q (suc j) h e later = later j (omega arith) e

-- a number below a bound
module _ (n i : ℕ) where
  pub below-some : i < n → below n i ≡ Some i
  unfolding below
  below-some h = rw (lt-ltb i n h)

  pub below-none : n ≤ i → below n i ≡ None
  unfolding below
  below-none h = rw (le-ltb i n h)

  module _ {r : Answer.Option ℕ} (e : r ≡ below n i) where
    pub below-is : {k : ℕ} → r ≡ Some k → (k ≡ i) × (i < n)
    below-is {k} q = go (split n i)
      where
        go : (n ≤ i) ⊎ (i < n) → (k ≡ i) × (i < n)
        go (inl h) = let x = below-none h in absurd (let z : ◌≡◌ {A = ℕ} 0 1 = cc in omega arith)
        go (inr h) = let x = below-some h in let z : k ≡ i = cc in (z, h)

    pub below-not : r ≡ None → n ≤ i
    below-not q = go (split n i)
      where
        go : (n ≤ i) ⊎ (i < n) → n ≤ i
        go (inl h) = h
        go (inr h) = let x = below-some h in absurd (let z : ◌≡◌ {A = ℕ} 0 1 = cc in omega arith)

    -- as `is_some` says it
    pub below-there : {b : Bool} → b ≡ is_some r → b ≡ true → i < n
    below-there {b} f t = go (split n i)
      where
        go : (n ≤ i) ⊎ (i < n) → i < n
        go (inl h) = absurd (true_is false (sym (f ∙ ap is_some (e ∙ below-none h)) ∙ t))
        go (inr h) = h

    pub below-gone : {b : Bool} → b ≡ is_some r → b ≡ false → n ≤ i
    below-gone {b} f t = go (split n i)
      where
        go : (n ≤ i) ⊎ (i < n) → n ≤ i
        go (inl h) = h
        go (inr h) = absurd (true_is false (sym t ∙ f ∙ ap is_some (e ∙ below-some h)))

-- a number that is in a list has a place there
pub place-inside : (x : ℕ) (xs : List ℕ) → is_in x xs ≡ true → place_in x xs < length xs
unfolding place_in
place-inside x [] e = absurd (true_is false e)
place-inside x (y ∷ ys) e = go (eqb x y) e (place-inside x ys)
  where
    go : (b : Bool) → (b || is_in x ys) ≡ true → (is_in x ys ≡ true → place_in x ys < length ys) → cond b 0 (1 + place_in x ys) < suc (length ys)
    go true e later = omega arith
    go false e later = omega (arith, later e)

-- as `position` says it
place-position : (x : ℕ) (xs : List ℕ) → position_or_len (λ y. eqb y x) xs ≡ place_in x xs
unfolding place_in
place-position x [] = refl
place-position x (y ∷ ys) = rw (eqb_swap y x) (go (eqb x y) (place-position x ys))
  where
    go : (b : Bool) → position_or_len (λ y. eqb y x) ys ≡ place_in x ys → cond (not b) (1 + position_or_len (λ y. eqb y x) ys) 0 ≡ cond b 0 (1 + place_in x ys)
    go true e = refl
    go false e = ap (λ (n : ℕ). 1 + n) e

pub position_is : (x : ℕ) (xs : List ℕ) → position (λ y. eqb y x) xs ≡ below (length xs) (place_in x xs)
unfolding below
position_is x xs = rw (place-position x xs)

-- ── a place looked for ──────────────────────────────────────────────────────────────────────

module _ (list : List ℕ) (x i : ℕ) (far : place_in x list ≡ i + place_in x (drop i list)) where
  pub place_end : length list ≤ i → None ≡ below (length list) (place_in x list)
  place_end h = sym (below-none (length list) (place_in x list) (omega (arith, far)))

  -- a block, as the code hands it on
  module _ (k : ℕ) {r : Bool} (e : r ≡ is_in x (part list i (i + k - i))) where
    whole : place_in x (drop i list) ≡ place_in x (part list i k ++ drop k (drop i list))
    whole = ap (place_in x) (sym (take-append-drop k (drop i list)))

    block : r ≡ is_in x (part list i k)
    block = e ∙ ap (is_in x) (some-part list i k)

    pub block_here : r ≡ true → place_in x list ≡ i + place_in x (part list i (i + k - i))
    block_here q = omega (arith, far, whole, ap (place_in x) (some-part list i k), place-before x (part list i k) (drop k (drop i list)) (sym block ∙ q))

    pub block-next : i + k ≤ length list → r ≡ false → place_in x list ≡ i + k + place_in x (drop (i + k) list)
    block-next l q =
        let n = length-take-le k (drop i list) (omega (arith, length-drop i list)) in
        omega (arith, far, whole, n, place_after x (part list i k) (drop k (drop i list)) (sym block ∙ q), ap (place_in x) (drop-drop k i list))

-- ── the first number that has a hash and passes a test ──────────────────────────────────────

-- what the code finds in the rest of a list
module _ (xs : List ℕ) (x from : ℕ) (l : from ≤ length xs) {r : Answer.Option ℕ}
    (e : r ≡ below (length (part xs from (length xs - from))) (place_in x (part xs from (length xs - from)))) where
  rest : r ≡ below (length (drop from xs)) (place_in x (drop from xs))
  rest = rw (rest_part xs from) at e

  rest-long : length (drop from xs) ≡ length xs - from
  rest-long = length-drop from xs

  module _ {k : ℕ} (q : r ≡ Some k) where
    is : (k ≡ place_in x (drop from xs)) × (place_in x (drop from xs) < length (drop from xs))
    is = below-is (length (drop from xs)) (place_in x (drop from xs)) rest q

    pub rest-inside : from + k < length xs
    rest-inside = omega (arith, is.0, is.1, rest-long)

    pub rest-here : get_or xs (from + k) 0 ≡ x
    rest-here = sym (get_or-drop from xs k 0) ∙ ap (λ (k : ℕ). get_or (drop from xs) k 0) is.0 ∙ place-get x (drop from xs) is.1

    pub rest-before : (j : ℕ) → from ≤ j → j < from + k → get_or xs j 0 ≡ x → ⊥
    rest-before j a b h =
        let at : from + (j - from) ≡ j = omega arith in
        place-other x (drop from xs) (j - from) (omega (arith, is.0)) (get_or-drop from xs (j - from) 0 ∙ ap (λ (k : ℕ). get_or xs k 0) at ∙ h)

  pub rest-none : r ≡ None → (j : ℕ) → from ≤ j → j < length xs → get_or xs j 0 ≡ x → ⊥
  rest-none q j a b h =
      let at : from + (j - from) ≡ j = omega arith in
      place-other x (drop from xs) (j - from) (omega (arith, below-not (length (drop from xs)) (place_in x (drop from xs)) rest q, rest-long))
      (get_or-drop from xs (j - from) 0 ∙ ap (λ (k : ℕ). get_or xs k 0) at ∙ h)

module _ (Test : ℕ → Bool → Type 0) (hashes : List ℕ) (hash from : ℕ) where
  pub none-to : (i to : ℕ) → NoneWith Test hashes hash from i → ((j : ℕ) → i ≤ j → j < to → get_or hashes j 0 ≡ hash → ⊥) → NoneWith Test hashes hash from to
  none-to i to h d j a b e = ⊎_elim (λ l. absurd (d j l b e)) (λ l. h j a l e) (split i j)

  pub none-over : (i to : ℕ) → NoneWith Test hashes hash from i → ((j : ℕ) → i ≤ j → j < to → get_or hashes j 0 ≡ hash → ⊥) → Test to false → NoneWith Test hashes hash from (to + 1)
  none-over i to h d t j a b e =
      ⊎_elim (λ l. let q : to ≡ j = omega arith in subst (λ (j : ℕ). Test j false) q t) (λ l. none-to i to h d j a l e) (split to j)

  pub first-some : (i : ℕ) → from ≤ i → i < length hashes → get_or hashes i 0 ≡ hash → Test i true → NoneWith Test hashes hash from i → FirstWith Test hashes hash from (Some i)
  first-some i a b c d e =
      record {
        some = λ k q. let p : i ≡ k = cc in
            subst (λ (k : ℕ). (from ≤ k) × (k < length hashes) × (get_or hashes k 0 ≡ hash) × Test k true × NoneWith Test hashes hash from k) p (a, b, c, d, e);
        none = λ q. absurd (let z : ◌≡◌ {A = ℕ} 0 1 = cc in omega arith);
      }

  pub first-none : NoneWith Test hashes hash from (length hashes) → FirstWith Test hashes hash from None
  first-none h = record { some = λ k q. absurd (let z : ◌≡◌ {A = ℕ} 0 1 = cc in omega arith); none = λ q. h }

-- what goes over each number before
pub carried : (P : ℕ → Type 0) (from k : ℕ) → ((j : ℕ) → from ≤ j → j < from + k → P j → P (j + 1)) → P from → P (from + k)
carried P from zero step p = subst P (omega arith) p
carried P from (suc k) step p =
    subst P (omega arith) (step (from + k) (omega arith) (omega arith) (carried P from k (λ j a b. step j a (omega arith)) p))
