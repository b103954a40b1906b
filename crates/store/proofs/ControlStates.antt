-- What the operations on the saved control do to the control that it is of.
use Prim.Native.Nat.{ℕ, zero, suc, ◌-◌, ◌<◌}
use native.Mathlib.Omega.{arith}
use native.Mathlib.Numerals.{add-one}
use mathlib.Core.Path.{◌≡◌, refl, ap, sym, ◌∙◌}
use mathlib.Core.List.{List, [], ◌∷◌, ◌++◌, map}
use mathlib.Core.Bool.{Bool, true, false, cond}
use mathlib.Core.Option.{Option, some}
use lib.Dec.{eqb}
use lib.ListN.{length, set, get_or, replicate, length-append}
use Rattle.definitions.specs.Bytes.{filled}
use Rattle.definitions.specs.Tree.{Script}
use Rattle.definitions.specs.Scope.{variables}
use Rattle.definitions.specs.Evaluate.{Bindings}
use Rattle.definitions.specs.Machine.{Control, Item, fresh}
use Rattle.definitions.specs.Saved.{saved_item, saved_items, saved_control, zero_item, no_item, is_bound, number_or_zero, offset_of}
use Rattle.definitions.specs.declared.SavedControl.{SavedControl}
use Rattle.definitions.specs.declared.SavedItem.{SavedItem}
use Rattle.laws.proofs.Saved.{items-length}
use Rattle.laws.proofs.Fill.{set-end, set_back, get-last, set_last}
use Rattle.store.specs.Stack.{with_items, fresh_item, pushed, popped, replaced, top_of, bound_to}

-- ── the stack ───────────────────────────────────────────────────────────────────────────────

-- the items of the saved control: those of the stack from the bottom, and zeros
abbrev pub places : List Item → List SavedItem
places stack = saved_items stack ++ replicate (24 - length (saved_items stack)) zero_item

module _ (i : Item) (rest : List Item) (room : length rest < 24) where
  abbrev left : ℕ
  left = 24 - length (saved_items (i ∷ rest))

  one_less : 24 - length (saved_items rest) ≡ suc left
  unfolding saved_items
  one_less = let e = items-length rest in let f = length-append (saved_items rest) (saved_item i ∷ []) in omega arith

  places-push : places (i ∷ rest) ≡ set (places rest) (length rest) (saved_item i)
  unfolding saved_items
  places-push =
      sym (ap (λ n. set (saved_items rest ++ replicate n zero_item) (length rest) (saved_item i)) one_less
      ∙ (ap (λ n. set (saved_items rest ++ replicate (suc left) zero_item) n (saved_item i)) (sym (items-length rest))
      ∙ set-end zero_item (saved_item i) (saved_items rest) left))

  pub places-pop : places rest ≡ set (places (i ∷ rest)) (length rest) zero_item
  unfolding saved_items
  places-pop =
      ap (λ n. saved_items rest ++ replicate n zero_item) one_less
      ∙ (sym (set_back zero_item (saved_item i) (saved_items rest) left)
      ∙ ap (λ n. set (places (i ∷ rest)) n zero_item) (items-length rest))

  pub places-top : get_or (places (i ∷ rest)) (length rest) no_item ≡ saved_item i
  unfolding saved_items
  places-top =
      ap (λ n. get_or (places (i ∷ rest)) n no_item) (sym (items-length rest))
      ∙ get-last zero_item (saved_item i) (saved_items rest) (replicate left zero_item) no_item

  pub places-replace : (j : Item) → places (j ∷ rest) ≡ set (places (i ∷ rest)) (length rest) (saved_item j)
  unfolding saved_items
  places-replace j =
      let same : length (saved_items rest ++ (saved_item j ∷ [])) ≡ length (saved_items rest ++ (saved_item i ∷ [])) =
      simp length-append in
      ap (λ n. (saved_items rest ++ (saved_item j ∷ [])) ++ replicate (24 - n) zero_item) same
      ∙ (sym (set_last zero_item (saved_item i) (saved_item j) (saved_items rest) (replicate left zero_item))
      ∙ ap (λ n. set (places (i ∷ rest)) n (saved_item j)) (items-length rest))

-- the operations on the saved control
module _ (types : List ℕ) (β : Bindings) (i : Item) (rest : List Item) (room : length rest < 24) where
  -- of a stack, with the bindings
  abbrev saved : List Item → SavedControl
  saved stack = saved_control types (record { stack = stack; bindings = β })

  pub saved-push : pushed (saved rest) (saved_item i) ≡ saved (i ∷ rest)
  unfolding saved_control
  saved-push = λ k. with_items (saved rest) (add-one (length rest) k) (sym (places-push i rest room) k)

  pub saved-pop : popped (saved (i ∷ rest)) ≡ saved rest
  unfolding saved_control filled
  saved-pop =
      let e : suc (length rest) - 1 ≡ length rest = omega arith in
      λ k. with_items (saved rest) (e k) ((ap (λ n. set (places (i ∷ rest)) n zero_item) e ∙ sym (places-pop i rest room)) k)

  pub saved-top : top_of (saved (i ∷ rest)) ≡ saved_item i
  unfolding saved_control
  saved-top =
      let e : suc (length rest) - 1 ≡ length rest = omega arith in
      ap (λ n. get_or (places (i ∷ rest)) n no_item) e ∙ places-top i rest room

  pub saved-replace : (j : Item) → replaced (saved (i ∷ rest)) (saved_item j) ≡ saved (j ∷ rest)
  unfolding saved_control
  saved-replace j =
      let e : suc (length rest) - 1 ≡ length rest = omega arith in
      λ k. with_items (saved (j ∷ rest)) (suc (length rest))
      ((ap (λ n. set (places (i ∷ rest)) n (saved_item j)) e ∙ sym (places-replace i rest room j)) k)

-- a fresh item as the code writes it
pub fresh-is : (c : Script) → saved_item (fresh c) ≡ fresh_item (offset_of c)
unfolding saved_item filled
fresh-is c = refl

-- ── bindings ────────────────────────────────────────────────────────────────────────────────

-- what holds of each of the 16 variables
by-variable : (P : ℕ → Type 0)
    → P 0 → P 1 → P 2 → P 3 → P 4 → P 5 → P 6 → P 7 → P 8 → P 9 → P 10 → P 11 → P 12 → P 13 → P 14 → P 15
    → (v : ℕ) → v < 16 → P v
by-variable P a b c d e f g h i j k l m n o p zero r = a
by-variable P a b c d e f g h i j k l m n o p (suc zero) r = b
by-variable P a b c d e f g h i j k l m n o p (suc (suc v)) r = go v (omega arith)
  where
    go : (v : ℕ) → v < 14 → P (suc (suc v))
    go zero r = c
    go (suc zero) r = d
    go (suc (suc zero)) r = e
    go (suc (suc (suc zero))) r = f
    go (suc (suc (suc (suc zero)))) r = g
    go (suc (suc (suc (suc (suc zero))))) r = h
    go (suc (suc (suc (suc (suc (suc zero)))))) r = i
    go (suc (suc (suc (suc (suc (suc (suc zero))))))) r = j
    go (suc (suc (suc (suc (suc (suc (suc (suc zero)))))))) r = k
    go (suc (suc (suc (suc (suc (suc (suc (suc (suc zero))))))))) r = l
    go (suc (suc (suc (suc (suc (suc (suc (suc (suc (suc zero)))))))))) r = m
    go (suc (suc (suc (suc (suc (suc (suc (suc (suc (suc (suc zero))))))))))) r = n
    go (suc (suc (suc (suc (suc (suc (suc (suc (suc (suc (suc (suc zero)))))))))))) r = o
    go (suc (suc (suc (suc (suc (suc (suc (suc (suc (suc (suc (suc (suc zero))))))))))))) r = p
    go (suc (suc (suc (suc (suc (suc (suc (suc (suc (suc (suc (suc (suc (suc v)))))))))))))) r = absurd (omega arith)

-- one variable's number set in the list of all
set-variable : {A : Type 0} (f : ℕ → A) (x : A) (v : ℕ) → v < 16 → set (map f variables) v x ≡ map (λ w. cond (eqb w v) x (f w)) variables
set-variable f x v r =
    by-variable (λ v. set (map f variables) v x ≡ map (λ w. cond (eqb w v) x (f w)) variables)
    refl refl refl refl refl refl refl refl refl refl refl refl refl refl refl refl v r

-- one variable bound, the others staying
abbrev pub bind_one : ℕ → ℕ → Bindings → Bindings
bind_one v i β = λ x. cond (eqb x v) (some i) (β x)

abbrev pub with_bindings : Control → Bindings → Control
with_bindings c β = record { stack = c.stack; bindings = β }

bound-cond : (b : Bool) (i : ℕ) (o : Option ℕ) → is_bound (cond b (some i) o) ≡ cond b true (is_bound o)
bound-cond true i o = refl
bound-cond false i o = refl

number-cond : (b : Bool) (i : ℕ) (o : Option ℕ) → number_or_zero (cond b (some i) o) ≡ cond b i (number_or_zero o)
number-cond true i o = refl
number-cond false i o = refl

map_same : {A B : Type 0} (f g : A → B) → ((a : A) → f a ≡ g a) → (l : List A) → map f l ≡ map g l
map_same f g h [] = refl
map_same f g h (a ∷ l) = λ k. h a k ∷ map_same f g h l k

pub saved-bind : (types : List ℕ) (c : Control) (v i : ℕ) → v < 16
    → bound_to (saved_control types c) v i ≡ saved_control types (with_bindings c (bind_one v i c.bindings))
unfolding saved_control
saved-bind types c v i r =
    let β = c.bindings in
    let bounds = set-variable (λ w. is_bound (β w)) true v r
    ∙ map_same _ (λ w. is_bound (bind_one v i β w)) (λ w. sym (bound-cond (eqb w v) i (β w))) variables in
    let numbers = set-variable (λ w. number_or_zero (β w)) i v r
    ∙ map_same _ (λ w. number_or_zero (bind_one v i β w)) (λ w. sym (number-cond (eqb w v) i (β w))) variables in
    λ k. record { height = length c.stack; types = types; bound = bounds k; bindings = numbers k; items = places c.stack }
