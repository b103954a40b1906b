-- Loops that look through a list: what is asked of the rest is what is asked of the whole.
use Prim.Native.Nat.{ℕ, ◌+◌, ◌-◌, ◌≤◌, ◌<◌}
use native.Mathlib.Omega.{arith}
use native.Mathlib.Numerals.{add-one}
use mathlib.Core.Path.{◌≡◌, refl, ap, sym, ◌∙◌}
use mathlib.Core.List.{List, [], ◌∷◌}
use mathlib.Core.Bool.{Bool, true, false, not, ◌&&◌}
use lib.ListN.{length, get_or, take, drop, length-drop, drop_of_length-le}
use lib.Seq.{drop-cons, take_all}
use Rattle.definitions.specs.Lists.{every, some?, distinct}
use Rattle.std.specs.List.{list_all}
use Rattle.table.proofs.CountLaws.{none_of}

-- std's word for the same test
pub all-every : {A : Type 0} (p : A → Bool) (l : List A) → list_all p l ≡ every p l
all-every p [] = refl
all-every p (x ∷ l) = ap (λ (b : Bool). p x && b) (all-every p l)

-- all are different; the rest is looked through as the code hands it on, `&l[i + 1..]`
module _ {A : Type 0} (same : A → A → Bool) (l : List A) (i : ℕ) (d : A) (far : distinct same l ≡ distinct same (drop i l)) where
  pub distinct_none : length l ≤ i → true ≡ distinct same l
  distinct_none h = sym (far ∙ ap (distinct same) (drop_of_length-le l h))

  module _ (h : i < length l) {b : Bool} (e : b ≡ some? (same (get_or l i d)) (take (length l - (i + 1)) (drop (i + 1) l))) where
    again : some? (same (get_or l i d)) (drop (i + 1) l) ≡ b
    again = sym (e ∙ ap (some? (same (get_or l i d))) (take_all (length l - (i + 1)) (drop (i + 1) l) (omega (arith, length-drop (i + 1) l))))

    distinct_from : distinct same (drop i l) ≡ not b && distinct same (drop (i + 1) l)
    distinct_from =
        ap (distinct same) (drop-cons l i d h)
        ∙ ap (λ (n : ℕ). every (λ y. not (same (get_or l i d) y)) (drop n l) && distinct same (drop n l)) (sym (add-one i))
        ∙ ap (λ (c : Bool). c && distinct same (drop (i + 1) l)) (none_of (same (get_or l i d)) (drop (i + 1) l) ∙ ap not again)

    pub distinct-next : b ≡ false → distinct same l ≡ distinct same (drop (i + 1) l)
    distinct-next q = far ∙ (distinct_from ∙ ap (λ (c : Bool). not c && distinct same (drop (i + 1) l)) q)

    pub distinct-stop : b ≡ true → false ≡ distinct same l
    distinct-stop q = sym (far ∙ (distinct_from ∙ ap (λ (c : Bool). not c && distinct same (drop (i + 1) l)) q))
