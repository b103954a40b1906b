-- A test of every element, from a place on: what a loop that makes it has still to do.
use Prim.Native.Nat.{ℕ, ◌+◌, ◌≤◌, ◌<◌}
use native.Mathlib.Numerals.{add-one}
use mathlib.Core.Path.{◌≡◌, ap, sym, ◌∙◌}
use mathlib.Core.List.{List}
use mathlib.Core.Bool.{Bool, true, false, ◌&&◌}
use lib.ListN.{length, get_or, drop, drop_of_length-le}
use lib.Seq.{drop-cons}
use Rattle.definitions.specs.Lists.{every}

module _ {A : Type 0} (p : A → Bool) (l : List A) (i : ℕ) (d : A) where
  here : i < length l → every p (drop i l) ≡ p (get_or l i d) && every p (drop (i + 1) l)
  here h =
      ap (every p) (drop-cons l i d h)
      ∙ ap (λ (n : ℕ). p (get_or l i d) && every p (drop n l)) (sym (add-one i))

  -- so far all have passed
  module _ (far : every p l ≡ every p (drop i l)) where
    -- the element passes too: the rest decides
    pub every-next : i < length l → p (get_or l i d) ≡ true → every p l ≡ every p (drop (i + 1) l)
    every-next h e = far ∙ (here h ∙ ap (λ (b : Bool). b && every p (drop (i + 1) l)) e)

    -- it does not: that decides
    pub every-stop : i < length l → p (get_or l i d) ≡ false → false ≡ every p l
    every-stop h e = sym (far ∙ (here h ∙ ap (λ (b : Bool). b && every p (drop (i + 1) l)) e))

    -- none is left
    pub every-none : length l ≤ i → true ≡ every p l
    every-none h = sym (far ∙ ap (every p) (drop_of_length-le l h))
