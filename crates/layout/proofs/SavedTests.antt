-- The tests that a saved run's bytes have to pass, one after the other.
use Prim.Native.Nat.{ℕ, ◌≤◌, ◌<◌}
use mathlib.Core.Path.{◌≡◌, refl, ap, sym, ◌∙◌}
use mathlib.Core.List.{List, [], ◌∷◌}
use mathlib.Core.Bool.{Bool, true, false, ◌&&◌}
use mathlib.Core.Option.{none, some}
use lib.Dec.{leb}
use borrow.Author.Tests.{le-leb, lt-leb}
use Rattle.std.specs.List.{list_all}
use Rattle.definitions.specs.Limits.{variable_limit, depth_limit}
use Rattle.definitions.specs.Lists.{every}
use Rattle.definitions.specs.Bytes.{word, part, provided}
use Rattle.definitions.specs.Limits.{bound_offset, items_offset}
use Rattle.definitions.specs.Exports.{items_good, saved_from}
use Rattle.definitions.specs.declared.SavedRun.{SavedRun}
use Rattle.layout.specs.ReadSaved.{control_in, store_in}

-- std's word for a test of each element is the definitions'
pub all-every : {A : Type 0} (p : A → Bool) (l : List A) → list_all p l ≡ every p l
all-every p [] = refl
all-every p (x ∷ l) = ap (λ (b : Bool). p x && b) (all-every p l)

module _ (b : List ℕ) (height : ℕ) (e : height ≡ word b 0) where
  abbrev pub whole : SavedRun
  whole = record { control = control_in b; store = store_in b }

  abbrev pub marks_good : Bool
  marks_good = every (λ m. leb m 1) (part b bound_offset variable_limit)

  tests : saved_from b ≡ provided (leb height depth_limit && (marks_good && items_good height b items_offset)) (some whole)
  unfolding saved_from
  tests = ap (λ (n : ℕ). provided (leb n depth_limit && (marks_good && items_good n b items_offset)) (some whole)) (sym e)

  pub too-high : depth_limit < height → saved_from b ≡ none
  unfolding provided
  too-high h = tests ∙ rw (lt-leb height depth_limit h)

  module _ (low : height ≤ depth_limit) where
    pub bad-marks : marks_good ≡ false → saved_from b ≡ none
    unfolding provided
    bad-marks m = tests ∙ rw (le-leb height depth_limit low, m)

    pub bad-items : marks_good ≡ true → items_good height b items_offset ≡ false → saved_from b ≡ none
    unfolding provided
    bad-items m i = tests ∙ rw (le-leb height depth_limit low, m, i)

    pub all-good : marks_good ≡ true → items_good height b items_offset ≡ true → saved_from b ≡ some whole
    unfolding provided
    all-good m i = tests ∙ rw (le-leb height depth_limit low, m, i)
