-- The tables of and and or, a row or a column at a time.
use mathlib.Core.Path.{◌≡◌, refl}
use mathlib.Core.Bool.{Bool, true, false, ◌&&◌, ◌||◌, not}
use Rattle.definitions.specs.Truth.{truth_of, not_truth, and_truth, or_truth, is_true}
use Rattle.definitions.specs.declared.Truth.{Truth}
use Rattle.definitions.specs.declared.Truth.TheVariants.{True, False, Unknown}

pub true-and : (b : Truth) → and_truth True b ≡ b
unfolding and_truth
true-and True = refl
true-and False = refl
true-and Unknown = refl

pub false-and : (b : Truth) → and_truth False b ≡ False
unfolding and_truth
false-and True = refl
false-and False = refl
false-and Unknown = refl

pub true-or : (b : Truth) → or_truth True b ≡ True
unfolding or_truth
true-or True = refl
true-or False = refl
true-or Unknown = refl

pub false-or : (b : Truth) → or_truth False b ≡ b
unfolding or_truth
false-or True = refl
false-or False = refl
false-or Unknown = refl

-- where nothing is unknown they are document 01's
pub or-decided : (a b : Bool) → or_truth (truth_of a) (truth_of b) ≡ truth_of (a || b)
unfolding or_truth
or-decided true true = refl
or-decided true false = refl
or-decided false true = refl
or-decided false false = refl

pub and-decided : (a b : Bool) → and_truth (truth_of a) (truth_of b) ≡ truth_of (a && b)
unfolding and_truth
and-decided true true = refl
and-decided true false = refl
and-decided false true = refl
and-decided false false = refl

pub not-decided : (a : Bool) → not_truth (truth_of a) ≡ truth_of (not a)
unfolding not_truth
not-decided true = refl
not-decided false = refl

pub decided-true : (a : Bool) → is_true (truth_of a) ≡ a
unfolding is_true
decided-true true = refl
decided-true false = refl
