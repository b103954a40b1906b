-- No refusal's number is 0, so a call that is answered with 0 is not refused.
use Prim.Native.Nat.{◌≤◌}
use native.Mathlib.Omega.{arith}
use Rattle.definitions.specs.Result.{Result, refused, passed}
use Rattle.definitions.specs.Numbers.{refusal_number}
use Rattle.definitions.specs.declared.Refusal.{Refusal}
use Rattle.definitions.specs.declared.Refusal.TheVariants as Refusals

pub number-not-zero : (r : Refusal) → 1 ≤ refusal_number r
number-not-zero Refusals.WrongLength = omega arith
number-not-zero Refusals.BadTerm = omega arith
number-not-zero Refusals.TermTwice = omega arith
number-not-zero Refusals.BadEntry = omega arith
number-not-zero Refusals.PropertyTwice = omega arith
number-not-zero Refusals.BadScript = omega arith
number-not-zero Refusals.OutOfScope = omega arith
number-not-zero Refusals.NoTyping = omega arith
number-not-zero Refusals.NoGreatest = omega arith
number-not-zero Refusals.Unsound = omega arith
number-not-zero Refusals.BadRun = omega arith
number-not-zero Refusals.NoGraph = omega arith
number-not-zero Refusals.BadPage = omega arith
number-not-zero Refusals.NoRoom = omega arith
number-not-zero Refusals.BadNumberText = omega arith
number-not-zero Refusals.NoSuchNumber = omega arith
number-not-zero Refusals.TooManyEntries = omega arith
number-not-zero Refusals.BadRanks = omega arith
number-not-zero Refusals.NotFetched = omega arith
number-not-zero Refusals.ShortBuffer = omega arith

abbrev pub NotZero : {A : Type 0} → Result A → Type 0
NotZero (refused r) = 1 ≤ refusal_number r
NotZero (passed a) = Unit {0}

-- of any tests: those of a card, of a call, of a part of them
pub not-zero : {A : Type 0} (m : Result A) → NotZero m
not-zero (refused r) = number-not-zero r
not-zero (passed a) = tt
