-- By the cases of a test of a call: it refuses, or the rest follows.
use Rattle.definitions.specs.declared.Refusal.{Refusal}
use Prim.Native.Nat.{ℕ}
use mathlib.Core.Bool.{Bool, true, false}
use Rattle.definitions.specs.Result.{Result, refused, ◌>>◌, require}

pub by-require : {A : Type 0} (P : Result A → Type 0) (n : Refusal) (t : Bool) (rest : Result A) → P (refused n) → P rest → P (require n t >> rest)
unfolding ◌>>◌ require
by-require P n true rest h k = k
by-require P n false rest h k = h
