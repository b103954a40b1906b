-- Flags for the variables that stand in a record.
use Rattle.std.specs.Prelude.{ℕ, Bool, false, not, ◌&&◌, ◌||◌, List, map, replicate}
use Rattle.std.proofs.Math.Option.{none, some}
use Rattle.definitions.specs.Limits.{variable_limit}
use Rattle.definitions.specs.Bytes.{Got}
use Rattle.definitions.specs.Tree.{Script}
use Rattle.definitions.specs.Scope.{variables, is_free}
use Rattle.laws.specs.Lists.{flag}

-- those flagged already, and those that pass a test and are not hidden
unfoldable pub with_uses : (hidden flags : List Bool) → (ℕ → Bool) → List Bool
with_uses hidden flags test = map (λ v. flag flags v || (not (flag hidden v) && test v)) variables

-- the variables free in what was read
unfoldable pub free_in : Got Script → List Bool
free_in none = replicate variable_limit false
free_in (some p) = map (λ v. is_free v p.0) variables
