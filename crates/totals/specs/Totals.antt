-- The total of a script, where there is one.
use Rattle.std.specs.Prelude.{ℕ}
use Rattle.std.proofs.Math.Option.{Option, none, some}
use Rattle.definitions.specs.Tree.{Script}
use Rattle.definitions.specs.Total.{total_of}

unfoldable pub total_in : Option Script → ℕ
total_in none = 0
total_in (some root) = total_of root
