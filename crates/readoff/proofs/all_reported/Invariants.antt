use Prim.Native.Nat.{ℕ, ◌≤◌, ◌<◌, ◌-◌}
use mathlib.Core.Path.{◌≡◌}
use lib.ListN.{length, get_or}
use Rattle.definitions.specs.Limits.{variable_limit}
use Rattle.facts.specs.Codes.{all_written}
use Rattle.facts.specs.Answers.{reported_at}
use Rattle.readoff.proofs.all_reported.Given as goal

abbrev pub invariant-loop-x : goal.invariant-loop-x
invariant-loop-x l = (length l.types ≡ variable_limit) × ((k : ℕ) → k < l.x → get_or l.types k 0 ≡ reported_at l.t (all_written l.written) k)
