use Rattle.std.proofs.Common.{◌≢◌, ℕ, ◌≤◌, ◌<◌, slice_index}
use Rattle.cases.proofs.rows.find.Given as goal

abbrev pub invariant-loop-i : goal.invariant-loop-i
invariant-loop-i l = (k : ℕ) → l.at ≤ k → k < l.i → slice_index l.rows k ≢ l.ending
