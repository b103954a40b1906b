use Prim.Native.Nat.{◌≤◌}
use Rattle.search.proofs.find.hopeful.Given as goal

abbrev pub invariant-loop-j : goal.invariant-loop-j
invariant-loop-j l = l.from ≤ l.j
