use Prim.Native.Nat.{◌-◌}
use mathlib.Core.Path.{◌≡◌}
use lib.ListN.{length}
use Rattle.laws.specs.Ends.{after_in, after_all, end_at}
use Rattle.ends.proofs.end_at.Given as goal

abbrev pub invariant-loop-child : goal.invariant-loop-child
invariant-loop-child l = end_at l.script l.ends l.at ≡ after_all (after_in l.ends (length l.script)) (l._child-end - l._child) l.end
