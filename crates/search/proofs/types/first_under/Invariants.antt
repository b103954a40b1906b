use mathlib.Core.Path.{◌≡◌}
use Prim.Native.Nat.{◌-◌}
use Rattle.search.specs.Finding.{skip_under}
use Rattle.search.proofs.types.first_under.Given as goal

abbrev pub invariant-loop-i : goal.invariant-loop-i
invariant-loop-i l = skip_under l.leasts l.below (l.count - l.from) l.from ≡ skip_under l.leasts l.below (l.count - l.i) l.i
