use mathlib.Core.Path.{◌≡◌}
use lib.ListN.{length}
use Rattle.definitions.specs.Limits.{term_limit}
use Rattle.table.specs.Hashes.{Hashed}
use Rattle.table.proofs.hashes.hash_slots.Given as goal

abbrev pub invariant-loop-i : goal.invariant-loop-i
invariant-loop-i l = (length l.hashes ≡ term_limit) × Hashed l.table l.i l.hashes
