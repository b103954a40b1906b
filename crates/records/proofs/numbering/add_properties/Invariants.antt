use Prim.Native.Nat.{◌-◌}
use mathlib.Core.Path.{◌≡◌}
use Rattle.definitions.specs.Limits.{term_limit}
use lib.ListN.{length}
use Rattle.definitions.specs.Saved.{terms_in}
use Rattle.table.specs.Hashes.{Hashed}
use Rattle.table.specs.Table.{list_of}
use Rattle.records.proofs.NumberingLaws.{Adding}
use Rattle.records.proofs.numbering.add_properties.Given as goal

abbrev pub invariant-loop-at : goal.invariant-loop-at
invariant-loop-at l = Adding l.schema (list_of (terms_in l.initial.table)) l.table l.at l.used × (length l.hashes ≡ term_limit) × Hashed l.table l.used l.hashes

abbrev pub decreases-loop-at : goal.decreases-loop-at
decreases-loop-at l = length l.schema - l.at
