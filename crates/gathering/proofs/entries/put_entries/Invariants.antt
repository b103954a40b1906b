use mathlib.Core.List.{List}
use mathlib.Core.Path.{◌≡◌}
use lib.ListN.{length}
use Rattle.definitions.specs.Limits.{schema_width}
use Rattle.definitions.specs.Gathering.{Asking}
use Rattle.subjects.specs.Noted.{Noted}
use Rattle.gathering.proofs.EntryLaws.{Putting}
use Rattle.gathering.proofs.entries.put_entries.Given as goal

abbrev pub invariant-loop-i : goal.invariant-loop-i
invariant-loop-i l =
    (length l.schema ≡ schema_width) × ((all : List Asking) → Noted l.page all l.subjects → Putting l.page all l.subjects l.initial.schema l.schema l.at l.i)
