use mathlib.Core.Path.{◌≡◌}
use lib.ListN.{length}
use Rattle.records.proofs.EntryLaws.{HashedTo}
use Rattle.definitions.specs.Limits.{entry_limit}
use Rattle.records.proofs.schema.hash_entries.Given as goal

abbrev pub invariant-loop-i : goal.invariant-loop-i
invariant-loop-i l = (length l.hashes ≡ entry_limit) × HashedTo l.schema l.i l.hashes
