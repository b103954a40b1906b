use Prim.Native.Nat.{◌≤◌, ◌*◌, ◌-◌}
use mathlib.Core.Path.{◌≡◌}
use lib.ListN.{length}
use Rattle.definitions.specs.Limits.{term_table_width}
use Rattle.pages.specs.Room.{least_record_width, record_limit}
use Rattle.pages.specs.Page.{HeldHashes}
use Rattle.pages.proofs.TakeLaws.{Going}
use Rattle.pages.proofs.triples.take_records.Given as goal

abbrev pub invariant-loop-at : goal.invariant-loop-at
invariant-loop-at l =
    (l.at ≤ length l.page) × (l.counts.skipped ≤ l.at) × (l.counts.keys * least_record_width ≤ l.at) × (length l.terms ≡ term_table_width) × (length l.keys ≡ record_limit)
    × HeldHashes l.terms l.counts.terms l.hashes × Going l.page l.schema l.graph l.initial.terms l.initial.keys l.initial.counts l.terms l.keys l.counts l.at

abbrev pub decreases-loop-at : goal.decreases-loop-at
decreases-loop-at l = length l.page - l.at
