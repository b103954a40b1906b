use Prim.Native.Nat.{◌+◌, ◌-◌, ◌≤◌}
use lib.ListN.{length}
use Rattle.definitions.specs.Limits.{text_width, tag_width}
use Rattle.definitions.specs.Printer.{entry_body, end_from}
use Rattle.joined_input.proofs.EndLaws.{Ends}
use Rattle.joined_input.proofs.schema_end.Given as goal

abbrev pub invariant-loop-at : goal.invariant-loop-at
invariant-loop-at l = (l.from ≤ l.at) × (l.at ≤ length l.s + (tag_width + text_width)) × Ends entry_body l.s (end_from entry_body (length l.s) l.s l.from) l.at

abbrev pub decreases-loop-at : goal.decreases-loop-at
decreases-loop-at l = length l.s - l.at
