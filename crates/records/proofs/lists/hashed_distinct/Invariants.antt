use Prim.Native.Nat.{◌*◌}
use mathlib.Core.Bool.{true}
use mathlib.Core.Path.{◌≡◌}
use Rattle.definitions.specs.Terms.{same_property, read_entry, read_schema}
use Rattle.laws.specs.Records.{records_at}
use Rattle.laws.specs.ReadAnswers.{is_some}
use Rattle.fields.specs.Answers.{distinct_in}
use Rattle.definitions.specs.Limits.{entry_width}
use Rattle.records.proofs.lists.hashed_distinct.Given as goal

abbrev pub invariant-loop-i : goal.invariant-loop-i
invariant-loop-i l = (is_some (records_at read_entry l.s (l.i * entry_width)) ≡ true) × (distinct_in same_property (read_schema l.s) ≡ distinct_in same_property (records_at read_entry l.s (l.i * entry_width)))
