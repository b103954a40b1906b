use mathlib.Core.Bool.{◌&&◌}
use mathlib.Core.Path.{◌≡◌}
use lib.ListN.{length, drop}
use Rattle.definitions.specs.Terms.{field_text}
use Rattle.laws.specs.ReadAnswers.{is_some}
use Rattle.fields.specs.Answers.{range_or}
use Rattle.term_bodies.proofs.FieldLaws.{filled_after}
use Rattle.term_bodies.proofs.texts.field_ok.Given as goal

abbrev pub invariant-loop-b : goal.invariant-loop-b
invariant-loop-b l =
    is_some (field_text (range_or l.low l.high l.other) (length l.field) l.field) ≡ (l.ok && filled_after (range_or l.low l.high l.other) l.before (drop l.b-index l.field))
