-- `suggestion::suggest::suggest_for` meets its contract.
use mathlib.Core.Path.{ap, ◌∙◌}
use Rattle.std.specs.Prelude.{Err}
use borrow.Author.Rules.{rules}
use Rattle.suggestion.proofs.SuggestLaws.{says-accepted, says-refused, says-lowest}
use Rattle.suggestion.proofs.suggest.suggest_for.Goals as goal

pub returns-in-Ok : goal.returns-in-Ok
returns-in-Ok c =
    says-accepted _ _ c.written_types-written.result (search rules) c.written_types-written.ensures c.tables_of-tables.ensures.value c.read_off.ensures c.in-Ok.is

pub returns-in-Err-NoGreatest : goal.returns-in-Err-NoGreatest
returns-in-Err-NoGreatest c =
    says-lowest _ _ c.written_types-written.result (search rules) c.written_types-written.ensures c.tables_of-tables.ensures.value c.read_off.ensures (c.in-Err-NoGreatest.is ∙ ap Err c.in-Err-NoGreatest.field-0-is) c.lowest.ensures

pub returns-in-Err : goal.returns-in-Err
returns-in-Err c =
    says-refused _ _ c.written_types-written.result (search rules) c.written_types-written.ensures c.tables_of-tables.ensures.value c.read_off.ensures c.in-Err.is (search rules)
