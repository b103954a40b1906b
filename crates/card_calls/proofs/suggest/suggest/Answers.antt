-- `card_calls::suggest::suggest` meets its contract.
use borrow.Author.Rules.{rules}
use mathlib.Core.Path.{◌∙◌}
use Rattle.card.proofs.CodedLaws.{codes-fit, sorts-length, script-reads}
use Rattle.card_calls.proofs.SuggestLaws.{suggest-refused, suggest-told}
use Rattle.card_calls.proofs.suggest.suggest.Goals as goal

pub returns-in_err-ready : goal.returns-in_err-ready
returns-in_err-ready c = search (rules, suggest-refused _ _ _ c.in_err-ready.ensures)

pub slice_bounds-leasts-end : goal.slice_bounds-leasts-end
slice_bounds-leasts-end c = codes-fit _ _ _ _ c.in_ok-ready.ensures

pub slice_bounds-suggest_for-end : goal.slice_bounds-suggest_for-end
slice_bounds-suggest_for-end c = sorts-length _ _ _ _ c.in_ok-ready.ensures

pub suggest_for-requires : goal.suggest_for-requires
suggest_for-requires c = script-reads _ _ _ _ c.in_ok-ready.ensures

pub returns : goal.returns
returns c = suggest-told _ _ _ _ c.in_ok-ready.ensures c.suggest_for.ensures
