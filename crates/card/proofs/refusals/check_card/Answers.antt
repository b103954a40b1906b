-- `card::refusals::check_card` meets its contract.
use mathlib.Core.Path.{refl}
use borrow.Author.Rules.{rules}
use Rattle.card.proofs.Told.{told-refusal}
use Rattle.card.proofs.CodedLaws.{codes-fit, sorts-length, script-reads}
use Rattle.card.proofs.CheckLaws.{read-refused, types-refused, types-found}
use Rattle.card.proofs.refusals.check_card.Goals as goal

pub returns-in_err-ready : goal.returns-in_err-ready
returns-in_err-ready c = told-refusal _ _ (search rules) (read-refused _ _ _ c.in_err-ready.ensures)

pub slice_bounds-work_out-end : goal.slice_bounds-work_out-end
slice_bounds-work_out-end c = codes-fit _ _ _ _ c.in_ok-ready.ensures

pub slice_bounds-work_out-end-2 : goal.slice_bounds-work_out-end-2
slice_bounds-work_out-end-2 c = sorts-length _ _ _ _ c.in_ok-ready.ensures

pub work_out-requires : goal.work_out-requires
work_out-requires c = script-reads _ _ _ _ c.in_ok-ready.ensures

pub returns-in_err-types : goal.returns-in_err-types
returns-in_err-types c = told-refusal _ _ (search rules) (types-refused _ _ _ _ c.in_ok-ready.ensures c.in_err-types.ensures refl)

pub returns : goal.returns
returns c = types-found _ _ _ _ c.in_ok-ready.ensures c.in_ok-types.ensures refl
