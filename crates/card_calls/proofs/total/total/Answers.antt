-- `card_calls::total::total` meets its contract.
use borrow.Author.Rules.{rules}
use native.Mathlib.Omega.{arith}
use Rattle.card_calls.proofs.TotalLaws.{total-refused, reads, total-small, total-told}
use Rattle.card_calls.proofs.total.total.Goals as goal

pub returns-in_err-ready : goal.returns-in_err-ready
returns-in_err-ready c = search (rules, total-refused _ _ _ c.in_err-ready.ensures)

pub total_of-steps-requires : goal.total_of-steps-requires
total_of-steps-requires c = reads _ _ _ _ c.in_ok-ready.ensures

pub overflow_cast-result : goal.overflow_cast-result
overflow_cast-result c =
    let n = total-small _ _ _ _ c.in_ok-ready.ensures in record { fits = omega (arith, c.total_of-steps.ensures, n) }

pub returns : goal.returns
returns c = total-told _ _ _ _ c.in_ok-ready.ensures c.total_of-steps.ensures
