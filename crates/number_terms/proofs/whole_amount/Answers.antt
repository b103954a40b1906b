-- By the digits after the first.
use mathlib.Core.Path.{sym, ◌∙◌}
use Rattle.number_terms.specs.Amounts.{whole_amount}
use Rattle.number_terms.proofs.whole_amount.Goals as goal

pub returns-then-not-rest_is_zero : goal.returns-then-not-rest_is_zero
unfolding whole_amount
returns-then-not-rest_is_zero c = rw (sym c.rest_is_zero.ensures ∙ c.if-not-rest_is_zero.true)

pub returns : goal.returns
unfolding whole_amount
returns c = rw (sym c.rest_is_zero.ensures ∙ c.if-not-rest_is_zero.false) c.first_digits.ensures
