-- Nothing, or digits after the e and its sign.
use Rattle.std.proofs.Common.{rules}
use native.Mathlib.Omega.{arith}
use mathlib.Core.Path.{sym, ◌∙◌}
use borrow.Author.Tests.{eq-eqb, ne_eqb}
use Rattle.definitions.specs.Numerals.{exponent_digits}
use Rattle.number_parts.proofs.PartLaws.{Found, found, is-e, other_e, no_shift, e-inside, bad-shift, shift-down, shift-up}
use Rattle.number_parts.proofs.read_exponent.Goals as goal

pub returns-in_default : goal.returns-in_default
returns-in_default c = no_shift _ _ _ c.byte_at.ensures (other_e c.byte_at.result (search rules))

pub overflow_add-sign : goal.overflow_add-sign
overflow_add-sign c =
    omega (arith, e-inside c.args.s.now c.args.at _ c.byte_at.ensures (is-e c.in-101.is))

pub returns-in_err-after-in-101 : goal.returns-in_err-after-in-101
returns-in_err-after-in-101 c =
    c.from_residual.ensures ∙ bad-shift _ _ _ c.byte_at.ensures (is-e c.in-101.is) c.after_sign-from.ensures c.read_digits.ensures c.in_err-after-in-101.was

pub slice_bounds-small-count : goal.slice_bounds-small-count
slice_bounds-small-count c =
    let digits : Found exponent_digits c.args.s.now c.after_sign-from.result c.in_ok-after-in-101.after = found _ _ _ _ c.read_digits.ensures c.in_ok-after-in-101.was in omega (arith, digits.are.next)

pub slice_bounds-small-start : goal.slice_bounds-small-start
slice_bounds-small-start c =
    let digits : Found exponent_digits c.args.s.now c.after_sign-from.result c.in_ok-after-in-101.after = found _ _ _ _ c.read_digits.ensures c.in_ok-after-in-101.was in omega (arith, digits.are.next)

pub slice_bounds-small-end : goal.slice_bounds-small-end
slice_bounds-small-end c =
    let digits : Found exponent_digits c.args.s.now c.after_sign-from.result c.in_ok-after-in-101.after = found _ _ _ _ c.read_digits.ensures c.in_ok-after-in-101.was in digits.are.inside

pub small-places-requires : goal.small-places-requires
small-places-requires c =
    let digits : Found exponent_digits c.args.s.now c.after_sign-from.result c.in_ok-after-in-101.after = found _ _ _ _ c.read_digits.ensures c.in_ok-after-in-101.was in
    let d = digits in record { digits = rw d.between (record { all = d.are.all; few = omega (arith, d.are.few) }); digits_nonzero = rw d.between ((d.are.some, d.are.few)) }

pub returns-then-byte_at-eq45 : goal.returns-then-byte_at-eq45
returns-then-byte_at-eq45 c =
    let digits : Found exponent_digits c.args.s.now c.after_sign-from.result c.in_ok-after-in-101.after = found _ _ _ _ c.read_digits.ensures c.in_ok-after-in-101.was in
    shift-down _ _ _ c.byte_at.ensures (is-e c.in-101.is) c.after_sign-from.ensures digits c.small-places.ensures.0
    (eq-eqb _ _ (sym c.byte_at-in-101.ensures ∙ c.if-byte_at-eq45.true))

pub returns-else-byte_at-eq45 : goal.returns-else-byte_at-eq45
returns-else-byte_at-eq45 c =
    let digits : Found exponent_digits c.args.s.now c.after_sign-from.result c.in_ok-after-in-101.after = found _ _ _ _ c.read_digits.ensures c.in_ok-after-in-101.was in
    shift-up _ _ _ c.byte_at.ensures (is-e c.in-101.is) c.after_sign-from.ensures digits c.small-places.ensures.0
    (ne_eqb _ _ (λ e. c.if-byte_at-eq45.false (c.byte_at-in-101.ensures ∙ e)))
