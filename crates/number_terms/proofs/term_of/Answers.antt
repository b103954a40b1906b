-- An integer or a decimal, of the number that its digits write.
use Prim.Native.Nat.{◌+◌}
use native.Mathlib.Omega.{arith}
use mathlib.Core.List.{◌++◌}
use mathlib.Core.Option.{Option}
use lib.ListN.{length, length-append}
use Rattle.definitions.specs.Terms.{Term}
use Rattle.definitions.specs.Numerals.{natural_of}
use Rattle.number_terms.specs.Amounts.{term_with}
use Rattle.number_terms.proofs.TermLaws.{Asked, integer-asked, decimal-asked}
use Rattle.number_terms.proofs.term_of.Goals as goal

pub overflow_add-count : goal.overflow_add-count
overflow_add-count c = omega (arith, c.requires.digits.few, length-append c.args.whole.now c.args.fraction.now)

pub whole_amount-requires : goal.whole_amount-requires
whole_amount-requires c = record { digits = c.requires.digits; limit_le_decimal_limit = omega arith }

pub returns-in_default : goal.returns-in_default
returns-in_default c =
    let term : Option Term = term_with c.args.plain c.args.minus (natural_of (c.args.whole.now ++ c.args.fraction.now)) c.args.up (length c.args.fraction.now + c.args.down) in
    let integer : Asked c.whole_amount.result Term.integer c.args.minus term = integer-asked c.args.whole.now c.args.fraction.now c.requires.digits c.args.minus c.args.up c.args.down c.if-plain.true c.whole_amount.ensures in integer.outside c.in_default.is

pub with_sign-requires : goal.with_sign-requires
with_sign-requires c =
    let term : Option Term = term_with c.args.plain c.args.minus (natural_of (c.args.whole.now ++ c.args.fraction.now)) c.args.up (length c.args.fraction.now + c.args.down) in
    let integer : Asked c.whole_amount.result Term.integer c.args.minus term = integer-asked c.args.whole.now c.args.fraction.now c.requires.digits c.args.minus c.args.up c.args.down c.if-plain.true c.whole_amount.ensures in integer.fits c.in-Some.is

pub returns-then-plain : goal.returns-then-plain
returns-then-plain c =
    let term : Option Term = term_with c.args.plain c.args.minus (natural_of (c.args.whole.now ++ c.args.fraction.now)) c.args.up (length c.args.fraction.now + c.args.down) in
    let integer : Asked c.whole_amount.result Term.integer c.args.minus term = integer-asked c.args.whole.now c.args.fraction.now c.requires.digits c.args.minus c.args.up c.args.down c.if-plain.true c.whole_amount.ensures in integer.within c.in-Some.is c.with_sign.ensures

pub kept-keep-requires : goal.kept-keep-requires
kept-keep-requires c =
    (omega (arith, c.requires.digits.few, length-append c.args.whole.now c.args.fraction.now), c.requires.up_lt_places_limit.0, c.requires.up_lt_places_limit.1)

pub whole_amount-requires-2 : goal.whole_amount-requires-2
whole_amount-requires-2 c = record { digits = c.requires.digits; limit_le_decimal_limit = omega arith }

pub returns-in_default-whole_amount : goal.returns-in_default-whole_amount
returns-in_default-whole_amount c =
    let term : Option Term = term_with c.args.plain c.args.minus (natural_of (c.args.whole.now ++ c.args.fraction.now)) c.args.up (length c.args.fraction.now + c.args.down) in
    let decimal : Asked c.whole_amount-2.result Term.decimal c.args.minus term = decimal-asked c.args.whole.now c.args.fraction.now c.requires.digits c.args.minus c.args.up c.args.down c.if-plain.false c.kept-keep.ensures
    c.whole_amount-2.ensures in decimal.outside c.in_default-whole_amount.is

pub with_sign-requires-2 : goal.with_sign-requires-2
with_sign-requires-2 c =
    let term : Option Term = term_with c.args.plain c.args.minus (natural_of (c.args.whole.now ++ c.args.fraction.now)) c.args.up (length c.args.fraction.now + c.args.down) in
    let decimal : Asked c.whole_amount-2.result Term.decimal c.args.minus term = decimal-asked c.args.whole.now c.args.fraction.now c.requires.digits c.args.minus c.args.up c.args.down c.if-plain.false c.kept-keep.ensures
    c.whole_amount-2.ensures in decimal.fits c.in-Some-whole_amount.is

pub returns : goal.returns
returns c =
    let term : Option Term = term_with c.args.plain c.args.minus (natural_of (c.args.whole.now ++ c.args.fraction.now)) c.args.up (length c.args.fraction.now + c.args.down) in
    let decimal : Asked c.whole_amount-2.result Term.decimal c.args.minus term = decimal-asked c.args.whole.now c.args.fraction.now c.requires.digits c.args.minus c.args.up c.args.down c.if-plain.false c.kept-keep.ensures
    c.whole_amount-2.ensures in decimal.within c.in-Some-whole_amount.is c.with_sign-2.ensures
