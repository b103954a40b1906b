-- By the part that is not there, and else by the parts' offsets.
use mathlib.Core.Path.{◌∙◌}
use Rattle.number_parts.proofs.PartLaws.{found}
use Rattle.numbers.proofs.NumberLaws.{WholeRead, FractionRead, fraction-read, ExponentRead, exponent-read, Placed, placed}
use Rattle.numbers.proofs.NumberLaws.{too_long, no_whole, bad-fraction, bad-exponent, more-after}
use Rattle.numbers.proofs.read_number.Goals as goal

pub returns-then-text-gt-NUMBER_TEXT_LIMIT : goal.returns-then-text-gt-NUMBER_TEXT_LIMIT
returns-then-text-gt-NUMBER_TEXT_LIMIT c = too_long _ c.if-text-gt-NUMBER_TEXT_LIMIT.true

pub returns-in_default : goal.returns-in_default
returns-in_default c =
    no_whole _ c.if-text-gt-NUMBER_TEXT_LIMIT.false c.after_sign-start.ensures c.read_digits.ensures c.in_default.is

pub returns-in_default-read_fraction : goal.returns-in_default-read_fraction
returns-in_default-read_fraction c =
    let whole : WholeRead c.args.text.now c.after_sign-start.result c.in-Some.point = record {
      few = c.if-text-gt-NUMBER_TEXT_LIMIT.false;
      from = c.after_sign-start.ensures;
      found = found _ _ _ _ c.read_digits.ensures c.in-Some.is;
    } in
    bad-fraction whole c.read_fraction.ensures c.in_default-read_fraction.is

pub returns-in_default-read_exponent : goal.returns-in_default-read_exponent
returns-in_default-read_exponent c =
    let whole : WholeRead c.args.text.now c.after_sign-start.result c.in-Some.point = record {
      few = c.if-text-gt-NUMBER_TEXT_LIMIT.false;
      from = c.after_sign-start.ensures;
      found = found _ _ _ _ c.read_digits.ensures c.in-Some.is;
    } in
    let fraction : FractionRead c.args.text.now c.after_sign-start.result c.in-Some.point c.in-Some-read_fraction.tail =
    fraction-read whole c.read_fraction.ensures c.in-Some-read_fraction.is in
    bad-exponent fraction c.read_exponent.ensures c.in_default-read_exponent.is

pub returns-then-shift-text : goal.returns-then-shift-text
returns-then-shift-text c =
    let whole : WholeRead c.args.text.now c.after_sign-start.result c.in-Some.point = record {
      few = c.if-text-gt-NUMBER_TEXT_LIMIT.false;
      from = c.after_sign-start.ensures;
      found = found _ _ _ _ c.read_digits.ensures c.in-Some.is;
    } in
    let fraction : FractionRead c.args.text.now c.after_sign-start.result c.in-Some.point c.in-Some-read_fraction.tail =
    fraction-read whole c.read_fraction.ensures c.in-Some-read_fraction.is in
    let exponent : ExponentRead c.args.text.now c.in-Some-read_fraction.tail c.in-Some-read_exponent.shift.up c.in-Some-read_exponent.shift.down c.in-Some-read_exponent.shift.after = exponent-read c.read_exponent.ensures c.in-Some-read_exponent.is in
    more-after fraction exponent c.if-shift-text.true

pub term_of-requires : goal.term_of-requires
term_of-requires c =
    let whole : WholeRead c.args.text.now c.after_sign-start.result c.in-Some.point = record {
      few = c.if-text-gt-NUMBER_TEXT_LIMIT.false;
      from = c.after_sign-start.ensures;
      found = found _ _ _ _ c.read_digits.ensures c.in-Some.is;
    } in
    let fraction : FractionRead c.args.text.now c.after_sign-start.result c.in-Some.point c.in-Some-read_fraction.tail =
    fraction-read whole c.read_fraction.ensures c.in-Some-read_fraction.is in
    let exponent : ExponentRead c.args.text.now c.in-Some-read_fraction.tail c.in-Some-read_exponent.shift.up c.in-Some-read_exponent.shift.down c.in-Some-read_exponent.shift.after = exponent-read c.read_exponent.ensures c.in-Some-read_exponent.is in
    let here : Placed c.args.text.now c.after_sign-start.result c.in-Some.point c.after_point-first.result c.in-Some-read_fraction.tail
    c.in-Some-read_exponent.shift.up c.in-Some-read_exponent.shift.down c.in-Some-read_exponent.shift.after = placed fraction exponent c.if-shift-text.false c.after_point-first.ensures in
    let p = here in record { digits = p.digits; up_lt_places_limit = p.few }

pub returns : goal.returns
returns c =
    let whole : WholeRead c.args.text.now c.after_sign-start.result c.in-Some.point = record {
      few = c.if-text-gt-NUMBER_TEXT_LIMIT.false;
      from = c.after_sign-start.ensures;
      found = found _ _ _ _ c.read_digits.ensures c.in-Some.is;
    } in
    let fraction : FractionRead c.args.text.now c.after_sign-start.result c.in-Some.point c.in-Some-read_fraction.tail =
    fraction-read whole c.read_fraction.ensures c.in-Some-read_fraction.is in
    let exponent : ExponentRead c.args.text.now c.in-Some-read_fraction.tail c.in-Some-read_exponent.shift.up c.in-Some-read_exponent.shift.down c.in-Some-read_exponent.shift.after = exponent-read c.read_exponent.ensures c.in-Some-read_exponent.is in
    let here : Placed c.args.text.now c.after_sign-start.result c.in-Some.point c.after_point-first.result c.in-Some-read_fraction.tail
    c.in-Some-read_exponent.shift.up c.in-Some-read_exponent.shift.down c.in-Some-read_exponent.shift.after = placed fraction exponent c.if-shift-text.false c.after_point-first.ensures in
    c.term_of.ensures ∙ here.is c.byte_at-minus.ensures

pub slice_bounds-term_of-count : goal.slice_bounds-term_of-count
slice_bounds-term_of-count c =
    let whole : WholeRead c.args.text.now c.after_sign-start.result c.in-Some.point = record {
      few = c.if-text-gt-NUMBER_TEXT_LIMIT.false;
      from = c.after_sign-start.ensures;
      found = found _ _ _ _ c.read_digits.ensures c.in-Some.is;
    } in
    let fraction : FractionRead c.args.text.now c.after_sign-start.result c.in-Some.point c.in-Some-read_fraction.tail =
    fraction-read whole c.read_fraction.ensures c.in-Some-read_fraction.is in
    let exponent : ExponentRead c.args.text.now c.in-Some-read_fraction.tail c.in-Some-read_exponent.shift.up c.in-Some-read_exponent.shift.down c.in-Some-read_exponent.shift.after = exponent-read c.read_exponent.ensures c.in-Some-read_exponent.is in
    let here : Placed c.args.text.now c.after_sign-start.result c.in-Some.point c.after_point-first.result c.in-Some-read_fraction.tail
    c.in-Some-read_exponent.shift.up c.in-Some-read_exponent.shift.down c.in-Some-read_exponent.shift.after = placed fraction exponent c.if-shift-text.false c.after_point-first.ensures in
    here.order.0

pub slice_bounds-term_of-start : goal.slice_bounds-term_of-start
slice_bounds-term_of-start c =
    let whole : WholeRead c.args.text.now c.after_sign-start.result c.in-Some.point = record {
      few = c.if-text-gt-NUMBER_TEXT_LIMIT.false;
      from = c.after_sign-start.ensures;
      found = found _ _ _ _ c.read_digits.ensures c.in-Some.is;
    } in
    let fraction : FractionRead c.args.text.now c.after_sign-start.result c.in-Some.point c.in-Some-read_fraction.tail =
    fraction-read whole c.read_fraction.ensures c.in-Some-read_fraction.is in
    let exponent : ExponentRead c.args.text.now c.in-Some-read_fraction.tail c.in-Some-read_exponent.shift.up c.in-Some-read_exponent.shift.down c.in-Some-read_exponent.shift.after = exponent-read c.read_exponent.ensures c.in-Some-read_exponent.is in
    let here : Placed c.args.text.now c.after_sign-start.result c.in-Some.point c.after_point-first.result c.in-Some-read_fraction.tail
    c.in-Some-read_exponent.shift.up c.in-Some-read_exponent.shift.down c.in-Some-read_exponent.shift.after = placed fraction exponent c.if-shift-text.false c.after_point-first.ensures in
    here.order.0

pub slice_bounds-term_of-end : goal.slice_bounds-term_of-end
slice_bounds-term_of-end c =
    let whole : WholeRead c.args.text.now c.after_sign-start.result c.in-Some.point = record {
      few = c.if-text-gt-NUMBER_TEXT_LIMIT.false;
      from = c.after_sign-start.ensures;
      found = found _ _ _ _ c.read_digits.ensures c.in-Some.is;
    } in
    let fraction : FractionRead c.args.text.now c.after_sign-start.result c.in-Some.point c.in-Some-read_fraction.tail =
    fraction-read whole c.read_fraction.ensures c.in-Some-read_fraction.is in
    let exponent : ExponentRead c.args.text.now c.in-Some-read_fraction.tail c.in-Some-read_exponent.shift.up c.in-Some-read_exponent.shift.down c.in-Some-read_exponent.shift.after = exponent-read c.read_exponent.ensures c.in-Some-read_exponent.is in
    let here : Placed c.args.text.now c.after_sign-start.result c.in-Some.point c.after_point-first.result c.in-Some-read_fraction.tail
    c.in-Some-read_exponent.shift.up c.in-Some-read_exponent.shift.down c.in-Some-read_exponent.shift.after = placed fraction exponent c.if-shift-text.false c.after_point-first.ensures in
    here.order.1

pub slice_bounds-term_of-count-2 : goal.slice_bounds-term_of-count-2
slice_bounds-term_of-count-2 c =
    let whole : WholeRead c.args.text.now c.after_sign-start.result c.in-Some.point = record {
      few = c.if-text-gt-NUMBER_TEXT_LIMIT.false;
      from = c.after_sign-start.ensures;
      found = found _ _ _ _ c.read_digits.ensures c.in-Some.is;
    } in
    let fraction : FractionRead c.args.text.now c.after_sign-start.result c.in-Some.point c.in-Some-read_fraction.tail =
    fraction-read whole c.read_fraction.ensures c.in-Some-read_fraction.is in
    let exponent : ExponentRead c.args.text.now c.in-Some-read_fraction.tail c.in-Some-read_exponent.shift.up c.in-Some-read_exponent.shift.down c.in-Some-read_exponent.shift.after = exponent-read c.read_exponent.ensures c.in-Some-read_exponent.is in
    let here : Placed c.args.text.now c.after_sign-start.result c.in-Some.point c.after_point-first.result c.in-Some-read_fraction.tail
    c.in-Some-read_exponent.shift.up c.in-Some-read_exponent.shift.down c.in-Some-read_exponent.shift.after = placed fraction exponent c.if-shift-text.false c.after_point-first.ensures in
    here.order.2

pub slice_bounds-term_of-start-2 : goal.slice_bounds-term_of-start-2
slice_bounds-term_of-start-2 c =
    let whole : WholeRead c.args.text.now c.after_sign-start.result c.in-Some.point = record {
      few = c.if-text-gt-NUMBER_TEXT_LIMIT.false;
      from = c.after_sign-start.ensures;
      found = found _ _ _ _ c.read_digits.ensures c.in-Some.is;
    } in
    let fraction : FractionRead c.args.text.now c.after_sign-start.result c.in-Some.point c.in-Some-read_fraction.tail =
    fraction-read whole c.read_fraction.ensures c.in-Some-read_fraction.is in
    let exponent : ExponentRead c.args.text.now c.in-Some-read_fraction.tail c.in-Some-read_exponent.shift.up c.in-Some-read_exponent.shift.down c.in-Some-read_exponent.shift.after = exponent-read c.read_exponent.ensures c.in-Some-read_exponent.is in
    let here : Placed c.args.text.now c.after_sign-start.result c.in-Some.point c.after_point-first.result c.in-Some-read_fraction.tail
    c.in-Some-read_exponent.shift.up c.in-Some-read_exponent.shift.down c.in-Some-read_exponent.shift.after = placed fraction exponent c.if-shift-text.false c.after_point-first.ensures in
    here.order.2

pub slice_bounds-term_of-end-2 : goal.slice_bounds-term_of-end-2
slice_bounds-term_of-end-2 c =
    let whole : WholeRead c.args.text.now c.after_sign-start.result c.in-Some.point = record {
      few = c.if-text-gt-NUMBER_TEXT_LIMIT.false;
      from = c.after_sign-start.ensures;
      found = found _ _ _ _ c.read_digits.ensures c.in-Some.is;
    } in
    let fraction : FractionRead c.args.text.now c.after_sign-start.result c.in-Some.point c.in-Some-read_fraction.tail =
    fraction-read whole c.read_fraction.ensures c.in-Some-read_fraction.is in
    let exponent : ExponentRead c.args.text.now c.in-Some-read_fraction.tail c.in-Some-read_exponent.shift.up c.in-Some-read_exponent.shift.down c.in-Some-read_exponent.shift.after = exponent-read c.read_exponent.ensures c.in-Some-read_exponent.is in
    let here : Placed c.args.text.now c.after_sign-start.result c.in-Some.point c.after_point-first.result c.in-Some-read_fraction.tail
    c.in-Some-read_exponent.shift.up c.in-Some-read_exponent.shift.down c.in-Some-read_exponent.shift.after = placed fraction exponent c.if-shift-text.false c.after_point-first.ensures in
    here.order.3
