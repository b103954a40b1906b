-- `strings::text::text_of` meets its contract, by the laws of ArithmeticLaws and TextOfLaws.
use Rattle.values.proofs.ArithmeticLaws.{plain}
use Rattle.strings.proofs.TextOfLaws.{str-string, str-uri, str-integer, str-decimal, str-date_time}
use Rattle.strings.proofs.text.text_of.Goals as goal

pub date_time-requires : goal.date_time-requires
date_time-requires c = rw (plain c.args.v.number c.requires.number) (c.requires.date_time c.in-4.is)

pub returns-in-2 : goal.returns-in-2
returns-in-2 c = str-string c.args.v c.requires c.untagged.result c.in-2.is c.untagged.ensures

pub returns-in-3 : goal.returns-in-3
returns-in-3 c =
    str-decimal c.args.v c.requires c.untagged-in-3.result c.decimal.result c.in-3.is c.decimal.ensures c.untagged-in-3.ensures

pub returns-in-4 : goal.returns-in-4
returns-in-4 c =
    str-date_time c.args.v c.requires c.untagged-in-4.result c.date_time.result c.in-4.is c.date_time.ensures c.untagged-in-4.ensures

pub returns-in-5 : goal.returns-in-5
returns-in-5 c =
    str-integer c.args.v c.requires c.untagged-in-5.result c.integer.result c.in-5.is c.integer.ensures c.untagged-in-5.ensures

pub returns-in_default : goal.returns-in_default
returns-in_default c =
    str-uri c.args.v c.requires c.untagged-in_default.result c.in_default.in_default-own.rest.1 c.in_default.in_default-own.rest.0.0.1 c.in_default.in_default-own.rest.0.1 c.in_default.in_default-own.rest.0.0.0.1
    c.untagged-in_default.ensures
