-- `term_values::in_slot` meets its contract, by the laws of SlotLaws.
use Rattle.term_values.proofs.SlotLaws.{uri-holds, string-holds, integer-holds, decimal-holds, date_time-holds}
use Rattle.term_values.proofs.in_slot.Goals as goal

pub returns-in-17 : goal.returns-in-17
returns-in-17 c = uri-holds c.args.slot.now c.requires c.in-17.is c.field_at.result c.field_at.ensures

pub returns-in-18 : goal.returns-in-18
returns-in-18 c =
    string-holds c.args.slot.now c.requires c.in-18.is c.field_at-in-18.result c.field_at-in-18-2.result c.field_at-in-18.ensures c.field_at-in-18-2.ensures

pub returns-in-19 : goal.returns-in-19
returns-in-19 c =
    λ t e. integer-holds c.args.slot.now c.requires c.number_of.result t e c.in-19.is c.number_of.ensures

pub returns-in-20 : goal.returns-in-20
returns-in-20 c =
    λ t e. decimal-holds c.args.slot.now c.requires c.number_of-in-20.result t e c.in-20.is c.number_of-in-20.ensures

pub returns-in_default : goal.returns-in_default
returns-in_default c =
    λ t e. date_time-holds c.args.slot.now c.requires c.number_of-in_default.result t e c.in_default.in_default-own.rest.0.0.0.1 c.in_default.in_default-own.rest.0.0.1 c.in_default.in_default-own.rest.0.1
    c.in_default.in_default-own.rest.1 c.number_of-in_default.ensures
