-- `term_values::number_of` meets its contract, by the laws of SlotLaws.
use Rattle.term_values.proofs.SlotLaws.{number-held}
use Rattle.term_values.proofs.number_of.Goals as goal

pub returns : goal.returns
returns c =
    number-held c.args.kind c.numeric.result c.to_signed.result c.long_at.result _ (record { sfits = c.to_signed.type_inv }) c.to_signed.ensures
    c.long_at.ensures c.numeric.ensures
