-- `cases::made::string` meets its contract, by the contracts of the fields.
use Rattle.cases.proofs.made.string.Goals as goal

pub returns : goal.returns
returns c = rw (← c.field.ensures, ← c.field-2.ensures) c.string_in.ensures
