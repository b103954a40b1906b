-- `cases::made::uri` meets its contract, by the contract of the field.
use Rattle.cases.proofs.made.uri.Goals as goal

pub returns : goal.returns
returns c = rw (← c.field.ensures) c.uri_in.ensures
