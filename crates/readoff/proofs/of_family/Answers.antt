-- `readoff::of_family` meets its contract, arm by arm. Assumes nothing.
use Rattle.readoff.proofs.ReadOffLaws.{numbers-family, last-family}
use Rattle.readoff.proofs.of_family.Goals as goal

pub returns-in-2 : goal.returns-in-2
returns-in-2 c = numbers-family _ _ c.requires c.in-2.is

pub returns-in_default : goal.returns-in_default
returns-in_default c = last-family _ _ c.requires c.in_default.in_default-own.rest.0.0.1 c.in_default.in_default-own.rest.0.1 c.in_default.in_default-own.rest.1
