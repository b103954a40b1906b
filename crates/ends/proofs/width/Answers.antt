-- `ends::width` meets its contract.
use Rattle.laws.specs.Ends.{extent_of}
use Rattle.ends.proofs.ExtentLaws.{width_is, other_width}
use Rattle.ends.proofs.width.Goals as goal

pub returns-in-49 : goal.returns-in-49
unfolding extent_of
returns-in-49 c = width_is c.in-49.is

pub returns-in-50 : goal.returns-in-50
unfolding extent_of
returns-in-50 c = width_is c.in-50.is

pub returns-in-85 : goal.returns-in-85
unfolding extent_of
returns-in-85 c = width_is c.in-85.is

pub returns-in-86 : goal.returns-in-86
unfolding extent_of
returns-in-86 c = width_is c.in-86.is

pub returns-in_default : goal.returns-in_default
returns-in_default c = other_width _ ((c.in_default.in_default-own.rest.0.0.0.1, c.in_default.in_default-own.rest.0.0.1, c.in_default.in_default-own.rest.0.1, c.in_default.in_default-own.rest.1))
