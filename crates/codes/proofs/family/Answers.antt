-- `codes::family` meets its contract, arm by arm. Assumes nothing.
use mathlib.Core.Path.{refl, sym, ap}
use Rattle.codes.specs.Family.{family}
use Rattle.codes.specs.TypeCodes.{datatype_of}
use Rattle.codes.proofs.CodeLaws.{other-datatype}
use Rattle.codes.proofs.family.Goals as goal

pub returns-in-2 : goal.returns-in-2
unfolding datatype_of
returns-in-2 c = rw c.in-2.is refl

pub returns-in-3 : goal.returns-in-3
unfolding datatype_of
returns-in-3 c = rw c.in-3.is refl

pub returns-in-4 : goal.returns-in-4
unfolding datatype_of
returns-in-4 c = rw c.in-4.is refl

pub returns-in-5 : goal.returns-in-5
unfolding datatype_of
returns-in-5 c = rw c.in-5.is refl

pub returns-in_default : goal.returns-in_default
returns-in_default c = sym (ap family (other-datatype c.args.datatype c.in_default.in_default-own.rest))
