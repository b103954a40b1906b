-- `readoff::best` meets its contract, by the flags of the variable. Assumes nothing.
use mathlib.Core.Path.{refl}
use Rattle.codes.specs.TypeCodes.{datatype_of}
use Rattle.readoff.proofs.ReadOffLaws.{best-range, best-plain}
use Rattle.readoff.proofs.best.Goals as goal

pub of_family-requires : goal.of_family-requires
unfolding datatype_of
of_family-requires c = refl

pub returns-then-t-x-2 : goal.returns-then-t-x-2
unfolding datatype_of
returns-then-t-x-2 c = best-range _ _ (datatype_of 3) c.if-t-x.true c.if-t-x-2.true refl c.root-ranged.ensures c.of_family.ensures.0

pub of_family-requires-then-t-x : goal.of_family-requires-then-t-x
unfolding datatype_of
of_family-requires-then-t-x c = refl

pub returns-then-t-x : goal.returns-then-t-x
unfolding datatype_of
returns-then-t-x c = best-range _ _ (datatype_of 5) c.if-t-x.true c.if-t-x-2.false refl c.root-ranged.ensures c.of_family-then-t-x.ensures.0

pub of_family-requires-then-t-x-3 : goal.of_family-requires-then-t-x-3
unfolding datatype_of
of_family-requires-then-t-x-3 c = refl

pub returns-then-t-x-3 : goal.returns-then-t-x-3
unfolding datatype_of
returns-then-t-x-3 c = best-plain _ _ (datatype_of 5) c.if-t-x.false c.if-t-x-3.true refl c.root-own.ensures c.of_family-then-t-x-3.ensures.0

pub of_family-requires-2 : goal.of_family-requires-2
unfolding datatype_of
of_family-requires-2 c = refl

pub returns : goal.returns
unfolding datatype_of
returns c = best-plain _ _ (datatype_of 3) c.if-t-x.false c.if-t-x-3.false refl c.root-own.ensures c.of_family-2.ensures.0
