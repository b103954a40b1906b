-- `lowest_type::lowest` meets its contract. Invariant: what is lowest is so among the variables from `x` on.
use native.Mathlib.Omega.{arith}
use mathlib.Core.Path.{refl}
use Rattle.lowest_type.proofs.LowestLaws.{lowest-found, lowest-next, lowest-none}
use Rattle.lowest_type.proofs.lowest.Goals as goal

pub loop-x-init : goal.loop-x-init
loop-x-init c = refl

pub lowest_type-requires : goal.lowest_type-requires
lowest_type-requires c = (c.requires.0, omega arith, c.requires.1)

pub returns-in-Some : goal.returns-in-Some
returns-in-Some c = lowest-found _ _ c.loop-x.x c.loop-x.invariant (omega arith) c.lowest_type.ensures c.in-Some.is

pub loop-x-preserved : goal.loop-x-preserved
loop-x-preserved c = lowest-next _ _ c.loop-x.x c.loop-x.invariant (omega arith) c.lowest_type.ensures c.in_default.is

pub returns : goal.returns
returns c = lowest-none _ _ c.loop-x.x c.loop-x.invariant (omega arith)
