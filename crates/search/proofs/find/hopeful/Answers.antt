-- `search::find::hopeful` meets its contract. Assumes nothing.
use native.Mathlib.Omega.{arith}
use Rattle.search.proofs.FindLaws.{hopeful-lost, hopeful-all}
use Rattle.search.proofs.find.hopeful.Goals as goal

pub hope-requires : goal.hope-requires
hope-requires c = record { world = c.requires.world; parted = c.requires.parted; j_lt_size = c.loop-j-test.true }

pub returns-then-not-hope : goal.returns-then-not-hope
returns-then-not-hope c =
    λ w. hopeful-lost w _ _ _ c.loop-j.invariant c.loop-j-test.true (c.hope.ensures w) c.if-not-hope.true

pub loop-j-preserved : goal.loop-j-preserved
loop-j-preserved c = omega (arith, c.loop-j.invariant)

pub returns : goal.returns
returns c = λ w. hopeful-all w _ _
