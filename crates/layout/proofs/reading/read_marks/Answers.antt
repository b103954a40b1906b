-- The loop: the marks before `i` are read.
use native.Mathlib.Omega.{arith}
use borrow.Author.Rules.{rules}
use lib.Dec.{eqb}
use Rattle.laws.proofs.Writing.{map_next, map-all}
use Rattle.layout.proofs.reading.read_marks.Goals as goal

pub loop-i-preserved : goal.loop-i-preserved
loop-i-preserved c =
    (search rules, map_next (eqb 1) _ _ _ _ 0 (omega arith) (omega arith) c.loop-i.invariant.1)

pub returns : goal.returns
returns c =
    map-all (eqb 1) _ c.args.out.now _ c.loop-i.i (omega arith) (omega arith) c.loop-i.invariant.1
