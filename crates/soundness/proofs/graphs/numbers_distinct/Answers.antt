-- `soundness::graphs::numbers_distinct` meets its contract. The loop keeps what is asked of the rest equal to what is asked of the whole.
use native.Mathlib.Omega.{arith}
use lib.Dec.{eqb}
use Rattle.soundness.proofs.LookLaws.{distinct_none, distinct-next, distinct-stop}
use Rattle.soundness.proofs.graphs.numbers_distinct.Goals as goal

pub returns-then-is_in : goal.returns-then-is_in
returns-then-is_in c =
    distinct-stop eqb c.args.list.now c.loop-i.i 0 c.loop-i.invariant (omega arith) c.is_in.ensures c.if-is_in.true

pub loop-i-preserved : goal.loop-i-preserved
loop-i-preserved c =
    distinct-next eqb c.args.list.now c.loop-i.i 0 c.loop-i.invariant (omega arith) c.is_in.ensures c.if-is_in.false

pub returns : goal.returns
returns c = distinct_none eqb c.args.list.now c.loop-i.i 0 c.loop-i.invariant (omega arith)
