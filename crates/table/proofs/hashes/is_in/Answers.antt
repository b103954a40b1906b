-- `table::hashes::is_in` meets its contract. The loop keeps what is asked of the rest equal to what is asked of the whole.
use Rattle.table.proofs.HashLaws.{seen_next, seen_end}
use Rattle.table.proofs.hashes.is_in.Goals as goal

pub loop-y-preserved : goal.loop-y-preserved
loop-y-preserved c =
    seen_next c.args.list.now c.args.x c.loop-y.y-index c.loop-y.seen c.loop-y.invariant c.loop-y-test.true

pub returns : goal.returns
returns c = seen_end c.args.list.now c.args.x c.loop-y.y-index c.loop-y.seen c.loop-y.invariant c.loop-y-test.false
