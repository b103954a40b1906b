use Rattle.definitions.specs.Values.{rank_in}
use Rattle.text_order.proofs.OrderLaws.{Ordered}
use Rattle.text_order.proofs.before.Given as goal

abbrev pub invariant-loop-x : goal.invariant-loop-x
invariant-loop-x l = Ordered (rank_in l.ranks) l.a l.b l.x-iterator.a.rest.now l.x-iterator.b.rest.now
