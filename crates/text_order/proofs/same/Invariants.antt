use Rattle.text_order.proofs.OrderLaws.{Same}
use Rattle.text_order.proofs.same.Given as goal

abbrev pub invariant-loop-x : goal.invariant-loop-x
invariant-loop-x l = Same l.a l.b l.x-iterator.a.rest.now l.x-iterator.b.rest.now
