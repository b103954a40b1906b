-- `text_order::rank` meets its contract, by the laws of OrderLaws.
use mathlib.Core.Path.{refl}
use Rattle.definitions.specs.Values.{rank_in}
use Rattle.text_order.proofs.OrderLaws.{place}
use native.Mathlib.Omega.{arith}
use Rattle.text_order.proofs.rank.Goals as goal

pub overflow_sub-result : goal.overflow_sub-result
overflow_sub-result c = (place c.args.b c.requires.t).0

pub bounds-ranks-b : goal.bounds-ranks-b
bounds-ranks-b c = omega (arith, (place c.args.b c.requires.t).1, c.requires.ranks_len)

pub returns : goal.returns
unfolding rank_in
returns c = refl
