-- Field by field, from what the calls give.
use Prim.Native.Nat.{◌+◌}
use lib.Dec.{eqb}
use lib.ListN.{get_or}
use Rattle.layout.proofs.reading.read_item.Goals as goal

pub returns : goal.returns
returns c =
    λ k. record { «at» = c.number_at.ensures k; started = eqb (get_or c.args.b.now (c.args.«at» + 2) 0) 1; last = c.read_words.ensures k }
