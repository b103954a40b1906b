-- `query::eval::clock_value` meets its contract. Assumes nothing.
use Rattle.query.proofs.EvalLaws.{clock-within, clock-gives}
use Rattle.query.proofs.eval.clock_value.Goals as goal

pub now_value-requires : goal.now_value-requires
now_value-requires c = clock-within _ _ (record { sfits = c.to_signed-seconds.type_inv }) c.to_signed-seconds.ensures c.requires

pub returns : goal.returns
returns c = clock-gives _ _ (record { sfits = c.to_signed-seconds.type_inv }) c.to_signed-seconds.ensures c.now_value.ensures
