-- Four numbers, two bytes each.
use Rattle.evaluator_input.proofs.InputLaws.{four-words}
use Rattle.evaluator_input.proofs.tuple_at.Goals as goal

pub returns : goal.returns
returns c = four-words _ _ c.number_at-a.ensures c.number_at-b.ensures c.number_at-c.ensures c.number_at-d.ensures
