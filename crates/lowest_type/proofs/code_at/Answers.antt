-- `lowest_type::code_at` meets its contract. Assumes nothing.
use Rattle.lowest_type.proofs.LowestLaws.{code_at}
use Rattle.lowest_type.proofs.code_at.Goals as goal

pub returns : goal.returns
returns c = code_at c.args.i c.requires
