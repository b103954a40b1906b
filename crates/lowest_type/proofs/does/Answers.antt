-- `lowest_type::does` meets its contract. Assumes nothing.
use mathlib.Core.Path.{◌∙◌}
use Rattle.lowest_type.proofs.LowestLaws.{does-is}
use Rattle.lowest_type.proofs.does.Goals as goal

pub returns : goal.returns
returns c = c.is_ok.ensures.value ∙ does-is _ _ _ _ c.with_type.ensures.0 c.read_off.ensures
