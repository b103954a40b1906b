-- `term_bodies::texts::byte_ok` meets its contract.
use mathlib.Core.Path.{refl}
use Rattle.fields.specs.Answers.{range_or}
use Rattle.term_bodies.proofs.texts.byte_ok.Goals as goal

pub returns : goal.returns
unfolding range_or
returns c = refl
