-- A number in two bytes.
use mathlib.Core.Path.{ap, ◌∙◌}
use Rattle.definitions.specs.Bytes.{little_bytes}
use Rattle.layout.proofs.writing.write_word.Goals as goal

pub returns : goal.returns
returns c =
    c.write_number.ensures ∙ ap (λ k. little_bytes k c.args.n) c.requires
