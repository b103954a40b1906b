-- Field by field, from what the calls give.
use mathlib.Core.Path.{ap, ◌∙◌}
use Rattle.definitions.specs.Limits.{items_offset}
use Rattle.definitions.specs.Exports.{items_from}
use Rattle.layout.proofs.reading.read_control.Goals as goal

pub returns : goal.returns
returns c =
    let i = c.read_items.ensures ∙ ap (λ n. items_from 24 n c.args.b.now items_offset) c.number_at-height.ensures in
    λ k. record { height = c.number_at-height.ensures k; types = c.copy_from_slice.ensures.after k; bound = c.read_marks.ensures k; bindings = c.read_words.ensures k; items = i k }
