-- `quad_table::key_at` meets its contract.
use mathlib.Core.Path.{◌∙◌}
use Rattle.keys.specs.Keys.{key_of}
use Rattle.quad_table.specs.Quads.{quad}
use Rattle.quad_table.proofs.key_at.Goals as goal

pub returns : goal.returns
returns c =
    c.pack.ensures ∙ (λ t. key_of (quad (c.number_at-graph.ensures t) (c.number_at-subject.ensures t) (c.number_at-property.ensures t) (c.number_at-object.ensures t)))
