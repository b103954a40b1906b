-- `quad_table::put_key` meets its contract.
use mathlib.Core.Path.{◌∙◌}
use mathlib.Core.List.{[], ◌∷◌}
use Rattle.definitions.specs.Saved.{quad_bytes}
use Rattle.quad_table.specs.Quads.{quad}
use Rattle.quad_table.proofs.QuadLaws.{quad-stored}
use Rattle.quad_table.proofs.put_key.Goals as goal

pub returns : goal.returns
returns c =
    quad-stored c.args.table.now c.quad_bytes-content.result c.copy_from_slice.new.self _ c.args.n
    (c.quad_bytes-content.ensures ∙ (λ t. quad_bytes (quad (c.graph_of-graph.ensures.0 t) (c.subject_of-subject.ensures.0 t) (c.property_of-property.ensures.0 t) (c.object_of-object.ensures.0 t) ∷ [])))
    c.copy_from_slice.ensures.after
