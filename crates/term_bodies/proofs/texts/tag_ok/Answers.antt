-- `term_bodies::texts::tag_ok` meets its contract.
use Rattle.term_bodies.proofs.FieldLaws.{field-of-width, tag-bytes}
use Rattle.term_bodies.proofs.texts.tag_ok.Goals as goal

pub returns : goal.returns
returns c = field-of-width _ _ _ _ c.requires tag-bytes c.field_ok.ensures
