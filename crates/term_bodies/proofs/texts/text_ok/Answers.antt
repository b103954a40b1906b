-- `term_bodies::texts::text_ok` meets its contract.
use Rattle.term_bodies.proofs.FieldLaws.{field-of-width, text-bytes}
use Rattle.term_bodies.proofs.texts.text_ok.Goals as goal

pub returns : goal.returns
returns c = field-of-width _ _ _ _ c.requires text-bytes c.field_ok.ensures
