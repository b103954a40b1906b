-- `term_bodies::texts::uri_ok` meets its contract.
use mathlib.Core.Bool.{not}
use mathlib.Core.Path.{sym, ap, ◌∙◌}
use borrow.Author.Tests.{eq-eqb}
use Rattle.term_bodies.proofs.FieldLaws.{field-of-width, uri-bytes, uri-empty, uri-some}
use Rattle.term_bodies.proofs.texts.uri_ok.Goals as goal

pub returns-else-field-ne0 : goal.returns-else-field-ne0
returns-else-field-ne0 c = ap not (eq-eqb _ 0 c.if-field-ne0.false) ∙ sym (uri-empty c.args.field.now c.if-field-ne0.false)

pub returns-then-field-ne0 : goal.returns-then-field-ne0
returns-then-field-ne0 c = field-of-width _ _ _ _ c.requires uri-bytes c.field_ok.ensures ∙ uri-some c.args.field.now c.if-field-ne0.true
