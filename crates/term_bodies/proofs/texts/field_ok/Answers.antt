-- `term_bodies::texts::field_ok` meets its contract. What was looked at is good, and so is the rest, where all is.
use Rattle.term_bodies.proofs.FieldLaws.{field-start, field_next, field_end}
use Rattle.term_bodies.proofs.texts.field_ok.Goals as goal

pub loop-b-init : goal.loop-b-init
loop-b-init c = field-start _ _

pub loop-b-preserved : goal.loop-b-preserved
loop-b-preserved c =
    field_next _ c.args.field.now c.loop-b.before c.loop-b.b-index c.loop-b.ok c.loop-b-test.true c.loop-b.invariant c.byte_ok.ensures

pub returns : goal.returns
returns c =
    field_end _ c.args.field.now c.loop-b.before c.loop-b.b-index c.loop-b.ok c.loop-b-test.false c.loop-b.invariant
