use Rattle.acts.proofs.StepLaws.{body-after}
use Rattle.acts.proofs.block_body.Goals as goal

pub returns : goal.returns
returns c = body-after _ _ _ _ _ c.requires.ends_lent.ended c.after.ensures
