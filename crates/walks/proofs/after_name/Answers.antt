-- `walks::after_name` meets its contract.
use Rattle.laws.proofs.ReadAnswers.{never-fails, ends_next}
use Rattle.walks.proofs.after_name.Goals as goal

pub returns-in_default : goal.returns-in_default
returns-in_default c = absurd (never-fails _ c.read_name.ensures c.requires c.in_default.is)

pub returns : goal.returns
returns c = ends_next _ c.read_name.ensures c.in-Next.is
