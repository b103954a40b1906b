-- It reads well, so there is an offset.
use Rattle.laws.proofs.ReadAnswers.{ends_next}
use Rattle.walks.proofs.NextLaws.{next-there}
use Rattle.walks.proofs.after_query.Goals as goal

pub unwrap-requires : goal.unwrap-requires
unwrap-requires c = next-there _ c.read_query.ensures c.requires

pub returns : goal.returns
returns c = ends_next _ c.read_query.ensures c.unwrap.ensures
