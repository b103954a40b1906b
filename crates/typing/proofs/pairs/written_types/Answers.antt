-- `typing::pairs::written_types` meets its contract: the walk from the root, with no pair noted. Assumes nothing.
use Rattle.walks.proofs.RootLaws.{whole-loads}
use Rattle.typing.proofs.PairLaws.{types-written}
use Rattle.typing.proofs.pairs.written_types.Goals as goal

pub note_script-walked-requires : goal.note_script-walked-requires
note_script-walked-requires c = whole-loads _ _ c.requires

pub returns : goal.returns
returns c = types-written _ _ c.requires c.note_script-walked.ensures
