-- `typer::tables_of` meets its contract: what the walk noted. Assumes nothing.
use Rattle.walks.proofs.RootLaws.{whole-loads}
use Rattle.typer.proofs.TyperLaws.{fresh-joined, tables-noted}
use Rattle.typer.proofs.tables_of.Goals as goal

pub type_script-walked-requires : goal.type_script-walked-requires
type_script-walked-requires c = record { loads = whole-loads _ _ c.requires.script_value; written_len = c.requires.written_len; joined = fresh-joined c.fresh-fresh.ensures }

pub returns : goal.returns
returns c = record { value = tables-noted _ _ c.requires.script_value _ c.fresh-fresh.ensures c.type_script-walked.ensures; joined = c.type_script-walked.ensures.holds.joined }
