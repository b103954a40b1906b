-- `typer::type_of_script` meets its contract: its tables, read off. Assumes nothing.
use Rattle.typer.proofs.TyperLaws.{typed}
use Rattle.typer.proofs.type_of_script.Goals as goal

pub returns : goal.returns
returns c =
    typed _ _ c.requires.script_value _ c.requires.written_len c.tables_of.ensures.value c.read_off.ensures
