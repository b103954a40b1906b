-- `typer::work_out` meets its contract: the script's own written types. Assumes nothing.
use Rattle.typer.proofs.TyperLaws.{typed-as-written}
use Rattle.typer.proofs.work_out.Goals as goal

pub returns : goal.returns
returns c = typed-as-written _ _ c.requires _ c.written_types-written.ensures c.type_of_script.ensures
