-- The bytes are set one after the other.
use Rattle.suggest_report.proofs.SuggestReport.{three}
use Rattle.suggest_report.proofs.write_three.Goals as goal

pub returns : goal.returns
returns c = three c.args.out.now _ _ _ c.requires
