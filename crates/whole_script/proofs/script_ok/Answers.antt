-- The root ends with the bytes, or reading stops before.
use Rattle.whole_script.proofs.WholeLaws.{whole-is}
use Rattle.whole_script.proofs.script_ok.Goals as goal

pub returns : goal.returns
returns c = let e = whole-is c.args.terms c.args.script.now in cc
