-- `cases::made::uri_in` meets its contract, by the laws of MadeLaws.
use native.Mathlib.Omega.{arith}
use Rattle.cases.proofs.MadeLaws.{bad-uri, uri-made}
use mathlib.Core.Path.{ap}
use mathlib.Core.Bool.{not}
use Rattle.cases.proofs.made.uri_in.Goals as goal

pub returns-else-uri_ok : goal.returns-else-uri_ok
returns-else-uri_ok c = bad-uri _ c.uri_ok.result c.uri_ok.ensures (ap not c.if-uri_ok.false)

pub returns-then-uri_ok : goal.returns-then-uri_ok
returns-then-uri_ok c = uri-made _ c.uri_ok.result c.uri_ok.ensures (omega arith) (ap not c.if-uri_ok.true)
