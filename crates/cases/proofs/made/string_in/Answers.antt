-- `cases::made::string_in` meets its contract, by the laws of MadeLaws.
use native.Mathlib.Omega.{arith}
use Rattle.cases.proofs.MadeLaws.{bad-tag, bad-text, string-made}
use mathlib.Core.Path.{ap}
use mathlib.Core.Bool.{not}
use Rattle.cases.proofs.made.string_in.Goals.{else-tag_ok-via-then-tag_ok+else-text_ok, else-tag_ok-via-else-tag_ok}
use Rattle.cases.proofs.made.string_in.Goals as goal

pub returns-else-tag_ok : goal.returns-else-tag_ok
returns-else-tag_ok c = elim c.else-tag_ok.branch [
  | else-tag_ok-via-then-tag_ok+else-text_ok w ↦ bad-text _ _ c.tag_ok.result c.tag_ok.ensures (ap not w.if-tag_ok.true) w.text_ok.result w.text_ok.ensures (ap not w.if-text_ok.false)
  | else-tag_ok-via-else-tag_ok w ↦ bad-tag _ _ c.tag_ok.result c.tag_ok.ensures (ap not w.if-tag_ok.false)
]

pub returns-then-text_ok : goal.returns-then-text_ok
returns-then-text_ok c =
    string-made _ _ c.tag_ok.result c.tag_ok.ensures (ap not c.if-tag_ok.true) (omega arith) (omega arith) c.text_ok.result c.text_ok.ensures (ap not c.if-text_ok.true)
