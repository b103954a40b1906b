-- `asks::is_text` meets its contract.
use native.Mathlib.Omega.{arith}
use mathlib.Core.Path.{sym, ap, ◌∙◌}
use lib.ListN.{length}
use lib.Seq.{length-take-le}
use Rattle.asks.proofs.AskLaws.{text-not, text-rest}
use mathlib.Core.Bool.{not}
use Rattle.asks.proofs.is_text.Goals as goal

pub slice_bounds-same_bytes-end : goal.slice_bounds-same_bytes-end
slice_bounds-same_bytes-end c =
    sym (length-take-le (length c.args.text.now) c.args.field.now (omega (arith, c.requires)))

pub returns-else-same_bytes : goal.returns-else-same_bytes
returns-else-same_bytes c =
    c.if-same_bytes.false
    ∙ text-not c.args.field.now c.args.text.now c.requires.field_len c.requires.text_len_bound c.same_bytes.ensures (ap not c.if-same_bytes.false)

pub returns-then-same_bytes : goal.returns-then-same_bytes
returns-then-same_bytes c =
    text-rest c.args.field.now c.args.text.now c.requires.field_len c.requires.text_len_bound c.same_bytes.ensures (ap not c.if-same_bytes.true) c.is_zero.ensures
