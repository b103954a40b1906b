-- `fields::numbers::same_bytes` meets its contract.
use mathlib.Core.Path.{◌∙◌}
use Rattle.fields.proofs.SameLaws.{pointwise-same}
use Rattle.fields.proofs.numbers.same_bytes.Goals as goal

pub returns : goal.returns
returns c = c.eq.ensures ∙ pointwise-same c.args.a.now c.args.b.now
