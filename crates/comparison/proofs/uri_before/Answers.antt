-- `comparison::uri_before` meets its contract: under the ranks that are the bytes' own order.
use mathlib.Core.Path.{◌∙◌}
use Rattle.text_order.proofs.OrderLaws.{by_bytes}
use Rattle.laws.specs.Lists.{up_from}
use Rattle.comparison.proofs.uri_before.Goals as goal

pub returns : goal.returns
unfolding up_from
returns c =
    c.before-2.ensures ∙ by_bytes _ _ c.requires.good.text.bytes c.requires.good_2.text.bytes
