-- `fields::numbers::long_at` meets its contract.
use mathlib.Core.Path.{ap, ◌∙◌}
use lib.ListN.{length}
use Rattle.std.proofs.lemmas.Result.{MatchResult-at_ok}
use Rattle.definitions.specs.Bytes.{little}
use Rattle.fields.proofs.NumberLaws.{eight}
use Rattle.fields.proofs.PartLaws.{some-part}
use Rattle.fields.proofs.numbers.long_at.Goals as goal

pub returns : goal.returns
returns c =
    let whole = MatchResult-at_ok _ _ c.unwrap.result c.unwrap.ensures c.try_into.ensures.1 in
    c.from_le_bytes.ensures ∙ eight c.unwrap.result (ap length whole.same ∙ whole.long) ∙ ap little (whole.same ∙ some-part c.args.s.now c.args.at 8)
