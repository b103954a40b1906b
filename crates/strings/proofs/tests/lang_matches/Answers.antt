-- `strings::tests::lang_matches` meets its contract, by the laws of TestLaws.
use mathlib.Core.Path.{ap, ◌∙◌}
use Rattle.definitions.specs.Text.{language_range_of, matches}
use Rattle.strings.proofs.TestLaws.{tells-text}
use Rattle.fields.proofs.PartLaws.{some-part, part-long}
use Rattle.definitions.specs.Limits.{language_range_width}
use Rattle.strings.proofs.tests.lang_matches.Goals as goal

pub accepts-requires : goal.accepts-requires
accepts-requires c = record { range_len = part-long _ c.args.at language_range_width c.requires.language_range_width_in_bounds; tag_len = c.requires.good.tag.size }

pub returns : goal.returns
returns c =
    λ q e. tells-text (λ s. matches q s.tag) c.args.v c.accepts.result
    (c.accepts.ensures q (ap language_range_of (some-part c.args.script.now c.args.at language_range_width) ∙ e)) c.told.ensures
