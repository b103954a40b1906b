-- `strings::tests::regex` meets its contract, by the laws of TestLaws.
use mathlib.Core.Path.{ap, ◌∙◌}
use Rattle.definitions.specs.Text.{pattern_of, accepts}
use Rattle.strings.proofs.TestLaws.{tells-text}
use Rattle.fields.proofs.PartLaws.{some-part, part-long}
use Rattle.definitions.specs.Limits.{pattern_width}
use Rattle.strings.proofs.tests.regex.Goals as goal

pub accepts-requires : goal.accepts-requires
accepts-requires c = part-long _ c.args.at pattern_width c.requires.pattern_width_in_bounds

pub returns : goal.returns
returns c =
    λ q e. tells-text (λ s. accepts q s.text) c.args.v c.accepts.result
    (c.accepts.ensures q (ap pattern_of (some-part c.args.script.now c.args.at pattern_width) ∙ e)) c.told.ensures
