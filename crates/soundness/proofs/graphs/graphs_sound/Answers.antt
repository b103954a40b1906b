-- `soundness::graphs::graphs_sound` meets its contract. Each return is one law.
use mathlib.Core.Path.{sym, ◌∙◌}
use Rattle.sound_quads.specs.TermNumbers.{uri_number}
use Rattle.soundness.proofs.LookLaws.{all-every}
use Rattle.soundness.proofs.graphs.graphs_sound.Goals as goal

pub returns-then-not-numbers_distinct : goal.returns-then-not-numbers_distinct
returns-then-not-numbers_distinct c = rw (sym c.numbers_distinct.ensures ∙ c.if-not-numbers_distinct.true)

pub returns : goal.returns
returns c = c.all_uris.ensures ∙ all-every (uri_number c.args.leasts.now c.args.count) c.args.fetched.now ∙ rw (sym c.numbers_distinct.ensures ∙ c.if-not-numbers_distinct.false)
