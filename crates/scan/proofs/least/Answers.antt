-- `scan::least` meets its contract: the first n keys are a list of their own. Assumes nothing.
use mathlib.Core.Path.{sym, ap, ◌∙◌}
use Rattle.keys.specs.Keys.{rising}
use Rattle.keys.proofs.Quads.{rows-front}
use Rattle.keys.proofs.Rise.{keys-front}
use Rattle.scan.specs.Scan.{scan}
use Rattle.scan.specs.Codes.{places_at}
use Rattle.scan.proofs.least.Goals as goal

pub least_by_graph-requires-clause-keys_value : goal.least_by_graph-requires-clause-keys_value
least_by_graph-requires-clause-keys_value c = sym (ap rising (keys-front c.args.keys.now c.args.n c.requires.n_in_bounds)) ∙ c.requires.keys_value

pub least_by_stretch-requires-clause-keys_value : goal.least_by_stretch-requires-clause-keys_value
least_by_stretch-requires-clause-keys_value c = sym (ap rising (keys-front c.args.keys.now c.args.n c.requires.n_in_bounds)) ∙ c.requires.keys_value

pub returns-then-codes-le-SOUGHT : goal.returns-then-codes-le-SOUGHT
returns-then-codes-le-SOUGHT c =
    c.least_by_graph.ensures ∙ ap (scan (places_at c.args.codes) c.args.lo c.args.end) (rows-front c.args.keys.now c.args.n c.requires.n_in_bounds)

pub returns-else-codes-gt-SOUGHT : goal.returns-else-codes-gt-SOUGHT
returns-else-codes-gt-SOUGHT c =
    c.least_by_stretch.ensures ∙ ap (scan (places_at c.args.codes) c.args.lo c.args.end) (rows-front c.args.keys.now c.args.n c.requires.n_in_bounds)
