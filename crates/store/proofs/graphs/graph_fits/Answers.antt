use mathlib.Core.Bool.{Bool, ◌||◌}
use mathlib.Core.Path.{ap}
use lib.Dec.{ltb}
use Rattle.definitions.specs.Limits.{graph_limit}
use Rattle.store.specs.Graphs.{graph_fits}
use Rattle.store.proofs.graphs.graph_fits.Goals as goal

pub returns : goal.returns
unfolding graph_fits
returns c = ap (λ (b : Bool). b || ltb c.args.store.graphs graph_limit) c.is_fetched.ensures
