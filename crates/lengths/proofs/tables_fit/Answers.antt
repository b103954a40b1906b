-- `lengths::tables_fit` meets its contract.
use mathlib.Core.Path.{ap}
use mathlib.Core.Bool.{Bool, ◌&&◌}
use lib.Dec.{eqb}
use lib.ListN.{length}
use Rattle.definitions.specs.Calls.{tables_fit}
use Rattle.lengths.proofs.tables_fit.Goals as goal

pub returns : goal.returns
unfolding tables_fit
returns c = ap (λ (b : Bool). eqb (length c.args.ranks.now) 95 && b) c.both_fit.ensures
