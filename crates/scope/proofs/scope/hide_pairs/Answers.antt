-- `scope::scope::hide_pairs` meets its contract.
use mathlib.Core.Path.{ap}
use Rattle.scope.specs.declared.scope.Bound.{Bound}
use Rattle.scope.proofs.scope.hide_pairs.Goals as goal

pub returns : goal.returns
returns c = ap (λ (b : Bound). b.flags) c.bind_pairs-bound.ensures
