-- `lengths::Buffers::fit_with_ranks` meets its contract: the ranks' length stands before the others.
use mathlib.Core.Path.{◌≡◌, refl, ap, sym, ◌∙◌}
use mathlib.Core.Bool.{Bool, true, false, ◌&&◌}
use lib.Dec.{eqb}
use Rattle.definitions.specs.Calls.{tables_fit}
use Rattle.lengths.specs.Buffers.{buffers_fit, saved_fits}
use Rattle.lengths.proofs.Buffers.fit_with_ranks.Goals as goal

joined : (a b d : Bool) → (a && (b && d)) ≡ ((a && b) && d)
joined true b d = refl
joined false b d = refl

pub returns : goal.returns
unfolding buffers_fit saved_fits tables_fit
returns g c = ap (λ (b : Bool). eqb c.args.ranks 95 && b) c.fit.ensures ∙ joined (eqb c.args.ranks 95) _ _
