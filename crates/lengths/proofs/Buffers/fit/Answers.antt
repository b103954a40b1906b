-- `lengths::Buffers::fit` meets its contract.
use mathlib.Core.Path.{refl}
use Rattle.lengths.specs.Buffers.{saved_fits}
use Rattle.lengths.proofs.Buffers.fit.Goals as goal

pub returns : goal.returns
unfolding saved_fits
returns g c = refl
