-- `keys::upper` meets its contract. Each key of 64 bits is below 2^64. Assumes nothing.
use native.Mathlib.Omega.{arith}
use Rattle.keys.proofs.Rise.{all-below}
use Rattle.keys.proofs.upper.Goals as goal

pub returns-then-x-eq-LAST_KEY : goal.returns-then-x-eq-LAST_KEY
returns-then-x-eq-LAST_KEY c = let whole = all-below _ _ _ (λ j. omega (arith, c.type_inv.keys j, c.if-x-eq-LAST_KEY.true)) in record { value = whole.0; splits = whole.1 }
