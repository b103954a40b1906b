-- `seeking::listing::variables_in` meets its contract: it reads within the script. Assumes nothing.
use native.Mathlib.Omega.{arith}
use Rattle.seeking.proofs.listing.variables_in.Goals as goal

pub loop-i-init : goal.loop-i-init
loop-i-init c = (omega arith, omega arith)

pub loop-i-preserved : goal.loop-i-preserved
loop-i-preserved c = (omega arith, omega arith)
