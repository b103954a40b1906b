-- `scan::opened` meets its contract. Assumes nothing.
use Rattle.scan.proofs.Stretches.{from-floor, from-base}
use Rattle.scan.proofs.opened.Goals as goal

pub returns-then-code-eq-SOUGHT : goal.returns-then-code-eq-SOUGHT
returns-then-code-eq-SOUGHT c = from-floor _ _ _ _ _ c.if-code-eq-SOUGHT.true

pub returns : goal.returns
returns c = from-base _ _ _ _ _ c.if-code-eq-SOUGHT.false
