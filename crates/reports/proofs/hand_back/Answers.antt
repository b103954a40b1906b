-- By the number: 0, or a refusal.
use Rattle.reports.proofs.SavedLaws.{handed, kept}
use Rattle.reports.proofs.hand_back.Goals as goal

pub returns-then-number-eq0 : goal.returns-then-number-eq0
returns-then-number-eq0 c = handed _ _ c.if-number-eq0.true c.write_saved.ensures

pub returns-else-number-eq0 : goal.returns-else-number-eq0
returns-else-number-eq0 c = kept _ _ c.if-number-eq0.false
