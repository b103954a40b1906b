-- `readoff::read_off` meets its contract: an answer for each test that fails, and one where none does. Assumes nothing.
use Rattle.readoff.proofs.ReadOffLaws.{off-joined, off-open, off-loose, off-types}
use Rattle.readoff.proofs.read_off.Goals as goal
use Rattle.readoff.proofs.read_off.Goals.{then-not-all_closed-via-then-not-all_closed, then-not-all_closed-via-else-not-all_closed+then-not-all_tight}

pub returns-then-not-apart : goal.returns-then-not-apart
returns-then-not-apart c = off-joined _ _ c.apart.ensures c.if-not-apart.true

pub returns-then-not-all_closed : goal.returns-then-not-all_closed
returns-then-not-all_closed c =
    elim c.then-not-all_closed.branch [
      | then-not-all_closed-via-then-not-all_closed w ↦ off-open _ _ c.apart.ensures c.if-not-apart.false c.all_closed.ensures w.if-not-all_closed.true
      | then-not-all_closed-via-else-not-all_closed+then-not-all_tight w ↦
          off-loose _ _ c.apart.ensures c.if-not-apart.false c.all_closed.ensures w.if-not-all_closed.false w.all_tight.ensures w.if-not-all_tight.true
    ]

pub returns : goal.returns
returns c =
    off-types _ _ c.apart.ensures c.if-not-apart.false c.all_closed.ensures c.if-not-all_closed.false c.all_tight.ensures c.if-not-all_tight.false
    c.all_reported.ensures
