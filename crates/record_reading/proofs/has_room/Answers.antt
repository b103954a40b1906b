-- `record_reading::has_room` meets its contract.
use mathlib.Core.Path.{◌∙◌}
use borrow.Author.Tests.{lt-leb}
use Rattle.record_reading.proofs.ReadLaws.{room-none, room-left}
use Rattle.record_reading.proofs.has_room.Goals as goal

pub returns-else-at-s : goal.returns-else-at-s
returns-else-at-s c = lt-leb _ _ c.if-at-s.false ∙ room-none c.args.s.now c.args.at c.args.width c.if-at-s.false

pub returns-then-at-s : goal.returns-then-at-s
returns-then-at-s c = room-left c.args.s.now c.args.at c.args.width c.if-at-s.true
