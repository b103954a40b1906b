-- `record_reading::read_body` meets its contract.
use native.Mathlib.Omega.{arith}
use Rattle.record_reading.proofs.ReadLaws.{room_fits, body-none, body-short, body-read}
use mathlib.Core.Path.{ap, ◌∙◌}
use mathlib.Core.Bool.{not}
use Rattle.record_reading.proofs.read_body.Goals as goal
use Rattle.record_reading.proofs.read_body.Goals.{then-width-eq0-via-then-width-eq0, then-width-eq0-via-else-width-eq0+then-not-has_room}

pub returns-then-width-eq0 : goal.returns-then-width-eq0
returns-then-width-eq0 c =
    elim c.then-width-eq0.branch [
      | then-width-eq0-via-then-width-eq0 w ↦ body-none _ _ _ c.body_width-width.ensures w.if-width-eq0.true
      | then-width-eq0-via-else-width-eq0+then-not-has_room w ↦ body-short _ _ w.has_room.ensures _ c.body_width-width.ensures (ap not w.if-not-has_room.true)
    ]

pub overflow_add-end : goal.overflow_add-end
overflow_add-end c = omega (arith, room_fits _ _ _ c.has_room.ensures (ap not c.if-not-has_room.false))

pub slice_bounds-body_ok-end : goal.slice_bounds-body_ok-end
slice_bounds-body_ok-end c = omega (arith, room_fits _ _ _ c.has_room.ensures (ap not c.if-not-has_room.false))

pub returns : goal.returns
returns c =
    c.then_some.ensures ∙ body-read _ _ c.has_room.ensures (ap not c.if-not-has_room.false) _ c.body_width-width.ensures c.body_ok.ensures
