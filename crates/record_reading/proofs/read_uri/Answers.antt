-- `record_reading::read_uri` meets its contract.
use native.Mathlib.Omega.{arith}
use Rattle.record_reading.proofs.ReadLaws.{room_fits, uri-short, uri-read}
use mathlib.Core.Path.{ap, ◌∙◌}
use mathlib.Core.Bool.{not}
use Rattle.record_reading.proofs.read_uri.Goals as goal

pub returns-then-not-has_room : goal.returns-then-not-has_room
returns-then-not-has_room c = uri-short _ _ c.has_room.ensures (ap not c.if-not-has_room.true)

pub overflow_add-end : goal.overflow_add-end
overflow_add-end c = omega (arith, room_fits _ _ _ c.has_room.ensures (ap not c.if-not-has_room.false))

pub slice_bounds-uri_ok-end : goal.slice_bounds-uri_ok-end
slice_bounds-uri_ok-end c = omega (arith, room_fits _ _ _ c.has_room.ensures (ap not c.if-not-has_room.false))

pub returns : goal.returns
returns c = c.then_some.ensures ∙ uri-read _ _ c.has_room.ensures (ap not c.if-not-has_room.false) c.uri_ok.ensures
