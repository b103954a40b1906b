-- `record_reading::read_entry` meets its contract.
use native.Mathlib.Omega.{arith}
use mathlib.Core.Logic.{inl, inr}
use Rattle.record_reading.proofs.ReadLaws.{room_fits, entry-short, entry-kind, entry-uri, entry-code, entry_next}
use mathlib.Core.Path.{ap}
use mathlib.Core.Bool.{not}
use Rattle.record_reading.proofs.read_entry.Goals as goal
use Rattle.record_reading.proofs.read_entry.Goals.{then-s-at-ne33-via-then-s-at-ne33, then-s-at-ne33-via-else-s-at-ne33+then-not-uri_ok}

pub returns-then-not-has_room : goal.returns-then-not-has_room
returns-then-not-has_room c = entry-short _ _ c.has_room.ensures (ap not c.if-not-has_room.true)

pub overflow_add-start : goal.overflow_add-start
overflow_add-start c = omega (arith, room_fits _ _ _ c.has_room.ensures (ap not c.if-not-has_room.false))

pub overflow_add-end : goal.overflow_add-end
overflow_add-end c = omega (arith, room_fits _ _ _ c.has_room.ensures (ap not c.if-not-has_room.false))

pub bounds-s-at : goal.bounds-s-at
bounds-s-at c = omega (arith, room_fits _ _ _ c.has_room.ensures (ap not c.if-not-has_room.false))

pub slice_bounds-uri_ok-end : goal.slice_bounds-uri_ok-end
slice_bounds-uri_ok-end c = omega (arith, room_fits _ _ _ c.has_room.ensures (ap not c.if-not-has_room.false))

pub returns-then-s-at-ne33 : goal.returns-then-s-at-ne33
returns-then-s-at-ne33 c =
    elim c.then-s-at-ne33.branch [
      | then-s-at-ne33-via-then-s-at-ne33 w ↦ entry-kind _ _ c.has_room.ensures (ap not c.if-not-has_room.false) w.if-s-at-ne33.true
      | then-s-at-ne33-via-else-s-at-ne33+then-not-uri_ok w ↦ entry-uri _ _ c.has_room.ensures (ap not c.if-not-has_room.false) w.if-s-at-ne33.false w.uri_ok.ensures (ap not w.if-not-uri_ok.true)
    ]

pub bounds-s-end : goal.bounds-s-end
bounds-s-end c =
    omega (arith, room_fits _ _ _ c.has_room.ensures (ap not c.if-not-has_room.false))

pub overflow_add-result : goal.overflow_add-result
overflow_add-result c =
    omega (arith, room_fits _ _ _ c.has_room.ensures (ap not c.if-not-has_room.false))

pub returns-in-1-to-5 : goal.returns-in-1-to-5
returns-in-1-to-5 c =
    entry_next _ _ c.has_room.ensures (ap not c.if-not-has_room.false) c.if-s-at-ne33.false c.uri_ok.ensures (ap not c.if-not-uri_ok.false) (omega arith) (omega arith)

pub returns-in_default : goal.returns-in_default
returns-in_default c =
    entry-code _ _ c.has_room.ensures (ap not c.if-not-has_room.false) c.if-s-at-ne33.false c.uri_ok.ensures (ap not c.if-not-uri_ok.false) (inl (omega arith))

pub returns-in_default-2 : goal.returns-in_default-2
returns-in_default-2 c =
    entry-code _ _ c.has_room.ensures (ap not c.if-not-has_room.false) c.if-s-at-ne33.false c.uri_ok.ensures (ap not c.if-not-uri_ok.false) (inr (omega arith))
