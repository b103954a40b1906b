-- `strings::text::date_time` meets its contract, by the laws of CalendarLaws and TextLaws.
use native.Mathlib.Omega.{arith}
use Prim.Native.Nat.{◌%◌}
use Rattle.definitions.specs.Bytes.{filled}
use Rattle.calendar.specs.Dates.{meant_date}
use Rattle.calendar.proofs.CalendarLaws.{date-is}
use Rattle.strings.proofs.TextLaws.{date_time-written, date-length, time-length}
use Rattle.strings.proofs.text.date_time.Goals as goal

pub push-mark-requires : goal.push-mark-requires
push-mark-requires c = omega (arith, c.put_date-day.ensures.size, date-length (meant_date c.date_of-date.result))

pub put_time-time-requires : goal.put_time-time-requires
put_time-time-requires c = omega (arith, c.put_date-day.ensures.size, date-length (meant_date c.date_of-date.result), c.push-mark.ensures.size)

pub push-requires : goal.push-requires
push-requires c =
    omega (
      arith,
      c.put_date-day.ensures.size,
      date-length (meant_date c.date_of-date.result),
      c.push-mark.ensures.size,
      c.put_time-time.ensures.size,
      time-length
          (c.since_start-seconds.result % 86400),
    )

pub returns : goal.returns
unfolding filled
returns c =
    date_time-written c.args.n c.requires c.since_start-seconds.result (meant_date c.date_of-date.result) c.since_start-seconds.ensures.0 (date-is c.date_of-date.ensures)
    c.put_date-day.ensures c.push-mark.ensures c.put_time-time.ensures c.push.ensures
