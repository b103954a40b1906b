-- `calendar::in_year` meets its contract, by the laws of CalendarLaws.
use mathlib.Core.Path.{refl, sym, ap}
use native.Mathlib.Omega.{arith}
use Rattle.definitions.specs.Calendar.{month_from}
use Rattle.calendar.proofs.CalendarLaws.{months_with, lengths-are, date-found, month-passed, date-after}
use Rattle.calendar.proofs.in_year.Goals as goal

pub loop-passed-init : goal.loop-passed-init
loop-passed-init c =
    (ap (λ ms. month_from c.args.year 1 ms c.args.day) (sym (lengths-are c.args.year c.february-second.result c.february-second.ensures)), omega arith, omega arith, refl)

pub returns-then-left-length : goal.returns-then-left-length
returns-then-left-length c =
    date-found c.args.year c.args.day (months_with c.february-second.result) c.loop-passed.passed c.loop-passed.left c.loop-passed.invariant.0 (omega arith) c.if-left-length.true

pub loop-passed-preserved : goal.loop-passed-preserved
loop-passed-preserved c = (
  month-passed c.args.year c.args.day (months_with c.february-second.result) c.loop-passed.passed c.loop-passed.left c.loop-passed.invariant.0 (omega arith) c.if-left-length.false,
  omega
      arith,
  omega (arith, c.loop-passed.invariant),
  refl,
)

pub returns : goal.returns
returns c =
    date-after c.args.year c.args.day (months_with c.february-second.result) c.loop-passed.passed c.loop-passed.left c.loop-passed.invariant.0 (omega arith) refl
