-- `calendar::year_day` meets its contract, by the laws of CalendarLaws.
use native.Mathlib.Omega.{arith}
use mathlib.Core.Path.{refl}
use Rattle.calendar.proofs.CalendarLaws.{by-cycles, year-small}
use Rattle.calendar.proofs.year_day.Goals as goal

pub overflow_add-year-3 : goal.overflow_add-year-3
overflow_add-year-3 c = omega (arith, year-small c.args.day c.min-centuries.result 0 c.requires c.min-centuries.ensures (omega arith))

pub overflow_add-year-4 : goal.overflow_add-year-4
overflow_add-year-4 c =
    omega (arith, year-small c.args.day c.min-centuries.result c.min-years.result c.requires c.min-centuries.ensures (omega (arith, c.min-years.ensures)))

pub returns : goal.returns
returns c =
    by-cycles c.args.day _ _ c.min-centuries.result _ _ _ c.min-years.result _ c.requires refl refl c.min-centuries.ensures refl refl refl c.min-years.ensures refl
