-- A date of the code.
use Rattle.std.specs.Prelude.{◌≡◌}
use Rattle.definitions.specs.Calendar.{Date as Meant}
use Rattle.calendar.specs.declared.Date.{Date}

pub record DateIs (r : Date) (d : Meant) : Type 0 where
  pub year : r.year ≡ d.year
  pub month : r.month ≡ d.month
  pub day : r.day ≡ d.day

abbrev pub meant_date : Date → Meant
meant_date r = record { year = r.year; month = r.month; day = r.day }
