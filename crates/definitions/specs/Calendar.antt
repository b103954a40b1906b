-- Document 01, "Values": a date_time's text, in the Gregorian calendar from year 0001 to year 9999.
use Rattle.std.specs.Prelude.{ℕ, zero, suc, ◌+◌, ◌-◌, ◌/◌, ◌%◌, List, [], ◌∷◌, ◌++◌, Bool, true, false, cond, not, ◌&&◌, ◌||◌, eqb, ltb, ℤ, pos, nat_abs, ◌+ℤ◌}
use Rattle.definitions.specs.Limits.{seconds_before}
use Rattle.definitions.specs.Ascii.{ascii}
use Rattle.definitions.specs.Terms.{Text}

-- a leap year: divisible by 4, and by 400 if by 100
unfoldable pub is_leap : ℕ → Bool
is_leap year = eqb (year % 4) 0 && (not (eqb (year % 100) 0) || eqb (year % 400) 0)

unfoldable pub year_length : ℕ → ℕ
year_length year = cond (is_leap year) 366 365

unfoldable pub month_lengths : (year : ℕ) → List ℕ
month_lengths year = 31 ∷ cond (is_leap year) 29 28 ∷ 31 ∷ 30 ∷ 31 ∷ 30 ∷ 31 ∷ 31 ∷ 30 ∷ 31 ∷ 30 ∷ 31 ∷ []

-- year, month and day of the month, each from 1
pub record Date : Type 0 where
  pub year : ℕ
  pub month : ℕ
  pub day : ℕ

-- the date of a day of a year, counted from 0, month by month
unfoldable pub month_from : (year month : ℕ) → (lengths : List ℕ) → (day : ℕ) → Date
month_from year month [] day = record { year = year; month = month; day = suc day }
month_from year month (n ∷ ns) day =
    elim (ltb day n) [
      | true ↦ record { year = year; month = month; day = suc day }
      | false ↦ month_from year (suc month) ns (day - n)
    ]

-- the date of a day counted from the first day of a year, year by year; `left` bounds the years
unfoldable pub year_from : (left year day : ℕ) → Date
year_from zero year day = month_from year 1 (month_lengths year) day
year_from (suc left) year day =
    elim (ltb day (year_length year)) [
      | true ↦ month_from year 1 (month_lengths year) day
      | false ↦ year_from left (suc year) (day - year_length year)
    ]

-- the date of a day counted from 0001-01-01; up to 9999-12-31 the bound on the years is never reached (`values`, `CalendarLaws.counted`)
unfoldable pub date_of : ℕ → Date
date_of day = year_from 9998 1 day

-- ── texts ───────────────────────────────────────────────────────────────────────────────────

-- the last n digits of a number
unfoldable pub digits : (n : ℕ) → ℕ → Text
digits zero m = []
digits (suc n) m = digits n (m / 10) ++ ((0x30 + m % 10) ∷ [])

unfoldable pub date_text : Date → Text
date_text d = digits 4 d.year ++ (ascii "-" ++ (digits 2 d.month ++ (ascii "-" ++ digits 2 d.day)))

unfoldable pub time_text : (second : ℕ) → Text
time_text s = digits 2 (s / 3600) ++ (ascii ":" ++ (digits 2 (s / 60 % 60) ++ (ascii ":" ++ digits 2 (s % 60))))

-- as 1970-01-01T00:00:00Z; a date_time is not before 0001-01-01T00:00:00Z
unfoldable pub date_time_text : (seconds : ℤ) → Text
date_time_text z =
    let s = nat_abs (z +ℤ pos seconds_before) in
    date_text (date_of (s / 86400)) ++ (ascii "T" ++ (time_text (s % 86400) ++ ascii "Z"))
