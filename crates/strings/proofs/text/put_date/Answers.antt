-- `strings::text::put_date` meets its contract, by the laws of TextLaws and LineLaws.
use native.Mathlib.Omega.{arith}
use Rattle.strings.proofs.LineLaws.{digits-length}
use Rattle.strings.proofs.TextLaws.{date-puts}
use Rattle.calendar.specs.Dates.{meant_date}
use Rattle.strings.proofs.text.put_date.Goals as goal

pub push-first-requires : goal.push-first-requires
push-first-requires c = omega (arith, c.requires, c.digits-year.ensures.size, digits-length 4 c.args.date.year)

pub digits-month-requires : goal.digits-month-requires
digits-month-requires c = omega (arith, c.requires, c.digits-year.ensures.size, digits-length 4 c.args.date.year, c.push-first.ensures.size)

pub push-second-requires : goal.push-second-requires
push-second-requires c =
    omega (
      arith,
      c.requires,
      c.digits-year.ensures.size,
      digits-length 4 c.args.date.year,
      c.push-first.ensures.size,
      c.digits-month.ensures.size,
      digits-length 2
          c.args.date.month,
    )

pub digits-requires : goal.digits-requires
digits-requires c =
    omega (
      arith,
      c.requires,
      c.digits-year.ensures.size,
      digits-length 4 c.args.date.year,
      c.push-first.ensures.size,
      c.digits-month.ensures.size,
      digits-length 2
          c.args.date.month,
      c.push-second.ensures.size,
    )

pub returns : goal.returns
returns c =
    date-puts (meant_date c.args.date) c.digits-year.ensures c.push-first.ensures c.digits-month.ensures c.push-second.ensures c.digits.ensures
