-- `strings::text::put_time` meets its contract, by the laws of TextLaws and LineLaws.
use native.Mathlib.Omega.{arith}
use Prim.Native.Nat.{◌/◌, ◌%◌}
use Rattle.strings.proofs.LineLaws.{digits-length}
use Rattle.strings.proofs.TextLaws.{time-puts}
use Rattle.strings.proofs.text.put_time.Goals as goal

pub push-first-requires : goal.push-first-requires
push-first-requires c = omega (arith, c.requires, c.digits-hours.ensures.size, digits-length 2 (c.args.second / 3600))

pub digits-minutes-requires : goal.digits-minutes-requires
digits-minutes-requires c = omega (arith, c.requires, c.digits-hours.ensures.size, digits-length 2 (c.args.second / 3600), c.push-first.ensures.size)

pub push-next-requires : goal.push-next-requires
push-next-requires c =
    omega (
      arith,
      c.requires,
      c.digits-hours.ensures.size,
      digits-length 2 (c.args.second / 3600),
      c.push-first.ensures.size,
      c.digits-minutes.ensures.size,
      digits-length 2
          (c.args.second / 60 % 60),
    )

pub digits-requires : goal.digits-requires
digits-requires c =
    omega (
      arith,
      c.requires,
      c.digits-hours.ensures.size,
      digits-length 2 (c.args.second / 3600),
      c.push-first.ensures.size,
      c.digits-minutes.ensures.size,
      digits-length 2
          (c.args.second / 60 % 60),
      c.push-next.ensures.size,
    )

pub returns : goal.returns
returns c =
    time-puts c.args.second c.digits-hours.ensures c.push-first.ensures c.digits-minutes.ensures c.push-next.ensures c.digits.ensures
