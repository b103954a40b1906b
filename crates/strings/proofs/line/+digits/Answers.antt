-- `strings::line::digits` meets its contract, by the laws of LineLaws.
use native.Mathlib.Omega.{arith}
use Prim.Native.Nat.{◌-◌, ◌/◌}
use Rattle.strings.proofs.LineLaws.{puts-no-digits, puts-digits, digits-length}
use Rattle.strings.proofs.line.+digits.Goals as goal

pub returns-then-count-eq0 : goal.returns-then-count-eq0
returns-then-count-eq0 t c = puts-no-digits c.args.line c.args.count c.args.n c.if-count-eq0.true

pub push_digit-requires : goal.push_digit-requires
push_digit-requires t c = omega (arith, c.digits-front.ensures.size, digits-length (c.args.count - 1) (c.args.n / 10))

pub returns : goal.returns
returns t c = puts-digits c.args.count c.args.n (omega arith) c.digits-front.ensures c.push_digit.ensures
