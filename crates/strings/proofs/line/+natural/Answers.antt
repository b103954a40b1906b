-- `strings::line::natural` meets its contract, by the laws of LineLaws.
use native.Mathlib.Omega.{arith}
use Prim.Native.Nat.{◌-◌, ◌/◌}
use Rattle.strings.proofs.LineLaws.{puts-nothing, puts-small, puts-natural, short-length}
use Rattle.strings.proofs.line.+natural.Goals as goal

pub returns-then-left-eq0 : goal.returns-then-left-eq0
returns-then-left-eq0 t c = puts-nothing c.args.line c.args.left c.args.n c.if-left-eq0.true

pub returns-then-n-lt10 : goal.returns-then-n-lt10
returns-then-n-lt10 t c = puts-small c.args.left c.args.n (omega arith) (omega arith) c.push_digit.ensures

pub push_digit-requires-2 : goal.push_digit-requires-2
push_digit-requires-2 t c = omega (arith, c.natural-front.ensures.size, short-length (c.args.left - 1) (c.args.n / 10))

pub returns : goal.returns
returns t c =
    puts-natural c.args.left c.args.n (omega arith) (omega arith) c.natural-front.ensures c.push_digit-2.ensures
