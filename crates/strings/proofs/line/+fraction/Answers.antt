-- `strings::line::fraction` meets its contract, by the laws of LineLaws.
use native.Mathlib.Omega.{arith}
use Rattle.strings.proofs.LineLaws.{puts-last, puts-shorter, puts-fraction}
use Rattle.strings.proofs.line.+fraction.Goals as goal

pub returns-then-count-eq1 : goal.returns-then-count-eq1
returns-then-count-eq1 t c = puts-last c.args.count c.args.m c.if-count-eq1.true c.digits.ensures

pub returns-then-m-eq0 : goal.returns-then-m-eq0
returns-then-m-eq0 t c = puts-shorter c.args.count c.args.m (omega arith) c.if-m-eq0.true c.fraction.ensures

pub returns : goal.returns
returns t c = puts-fraction c.args.count c.args.m (omega arith) c.if-m-eq0.false c.digits-2.ensures
