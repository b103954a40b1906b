-- `output::put_digits` meets its contract: the digits before the last, then the last; the digits left fall.
use native.Mathlib.Omega.{arith}
use Rattle.output.proofs.WritingLaws.{written_none, written_as, written_then, no-digits, last-digit, more-digits}
use Rattle.output.proofs.+put_digits.Goals as goal

pub returns-then-left-eq0 : goal.returns-then-left-eq0
returns-then-left-eq0 t c = record { written = written_as (written_none _ _) (no-digits _ _ c.if-left-eq0.true); upper_bound = omega arith }

pub returns-then-n-lt10 : goal.returns-then-n-lt10
returns-then-n-lt10 t c = record { written = written_as c.put_byte.ensures (last-digit _ _ (omega arith) (omega arith)); upper_bound = omega (arith, c.put_byte.ensures.end) }

pub returns : goal.returns
returns t c = record { written = written_as (written_then c.put_digits-last.ensures.written c.put_byte-2.ensures (omega arith)) (more-digits _ _ (omega arith) (omega arith)); upper_bound = omega (arith, c.put_digits-last.ensures.upper_bound, c.put_byte-2.ensures.end) }
