-- One, two or three digits.
use native.Mathlib.Omega.{arith}
use Rattle.output.proofs.WritingLaws.{written_as, written_then}
use Rattle.type_lines.proofs.Texts.{one-digit, two_digits, three-digits}
use Rattle.type_lines.proofs.put_number.Goals as goal

pub returns-then-n-lt10 : goal.returns-then-n-lt10
returns-then-n-lt10 c = record { written = written_as c.put_byte.ensures (one-digit _ c.if-n-lt10.true); upper_bound = omega (arith, c.put_byte.ensures.end) }

pub returns-then-n-lt100 : goal.returns-then-n-lt100
returns-then-n-lt100 c = record {
  written = written_as (written_then c.put_byte-a.ensures c.put_byte-then-n-lt100.ensures (omega (arith, c.requires))) (two_digits _ c.if-n-lt10.false c.if-n-lt100.true);
  upper_bound = omega
      (arith, c.put_byte-a.ensures.end, c.put_byte-then-n-lt100.ensures.end);
}

pub returns : goal.returns
returns c = record {
  written = written_as (written_then (written_then c.put_byte-a-2.ensures c.put_byte-b.ensures (omega (arith, c.requires))) c.put_byte-2.ensures (omega (arith, c.requires)))
      (three-digits _ c.if-n-lt100.false (omega arith));
  upper_bound = omega (arith, c.put_byte-a-2.ensures.end, c.put_byte-b.ensures.end, c.put_byte-2.ensures.end);
}
