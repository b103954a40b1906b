-- The record of an integer or a decimal, or the record as it was.
use native.Mathlib.Omega.{arith}
use Rattle.number_record.proofs.NumberRecord.{number-refused, integer-written, decimal-written}
use Rattle.number_record.proofs.write_term.Goals as goal

pub returns-in-Integer : goal.returns-in-Integer
returns-in-Integer c =
    integer-written _ c.in-Ok.is c.in-Integer.is (omega arith) c.write_record.ensures

pub returns-in-Decimal : goal.returns-in-Decimal
returns-in-Decimal c =
    decimal-written _ c.in-Ok.is c.in-Decimal.is (omega arith) c.write_record-in-Decimal.ensures

pub returns-in_default : goal.returns-in_default
returns-in_default c = number-refused _ c.in_default.is
