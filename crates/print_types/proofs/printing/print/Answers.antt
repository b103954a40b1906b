-- Too long, or by what the check finds.
use native.Mathlib.Omega.{arith}
use Rattle.output.proofs.WritingLaws.{written_as}
use Rattle.print_types.proofs.Printed.{too_long, refused-printed, accepted-printed}
use Rattle.print_types.proofs.printing.print.Goals as goal

pub returns-then-input-gt-PRINTER_LIMIT : goal.returns-then-input-gt-PRINTER_LIMIT
returns-then-input-gt-PRINTER_LIMIT c = record {
  written = written_as c.put_refused.ensures.written (too_long _ c.if-input-gt-PRINTER_LIMIT.true);
  upper_bound = omega (arith, c.put_refused.ensures.upper_bound, c.requires);
}

pub returns-in-Err : goal.returns-in-Err
returns-in-Err c = record {
  written = written_as c.put_refused-in-Err.ensures.written (refused-printed _ c.if-input-gt-PRINTER_LIMIT.false c.in-Err.ensures);
  upper_bound = omega (arith, c.put_refused-in-Err.ensures.upper_bound, c.requires);
}

pub returns-in-Ok : goal.returns-in-Ok
returns-in-Ok c =
    let x = c.in-Ok.ensures in
    record {
      written = written_as c.put_accepted.ensures.written (accepted-printed _ c.if-input-gt-PRINTER_LIMIT.false x.0 x.1 x.2);
      upper_bound = omega (arith, c.put_accepted.ensures.upper_bound, c.requires);
    }
