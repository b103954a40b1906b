-- A name for each code, and none for another.
use native.Mathlib.Omega.{arith}
use mathlib.Core.Path.{sym, ap}
use Rattle.definitions.specs.Ascii.{ascii}
use Rattle.type_lines.specs.Lines.{datatype_text}
use Rattle.output.proofs.WritingLaws.{written_none, written_as}
use Rattle.type_lines.proofs.Texts.{no-datatype}
use Rattle.type_lines.proofs.put_datatype.Goals as goal

pub returns-in-1 : goal.returns-in-1
unfolding datatype_text ascii
returns-in-1 c = record { written = written_as c.put_text.ensures (sym (ap datatype_text c.in-1.is)); upper_bound = omega (arith, c.put_text.ensures.end) }

pub returns-in-2 : goal.returns-in-2
unfolding datatype_text ascii
returns-in-2 c = record { written = written_as c.put_text-in-2.ensures (sym (ap datatype_text c.in-2.is)); upper_bound = omega (arith, c.put_text-in-2.ensures.end) }

pub returns-in-3 : goal.returns-in-3
unfolding datatype_text ascii
returns-in-3 c = record { written = written_as c.put_text-in-3.ensures (sym (ap datatype_text c.in-3.is)); upper_bound = omega (arith, c.put_text-in-3.ensures.end) }

pub returns-in-4 : goal.returns-in-4
unfolding datatype_text ascii
returns-in-4 c = record { written = written_as c.put_text-in-4.ensures (sym (ap datatype_text c.in-4.is)); upper_bound = omega (arith, c.put_text-in-4.ensures.end) }

pub returns-in-5 : goal.returns-in-5
unfolding datatype_text ascii
returns-in-5 c = record { written = written_as c.put_text-in-5.ensures (sym (ap datatype_text c.in-5.is)); upper_bound = omega (arith, c.put_text-in-5.ensures.end) }

pub returns-in_default : goal.returns-in_default
returns-in_default c = record {
  written = written_as (written_none _ _)
      (no-datatype _ c.in_default.in_default-own.rest.0.0.0.0.1 c.in_default.in_default-own.rest.0.0.0.1 c.in_default.in_default-own.rest.0.0.1 c.in_default.in_default-own.rest.0.1 c.in_default.in_default-own.rest.1);
  upper_bound = omega arith;
}
