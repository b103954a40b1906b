-- The loop: the lines of the variables before `i` are written.
use Prim.Native.Nat.{◌-◌}
use native.Mathlib.Omega.{arith}
use mathlib.Core.Path.{refl}
use borrow.Author.Rules.{rules}
use Rattle.output.proofs.WritingLaws.{written_none, written_as, written_then}
use Rattle.type_lines.proofs.Texts.{lines_none, lines_next, lines-all}
use Rattle.type_lines.proofs.put_lines.Goals as goal

pub loop-i-init : goal.loop-i-init
loop-i-init c =
    (omega arith, omega arith, refl, written_as (written_none _ _) (lines_none c.args.codes.now))

pub loop-i-preserved : goal.loop-i-preserved
loop-i-preserved c =
    let more = lines_next c.args.codes.now c.loop-i.i (omega arith) in (
      omega arith,
      omega (arith, c.put_bound-at.ensures.upper_bound),
      search rules,
      written_as (written_then c.loop-i.invariant.3 c.put_bound-at.ensures.written (omega arith)) more,
    )

pub returns : goal.returns
returns c = record { written = written_as c.loop-i.invariant.3 (lines-all c.args.codes.now c.loop-i.i (omega arith)); upper_bound = omega arith }
