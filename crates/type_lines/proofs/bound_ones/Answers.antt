-- The loop: those before `i` are counted.
use Prim.Native.Nat.{◌-◌}
use native.Mathlib.Omega.{arith}
use Rattle.type_lines.proofs.Texts.{ones-next, ones_none}
use Rattle.type_lines.proofs.bound_ones.Goals as goal

pub overflow_add-n : goal.overflow_add-n
overflow_add-n c = omega (arith, c.one_if-n.ensures.upper_bound)

pub loop-code-preserved : goal.loop-code-preserved
loop-code-preserved c =
    (omega arith, omega (arith, c.one_if-n.ensures.upper_bound), omega (arith, ones-next c.args.codes.now c.loop-code.code-index (omega arith), c.one_if-n.ensures.value, c.loop-code.invariant.2))

pub returns : goal.returns
returns c =
    omega (arith, ones_none c.args.codes.now c.loop-code.code-index (omega arith), c.loop-code.invariant.2)
