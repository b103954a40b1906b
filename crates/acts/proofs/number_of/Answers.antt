use native.Mathlib.Omega.{arith}
use Rattle.acts.proofs.StepLaws.{name-bytes, variable-number, constant_number}
use Rattle.acts.proofs.number_of.Goals as goal

pub overflow_add-first : goal.overflow_add-first
overflow_add-first c = let n = name-bytes _ _ c.requires in omega (arith, n.low)

pub bounds-script-at : goal.bounds-script-at
bounds-script-at c = let n = name-bytes _ _ c.requires in omega (arith, n.low)

pub bounds-script-first : goal.bounds-script-first
bounds-script-first c = let n = name-bytes _ _ c.requires in omega (arith, n.low)

pub offset_bounds-run-v : goal.offset_bounds-run-v
offset_bounds-run-v c = let n = name-bytes _ _ c.requires in omega (arith, n.variable c.if-kind-eq49.true, c.index-v.ensures)

pub bounds-run-v : goal.bounds-run-v
bounds-run-v c = let n = name-bytes _ _ c.requires in omega (arith, n.variable c.if-kind-eq49.true, c.index-v.ensures)

pub returns-then-kind-eq49 : goal.returns-then-kind-eq49
returns-then-kind-eq49 c =
    variable-number c.args.run c.args.script.now c.args.at c.if-kind-eq49.true _ c.index-v.ensures

pub number_at-requires : goal.number_at-requires
number_at-requires c = let n = name-bytes _ _ c.requires in omega (arith, n.constant c.if-kind-eq49.false)

pub returns : goal.returns
returns c =
    constant_number c.args.run c.args.script.now c.args.at c.if-kind-eq49.false _ c.number_at.ensures
