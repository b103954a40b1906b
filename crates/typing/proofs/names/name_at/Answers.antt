-- `typing::names::name_at` meets its contract: what loads is a variable or a constant. Assumes nothing.
use native.Mathlib.Omega.{arith}
use Rattle.laws.proofs.Records.{name-inside, variable-of, constant_of, name-last}
use Rattle.laws.proofs.Walked.{leaf_walked}
use Rattle.facts.proofs.WalkLaws.{constant-placed}
use Rattle.typing.proofs.names.name_at.Goals as goal

pub bounds-script-at : goal.bounds-script-at
bounds-script-at c = name-inside _ _ _ _ c.requires.loads

pub overflow_add-first : goal.overflow_add-first
overflow_add-first c = omega (arith, name-inside _ _ _ _ c.requires.loads)

pub bounds-script-first : goal.bounds-script-first
bounds-script-first c = omega (arith, variable-of _ _ _ _ c.requires.loads c.if-kind-eq49.true)

pub overflow_cast-x : goal.overflow_cast-x
overflow_cast-x c = omega (arith, variable-of _ _ _ _ c.requires.loads c.if-kind-eq49.true)

pub variable_place-place-requires : goal.variable_place-place-requires
variable_place-place-requires c =
    (c.requires.written_len, omega (arith, variable-of _ _ _ _ c.requires.loads c.if-kind-eq49.true))

pub overflow_add-next : goal.overflow_add-next
overflow_add-next c = omega (arith, variable-of _ _ _ _ c.requires.loads c.if-kind-eq49.true)

pub returns-then-kind-eq49 : goal.returns-then-kind-eq49
returns-then-kind-eq49 c = leaf_walked (variable-of _ _ _ _ c.requires.loads c.if-kind-eq49.true).2 c.variable_place-place.ensures

pub word_at-number-requires : goal.word_at-number-requires
word_at-number-requires c =
    omega (arith, constant_of _ _ _ _ c.requires.loads (name-last _ _ _ _ c.requires.loads (tt, c.if-kind-eq49.false)))

pub bounds-leasts-number : goal.bounds-leasts-number
bounds-leasts-number c =
    omega (arith, constant_of _ _ _ _ c.requires.loads (name-last _ _ _ _ c.requires.loads (tt, c.if-kind-eq49.false)))

pub overflow_add-next-2 : goal.overflow_add-next-2
overflow_add-next-2 c =
    omega (arith, constant_of _ _ _ _ c.requires.loads (name-last _ _ _ _ c.requires.loads (tt, c.if-kind-eq49.false)))

pub returns : goal.returns
returns c =
    let k = constant_of _ _ _ _ c.requires.loads (name-last _ _ _ _ c.requires.loads (tt, c.if-kind-eq49.false)) in
    leaf_walked k.2 (constant-placed _ _ _ _ c.word_at-number.ensures.0 k.1)
