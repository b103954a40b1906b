-- `query::names::name_at` meets its contract: what loads is a variable or a constant. Assumes nothing.
use native.Mathlib.Omega.{arith}
use mathlib.Core.Path.{ap, ◌∙◌}
use Rattle.definitions.specs.Tree.{var}
use Rattle.laws.proofs.Records.{name-inside, variable-of, constant_of, name-last}
use Rattle.laws.proofs.Walked.{leaf_walked}
use Rattle.query.specs.Codes.{code_of}
use Rattle.query.proofs.names.name_at.Goals as goal

pub bounds-script-at : goal.bounds-script-at
bounds-script-at c = name-inside _ _ _ _ c.requires.loads

pub overflow_add-first : goal.overflow_add-first
overflow_add-first c = omega (arith, name-inside _ _ _ _ c.requires.loads)

pub bounds-script-first : goal.bounds-script-first
bounds-script-first c = omega (arith, variable-of _ _ _ _ c.requires.loads c.if-kind-eq49.true)

pub variable_code-code-requires : goal.variable_code-code-requires
variable_code-code-requires c = omega (arith, variable-of _ _ _ _ c.requires.loads c.if-kind-eq49.true)

pub overflow_add-next : goal.overflow_add-next
overflow_add-next c = omega (arith, variable-of _ _ _ _ c.requires.loads c.if-kind-eq49.true)

pub returns-then-kind-eq49 : goal.returns-then-kind-eq49
returns-then-kind-eq49 c =
    leaf_walked (variable-of _ _ _ _ c.requires.loads c.if-kind-eq49.true).2
    (c.variable_code-code.ensures ∙ ap (λ w. code_of c.args.known.now c.args.v (var w)) c.index-w.ensures, (variable-of _ _ _ _ c.requires.loads c.if-kind-eq49.true).1)

pub word_at-code-requires : goal.word_at-code-requires
word_at-code-requires c = omega (arith, constant_of _ _ _ _ c.requires.loads (name-last _ _ _ _ c.requires.loads (tt, c.if-kind-eq49.false)))

pub overflow_add-next-2 : goal.overflow_add-next-2
overflow_add-next-2 c = omega (arith, constant_of _ _ _ _ c.requires.loads (name-last _ _ _ _ c.requires.loads (tt, c.if-kind-eq49.false)))

pub returns : goal.returns
unfolding code_of
returns c =
    leaf_walked (constant_of _ _ _ _ c.requires.loads (name-last _ _ _ _ c.requires.loads (tt, c.if-kind-eq49.false))).2 (c.word_at-code.ensures.0, omega arith)
