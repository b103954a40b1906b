use native.Mathlib.Omega.{arith}
use borrow.Author.Tests.{eq-eqb, ne_eqb}
use Rattle.acts.specs.Steps.{on_top}
use Rattle.acts.proofs.StepLaws.{blocked}
use Rattle.machine.proofs.RunLaws.{each-acts, once-acts}
use Rattle.machine.proofs.run.enter_block.Goals as goal

pub block_body-body-requires : goal.block_body-body-requires
block_body-body-requires c = record { block_reads = (blocked (on_top c.requires.top.0.here c.requires.top.1) c.requires.at_value).reads; ends_lent = c.args.view.now.ends_lent }

pub overflow_add-at : goal.overflow_add-at
overflow_add-at c =
    let b = blocked (on_top c.requires.top.0.here c.requires.top.1) c.requires.at_value in
    omega (arith, b.reads.reads.room)

pub bounds-script-at : goal.bounds-script-at
bounds-script-at c =
    let b = blocked (on_top c.requires.top.0.here c.requires.top.1) c.requires.at_value in
    omega (arith, b.reads.reads.room)

pub returns-then-script-at-eq1 : goal.returns-then-script-at-eq1
returns-then-script-at-eq1 c =
    λ w t. each-acts w t c.requires.at_value c.block_answer-answer.result (c.block_answer-answer.ensures w t) _ (eq-eqb _ _ c.if-script-at-eq1.true)
    (c.enter_each.ensures (on_top w.here t))

pub returns : goal.returns
returns c =
    λ w t. once-acts w t c.requires.at_value c.block_answer-answer.result (c.block_answer-answer.ensures w t) _ (ne_eqb _ _ c.if-script-at-eq1.false)
    (c.enter_once.ensures (on_top w.here t))
