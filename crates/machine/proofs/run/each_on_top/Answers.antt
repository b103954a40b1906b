use native.Mathlib.Omega.{arith}
use mathlib.Core.Path.{ap, ◌∙◌}
use borrow.Author.Tests.{ne_eqb}
use Rattle.definitions.specs.declared.SavedItem.{SavedItem}
use Rattle.acts.specs.Steps.{on_top}
use Rattle.acts.proofs.StepLaws.{blocked}
use Rattle.acts.proofs.TopLaws.{first-item, height-low, item-inside}
use Rattle.machine.proofs.RunLaws.{none_each, not-each, each-mode}
use Rattle.machine.proofs.run.each_on_top.Goals as goal

pub returns-then-run-eq0 : goal.returns-then-run-eq0
returns-then-run-eq0 c = λ w. none_each w c.if-run-eq0.true

pub top-at-requires : goal.top-at-requires
top-at-requires c = let whole = height-low c.requires c.if-run-eq0.false in record { height_nonzero = whole.0; height_le_depth_limit = whole.1 }

pub bounds-script-at : goal.bounds-script-at
bounds-script-at c =
    item-inside c.requires _ (first-item c.requires c.if-run-eq0.false _ (ap (λ (y : SavedItem). y.«at») c.top-at.ensures))

pub returns-else-script-at-eq115 : goal.returns-else-script-at-eq115
returns-else-script-at-eq115 c = λ w. ne_eqb _ _ c.if-script-at-eq115.false ∙ not-each w _ (first-item w c.if-run-eq0.false _ (ap (λ (y : SavedItem). y.«at») c.top-at.ensures)) c.if-script-at-eq115.false

pub bounds-script-at-then-script-at-eq115 : goal.bounds-script-at-then-script-at-eq115
bounds-script-at-then-script-at-eq115 c =
    let t = first-item c.requires c.if-run-eq0.false _ (ap (λ (y : SavedItem). y.«at») c.top-at.ensures) in
    let b = blocked (on_top c.requires t) c.if-script-at-eq115.true in
    omega (arith, b.reads.reads.room)

pub returns-then-script-at-eq115 : goal.returns-then-script-at-eq115
returns-then-script-at-eq115 c = λ w. each-mode w _ (first-item w c.if-run-eq0.false _ (ap (λ (y : SavedItem). y.«at») c.top-at.ensures)) c.if-script-at-eq115.true
