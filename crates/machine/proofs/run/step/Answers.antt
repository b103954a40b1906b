use Prim.Native.Nat.{◌<◌, ◌≤◌}
use native.Mathlib.Omega.{arith}
use mathlib.Core.Path.{refl}
use lib.ListN.{length}
use borrow.Author.Rules.{rules}
use Rattle.store.specs.Stack.{top_of}
use Rattle.acts.specs.Steps.{Standing, Top, OnTop, on_top}
use Rattle.acts.proofs.TopLaws.{first-item, height-low, item-inside, is_block}
use Rattle.machine.proofs.RunLaws.{step-acts, step-ends, graphs-low}
use Rattle.machine.proofs.run.step.Goals as goal

pub returns-then-run-eq0 : goal.returns-then-run-eq0
returns-then-run-eq0 c = λ w. step-ends w.lends c.if-run-eq0.true

pub overflow_sub-under : goal.overflow_sub-under
overflow_sub-under c =
    let high : (0 < c.args.run.height) × (c.args.run.height ≤ 24) = height-low c.requires.lends_store.lends.here c.if-run-eq0.false in omega (arith, high)

pub offset_bounds-run-under : goal.offset_bounds-run-under
offset_bounds-run-under c =
    let high : (0 < c.args.run.height) × (c.args.run.height ≤ 24) = height-low c.requires.lends_store.lends.here c.if-run-eq0.false in omega (arith, high)

pub bounds-run-under : goal.bounds-run-under
bounds-run-under c =
    let high : (0 < c.args.run.height) × (c.args.run.height ≤ 24) = height-low c.requires.lends_store.lends.here c.if-run-eq0.false in omega (arith, high)

pub bounds-script-at : goal.bounds-script-at
bounds-script-at c =
    let first : (h : Standing c.args.view.now.script.now c.args.view.now.context.loaded c.args.run) → Top h (top_of c.args.run).«at» = λ h. first-item h c.if-run-eq0.false _ refl in
    let inside : (top_of c.args.run).«at» < length c.args.view.now.script.now = item-inside c.requires.lends_store.lends.here _ (first c.requires.lends_store.lends.here) in inside

pub drop_success-requires : goal.drop_success-requires
drop_success-requires c =
    let first : (h : Standing c.args.view.now.script.now c.args.view.now.context.loaded c.args.run) → Top h (top_of c.args.run).«at» = λ h. first-item h c.if-run-eq0.false _ refl in
    let on-top : OnTop c.args.view.now.script.now c.args.view.now.context.loaded c.args.run (top_of c.args.run).«at» = on_top c.requires.lends_store.lends.here (first c.requires.lends_store.lends.here) in record { on_top = on-top; at_value = c.in-113.is }

pub returns-in-113 : goal.returns-in-113
returns-in-113 c =
    let first : (h : Standing c.args.view.now.script.now c.args.view.now.context.loaded c.args.run) → Top h (top_of c.args.run).«at» = λ h. first-item h c.if-run-eq0.false _ refl in
    λ w. let t = first w.lends.here in
    step-acts w.lends _ t _ (c.drop_success.ensures (on_top w.lends.here t) _ _)

pub enter_named-requires : goal.enter_named-requires
enter_named-requires c =
    let first : (h : Standing c.args.view.now.script.now c.args.view.now.context.loaded c.args.run) → Top h (top_of c.args.run).«at» = λ h. first-item h c.if-run-eq0.false _ refl in
    let on-top : OnTop c.args.view.now.script.now c.args.view.now.context.loaded c.args.run (top_of c.args.run).«at» = on_top c.requires.lends_store.lends.here (first c.requires.lends_store.lends.here) in record { on_top = on-top; at_value = c.in-114.is; graphs_le_graph_limit = graphs-low c.requires.lends_store }

pub returns-in-114 : goal.returns-in-114
returns-in-114 c =
    let first : (h : Standing c.args.view.now.script.now c.args.view.now.context.loaded c.args.run) → Top h (top_of c.args.run).«at» = λ h. first-item h c.if-run-eq0.false _ refl in
    λ w. let t = first w.lends.here in
    step-acts w.lends _ t _ (c.enter_named.ensures (on_top w.lends.here t) w.stored _ _)

pub enter_sequence-requires : goal.enter_sequence-requires
enter_sequence-requires c =
    let first : (h : Standing c.args.view.now.script.now c.args.view.now.context.loaded c.args.run) → Top h (top_of c.args.run).«at» = λ h. first-item h c.if-run-eq0.false _ refl in
    let on-top : OnTop c.args.view.now.script.now c.args.view.now.context.loaded c.args.run (top_of c.args.run).«at» = on_top c.requires.lends_store.lends.here (first c.requires.lends_store.lends.here) in record { on_top = on-top; at_value = c.in-116.is }

pub returns-in-116 : goal.returns-in-116
returns-in-116 c =
    let first : (h : Standing c.args.view.now.script.now c.args.view.now.context.loaded c.args.run) → Top h (top_of c.args.run).«at» = λ h. first-item h c.if-run-eq0.false _ refl in
    λ w. let t = first w.lends.here in
    step-acts w.lends _ t _ (c.enter_sequence.ensures (on_top w.lends.here t) _ _)

pub enter_block-requires : goal.enter_block-requires
enter_block-requires c =
    let first : (h : Standing c.args.view.now.script.now c.args.view.now.context.loaded c.args.run) → Top h (top_of c.args.run).«at» = λ h. first-item h c.if-run-eq0.false _ refl in
    let t = first c.requires.lends_store.lends.here in record { top = (c.requires.lends_store.lends, t); at_value = is_block c.requires.lends_store.lends.here _ t (search rules) (search rules) (search rules) }

pub returns-in_default : goal.returns-in_default
returns-in_default c =
    let first : (h : Standing c.args.view.now.script.now c.args.view.now.context.loaded c.args.run) → Top h (top_of c.args.run).«at» = λ h. first-item h c.if-run-eq0.false _ refl in
    λ w. let t = first w.lends.here in
    step-acts w.lends _ t _ (c.enter_block.ensures w.lends t)
