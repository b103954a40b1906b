-- `running::take_steps` meets its contract: a law of RunLaws for each refusal, and the machine's run.
use native.Mathlib.Omega.{arith}
use mathlib.Core.Path.{◌≡◌, refl, sym, ap, ◌∙◌}
use lib.IntN.{ℤ}
use mir.Facts.{to_z-of_z}
use lib.ListN.{length}
use Rattle.definitions.specs.Limits.{variable_limit, graph_limit, depth_limit}
use Rattle.definitions.specs.Bytes.{signed}
use Rattle.definitions.specs.Calls.{Lent, run_call}
use Rattle.lengths.specs.Lent.{lent_of}
use Rattle.entry.proofs.PassedLaws.{length-mapped, stack-low, graphs-low, script-short}
use Rattle.running.proofs.RunLaws.{entry-refused, refused-11, lends, budget-small, ran-is}
use borrow.Author.Rules.{rules}
use Rattle.running.proofs.take_steps.Goals as goal

pub returns-in_err-entered : goal.returns-in_err-entered
returns-in_err-entered c =
    let lent_at : Lent = lent_of c.args.ranks.now c.args.terms.now c.args.schema.now c.args.script.now c.args.table.now c.args.store.now in
    entry-refused lent_at c.args.saved c.args.budget c.args.clock c.in_err-entered.ensures {r = c.from_residual.result} (search rules)

pub returns-then-not-in_limits : goal.returns-then-not-in_limits
returns-then-not-in_limits c =
    let lent_at : Lent = lent_of c.args.ranks.now c.args.terms.now c.args.schema.now c.args.script.now c.args.table.now c.args.store.now in
    let x = c.in_ok-entered.ensures in
    ap (λ (z : ℤ). run_call lent_at c.args.saved c.args.budget z) (sym (c.bits-second.ensures ∙ to_z-of_z c.ranges.clock)) ∙ refused-11 lent_at c.args.saved
    c.args.budget (signed c.bits-second.result) x.0 x.1 (sym c.in_limits.ensures ∙ c.if-not-in_limits.true)

pub canonical_control-clean-requires : goal.canonical_control-clean-requires
canonical_control-clean-requires c =
    let x = c.in_ok-entered.ensures in stack-low _ _ _ _ _ _ _ x.0 x.1

pub canonical_store-kept-requires : goal.canonical_store-kept-requires
canonical_store-kept-requires c =
    let x = c.in_ok-entered.ensures in graphs-low _ _ _ _ _ _ _ x.0 x.1

pub overflow_cast-budget : goal.overflow_cast-budget
overflow_cast-budget c =
    let marks : length c.args.saved.control.bound ≡ variable_limit = search rules in
    let graphs : length c.args.saved.store.fetched ≡ graph_limit = search rules in
    let levels : length c.args.saved.control.items ≡ depth_limit = search (length-mapped, rules) in
    let x = c.in_ok-entered.ensures in
    omega (
      arith,
      budget-small _ _ _ _ _ _ _ x.0 x.1 _ _ _ x.2 marks graphs levels _ c.canonical_control-clean.ensures _ c.canonical_store-kept.ensures
          c.args.budget c.bits-second.result (sym c.in_limits.ensures ∙ c.if-not-in_limits.false),
    )

pub run_steps-end-requires : goal.run_steps-end-requires
run_steps-end-requires c =
    let marks : length c.args.saved.control.bound ≡ variable_limit = search rules in
    let graphs : length c.args.saved.store.fetched ≡ graph_limit = search rules in
    let levels : length c.args.saved.control.items ≡ depth_limit = search (length-mapped, rules) in
    let x = c.in_ok-entered.ensures in record {
      lends_store = lends _ _ _ _ _ _ _ x.0 x.1 _ _ _ x.2 marks graphs levels _ c.canonical_control-clean.ensures _ c.canonical_store-kept.ensures c.args.budget
          c.bits-second.result (sym c.in_limits.ensures ∙ c.if-not-in_limits.false);
      script_len_bound = script-short _ _ _ _ _ _ _ x.0 x.1;
    }

pub returns : goal.returns
returns c =
    let lent_at : Lent = lent_of c.args.ranks.now c.args.terms.now c.args.schema.now c.args.script.now c.args.table.now c.args.store.now in
    let marks : length c.args.saved.control.bound ≡ variable_limit = search rules in
    let graphs : length c.args.saved.store.fetched ≡ graph_limit = search rules in
    let levels : length c.args.saved.control.items ≡ depth_limit = search (length-mapped, rules) in
    let x = c.in_ok-entered.ensures in
    ap (λ (z : ℤ). run_call lent_at c.args.saved c.args.budget z) (sym (c.bits-second.ensures ∙ to_z-of_z c.ranges.clock)) ∙ ran-is _ _ _ _ _ _ _ x.0 x.1 _ _ _ x.2
    marks graphs levels _ c.canonical_control-clean.ensures _ c.canonical_store-kept.ensures c.args.budget c.bits-second.result
    (sym c.in_limits.ensures ∙ c.if-not-in_limits.false) _ c.run_steps-end.ensures refl
