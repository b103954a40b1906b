-- `table::slots::used_terms` meets its contract. The loop keeps what is asked of the rest equal to what is asked of the whole.
use Prim.Native.Nat.{ℕ, ◌+◌, ◌-◌}
use native.Mathlib.Omega.{arith}
use mathlib.Core.Path.{◌≡◌, sym, ap, ◌∙◌}
use Rattle.std.specs.Prelude.{Some}
use Rattle.definitions.specs.Limits.{term_limit}
use Rattle.definitions.specs.Saved.{terms_from}
use Rattle.table.proofs.CountLaws.{count_from}
use Rattle.table.proofs.TableLaws.{begun-count, from_end, from-zero, from-bad, from_next}
use mathlib.Core.Bool.{not}
use Rattle.table.proofs.slots.used_terms.Goals as goal

pub loop-n-init : goal.loop-n-init
loop-n-init c = begun-count _ _ c.requires

pub returns-then-table-at-eq0 : goal.returns-then-table-at-eq0
returns-then-table-at-eq0 c =
    c.then_some.ensures ∙ sym (c.loop-n.invariant ∙ from-zero _ _ _ c.loop-n-test.true c.if-table-at-eq0.true c.is_zero.ensures)

pub returns-then-not-slot_ok : goal.returns-then-not-slot_ok
returns-then-not-slot_ok c =
    sym (c.loop-n.invariant ∙ from-bad _ _ _ c.loop-n-test.true c.if-table-at-eq0.false c.slot_ok.ensures (ap not c.if-not-slot_ok.true))

pub loop-n-preserved : goal.loop-n-preserved
loop-n-preserved c =
    c.loop-n.invariant ∙ from_next _ _ _ c.loop-n-test.true c.if-table-at-eq0.false c.slot_ok.ensures (ap not c.if-not-slot_ok.false)
    ∙ ap (λ (at : ℕ). count_from (c.loop-n.n + 1) (terms_from (term_limit - (c.loop-n.n + 1)) c.args.table.now at)) (omega arith)

pub returns : goal.returns
returns c =
    let last : c.loop-n.n ≡ term_limit = omega (arith, c.requires.few) in
    sym (c.loop-n.invariant ∙ from_end _ _ _ c.loop-n-test.false ∙ ap Some last)
