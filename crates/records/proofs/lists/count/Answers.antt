-- `records::lists::count` meets its contract. The loop keeps what is asked of the rest equal to what is asked of the whole.
use native.Mathlib.Omega.{arith}
use mathlib.Core.Path.{sym, ◌∙◌}
use Rattle.records.proofs.ListLaws.{count-end, count-bad, count_next, next-after}
use Rattle.table.proofs.CountLaws.{count-zero}
use Rattle.records.proofs.lists.count.Goals as goal

pub loop-at-init : goal.loop-at-init
loop-at-init g c = (omega arith, omega arith, count-zero _)

pub returns-in_err-at : goal.returns-in_err-at
returns-in_err-at g c =
    c.from_residual.ensures
    ∙ sym (c.loop-at.invariant.2 ∙ count-bad g.R.Record.read g.met.R.Record.forward _ _ c.loop-at-test.true c.next.ensures _ c.in_err-at.was)

pub loop-at-smaller : goal.loop-at-smaller
loop-at-smaller g c = omega (arith, next-after g.R.Record.read g.met.R.Record.forward _ _ c.loop-at-test.true c.next.ensures c.in_ok-at.was)

pub loop-at-preserved : goal.loop-at-preserved
loop-at-preserved g c =
    let a = next-after g.R.Record.read g.met.R.Record.forward _ _ c.loop-at-test.true c.next.ensures c.in_ok-at.was in
    (omega arith, omega arith, c.loop-at.invariant.2 ∙ count_next g.R.Record.read g.met.R.Record.forward _ _ c.loop-at-test.true c.next.ensures c.in_ok-at.was _)

pub returns : goal.returns
returns g c = sym (c.loop-at.invariant.2 ∙ count-end g.R.Record.read g.met.R.Record.forward _ _ _ c.loop-at-test.false)
