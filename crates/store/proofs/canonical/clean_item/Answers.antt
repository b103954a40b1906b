use Rattle.store.proofs.CanonicalLaws.{not-started, no_block, no-each, each-made}
use Rattle.store.proofs.canonical.clean_item.Goals.{then-not-started-via-then-not-started, then-not-started-via-else-not-started+then-kind-ne115, then-not-started-via-else-not-started+else-kind-ne115+then-mode-ne1}
use Rattle.store.proofs.canonical.clean_item.Goals as goal

pub returns-then-not-started : goal.returns-then-not-started
returns-then-not-started c = elim c.then-not-started.branch [
  | then-not-started-via-then-not-started w ↦ not-started c.args.script.now c.args.item _ c.fresh_item.ensures w.if-not-started.true
  | then-not-started-via-else-not-started+then-kind-ne115 w ↦ no_block c.args.script.now c.args.item _ c.fresh_item.ensures _ c.byte_at-kind.ensures w.if-kind-ne115.true
  | then-not-started-via-else-not-started+else-kind-ne115+then-mode-ne1 w ↦ no-each c.args.script.now c.args.item _ c.fresh_item.ensures _ c.byte_at-mode.ensures w.if-mode-ne1.true
]

pub returns : goal.returns
returns c =
    each-made c.args.script.now c.args.item _ _ c.first_numbers-last.ensures c.byte_at-count.ensures c.if-not-started.false
    _ c.byte_at-kind.ensures c.if-kind-ne115.false _
    c.byte_at-mode.ensures c.if-mode-ne1.false
