-- `patterns::pattern_ok` meets its contract.
use mathlib.Core.Path.{sym, ◌∙◌}
use Rattle.patterns.proofs.FieldLaws.{anchored, unanchored}
use Rattle.patterns.proofs.pattern_ok.Goals as goal

pub returns-then-s-at-eq94 : goal.returns-then-s-at-eq94
returns-then-s-at-eq94 c =
    c.pieces_ok.ensures ∙ sym (anchored c.args.s.now c.args.at c.requires c.if-s-at-eq94.true)

pub returns : goal.returns
returns c =
    c.pieces_ok-2.ensures ∙ sym (unanchored c.args.s.now c.args.at c.requires c.if-s-at-eq94.false)
