use mathlib.Core.Path.{sym, ◌∙◌}
use Rattle.machine.proofs.RunLaws.{look-each, look-steps}
use Rattle.machine.proofs.run.look.Goals as goal

pub returns-then-each_on_top : goal.returns-then-each_on_top
returns-then-each_on_top c = λ w. look-each w.lends (sym (c.each_on_top.ensures w.lends.here) ∙ c.if-each_on_top.true)

pub returns-in-Ok : goal.returns-in-Ok
returns-in-Ok c = λ w. look-steps w.lends (sym (c.each_on_top.ensures w.lends.here) ∙ c.if-each_on_top.false) _ (c.in-Ok.ensures w)

pub returns-in-Err : goal.returns-in-Err
returns-in-Err c = λ w. look-steps w.lends (sym (c.each_on_top.ensures w.lends.here) ∙ c.if-each_on_top.false) _ (c.in-Err.ensures w)
