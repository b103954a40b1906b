-- `control::binding_sound` meets its contract.
use native.Mathlib.Omega.{arith}
use Rattle.control.proofs.BindingLaws.{not-bound, no-pair, no-term, term_fits}
use Rattle.control.proofs.binding_sound.Goals as goal

pub returns-then-not-bound : goal.returns-then-not-bound
returns-then-not-bound c = not-bound _ _ _ _ c.if-not-bound.true

pub returns-then-ty-eq0 : goal.returns-then-ty-eq0
returns-then-ty-eq0 c = no-pair _ _ _ _ c.if-not-bound.false c.if-ty-eq0.true

pub returns-then-count-i : goal.returns-then-count-i
returns-then-count-i c = no-term _ _ _ _ c.if-not-bound.false c.if-ty-eq0.false c.if-count-i.true

pub returns : goal.returns
returns c = term_fits _ _ _ _ c.if-not-bound.false c.if-ty-eq0.false (omega arith) c.has_type.ensures
