-- `control::control_sound` meets its contract.
use native.Mathlib.Omega.{arith}
use Rattle.control.proofs.ControlLaws.{too-high, stack-fails, stack-holds}
use Rattle.control.proofs.control_sound.Goals as goal

pub returns-then-height-gt-ITEM_LIMIT : goal.returns-then-height-gt-ITEM_LIMIT
returns-then-height-gt-ITEM_LIMIT c = λ card terms l. too-high _ _ _ _ _ card terms l c.if-height-gt-ITEM_LIMIT.true

pub returns-then-not-stack_sound : goal.returns-then-not-stack_sound
returns-then-not-stack_sound c = λ card terms l. stack-fails _ _ _ _ _ card terms l (omega arith) c.stack_sound.ensures c.if-not-stack_sound.true

pub returns : goal.returns
returns c =
    λ card terms l. stack-holds _ _ _ _ _ card terms l (omega arith) c.stack_sound.ensures c.if-not-stack_sound.false c.bindings_sound.ensures
