-- `control::stack_sound` meets its contract.
use native.Mathlib.Omega.{arith}
use mathlib.Core.Path.{refl}
use Rattle.control.proofs.StackLaws.{stack-done, stack-stop, stack-turn}
use Rattle.control.proofs.stack_sound.Goals as goal

pub loop-below-init : goal.loop-below-init
loop-below-init c = refl

pub returns-then-not-item_sound : goal.returns-then-not-item_sound
returns-then-not-item_sound c =
    stack-stop c.args.script.now c.args.loaded c.requires.script_value c.args.count c.args.bound c.args.items c.args.height c.loop-below.below c.loop-below.invariant (omega arith) c.item_sound.ensures
    c.if-not-item_sound.true

pub loop-below-preserved : goal.loop-below-preserved
loop-below-preserved c =
    stack-turn c.args.script.now c.args.loaded c.requires.script_value c.args.count c.args.bound c.args.items c.args.height c.loop-below.below c.loop-below.invariant (omega arith) c.item_sound.ensures
    c.if-not-item_sound.false

pub returns : goal.returns
returns c =
    stack-done c.args.script.now c.args.loaded c.requires.script_value c.args.count c.args.bound c.args.items c.args.height c.loop-below.below c.loop-below.invariant (omega arith)
