use native.Mathlib.Omega.{arith}
use Rattle.acts.proofs.StepLaws.{height-is, inside, two, sequence-acts}
use Rattle.acts.proofs.enter_sequence.Goals as goal

pub overflow_add-first : goal.overflow_add-first
overflow_add-first c = let l = inside c.requires.on_top _ c.requires.at_value (omega arith) in omega (arith, c.requires.on_top.here.short)

pub returns-in_default : goal.returns-in_default
returns-in_default c =
    absurd ((two c.requires.on_top c.requires.at_value _ c.read_script.ensures).there c.in_default.is)

pub overflow_cast-second : goal.overflow_cast-second
overflow_cast-second c =
    let t = two c.requires.on_top c.requires.at_value _ c.read_script.ensures in
    let e = t.found _ c.in-Some.is in
    omega (arith, t.low, c.requires.on_top.here.short)

pub overflow_cast-first : goal.overflow_cast-first
overflow_cast-first c =
    let l = inside c.requires.on_top _ c.requires.at_value (omega arith) in
    omega (arith, c.requires.on_top.here.short)

pub replace_and_push-requires : goal.replace_and_push-requires
replace_and_push-requires c =
    let t = two c.requires.on_top c.requires.at_value _ c.read_script.ensures in record { height_nonzero = omega (arith, height-is c.requires.on_top); height_lt_depth_limit = omega (arith, height-is c.requires.on_top, t.room2) }

pub returns : goal.returns
returns c =
    λ x. sequence-acts x _ (two x c.requires.at_value _ c.read_script.ensures) _ c.in-Some.is _ _ c.fresh_item-below.ensures c.fresh_item-above.ensures _
    c.replace_and_push.ensures
