use native.Mathlib.Omega.{arith}
use Rattle.acts.proofs.StepLaws.{room, blocked, bound_by, bound-height, once-waits, once-enters}
use Rattle.acts.proofs.enter_once.Goals as goal

pub returns-in_default : goal.returns-in_default
returns-in_default c =
    λ x. once-waits x _ c.in_default.is

pub overflow_add-second : goal.overflow_add-second
overflow_add-second c = let b = blocked c.requires.on_top c.requires.at_value in omega (arith, b.reads.reads.room)

pub overflow_add-pairs : goal.overflow_add-pairs
overflow_add-pairs c = let b = blocked c.requires.on_top c.requires.at_value in omega (arith, b.reads.reads.room)

pub bounds-script-second : goal.bounds-script-second
bounds-script-second c = let b = blocked c.requires.on_top c.requires.at_value in omega (arith, b.reads.reads.room)

pub bind_tuple-bound-requires : goal.bind_tuple-bound-requires
bind_tuple-bound-requires c =
    let b = blocked c.requires.on_top c.requires.at_value in record { count_in_bounds = omega (arith, b.reads.reads.room, b.four, c.index-count.ensures); count_le_pair_limit = omega (arith, b.four, c.index-count.ensures); by_index = λ k l. b.pairs16 k (omega (arith, c.index-count.ensures)) }

pub overflow_cast-body : goal.overflow_cast-body
overflow_cast-body c =
    let b = blocked c.requires.on_top c.requires.at_value in
    omega (arith, c.requires.body_at b.reads, b.low, c.requires.on_top.here.short)

pub replace-requires : goal.replace-requires
replace-requires c =
    let b = blocked c.requires.on_top c.requires.at_value in
    let h = bound-height c.requires.on_top b c.in-Some.tuple _ (bound_by c.requires.on_top b c.in-Some.tuple _ c.index-count.ensures _ c.bind_tuple-bound.ensures) in record { height_nonzero = omega arith; height_le_depth_limit = omega (arith, room c.requires.on_top) }

pub returns : goal.returns
returns c =
    λ x. let b = blocked x c.requires.at_value in
    once-enters x b c.in-Some.tuple _ c.requires.body_at _ (bound_by x b c.in-Some.tuple _ c.index-count.ensures _ c.bind_tuple-bound.ensures) _ c.fresh_item-item.ensures _
    c.replace.ensures _ c.in-Some.is
