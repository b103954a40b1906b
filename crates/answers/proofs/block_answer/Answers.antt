use native.Mathlib.Omega.{arith}
use mathlib.Core.Path.{refl, ap}
use Rattle.std.specs.Prelude.{None, Some}
use Rattle.acts.specs.Steps.{on_top}
use Rattle.acts.proofs.StepLaws.{height-is, room}
use Rattle.answers.proofs.AnswerLaws.{block_room, block-small, world-given, answers-given}
use Rattle.answers.proofs.block_answer.Goals as goal

pub top-item-requires : goal.top-item-requires
top-item-requires c =
    let x = on_top c.requires.top.0.here c.requires.top.1 in record { height_nonzero = omega (arith, height-is x); height_le_depth_limit = omega (arith, height-is x, room x) }

pub block_of-block-requires : goal.block_of-block-requires
block_of-block-requires c = record { block_width_in_bounds = block_room c.requires.top.0 c.requires.top.1 c.requires.at_value; by_index = block-small c.requires.top.0 c.requires.top.1 c.requires.at_value }

pub answer-requires : goal.answer-requires
answer-requires c = record { world = world-given c.requires.top.0 c.requires.top.1 c.requires.at_value c.top-item.result.last _ c.block_of-block.ensures }

pub returns-in_err-numbers : goal.returns-in_err-numbers
returns-in_err-numbers c =
    λ w t. answers-given w t c.requires.at_value c.top-item.result.last _ c.block_of-block.ensures _ c.known_of-free.ensures c.top-item.result.started c.top-item.result
    c.top-item.ensures refl refl None c.in_err-numbers.ensures _ c.from_residual.ensures

pub returns : goal.returns
returns c =
    λ w t. answers-given w t c.requires.at_value c.top-item.result.last _ c.block_of-block.ensures _ c.known_of-free.ensures c.top-item.result.started c.top-item.result
    c.top-item.ensures refl refl (Some c.in_ok-numbers.numbers) c.in_ok-numbers.ensures _ (ap Some c.short_numbers.ensures)
