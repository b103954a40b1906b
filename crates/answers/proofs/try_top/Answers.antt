-- `answers::try_top` meets its contract: the search's own trial, for the block on top.
use mathlib.Core.Path.{◌≡◌}
use lib.ListN.{length}
use Rattle.answers.proofs.AnswerLaws.{block_room, block-small, world-given, tries-given}
use borrow.Author.Rules.{rules}
use Rattle.answers.proofs.try_top.Goals as goal

pub block_of-block-requires : goal.block_of-block-requires
block_of-block-requires c = record { block_width_in_bounds = block_room c.requires.top.0 c.requires.top.1 c.requires.at_value; by_index = block-small c.requires.top.0 c.requires.top.1 c.requires.at_value }

pub try_tuple-requires : goal.try_tuple-requires
try_tuple-requires c = record { world = world-given c.requires.top.0 c.requires.top.1 c.requires.at_value c.args.tuple _ c.block_of-block.ensures }

pub returns : goal.returns
returns c =
    let four : length c.args.tuple ≡ 4 = search rules in
    λ w t. tries-given w t c.requires.at_value c.args.tuple _ c.block_of-block.ensures four _ c.known_of-known.ensures _ c.wide_numbers-numbers.ensures c.try_tuple.result
    c.try_tuple.ensures
