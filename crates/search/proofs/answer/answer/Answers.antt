-- `search::answer::answer` meets its contract: the search from the first level on, with the block's variables not known. Assumes nothing.
use Rattle.search.proofs.FindLaws.{loads-here}
use Rattle.search.proofs.AnswerLaws.{parted, answer-begins, answer-goes-on}
use Rattle.search.proofs.answer.answer.Goals as goal

pub cleared-opened-requires : goal.cleared-opened-requires
cleared-opened-requires c = record { size_le_pair_limit = c.requires.world.size; by_index = c.requires.world.small }

pub parts_of-listed-requires : goal.parts_of-listed-requires
parts_of-listed-requires c = record { loads = loads-here c.requires.world }

pub find_after-requires : goal.find_after-requires
find_after-requires c = record { world = c.requires.world; parted = parted _ _ _ _ _ c.parts_of-listed.ensures.size_le_part_limit.0 c.parts_of-listed.ensures.parts_of }

pub returns-then-started : goal.returns-then-started
returns-then-started c =
    λ w. answer-goes-on w _ _ _ c.cleared-opened.ensures.result_value c.if-started.true c.find_after.result (c.find_after.ensures.after_of w)

pub find-requires : goal.find-requires
find-requires c = record { world = c.requires.world; parted = parted _ _ _ _ _ c.parts_of-listed.ensures.size_le_part_limit.0 c.parts_of-listed.ensures.parts_of }

pub returns-else-started : goal.returns-else-started
returns-else-started c =
    λ w. answer-begins w _ _ _ c.cleared-opened.ensures.result_value c.if-started.false c.find.result (c.find.ensures.find_of w)
