-- `seeking::by_parts::agree` meets its contract: of each part that is asked, one law. Assumes nothing.
use mathlib.Core.Bool.{true≢false}
use Rattle.seeking.proofs.PartLaws.{part-loads, part-inside, part-denies, walked_at}
use Rattle.seeking.proofs.by_parts.agree.Goals as goal

pub bounds-view-part : goal.bounds-view-part
bounds-view-part c = part-inside _ _ (c.requires.parts_of.1 _ c.loop-part-test.true)

pub seek-s-requires : goal.seek-s-requires
seek-s-requires c = record { loads = part-loads _ _ (c.requires.parts_of.1 _ c.loop-part-test.true); ranks_lent = c.requires.ranks_lent; stored = c.requires.stored }

pub returns-then-s-number : goal.returns-then-s-number
returns-then-s-number c =
    λ f q p.
    let x = p c.loop-part.part-index c.loop-part-test.true in
    part-denies _ _ _ _ _ _ _ q x _ _ c.requires.number_lt_count c.if-s-number.true (walked_at c.seek-s.ensures x.read)

pub returns : goal.returns
returns c = λ f. absurd (true≢false f)
