-- `seeking::seek::seek_filter` meets its contract: one law for each way through. Assumes nothing.
use mathlib.Core.Path.{◌∙◌}
use Rattle.laws.proofs.Ends.{cond-ends, stepped-over}
use Rattle.laws.proofs.Walked.{walked_more}
use Rattle.seeking.proofs.SeekLaws.{stays, cannot-seeks}
use Rattle.seeking.proofs.seek.seek_filter.Goals as goal

pub after-next-requires : goal.after-next-requires
after-next-requires c = c.args.view.now.ends_lent.room

pub returns-then-lo-count : goal.returns-then-lo-count
returns-then-lo-count c =
    stepped-over c.requires.loads (λ d n r. c.after-next.ensures ∙ cond-ends _ _ c.args.view.now.ends_lent.ended _ _ _ d n r) (λ d rows v. stays _ _ _ _ rows v _ _)

pub returns-then-m : goal.returns-then-m
returns-then-m c = walked_more c.may_cond-m.ensures (λ d h rows v. stays _ _ _ _ rows v _ _)

pub returns-else-m : goal.returns-else-m
returns-else-m c = walked_more c.may_cond-m.ensures (λ d h rows v. cannot-seeks _ _ _ _ rows v d _ h c.if-m.false)
