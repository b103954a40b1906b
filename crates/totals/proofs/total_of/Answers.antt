-- `totals::total_of` meets its contract.
use Rattle.walks.proofs.RootLaws.{whole-loads}
use Rattle.totals.proofs.TotalLaws.{no-total, total-is}
use Rattle.totals.proofs.total_of.Goals as goal

pub count_records-counts-requires : goal.count_records-counts-requires
count_records-counts-requires c = whole-loads _ _ c.requires

pub returns-then-counts : goal.returns-then-counts
returns-then-counts c = no-total _ _ c.requires c.count_records-counts.ensures c.if-counts.true

pub returns-else-counts : goal.returns-else-counts
returns-else-counts c = total-is _ _ c.requires c.count_records-counts.ensures c.if-counts.false
