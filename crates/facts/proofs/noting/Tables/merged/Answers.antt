-- `facts::noting::Tables::merged` meets its contract: only the union-find changes. Assumes nothing.
use Rattle.facts.proofs.TableLaws.{merged-is}
use Rattle.facts.proofs.noting.Tables.merged.Goals as goal

pub returns : goal.returns
returns c = merged-is _ _ _ c.merge-joined.ensures
