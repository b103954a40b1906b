-- `seeking::by_parts::seek_part` meets its contract: a pattern is looked up at once. Assumes nothing.
use native.Mathlib.Omega.{arith}
use mathlib.Core.Path.{refl}
use Rattle.laws.proofs.Productions.{query-at}
use Rattle.laws.proofs.Walked.{walked_as}
use Rattle.query.proofs.TermLaws.{few}
use Rattle.seeking.proofs.SeekLaws.{stays, pattern-seeks}
use Rattle.seeking.proofs.PartLaws.{walked_at}
use Rattle.seeking.proofs.by_parts.seek_part.Goals as goal

pub returns-then-not-asked : goal.returns-then-not-asked
returns-then-not-asked c = λ q m e. stays _ _ _ _ _ _ _ _

pub bounds-view-at : goal.bounds-view-at
bounds-view-at c = (query-at _ _ _ _ _ refl c.requires.loads).inside

pub overflow_add-first : goal.overflow_add-first
overflow_add-first c = omega (arith, (query-at _ _ _ _ _ refl c.requires.loads).inside)

pub names_at-names-requires : goal.names_at-names-requires
names_at-names-requires c = record { loads = ((query-at _ _ _ _ _ refl c.requires.loads).pattern c.if-view-at-eq97.true).all; known_len = c.requires.ranks_lent.terms.variables }

pub least-requires : goal.least-requires
least-requires c = record { n_in_bounds = c.requires.stored.room; keys_value = c.requires.stored.rises; end_le_sought_code = omega (arith, few _ _ _ c.requires.ranks_lent.terms.tabled) }

pub returns-then-view-at-eq97 : goal.returns-then-view-at-eq97
returns-then-view-at-eq97 c =
    λ q m e.
    pattern-seeks _ _ _ _ _ _ q _ _ _
    (walked_at (walked_as ((query-at _ _ _ _ _ refl c.requires.loads).pattern c.if-view-at-eq97.true).read c.names_at-names.ensures) e) c.least.ensures

pub seek-s-requires : goal.seek-s-requires
seek-s-requires c = record { loads = c.requires.loads; ranks_lent = c.requires.ranks_lent; stored = c.requires.stored }

pub returns : goal.returns
returns c = λ q m e. walked_at c.seek-s.ensures e
