-- `seeking::seek::seek` meets its contract: one law for each way through; the levels left fall. Assumes nothing.
use native.Mathlib.Omega.{arith}
use mathlib.Core.Path.{◌∙◌}
use Rattle.laws.proofs.Ends.{query-ends, left_out}
use Rattle.laws.proofs.Walked.{leaf_walked, walked_as, walked_more}
use Rattle.laws.proofs.Productions.{query-at}
use Rattle.seeking.proofs.SeekLaws.{stays, pattern-seeks, both-seeks, first-seeks, union-seeks}
use Rattle.query.proofs.TermLaws.{few}
use Rattle.seeking.proofs.seek.+seek.Goals as goal

pub names_at-names-requires : goal.names_at-names-requires
names_at-names-requires t c =
    let here = query-at t _ _ _ _ c.decreases c.requires.loads in record { loads = (here.pattern c.in-97.is).all; known_len = c.requires.ranks_lent.terms.variables }

pub least-found-requires : goal.least-found-requires
least-found-requires t c = record { n_in_bounds = c.requires.stored.room; keys_value = c.requires.stored.rises; end_le_sought_code = omega (arith, few _ _ _ c.requires.ranks_lent.terms.tabled) }

pub seek-a-requires : goal.seek-a-requires
seek-a-requires t c =
    let here = query-at t _ _ _ _ c.decreases c.requires.loads in let n = here.both c.in-98.is in (n.falls, (n.first, (c.requires.ranks_lent, c.requires.stored)))

pub returns-then-a-count : goal.returns-then-a-count
returns-then-a-count t c =
    let here = query-at t _ _ _ _ c.decreases c.requires.loads in
    left_out (here.both c.in-98.is) c.seek-a.ensures (λ q r h. first-seeks _ _ _ _ _ _ q r _ _ h)
    (λ d n r. c.after-next.ensures ∙ query-ends _ _ c.args.view.now.ends_lent.ended _ _ _ d n r)

pub seek-requires : goal.seek-requires
seek-requires t c =
    let here = query-at t _ _ _ _ c.decreases c.requires.loads in
    let n = here.both c.in-98.is in
    (n.falls, (n.second c.seek-a.ensures, (c.requires.ranks_lent, c.requires.stored)))

pub seek-a-requires-in-99 : goal.seek-a-requires-in-99
seek-a-requires-in-99 t c =
    let here = query-at t _ _ _ _ c.decreases c.requires.loads in let n = here.union c.in-99.is in (n.falls, (n.first, (c.requires.ranks_lent, c.requires.stored)))

pub returns-then-a-lo : goal.returns-then-a-lo
returns-then-a-lo t c =
    let here = query-at t _ _ _ _ c.decreases c.requires.loads in
    left_out (here.union c.in-99.is) c.seek-a-in-99.ensures (λ q r h. stays _ _ _ _ _ _ _ _)
    (λ d n r. c.after-next-then-a-lo.ensures ∙ query-ends _ _ c.args.view.now.ends_lent.ended _ _ _ d n r)

pub seek-b-requires : goal.seek-b-requires
seek-b-requires t c =
    let here = query-at t _ _ _ _ c.decreases c.requires.loads in
    let n = here.union c.in-99.is in
    (n.falls, (n.second c.seek-a-in-99.ensures, (c.requires.ranks_lent, c.requires.stored)))

pub seek_filter-requires : goal.seek_filter-requires
seek_filter-requires t c =
    let here = query-at t _ _ _ _ c.decreases c.requires.loads in record { loads = (here.filter c.in-100.is).child; ranks_lent = c.requires.ranks_lent }

pub returns-in-97 : goal.returns-in-97
returns-in-97 t c =
    let here = query-at t _ _ _ _ c.decreases c.requires.loads in
    walked_as (here.pattern c.in-97.is).read
    (walked_more c.names_at-names.ensures (λ q h. pattern-seeks _ _ _ _ _ _ q _ _ _ h c.least-found.ensures))

pub returns-else-a-count : goal.returns-else-a-count
returns-else-a-count t c =
    let here = query-at t _ _ _ _ c.decreases c.requires.loads in
    (here.both c.in-98.is).node c.seek-a.ensures c.seek.ensures (λ q r h k. both-seeks _ _ _ _ _ _ q r _ _ _ h k)

pub returns-else-a-lo : goal.returns-else-a-lo
returns-else-a-lo t c =
    let here = query-at t _ _ _ _ c.decreases c.requires.loads in
    (here.union c.in-99.is).node c.seek-a-in-99.ensures c.seek-b.ensures
    (λ q r h k. union-seeks _ _ _ _ _ _ q r _ _ _ _ c.min-least.ensures h k)

pub returns-in-100 : goal.returns-in-100
returns-in-100 t c =
    let here = query-at t _ _ _ _ c.decreases c.requires.loads in (here.filter c.in-100.is).node c.seek_filter.ensures (λ d h. h _ _)

pub returns-in_default : goal.returns-in_default
returns-in_default t c =
    let here = query-at t _ _ _ _ c.decreases c.requires.loads in leaf_walked (here.empty c.in_default.in_default-own.rest) (stays _ _ _ _ _ _ _ _)

pub bounds-script-at : goal.bounds-script-at
bounds-script-at t c =
    let here = query-at t _ _ _ _ c.decreases c.requires.loads in here.inside

pub overflow_add-first : goal.overflow_add-first
overflow_add-first t c =
    let here = query-at t _ _ _ _ c.decreases c.requires.loads in omega (arith, here.inside)

pub overflow_sub-below : goal.overflow_sub-below
overflow_sub-below t c =
    let here = query-at t _ _ _ _ c.decreases c.requires.loads in here.pos
