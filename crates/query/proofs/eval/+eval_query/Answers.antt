-- `query::eval::eval_query` meets its contract: one law for each kind, and for a second part that is left out; the levels left fall. Assumes nothing.
use native.Mathlib.Omega.{arith}
use mathlib.Core.Path.{◌∙◌}
use Rattle.laws.proofs.Ends.{query-ends, left_out, left-within}
use Rattle.laws.proofs.ReadBounds.{cond-within, query-within}
use Rattle.laws.proofs.Walked.{leaf_walked, walked_as, walked_more}
use Rattle.laws.proofs.Productions.{query-at}
use Rattle.query.proofs.Operators.{linked-at}
use Rattle.query.proofs.EvalLaws.{pattern-holds, linked-first, linked-holds, filter-holds, empty_holds}
use Rattle.query.proofs.eval.+eval_query.Goals as goal

pub bounds-script-at : goal.bounds-script-at
bounds-script-at t c = (query-at t _ _ _ _ c.decreases c.requires.loads).inside

pub overflow_add-first : goal.overflow_add-first
overflow_add-first t c = omega (arith, (query-at t _ _ _ _ c.decreases c.requires.loads).inside)

pub overflow_sub-below : goal.overflow_sub-below
overflow_sub-below t c = (query-at t _ _ _ _ c.decreases c.requires.loads).pos

pub names_at-names-requires : goal.names_at-names-requires
names_at-names-requires t c = record { loads = ((query-at t _ _ _ _ c.decreases c.requires.loads).pattern c.in-97.is).all; known_len = c.requires.ranks_lent.terms.variables }

pub least-found-requires : goal.least-found-requires
least-found-requires t c = record { n_in_bounds = c.requires.stored.room; keys_value = c.requires.stored.rises; end_le_sought_code = omega arith }

pub returns-in-97 : goal.returns-in-97
returns-in-97 t c =
    let w = walked_as ((query-at t _ _ _ _ c.decreases c.requires.loads).pattern c.in-97.is).read
    (walked_more c.names_at-names.ensures (λ q h. pattern-holds _ _ _ _ _ q _ _ h c.least-found.ensures)) in record { walked = w; records_bound = omega (arith, query-within _ _ _ _ _ _ w.read) }

pub eval_query-a-requires : goal.eval_query-a-requires
eval_query-a-requires t c =
    let n = linked-at (query-at t _ _ _ _ c.decreases c.requires.loads) (omega arith) (omega arith) in (n.falls, (n.first, (c.requires.ranks_lent, c.requires.stored)))

pub overflow_add-counted : goal.overflow_add-counted
overflow_add-counted t c = omega (arith, c.eval_query-a.ensures.records_bound, query-within _ _ _ _ _ _ c.eval_query-a.ensures.walked.read)

pub after-next-requires : goal.after-next-requires
after-next-requires t c = c.args.view.now.ends_lent.room

pub returns-then-a-kind : goal.returns-then-a-kind
returns-then-a-kind t c =
    let n = linked-at (query-at t _ _ _ _ c.decreases c.requires.loads) (omega arith) (omega arith) in record {
      walked = left_out n c.eval_query-a.ensures.walked (λ q r h. linked-first _ _ _ _ _ _ _ q r h c.if-a-kind.true)
          (λ d n r. c.after-next.ensures ∙ query-ends _ _ c.args.view.now.ends_lent.ended _ _ _ d n r);
      records_bound = omega (
        arith,
        c.eval_query-a.ensures.records_bound,
        left-within n c.eval_query-a.ensures.walked (λ d n r. (query-within _ _ _ _ d n r).from)
            (λ d n r. c.after-next.ensures ∙ query-ends _ _ c.args.view.now.ends_lent.ended _ _ _ d n r),
      );
    }

pub eval_query-b-requires : goal.eval_query-b-requires
eval_query-b-requires t c =
    let n = linked-at (query-at t _ _ _ _ c.decreases c.requires.loads) (omega arith) (omega arith) in
    (n.falls, (n.second c.eval_query-a.ensures.walked, (c.requires.ranks_lent, c.requires.stored)))

pub overflow_add-records-in-98 : goal.overflow_add-records-in-98
overflow_add-records-in-98 t c =
    omega (arith, c.eval_query-a.ensures.records_bound, c.eval_query-b.ensures.records_bound, query-within _ _ _ _ _ _ c.eval_query-b.ensures.walked.read)

pub returns-else-a-kind : goal.returns-else-a-kind
returns-else-a-kind t c = record {
  walked = (linked-at (query-at t _ _ _ _ c.decreases c.requires.loads) (omega arith) (omega arith)).node c.eval_query-a.ensures.walked c.eval_query-b.ensures.walked
      (λ q r h k. linked-holds _ _ _ _ _ _ _ q r h k c.if-a-kind.false);
  records_bound = omega (arith, c.eval_query-a.ensures.records_bound, c.eval_query-b.ensures.records_bound);
}

pub eval_cond-a-requires : goal.eval_cond-a-requires
eval_cond-a-requires t c = record { loads = ((query-at t _ _ _ _ c.decreases c.requires.loads).filter c.in-100.is).child; ranks_lent = c.requires.ranks_lent }

pub overflow_add-records : goal.overflow_add-records
overflow_add-records t c = omega (arith, c.eval_cond-a.ensures.records_bound, cond-within _ _ _ _ _ _ c.eval_cond-a.ensures.walked.read)

pub returns-in-100 : goal.returns-in-100
returns-in-100 t c = record {
  walked = ((query-at t _ _ _ _ c.decreases c.requires.loads).filter c.in-100.is).node c.eval_cond-a.ensures.walked (λ d h. filter-holds _ _ _ _ _ d h c.is_true-holds.ensures);
  records_bound = omega (arith, c.eval_cond-a.ensures.records_bound);
}

pub returns-in_default : goal.returns-in_default
returns-in_default t c = record {
  walked = leaf_walked ((query-at t _ _ _ _ c.decreases c.requires.loads).empty ((((tt, λ e. omega arith), λ e. omega arith), λ e. omega arith), λ e. omega arith)) (empty_holds _ _ _ _ _);
  records_bound = omega arith;
}

pub returns-in_default-2 : goal.returns-in_default-2
returns-in_default-2 t c = record {
  walked = leaf_walked ((query-at t _ _ _ _ c.decreases c.requires.loads).empty ((((tt, λ e. omega arith), λ e. omega arith), λ e. omega arith), λ e. omega arith)) (empty_holds _ _ _ _ _);
  records_bound = omega arith;
}
