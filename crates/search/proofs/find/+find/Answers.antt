-- `search::find::find` meets its contract: one law for each way through; the levels left fall. The loop's invariant: no number before has a tuple.
-- Assumes nothing.
use borrow.Author.Rules.{rules}
use native.Mathlib.Omega.{arith}
use mathlib.Core.Path.{◌≡◌, ◌∙◌, subst⁻¹}
use lib.ListN.{length, length-set}
use Rattle.search.specs.Finding.{FindOf}
use Rattle.search.proofs.FindLaws.{loads-here, lent-here, few-terms, level-starts, find-test, find_past, find_none, find-skip, find-on, find-hit}
use Rattle.search.proofs.find.+find.Goals.{then-worth+in_default, else-worth}
use Rattle.search.proofs.find.+find.Goals as goal

pub eval_query-t-requires : goal.eval_query-t-requires
eval_query-t-requires t c =
    let sixteen : length c.args.known ≡ 16 = search rules in record { loads = loads-here c.requires.world; ranks_lent = lent-here c.requires.world _ sixteen; stored = c.requires.world.lent.stored }

pub returns-then-search-k-clause-find_of : goal.returns-then-search-k-clause-find_of
returns-then-search-k-clause-find_of t c =
    λ w. subst⁻¹ (FindOf w c.args.known c.args.k c.args.lo) c.then_some.ensures (find-test w _ _ c.if-search-k.true _ _ c.eval_query-t.ensures.walked)

pub loop-from-init : goal.loop-from-init
loop-from-init t c = (omega arith, λ w below. level-starts w _ _ below _)

pub next-i-requires : goal.next-i-requires
next-i-requires t c =
    let sixteen : length c.args.known ≡ 16 = search rules in record { world = c.requires.world; parted = c.requires.parted; known_len = sixteen; k_lt_size = c.if-search-k.false }

pub returns-then-count-i : goal.returns-then-count-i
returns-then-count-i t c =
    record { find_of = λ w. find_none w _ _ c.if-search-k.false _ _ (c.loop-from.invariant.1 w c.if-search-k.false) _ (c.next-i.ensures w) c.if-count-i.true; tuple_len = tt }

pub worth-requires : goal.worth-requires
worth-requires t c = record { world = c.requires.world; parted = c.requires.parted; k_lt_size = c.if-search-k.false; number_lt_count = c.if-count-i.false }

pub find-requires : goal.find-requires
find-requires t c =
    (omega (arith, c.if-search-k.false), (c.requires.world, c.requires.parted))

pub returns-in-Some : goal.returns-in-Some
returns-in-Some t c =
    let sixteen : length c.args.known ≡ 16 = search rules in record {
      find_of = λ w. find-hit w _ _ c.if-search-k.false _ _ (c.loop-from.invariant.1 w c.if-search-k.false) _ (c.next-i.ensures w) c.if-count-i.false (omega (arith, c.requires.world.small c.args.k, sixteen)) _ (c.in-Some.ensures.find_of w)
          (omega (arith, c.loop-from.invariant.0, (c.next-i.ensures w).0, c.loop-from-test.true)) (omega (arith, c.in-Some.ensures.tuple_len, c.requires.world.size, c.if-search-k.false));
      tuple_len = length-set c.in-Some.tuple c.args.k c.next-i.result ∙ c.in-Some.ensures.tuple_len;
    }

pub overflow_add-from : goal.overflow_add-from
overflow_add-from t c =
    omega (arith, few-terms c.requires.world, c.if-count-i.false)

pub loop-from-smaller : goal.loop-from-smaller
loop-from-smaller t c =
    omega (arith, (c.next-i.ensures c.requires.world).0, c.if-count-i.false, c.loop-from-test.true)

pub loop-from-preserved : goal.loop-from-preserved
loop-from-preserved t c =
    let sixteen : length c.args.known ≡ 16 = search rules in (
      omega (arith, c.loop-from.invariant.0, (c.next-i.ensures c.requires.world).0, c.loop-from-test.true),
      elim c.if-worth.branch [
        | then-worth+in_default b ↦ λ w below. find-on w _ _ below _ _ (c.loop-from.invariant.1 w below) _ (c.next-i.ensures w) c.if-count-i.false
            (omega (arith, c.requires.world.small c.args.k, sixteen)) (b.in_default.ensures.find_of w)
        | else-worth b ↦ λ w below. find-skip w _ _ below _ _ (c.loop-from.invariant.1 w below) _ (c.next-i.ensures w) c.if-count-i.false
            (omega (arith, c.requires.world.small c.args.k, sixteen)) (c.worth.ensures w) b.if-worth.false
      ],
    )

pub returns : goal.returns
returns t c = record { find_of = λ w. find_past w _ _ c.if-search-k.false _ _ (c.loop-from.invariant.1 w c.if-search-k.false) c.loop-from-test.false; tuple_len = tt }
