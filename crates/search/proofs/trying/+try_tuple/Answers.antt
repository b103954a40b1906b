-- `search::trying::try_tuple` meets its contract: one law for each way through; the variables left fall. Assumes nothing.
use native.Mathlib.Omega.{arith}
use mathlib.Core.Path.{◌≡◌}
use lib.ListN.{length}
use borrow.Author.Rules.{rules}
use Rattle.search.proofs.FindLaws.{loads-here, lent-here}
use Rattle.search.proofs.TriedLaws.{tried-all, no-term, wrong_type, one_more}
use Rattle.search.proofs.trying.+try_tuple.Goals as goal

pub eval_query-t-requires : goal.eval_query-t-requires
eval_query-t-requires t c =
    let sixteen : length c.args.known ≡ 16 = search rules in record { loads = loads-here c.requires.world; ranks_lent = lent-here c.requires.world _ sixteen; stored = c.requires.world.lent.stored }

pub returns-then-block-k : goal.returns-then-block-k
returns-then-block-k t c = λ w. tried-all w _ _ _ c.if-block-k.true c.eval_query-t.ensures.walked

pub returns-then-view-i : goal.returns-then-view-i
returns-then-view-i t c = λ w. no-term w _ _ _ c.if-block-k.false c.if-view-i.true

pub returns-then-not-has_type : goal.returns-then-not-has_type
returns-then-not-has_type t c =
    λ w. wrong_type w _ _ _ c.if-block-k.false c.if-view-i.false c.has_type.ensures c.if-not-has_type.true

pub try_tuple-requires : goal.try_tuple-requires
try_tuple-requires t c =
    (omega (arith, c.if-block-k.false), c.requires.world)

pub returns : goal.returns
returns t c =
    let sixteen : length c.args.known ≡ 16 = search rules in
    λ w. one_more w _ _ _ c.if-block-k.false c.if-view-i.false c.has_type.ensures c.if-not-has_type.false
    (omega (arith, c.requires.world.small c.args.k, sixteen)) _ (c.try_tuple.ensures w)
