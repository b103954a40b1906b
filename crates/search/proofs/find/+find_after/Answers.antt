-- `search::find::find_after` meets its contract: one law for each way through; the levels left fall. Assumes nothing.
use borrow.Author.Rules.{rules}
use native.Mathlib.Omega.{arith}
use mathlib.Core.Path.{◌≡◌, ◌∙◌}
use lib.ListN.{length, get_or, length-set}
use Rattle.search.proofs.FindLaws.{few-terms, after-ends, after-past, after-find, own-untyped, own-none, own-hit}
use Rattle.search.proofs.find.+find_after.Goals.{then-has_type+in_default, else-has_type}
use Rattle.search.proofs.find.+find_after.Goals as goal

pub returns-then-search-k : goal.returns-then-search-k
returns-then-search-k t c = record { after_of = λ w. after-ends w _ _ c.if-search-k.true; tuple_len = tt }

pub returns-then-search-l : goal.returns-then-search-l
returns-then-search-l t c = record { after_of = λ w. after-past w _ _ c.if-search-k.false c.if-search-l.true; tuple_len = tt }

pub find_after-requires : goal.find_after-requires
find_after-requires t c =
    (omega (arith, c.if-search-k.false), (c.requires.world, c.requires.parted))

pub returns-in-Some : goal.returns-in-Some
returns-in-Some t c =
    let sixteen : length c.args.known ≡ 16 = search rules in record {
      after_of = λ w. own-hit w _ _ c.if-search-k.false c.if-search-l.false (omega (arith, c.requires.world.small c.args.k, sixteen)) c.has_type.ensures c.if-has_type.true _ (c.in-Some.ensures.after_of w)
          (omega (arith, c.in-Some.ensures.tuple_len, c.requires.world.size, c.if-search-k.false));
      tuple_len = length-set c.in-Some.tuple c.args.k (get_or c.args.search.now.block.last c.args.k 0) ∙ c.in-Some.ensures.tuple_len;
    }

pub overflow_add-l : goal.overflow_add-l
overflow_add-l t c =
    omega (arith, few-terms c.requires.world, c.if-search-l.false)

pub find-requires : goal.find-requires
find-requires t c = record { world = c.requires.world; parted = c.requires.parted }

pub returns : goal.returns
returns t c =
    let sixteen : length c.args.known ≡ 16 = search rules in record {
      after_of = λ w. after-find w _ _ c.if-search-k.false
          (elim c.if-has_type.branch [
            | then-has_type+in_default b ↦ own-none w _ _ c.if-search-k.false c.if-search-l.false (omega (arith, c.requires.world.small c.args.k, sixteen)) c.has_type.ensures b.if-has_type.true
                (b.in_default.ensures.after_of w)
            | else-has_type b ↦ own-untyped w _ _ c.if-search-k.false c.if-search-l.false c.has_type.ensures b.if-has_type.false
          ])
          c.find.result (c.find.ensures.find_of w);
      tuple_len = c.find.ensures.tuple_len;
    }
