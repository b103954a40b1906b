-- `search::find::worth` meets its contract. Assumes nothing.
use Prim.Native.Nat.{◌+◌}
use borrow.Author.Rules.{rules}
use lib.ListN.{length}
use mathlib.Core.Path.{◌≡◌}
use Rattle.definitions.specs.Limits.{variable_limit}
use Rattle.search.proofs.FindLaws.{lent-here, parts-here, worth-last, worth-denied, worth-hopeful}
use Rattle.search.proofs.find.worth.Goals as goal

pub returns-then-search-after : goal.returns-then-search-after
returns-then-search-after c = λ w. worth-last w _ _ _

pub agree-requires : goal.agree-requires
agree-requires c =
    let sixteen : length c.args.known ≡ variable_limit = search rules in record { parts_len_bound = c.requires.parted.room; parts_of = (c.requires.world.tree, parts-here c.requires.world c.requires.parted); ranks_lent = lent-here c.requires.world _ sixteen; stored = c.requires.world.lent.stored; v_lt_variable_limit = c.requires.world.small _; number_lt_count = c.requires.number_lt_count }

pub returns-then-not-agree : goal.returns-then-not-agree
returns-then-not-agree c =
    λ w. worth-denied w _ _ _ (c.agree.ensures c.if-not-agree.true w.tree (parts-here w c.requires.parted))

pub hopeful-requires : goal.hopeful-requires
hopeful-requires c = record { world = c.requires.world; parted = c.requires.parted }

pub returns : goal.returns
returns c = λ w. worth-hopeful w _ _ _ (c.hopeful.ensures w)
