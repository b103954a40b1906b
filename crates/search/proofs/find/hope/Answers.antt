-- `search::find::hope` meets its contract. The loop's invariant: the numbers before lo are passed over. Assumes nothing.
use mathlib.Core.Path.{◌≡◌, ◌∙◌}
use mathlib.Core.Bool.{true≢false}
use native.Mathlib.Omega.{arith}
use borrow.Author.Rules.{rules}
use lib.ListN.{length, get_or, length-set}
use Rattle.definitions.specs.Limits.{variable_limit}
use Rattle.search.proofs.FindLaws.{lent-here, parts-here, few-terms, hope-past, hope-none, hope-on}
use Rattle.search.proofs.find.hope.Goals as goal

pub loop-lo-init : goal.loop-lo-init
loop-lo-init c = λ w vs r δ p h l. omega arith

pub next-number-requires : goal.next-number-requires
next-number-requires c =
    let sixteen : length c.args.known ≡ variable_limit = search rules in record { world = c.requires.world; parted = c.requires.parted; known_len = sixteen; k_lt_size = c.requires.j_lt_size }

pub returns-then-count-number : goal.returns-then-count-number
returns-then-count-number c = λ w. hope-none w _ _ _ (c.loop-lo.invariant w) _ (c.next-number.ensures w) c.if-count-number.true

pub slice_bounds-agree-end : goal.slice_bounds-agree-end
slice_bounds-agree-end c =
    let sixteen : length c.args.known ≡ variable_limit = search rules in search (rules, sixteen)

pub agree-requires : goal.agree-requires
agree-requires c =
    let sixteen : length c.args.known ≡ variable_limit = search rules in
    let sized = length-set c.args.known (get_or c.args.search.now.block.vars c.args.j 0) c.next-number.result ∙ sixteen in record { parts_len_bound = c.requires.parted.room; parts_of = (c.requires.world.tree, parts-here c.requires.world c.requires.parted); ranks_lent = lent-here c.requires.world _ sized; stored = c.requires.world.lent.stored; v_lt_variable_limit = c.requires.world.small _; number_lt_count = c.if-count-number.false }

pub returns-then-agree : goal.returns-then-agree
returns-then-agree c = λ w e. absurd (true≢false e)

pub overflow_add-lo : goal.overflow_add-lo
overflow_add-lo c =
    omega (arith, few-terms c.requires.world, c.if-count-number.false)

pub loop-lo-smaller : goal.loop-lo-smaller
loop-lo-smaller c =
    omega (arith, (c.next-number.ensures c.requires.world).0, c.if-count-number.false, c.loop-lo-test.true)

pub loop-lo-preserved : goal.loop-lo-preserved
loop-lo-preserved c =
    let sixteen : length c.args.known ≡ variable_limit = search rules in
    λ w.
    hope-on w _ _ _ (c.loop-lo.invariant w) _ (c.next-number.ensures w) c.if-count-number.false (omega (arith, w.small c.args.j, sixteen))
    (c.agree.ensures c.if-agree.false w.tree (parts-here w c.requires.parted))

pub returns : goal.returns
returns c = λ w. hope-past w _ _ _ (c.loop-lo.invariant w) c.loop-lo-test.false
