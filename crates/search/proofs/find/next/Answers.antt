-- `search::find::next` meets its contract. The loop's invariant: the numbers before are passed over. Assumes nothing.
use native.Mathlib.Omega.{arith}
use Rattle.search.proofs.FindLaws.{lent-here, parts-here, next-starts, next_past, next_here, next-higher, next-on}
use Rattle.search.proofs.find.next.Goals as goal

pub loop-from-init : goal.loop-from-init
loop-from-init c = λ w below. next-starts w _ _ below _

pub seek_parts-s-requires : goal.seek_parts-s-requires
seek_parts-s-requires c = record { parts_len_bound = c.requires.parted.room; parts_of = (c.requires.world.tree, parts-here c.requires.world c.requires.parted); ranks_lent = lent-here c.requires.world _ c.requires.known_len; stored = c.requires.world.lent.stored; v_lt_variable_limit = c.requires.world.small _ }

pub skip-typed-requires : goal.skip-typed-requires
skip-typed-requires c = c.requires.world.lent.room

pub returns-then-typed-s : goal.returns-then-typed-s
returns-then-typed-s c =
    λ w.
    next_here w _ _ c.requires.k_lt_size _ _ (c.loop-from.invariant w c.requires.k_lt_size) _ (c.seek_parts-s.ensures w.tree (parts-here w c.requires.parted)) _ c.skip-typed.ensures c.if-typed-s.true

pub loop-from-smaller : goal.loop-from-smaller
loop-from-smaller c =
    let es = c.seek_parts-s.ensures c.requires.world.tree (parts-here c.requires.world c.requires.parted) in
    omega (arith, es.0, next-higher c.requires.world _ _ c.requires.k_lt_size _ _ (c.loop-from.invariant c.requires.world c.requires.k_lt_size) _ es _ c.skip-typed.ensures, c.if-typed-s.false, c.loop-from-test.true)

pub loop-from-preserved : goal.loop-from-preserved
loop-from-preserved c =
    λ w below.
    next-on w _ _ below _ _ (c.loop-from.invariant w below) _ (c.seek_parts-s.ensures w.tree (parts-here w c.requires.parted)) _ c.skip-typed.ensures

pub returns : goal.returns
returns c =
    λ w. next_past w _ _ c.requires.k_lt_size _ _ (c.loop-from.invariant w c.requires.k_lt_size) c.loop-from-test.false
