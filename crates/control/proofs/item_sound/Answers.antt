-- `control::item_sound` meets its contract.
use native.Mathlib.Omega.{arith}
use Rattle.control.proofs.StackLaws.{standing, stands-loads, nowhere, shallow, unbound-free, bound-free}
use Rattle.control.proofs.item_sound.Goals as goal

pub returns-in_default : goal.returns-in_default
returns-in_default c = nowhere _ _ _ _ _ _ c.requires c.place_at.ensures c.in_default.is

pub returns-then-deep-place : goal.returns-then-deep-place
returns-then-deep-place c =
    shallow _ _ _ _ _ _ (standing _ _ _ c.requires c.place_at.ensures c.in-Some.is) (omega (arith, c.if-deep-place.true))

pub free_in-free-requires : goal.free_in-free-requires
free_in-free-requires c =
    stands-loads (standing _ _ _ c.requires c.place_at.ensures c.in-Some.is)

pub returns-then-not-all_bound : goal.returns-then-not-all_bound
returns-then-not-all_bound c =
    unbound-free _ _ _ _ _ _ (standing _ _ _ c.requires c.place_at.ensures c.in-Some.is) (omega (arith, c.if-deep-place.false)) c.free_in-free.ensures c.all_bound.ensures
    c.if-not-all_bound.true

pub last_sound-requires : goal.last_sound-requires
last_sound-requires c =
    stands-loads (standing _ _ _ c.requires c.place_at.ensures c.in-Some.is)

pub returns : goal.returns
returns c =
    bound-free _ _ _ _ _ _ (standing _ _ _ c.requires c.place_at.ensures c.in-Some.is) (omega (arith, c.if-deep-place.false)) c.free_in-free.ensures c.all_bound.ensures
    c.if-not-all_bound.false c.last_sound.ensures
