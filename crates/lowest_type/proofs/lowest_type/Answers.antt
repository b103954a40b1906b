-- `lowest_type::lowest_type` meets its contract. Invariant: the lowest type that does is the first from the place `i` on.
use native.Mathlib.Omega.{arith}
use Rattle.lowest_type.proofs.LowestLaws.{type-closed, type-open, type-found, type-next, type-none}
use Rattle.lowest_type.proofs.lowest_type.Goals as goal

pub returns-then-written-x-ne0 : goal.returns-then-written-x-ne0
returns-then-written-x-ne0 c = type-closed _ c.requires.2 _ _ c.requires.1 c.if-written-x-ne0.true

pub loop-i-init : goal.loop-i-init
loop-i-init c = type-open _ c.requires.2 _ _ c.requires.1 c.if-written-x-ne0.false

pub does-requires : goal.does-requires
does-requires c = c.requires

pub returns-then-does : goal.returns-then-does
returns-then-does c =
    type-found _ c.requires.2 _ _ c.requires.1 c.loop-i.i c.loop-i.invariant (omega arith) c.code_at-code.ensures c.does.ensures c.if-does.true

pub loop-i-preserved : goal.loop-i-preserved
loop-i-preserved c =
    type-next _ c.requires.2 _ _ c.requires.1 c.loop-i.i c.loop-i.invariant (omega arith) c.code_at-code.ensures c.does.ensures c.if-does.false

pub returns : goal.returns
returns c = type-none _ c.requires.2 _ _ c.requires.1 c.loop-i.i c.loop-i.invariant (omega arith)
