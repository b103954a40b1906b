-- `seeking::by_parts::seek_parts` meets its contract. The loop's invariant: what is found passes over no number of the whole query. Assumes nothing.
use native.Mathlib.Omega.{arith}
use Rattle.seeking.proofs.SeekLaws.{stays, ended}
use Rattle.seeking.proofs.PartLaws.{part-loads, part-seeks, turn-within}
use Rattle.seeking.proofs.by_parts.seek_parts.Goals as goal

pub loop-agreed-init : goal.loop-agreed-init
loop-agreed-init c = (λ h. h, λ q p. stays _ _ _ _ _ _ _ _)

pub seek_part-number-requires : goal.seek_part-number-requires
seek_part-number-requires c =
    let i = c.loop-agreed.invariant.0 (omega (arith, c.loop-agreed-test.true)) in record { loads = part-loads _ _ (c.requires.parts_of.1 _ i); ranks_lent = c.requires.ranks_lent; stored = c.requires.stored }

pub returns-then-count-number : goal.returns-then-count-number
returns-then-count-number c =
    λ q p.
    let x = p c.loop-agreed.i (c.loop-agreed.invariant.0 (omega (arith, c.loop-agreed-test.true))) in
    ended _ _ _ _ _ _ _ _ q c.if-count-number.true (part-seeks _ _ _ _ _ _ _ q x _ _ _ (c.loop-agreed.invariant.1 q p) (c.seek_part-number.ensures x.part x.end x.read))

pub loop-agreed-preserved : goal.loop-agreed-preserved
loop-agreed-preserved c = (
  λ h. turn-within _ _ _ h c.either-i.ensures,
  λ q p.
      let x = p c.loop-agreed.i (c.loop-agreed.invariant.0 (omega (arith, c.loop-agreed-test.true))) in
      part-seeks _ _ _ _ _ _ _ q x _ _ _ (c.loop-agreed.invariant.1 q p) (c.seek_part-number.ensures x.part x.end x.read),
)

pub returns : goal.returns
returns c = c.loop-agreed.invariant.1
