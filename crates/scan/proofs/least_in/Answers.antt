-- `scan::least_in` meets its contract. What is left, from the best so far, gives what the whole gives. Assumes nothing.
use mathlib.Core.Path.{refl, ap, ◌∙◌}
use Rattle.keys.specs.Keys.{rising}
use Rattle.keys.proofs.Rise.{keys-all}
use native.Mathlib.Omega.{arith}
use Rattle.scan.proofs.StretchScan.{not-above, ends, passed_over, past, settled, unsettled}
use Rattle.scan.proofs.least_in.Goals as goal

pub loop-i-init : goal.loop-i-init
loop-i-init c = (c.requires.from_in_bounds, refl, λ u. refl, c.requires.end_le_sought_code)

pub returns-then-part-key : goal.returns-then-part-key
returns-then-part-key c =
    past c.args.codes _ _ _ (λ j. omega (arith, c.type_inv.keys j)) _ c.requires.stretch_of (ap rising (keys-all _) ∙ c.requires.keys_value) _ _ _ c.loop-i.invariant.1 c.loop-i-test.true c.if-part-key.true

pub better-best-requires : goal.better-best-requires
better-best-requires c = record { shift_lt_key_bits = c.given_of-given.ensures.shift; given_by = c.given_of-given.ensures.given_by }

pub returns-then-best-lo : goal.returns-then-best-lo
returns-then-best-lo c =
    settled c.args.codes _ _ _ (λ j. omega (arith, c.type_inv.keys j)) c.args.part c.requires.stretch_of (ap rising (keys-all _) ∙ c.requires.keys_value) _ _ _ c.loop-i.invariant.1 c.loop-i-test.true _ _ c.loop-i.invariant.2
    c.better-best.ensures c.if-best-lo.true

pub next_with-i-requires : goal.next_with-i-requires
next_with-i-requires c =
    let below = not-above _ _ _ _ _ c.better-best.ensures in
    record {
      from_in_bounds = omega arith;
      given_by = c.given_of-given.ensures.given_by;
      lo_le_sought_code = c.requires.lo_le_sought_code;
      best_le_sought_code = omega (arith, below, c.loop-i.invariant.3);
    }

pub loop-i-smaller : goal.loop-i-smaller
loop-i-smaller c = omega (arith, c.next_with-i.ensures)

pub loop-i-preserved : goal.loop-i-preserved
loop-i-preserved c =
    let u = unsettled c.args.codes _ _ _ (λ j. omega (arith, c.type_inv.keys j)) c.args.part c.requires.stretch_of (ap rising (keys-all _) ∙ c.requires.keys_value) _ _ _ c.loop-i.invariant.1 c.loop-i-test.true _ _
    c.loop-i.invariant.2 c.better-best.ensures c.if-best-lo.false in
    let below = not-above _ _ _ _ _ c.better-best.ensures in (
      c.next_with-i.ensures.1,
      passed_over c.args.codes _ _ _ (λ j. omega (arith, c.type_inv.keys j)) _ _ _ _ u.0 c.next_with-i.ensures.0 c.next_with-i.ensures.1 c.next_with-i.ensures.2,
      u.1,
      omega (arith, below, c.loop-i.invariant.3),
    )

pub returns : goal.returns
returns c = ends _ _ _ _ _ _ _ c.loop-i.invariant.1 c.loop-i-test.false
