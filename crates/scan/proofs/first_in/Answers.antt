-- `scan::first_in` meets its contract: one law for each way through. Assumes nothing.
use mathlib.Core.Path.{refl, ap, ◌∙◌}
use native.Mathlib.Omega.{arith}
use Rattle.keys.specs.Keys.{rising}
use Rattle.keys.proofs.Rise.{keys-all}
use Rattle.scan.proofs.StretchScan.{ends, past, first-is}
use Rattle.scan.proofs.first_in.Goals.{then-keys-from-via-then-keys-from, then-keys-from-via-else-keys-from+then-part-keys}
use Rattle.scan.proofs.first_in.Goals as goal

pub returns-then-keys-from : goal.returns-then-keys-from
returns-then-keys-from c = elim c.then-keys-from.branch [
  | then-keys-from-via-then-keys-from w ↦ ends _ _ _ _ _ _ _ refl w.if-keys-from.true
  | then-keys-from-via-else-keys-from+then-part-keys w ↦
      past c.args.codes _ _ _ (λ j. omega (arith, c.type_inv.keys j)) _ c.requires.stretch_of (ap rising (keys-all _) ∙ c.requires.keys_value) _ _ _ refl w.if-keys-from.false w.if-part-keys.true
]

pub returns : goal.returns
returns c =
    let gives = c.given_at.ensures ∙ c.given_of.ensures.given_by _ _ (omega (arith, c.type_inv.keys c.args.from)) in
    first-is c.args.codes _ _ _ (λ j. omega (arith, c.type_inv.keys j)) _ c.requires.stretch_of (ap rising (keys-all _) ∙ c.requires.keys_value) _ _ _ refl c.if-keys-from.false
    c.requires.whole_value (c.requires.splits.above _ (omega arith) c.if-keys-from.false) _ gives c.if-part-keys.false _ c.min.ensures
