-- `scan::least_by_stretch` meets its contract. No quad fits outside the stretch. Assumes nothing.
use native.Mathlib.Omega.{arith}
use mathlib.Core.Path.{ap, ◌∙◌}
use Rattle.keys.specs.Keys.{rising}
use Rattle.keys.proofs.Rise.{keys-all}
use Rattle.scan.proofs.StretchScan.{idle, from-there}
use Rattle.scan.proofs.least_by_stretch.Goals as goal

pub returns-then-end-lo : goal.returns-then-end-lo
returns-then-end-lo c = idle _ _ _ _ c.if-end-lo.true

pub lower-from-requires : goal.lower-from-requires
lower-from-requires c = record { n_in_bounds = omega arith; keys_value = ap rising (keys-all _) ∙ c.requires.keys_value }

pub first_in-requires : goal.first_in-requires
first_in-requires c = record { splits = c.lower-from.ensures.splits; keys_value = c.requires.keys_value; stretch_of = c.stretch_of-part.ensures; whole_value = c.if-part.true }

pub returns-then-part : goal.returns-then-part
returns-then-part c =
    from-there c.args.codes _ _ _ (λ j. omega (arith, c.type_inv.keys j)) _ c.stretch_of-part.ensures (ap rising (keys-all _) ∙ c.requires.keys_value) _ c.lower-from.ensures.splits _ _ c.first_in.ensures

pub least_in-requires : goal.least_in-requires
least_in-requires c = record {
  from_in_bounds = c.lower-from.ensures.splits.within;
  keys_value = c.requires.keys_value;
  stretch_of = c.stretch_of-part.ensures;
  lo_le_sought_code = omega (arith, c.if-end-lo.false, c.requires.end_le_sought_code);
  end_le_sought_code = c.requires.end_le_sought_code;
}

pub returns-else-part : goal.returns-else-part
returns-else-part c =
    from-there c.args.codes _ _ _ (λ j. omega (arith, c.type_inv.keys j)) _ c.stretch_of-part.ensures (ap rising (keys-all _) ∙ c.requires.keys_value) _ c.lower-from.ensures.splits _ _ c.least_in.ensures
