-- By the item on top: none, another than a block, or a block.
use native.Mathlib.Omega.{arith}
use mathlib.Core.Path.{ap}
use Rattle.definitions.specs.Ascii.{ascii}
use Rattle.definitions.specs.Printer.{line}
use Rattle.definitions.specs.declared.SavedItem.{SavedItem}
use Rattle.acts.proofs.TopLaws.{first-item, height-low, item-inside}
use Rattle.output.proofs.WritingLaws.{written_as}
use Rattle.tuples.proofs.TupleLaws.{none_here, other-here, block_here}
use Rattle.tuples.proofs.put_lines.Goals as goal

pub returns-then-run-eq0 : goal.returns-then-run-eq0
unfolding ascii line
returns-then-run-eq0 c = record { written = λ w. written_as c.put_text.ensures (none_here w c.if-run-eq0.true c.args.tuples.now); upper_bound = omega (arith, c.put_text.ensures.end, c.requires.line_room_in_bounds) }

pub top-at-requires : goal.top-at-requires
top-at-requires c = let whole = height-low c.requires.lends.here c.if-run-eq0.false in record { height_nonzero = whole.0; height_le_depth_limit = whole.1 }

pub bounds-view-at : goal.bounds-view-at
bounds-view-at c =
    item-inside c.requires.lends.here _ (first-item c.requires.lends.here c.if-run-eq0.false _ (ap (λ (y : SavedItem). y.«at») c.top-at.ensures))

pub put_text-requires-then-view-at-ne115 : goal.put_text-requires-then-view-at-ne115
put_text-requires-then-view-at-ne115 c =
    omega (arith, c.requires.line_room_in_bounds)

pub returns-then-view-at-ne115 : goal.returns-then-view-at-ne115
unfolding ascii line
returns-then-view-at-ne115 c = record {
  written = λ w. written_as c.put_text-then-view-at-ne115.ensures (other-here w (first-item w.here c.if-run-eq0.false _ (ap (λ (y : SavedItem). y.«at») c.top-at.ensures)) c.if-view-at-ne115.true
      c.args.tuples.now);
  upper_bound = omega (arith, c.put_text-then-view-at-ne115.ensures.end, c.requires.line_room_in_bounds);
}

pub put_tuples-requires : goal.put_tuples-requires
put_tuples-requires c = record { top = (c.requires.lends, first-item c.requires.lends.here c.if-run-eq0.false _ (ap (λ (y : SavedItem). y.«at») c.top-at.ensures)); at_value = c.if-view-at-ne115.false; tuple_width_in_bounds = c.requires.tuple_width_in_bounds }

pub returns : goal.returns
returns c = record {
  written = λ w. let t = first-item w.here c.if-run-eq0.false _ (ap (λ (y : SavedItem). y.«at») c.top-at.ensures) in
      block_here w t c.if-view-at-ne115.false c.args.tuples.now (c.put_tuples.ensures.tuples_written w t);
  upper_bound = c.put_tuples.ensures.upper_bound;
}
