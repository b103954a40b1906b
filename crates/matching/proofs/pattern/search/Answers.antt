-- `matching::pattern::search` meets its contract, by the laws of FieldLaws and PatternRows.
use native.Mathlib.Omega.{arith}
use mathlib.Core.List.{[]}
use mathlib.Core.Path.{refl}
use Rattle.matching.proofs.FieldLaws.{text-fits}
use Rattle.matching.proofs.PatternRows.{sweep-start, sweep-more, sweep-end}
use Rattle.matching.proofs.pattern.search.Goals as goal

pub next_row-row-requires : goal.next_row-row-requires
next_row-row-requires c = record { pattern_len = c.requires.pattern_len; size_value = c.text_length-size.ensures; size_le_pattern_width = omega (arith, c.requires, c.text_length-size.ensures, text-fits c.args.pattern.now) }

pub bounds-row-start : goal.bounds-row-start
bounds-row-start c = omega (arith, c.requires, text-fits c.args.pattern.now)

pub loop-i-init : goal.loop-i-init
loop-i-init c =
    sweep-start c.args.pattern.now c.args.start c.requires.start_in_bounds c.args.field.now _ _ c.text_length-i.ensures (c.next_row-row.ensures [] (λ n. absurd (n refl)))

pub bounds-field-i : goal.bounds-field-i
bounds-field-i c = omega (arith, c.loop-i.invariant.within, text-fits c.args.field.now)

pub next_row-row-requires-in-loop-i : goal.next_row-row-requires-in-loop-i
next_row-row-requires-in-loop-i c = record { pattern_len = c.requires.pattern_len; size_value = c.text_length-size.ensures; size_le_pattern_width = omega (arith, c.requires, c.text_length-size.ensures, text-fits c.args.pattern.now) }

pub bounds-row-start-in-loop-i : goal.bounds-row-start-in-loop-i
bounds-row-start-in-loop-i c =
    omega (arith, c.requires, text-fits c.args.pattern.now)

pub loop-i-preserved : goal.loop-i-preserved
loop-i-preserved c =
    sweep-more c.args.pattern.now c.args.start c.requires.start_in_bounds c.args.field.now _ _ _ c.loop-i.invariant (omega arith) _ c.next_row-row-in-loop-i.ensures

pub bounds-row-start-2 : goal.bounds-row-start-2
bounds-row-start-2 c = omega (arith, c.requires, text-fits c.args.pattern.now)

pub returns : goal.returns
returns c =
    sweep-end c.args.pattern.now c.args.start c.requires.start_in_bounds c.args.field.now _ _ _ c.loop-i.invariant (omega arith)
