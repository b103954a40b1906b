-- `matching::pattern::next_row` meets its contract, by the laws of PatternRows.
use Rattle.definitions.specs.Limits.{pattern_width}
use Prim.Native.Nat.{◌+◌, ◌-◌}
use mathlib.Core.Bool.{true, false}
use mathlib.Core.Path.{◌≡◌, ◌∙◌, subst}
use native.Mathlib.Omega.{arith}
use lib.ListN.{length-set, replicate}
use Rattle.matching.specs.Matching.{ahead, RowFrom}
use Rattle.matching.proofs.PatternRows.{row-start, row_more}
use Rattle.matching.proofs.pattern.next_row.Goals as goal

pub loop-k-init : goal.loop-k-init
loop-k-init c = (
  length-set (replicate (pattern_width + 1) false) c.args.size true,
  omega arith,
  λ t h. row-start c.args.pattern.now _ (replicate (pattern_width + 1) false)
      c.args.size c.requires.size_value (omega (arith, c.requires)),
)

pub loop-k-preserved : goal.loop-k-preserved
loop-k-preserved c = (
  length-set c.loop-k.row (c.loop-k.k - 1) c.cell.result
      ∙ c.loop-k.invariant.0,
  omega (arith, c.loop-k.invariant),
  λ t h. row_more c.args.pattern.now _ c.loop-k.row c.loop-k.k _ (omega arith)
      (omega (arith, c.requires, c.loop-k.invariant)) (c.loop-k.invariant.2 t h) (c.cell.ensures t h),
)

pub returns : goal.returns
returns c =
    λ t h. let z : c.loop-k.k ≡ 0 = omega arith in subst (λ n. RowFrom c.args.pattern.now n (ahead c.args.b t) c.loop-k.row) z (c.loop-k.invariant.2 t h)
