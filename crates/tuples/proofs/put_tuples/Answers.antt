-- The loop: the lines of the tuples before `k` are written.
use native.Mathlib.Omega.{arith}
use mathlib.Core.Path.{refl}
use Rattle.tuples.proofs.TupleLaws.{tuples-none, tuples-next, tuples-all}
use borrow.Author.Rules.{rules}
use Rattle.tuples.proofs.put_tuples.Goals as goal

pub loop-k-init : goal.loop-k-init
loop-k-init c = (omega arith, refl, λ w t. tuples-none w t _ _)

pub try_top-tried-requires : goal.try_top-tried-requires
try_top-tried-requires c = record { top = c.requires.top; at_value = c.requires.at_value }

pub put_tried-end-requires : goal.put_tried-end-requires
put_tried-end-requires c =
    omega (arith, c.loop-k.invariant.0, c.loop-k.invariant.1, c.requires.tuple_width_in_bounds, c.loop-k-test.true)

pub loop-k-preserved : goal.loop-k-preserved
loop-k-preserved c = (
  omega (arith, c.put_tried-end.ensures.upper_bound, c.loop-k.invariant.0),
  search rules,
  λ w t. tuples-next w t _ _ (c.loop-k.invariant.2 w t) c.tuple_at-tuple.ensures c.try_top-tried.result (c.try_top-tried.ensures w t) c.put_tried-end.ensures.written,
)

pub returns : goal.returns
returns c = record { tuples_written = λ w t. tuples-all w t _ _ _ (omega (arith, c.loop-k.auto.k-end, c.loop-k-test.false)) (c.loop-k.invariant.2 w t); upper_bound = omega (arith, c.loop-k.invariant.0, c.loop-k.auto.k-end, c.requires.tuple_width_in_bounds) }
