-- `values::arithmetic::plus` meets its contract, by the laws of ArithmeticLaws.
use lib.IntN.{pos, ◌+ℤ◌}
use Rattle.definitions.specs.Values.{sum}
use Rattle.values.proofs.ArithmeticLaws.{no_result, made}
use Rattle.values.proofs.arithmetic.plus.Goals as goal

pub returns-then-not-present : goal.returns-then-not-present
unfolding sum
returns-then-not-present c =
    no_result ◌+ℤ◌ c.args.a c.args.b c.common_kind-kind.result c.common_kind-kind.ensures _ (pos 0) c.if-not-present.true c.numeric.ensures

pub returns : goal.returns
unfolding sum
returns c =
    made ◌+ℤ◌ c.args.a c.args.b c.common_kind-kind.result c.common_kind-kind.ensures _ _ _ c.sum.result c.if-not-present.false (c.counted-x.ensures.value, c.counted-x.ensures.t)
    (c.counted-y.ensures.value, c.counted-y.ensures.t) (record { sfits = c.sum.type_inv }) c.sum.ensures c.limited.ensures
