-- `values::arithmetic::abs` meets its contract, by the laws of ArithmeticLaws.
use Rattle.values.proofs.ArithmeticLaws.{abs-result}
use Rattle.values.proofs.arithmetic.abs.Goals as goal

pub returns : goal.returns
returns c =
    abs-result c.args.a c.requires c.common_kind-kind.result c.common_kind-kind.ensures _ c.distance.result (record { sfits = c.distance.type_inv }) c.distance.ensures
    c.numeric.ensures
