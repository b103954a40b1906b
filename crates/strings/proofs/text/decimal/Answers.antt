-- `strings::text::decimal` meets its contract, by the laws of TextLaws and LineLaws.
use native.Mathlib.Omega.{arith}
use Prim.Native.Nat.{◌/◌}
use Rattle.strings.proofs.LineLaws.{short-length}
use Rattle.strings.proofs.TextLaws.{decimal-written}
use Rattle.strings.proofs.text.decimal.Goals as goal

pub push-point-requires : goal.push-point-requires
push-point-requires c = omega (arith, c.sign-start.ensures.1, c.natural-whole.ensures.size, short-length 20 (c.unsigned_abs-far.result / 1000000))

pub fraction-requires : goal.fraction-requires
fraction-requires c = record {
  le_count = omega (arith, c.sign-start.ensures.1, c.natural-whole.ensures.size, short-length 20 (c.unsigned_abs-far.result / 1000000), c.push-point.ensures.size);
  count_bound = omega (arith, c.sign-start.ensures.1, c.natural-whole.ensures.size, short-length 20 (c.unsigned_abs-far.result / 1000000), c.push-point.ensures.size);
}

pub returns : goal.returns
returns c =
    decimal-written c.args.n c.requires c.sign-start.result c.sign-start.ensures.0 c.unsigned_abs-far.result c.unsigned_abs-far.ensures.value c.natural-whole.result c.push-point.result
    c.fraction.result c.natural-whole.ensures c.push-point.ensures c.fraction.ensures
