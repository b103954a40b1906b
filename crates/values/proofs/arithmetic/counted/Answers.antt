-- `values::arithmetic::counted` meets its contract, by the laws of ArithmeticLaws.
use Rattle.values.proofs.ArithmeticLaws.{plain, counted-scaled, counted-integer, counted-other}
use Rattle.values.proofs.arithmetic.counted.Goals.{else-v-eq-INTEGER-via-then-v-eq-INTEGER+else-kind-eq-DECIMAL, else-v-eq-INTEGER-via-else-v-eq-INTEGER}
use Rattle.values.proofs.arithmetic.counted.Goals as goal

pub scaled-requires : goal.scaled-requires
scaled-requires c =
    rw (plain c.args.v.number c.requires.number) (c.requires.integer c.if-v-eq-INTEGER.true)

pub returns-then-kind-eq-DECIMAL : goal.returns-then-kind-eq-DECIMAL
returns-then-kind-eq-DECIMAL c = let whole = counted-scaled c.args.v c.args.kind c.requires c.scaled.result (record { sfits = c.scaled.type_inv }) c.if-v-eq-INTEGER.true c.if-kind-eq-DECIMAL.true c.scaled.ensures in record { value = whole.0; t = whole.1 }

pub returns-else-v-eq-INTEGER : goal.returns-else-v-eq-INTEGER
returns-else-v-eq-INTEGER c = elim c.else-v-eq-INTEGER.branch [
  | else-v-eq-INTEGER-via-then-v-eq-INTEGER+else-kind-eq-DECIMAL w ↦ let whole = counted-integer c.args.v c.args.kind c.requires w.if-v-eq-INTEGER.true w.if-kind-eq-DECIMAL.false in record { value = whole.0; t = whole.1 }
  | else-v-eq-INTEGER-via-else-v-eq-INTEGER w ↦ let whole = counted-other c.args.v c.args.kind c.requires w.if-v-eq-INTEGER.false in record { value = whole.0; t = whole.1 }
]
