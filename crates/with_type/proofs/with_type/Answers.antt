-- `with_type::with_type` meets its contract. Assumes nothing.
use Rattle.with_type.proofs.WithTypeLaws.{highs-are, lows-are, not_left, noted-decimal, noted-plain, noted-integer, noted-range}
use Rattle.with_type.proofs.with_type.Goals as goal

pub returns-then-not-leaves : goal.returns-then-not-leaves
returns-then-not-leaves c =
    not_left _ c.requires.0 _ c.requires.1 _ c.leaves.ensures c.if-not-leaves.true c.impossible.ensures

pub returns-then-code-eq3 : goal.returns-then-code-eq3
returns-then-code-eq3 c =
    noted-decimal _ c.requires.0 _ c.requires.1 _ c.leaves.ensures c.if-not-leaves.false c.if-code-lt8.true
    c.if-code-eq3.true c.at_most-tables.ensures (highs-are _ _ c.flagged-tables.ensures)

pub returns-then-code-lt8 : goal.returns-then-code-lt8
returns-then-code-lt8 c =
    noted-plain _ c.requires.0 _ c.requires.1 _ c.leaves.ensures c.if-not-leaves.false c.if-code-lt8.true
    c.if-code-eq3.false c.at_most-tables.ensures

pub returns-then-range-eq5 : goal.returns-then-range-eq5
returns-then-range-eq5 c =
    noted-integer _ c.requires.0 _ c.requires.1 _ c.leaves.ensures c.if-not-leaves.false c.if-code-lt8.false
    c.if-range-eq5.true c.at_least-tables.ensures (lows-are _ _ c.flagged-tables-then-range-eq5.ensures)

pub returns : goal.returns
returns c =
    noted-range _ c.requires.0 _ c.requires.1 _ c.leaves.ensures c.if-not-leaves.false c.if-code-lt8.false
    c.if-range-eq5.false c.at_least-tables.ensures
