-- `scan::next_with` meets its contract. One law for each place. Assumes nothing.
use native.Mathlib.Omega.{arith}
use borrow.Author.Tests.{tests}
use mathlib.Core.Path.{subst}
use Rattle.std.proofs.Common.{rules}
use Rattle.scan.specs.Codes.{GivenBy}
use Rattle.scan.proofs.Places.{is-last}
use Rattle.scan.proofs.StretchScan.{by-subject, by-object, by-property, by-range}
use Rattle.scan.proofs.next_with.Goals as goal

pub returns-then-codes-lt-SOUGHT : goal.returns-then-codes-lt-SOUGHT
returns-then-codes-lt-SOUGHT c = (
  c.next_where.ensures.low,
  omega arith,
  by-subject c.args.keys.now c.args.codes _ _ _ _ c.if-codes-lt-SOUGHT.true (λ j a b e. let h = c.next_where.ensures.passed j a b in search (rules, tests)),
)

pub returns-then-codes-lt-SOUGHT-2 : goal.returns-then-codes-lt-SOUGHT-2
returns-then-codes-lt-SOUGHT-2 c = (
  c.next_where-then-codes-lt-SOUGHT-2.ensures.low,
  omega arith,
  by-object c.args.keys.now c.args.codes _ _ _ _ c.if-codes-lt-SOUGHT-2.true
      (λ j a b e. let h = c.next_where-then-codes-lt-SOUGHT-2.ensures.passed j a b in search (rules, tests)),
)

pub returns-then-eq : goal.returns-then-eq
returns-then-eq c = (
  c.next_where-then-eq.ensures.low,
  omega arith,
  by-range c.args.keys.now c.args.codes _ _ _ _ (subst (GivenBy c.args.codes) (is-last c.args.given c.if-eq.ensures) c.requires.given_by)
      (λ j. omega (arith, c.type_inv.keys j)) c.if-codes-ge-SOUGHT-2.false
      (λ j a b e f. let h = c.next_where-then-eq.ensures.passed j a b in search (rules, tests)),
)

pub returns : goal.returns
returns c = (
  c.next_where-2.ensures.low,
  omega arith,
  by-property c.args.keys.now c.args.codes _ _ _ _ c.if-codes-ge-SOUGHT-2.false
      (λ j a b e. let h = c.next_where-2.ensures.passed j a b in search (rules, tests)),
)
