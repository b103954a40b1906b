-- `comparison::string_before` meets its contract.
use mathlib.Core.Path.{sym}
use Rattle.definitions.specs.Values.{string_before}
use Rattle.comparison.proofs.ComparisonLaws.{tag-texts}
use Rattle.comparison.proofs.string_before.Goals as goal

pub before-requires-then-same-clause-t : goal.before-requires-then-same-clause-t
before-requires-then-same-clause-t c = tag-texts c.requires.good.tag

pub before-requires-then-same-clause-t_2 : goal.before-requires-then-same-clause-t_2
before-requires-then-same-clause-t_2 c = tag-texts c.requires.good_2.tag

pub returns-then-before : goal.returns-then-before
unfolding string_before
returns-then-before c = rw (sym c.before-2.ensures, c.if-before.true)

pub returns-then-same : goal.returns-then-same
unfolding string_before
returns-then-same c = rw (sym c.before-2.ensures, c.if-before.false, sym c.same.ensures, c.if-same.true) c.before-then-same.ensures

pub returns-else-same : goal.returns-else-same
unfolding string_before
returns-else-same c = rw (sym c.before-2.ensures, c.if-before.false, sym c.same.ensures, c.if-same.false)
