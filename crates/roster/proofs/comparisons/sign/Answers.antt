-- `roster::comparisons::sign` meets its contract, by cases of the tests.
use mathlib.Core.Path.{refl}
use Rattle.roster.specs.Signs.{sign_of}
use Rattle.roster.proofs.comparisons.sign.Goals as goal

pub returns-then-less : goal.returns-then-less
unfolding sign_of
returns-then-less c = rw c.if-less.true refl

pub returns-then-equal : goal.returns-then-equal
unfolding sign_of
returns-then-equal c = rw (c.if-less.false, c.if-equal.true) refl

pub returns-then-more : goal.returns-then-more
unfolding sign_of
returns-then-more c = rw (c.if-less.false, c.if-equal.false, c.if-more.true) refl

pub returns : goal.returns
unfolding sign_of
returns c = rw (c.if-less.false, c.if-equal.false, c.if-more.false) refl
