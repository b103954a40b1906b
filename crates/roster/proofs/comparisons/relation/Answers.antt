-- `roster::comparisons::relation` meets its contract, by the contracts of the tests.
use mathlib.Core.Path.{◌∙◌, ap}
use Rattle.definitions.specs.Truth.{is_true}
use Rattle.roster.specs.Signs.{sign_of}
use Rattle.roster.proofs.comparisons.relation.Goals as goal

pub returns : goal.returns
returns c =
    λ l e m hl he hm. c.sign.ensures ∙ (λ i. sign_of
    ((c.is_true-less.ensures ∙ ap is_true (c.less.ensures l hl)) i)
    ((c.is_true-equal.ensures ∙ ap is_true (c.equal.ensures e he)) i)
    ((c.is_true-more.ensures ∙ ap is_true (c.less-2.ensures m hm)) i))
