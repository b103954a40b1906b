-- `search::types::under` meets its contract, arm by arm. Assumes nothing.
use borrow.Author.Rules.{rules}
use Rattle.search.proofs.TypeLaws.{under-decimal, under-range, under-other}
use Rattle.search.proofs.types.under.Goals.{in-3, in-13, in_default}
use Rattle.search.proofs.types.under.Goals as goal

pub returns : goal.returns
returns c = λ least. elim c.match-ty.branch [
  | in-3 w ↦ under-decimal least _ _ w.in-3.is w.other-is
  | in-13 w ↦ under-range least _ _ w.in-13.is w.other-is
  | in_default w ↦ under-other least _ _ (search rules) (search rules) w.other-is
]
