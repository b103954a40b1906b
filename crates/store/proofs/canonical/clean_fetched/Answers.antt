use native.Mathlib.Omega.{arith}
use borrow.Author.Rules.{rules}
use mathlib.Core.Path.{◌≡◌, refl}
use lib.ListN.{length}
use Rattle.store.proofs.FillLaws.{copied-front}
use Rattle.store.proofs.canonical.clean_fetched.Goals as goal

pub returns : goal.returns
returns c =
    let l : length c.args.fetched ≡ 64 = search rules in
    copied-front c.args.fetched 64 c.args.graphs c.args.graphs c.copy_from_slice.ensures.after refl (omega arith) (omega arith)
