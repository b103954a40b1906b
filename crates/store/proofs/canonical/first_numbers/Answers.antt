-- No more numbers are copied than there are places.
use native.Mathlib.Omega.{arith}
use borrow.Author.Rules.{rules}
use mathlib.Core.Path.{◌≡◌, ap, ◌∙◌}
use Prim.Native.Nat.{ℕ, min}
use lib.ListN.{length, take}
use Rattle.std.proofs.lemmas.List.{take_min}
use Rattle.std.proofs.lemmas.Grind.{common_steps}
use Rattle.store.proofs.FillLaws.{copied-front}
use Rattle.store.proofs.canonical.first_numbers.Goals as goal

pub returns : goal.returns
returns c =
    let l : length c.args.numbers ≡ 4 = search rules in
    let least : c.min-n.result ≡ min c.args.count (length c.args.numbers) = grind (arith, common_steps) in
    copied-front c.args.numbers 4 c.min-n.result c.args.count c.copy_from_slice.ensures.after
    (ap (λ (n : ℕ). take n c.args.numbers) least ∙ take_min c.args.count c.args.numbers) (omega arith) (omega arith)
