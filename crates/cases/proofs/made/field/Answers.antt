-- `cases::made::field` meets its contract, by the law of a copy.
use mathlib.Core.List.{◌++◌}
use mathlib.Core.Path.{ap}
use lib.ListN.{length, drop, replicate}
use Prim.Native.Nat.{ℕ}
use mathlib.Core.List.{List}
use Rattle.cases.proofs.MadeLaws.{field-filled}
use Rattle.cases.proofs.made.field.Goals as goal

pub returns : goal.returns
returns g c = field-filled _ c.args.text.now _ (ap (λ (l : List ℕ). l ++ drop (length c.args.text.now) (replicate g.row.N 0)) c.copy_from_slice.ensures.after)
