use mathlib.Core.List.{◌++◌}
use mathlib.Core.Path.{◌≡◌}
use lib.ListN.{length, take, drop}
use Rattle.definitions.specs.Terms.{read_schema}
use Rattle.definitions.specs.Saved.{terms_in}
use Rattle.card.specs.Leasts.{least_codes}
use Rattle.card.proofs.leasts.least_codes.Given as goal

abbrev pub invariant-loop-i : goal.invariant-loop-i
invariant-loop-i l = (l.out ≡ take l.i (least_codes (read_schema l.schema) (terms_in l.table)) ++ drop l.i l.initial.out) × (length l.out ≡ length l.initial.out)
