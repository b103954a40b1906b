use Prim.Native.Nat.{◌-◌, ◌*◌}
use mathlib.Core.Path.{◌≡◌}
use Rattle.definitions.specs.Limits.{slot_width, term_limit}
use Rattle.definitions.specs.Saved.{terms_from, terms_in}
use Rattle.fields.specs.Answers.{count_of}
use Rattle.table.proofs.CountLaws.{count_from}
use Rattle.table.proofs.slots.used_terms.Given as goal

abbrev pub invariant-loop-n : goal.invariant-loop-n
invariant-loop-n l = count_of (terms_in l.table) ≡ count_from l.n (terms_from (term_limit - l.n) l.table (l.n * slot_width))
