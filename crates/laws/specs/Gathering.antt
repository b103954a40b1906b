-- Which datatypes meet what is asked of a subject: those above one, or none.
use Rattle.std.specs.Prelude.{Bool, false, cond, List, ◌≡◌}
use Rattle.std.proofs.Math.Option.{Option, none, some}
use Rattle.definitions.specs.Types.{Datatype, leq_datatype}
use Rattle.definitions.specs.Gathering.{meets}

abbrev pub above : Option Datatype → Datatype → Bool
above none f = false
above (some e) f = leq_datatype e f

-- all that is asked is met by exactly the datatypes above one, or by none
abbrev pub MetAbove : List Datatype → Option Datatype → Type 0
MetAbove asked o = (f : Datatype) → meets asked f ≡ above o f

-- one more is asked
abbrev pub with_asked : Option Datatype → Datatype → Option Datatype
with_asked none d = none
with_asked (some e) d = cond (leq_datatype d e) (some e) (cond (leq_datatype e d) (some d) none)
