-- Outcomes without a fault, and what holds of their values.
use Rattle.definitions.specs.Outcome.{Outcome, ok, fault, Fault}

pub data Fine {A : Type 0} (P : A → Type 0) : Outcome A → Type 0 where
  fine : {a : A} → P a → Fine P (ok a)

-- with no more to say than that there is a value
abbrev pub Any : {A : Type 0} → A → Type 0
Any a = Unit {0}

-- a property of the value, if there is one
pub data OrFault {A : Type 0} (P : A → Type 0) : Outcome A → Type 0 where
  holds : {a : A} → P a → OrFault P (ok a)
  stops : {x : Fault} → OrFault P (fault x)
