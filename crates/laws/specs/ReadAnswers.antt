-- What the code answers of what the definitions give: whether there is something, and the offset after what was read.
use Rattle.std.specs.Prelude.{ℕ, Bool, true, false}
use Rattle.std.proofs.Math.Option.{Option, none, some}
use Rattle.std.specs.declared.option.Option as Answer
use Rattle.std.specs.Prelude.{Some, None}
use Rattle.definitions.specs.Bytes.{Got}
use Rattle.laws.specs.Walks.{Walked}

-- whether there is something
abbrev pub is_some : {A : Type 0} → Option A → Bool
is_some none = false
is_some (some a) = true

-- whether there is something that passes a test
unfoldable pub passes : {A : Type 0} → (A → Bool) → Option A → Bool
passes test none = false
passes test (some a) = test a

-- the offset after what was read
unfoldable pub next_of : {A : Type 0} → Got A → Answer.Option ℕ
next_of none = None
next_of (some p) = Some p.1

-- there is something to read, and n is the offset after it
abbrev pub Ends : {A : Type 0} → Got A → ℕ → Type 0
Ends {A} o n = Walked (λ (a : A). Unit {0}) o n
