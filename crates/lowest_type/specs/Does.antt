-- Which type does at a variable, read off the tables of a script.
use Rattle.std.specs.Prelude.{ℕ, List, Bool, Some, None}
use Rattle.std.specs.declared.option.Option as Answer
use Rattle.std.proofs.Math.Option.{Option, none, some}
use Rattle.definitions.specs.Types.{Ty, type_code}
use Rattle.definitions.specs.Typing.{Written}
use Rattle.definitions.specs.Suggest.{is_accepted}
use Rattle.facts.specs.declared.noting.Tables.{Tables}
use Rattle.facts.specs.Infer.{read_off}
use Rattle.with_type.specs.WithType.{with_type}

-- the script is accepted with the type written at the variable
unfoldable pub does_in : Tables → List Written → ℕ → Ty → Bool
does_in t ws x τ = is_accepted (read_off (with_type x τ t) ws)

-- the code of a type, where there is one
abbrev pub code_of : Option Ty → Answer.Option ℕ
code_of none = None
code_of (some τ) = Some (type_code τ)
