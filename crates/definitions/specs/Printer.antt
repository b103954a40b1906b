-- Document 01, "Roster cases": the type printer, from its input to its output.
use Rattle.std.specs.Prelude.{ℕ, zero, suc, ◌+◌, List, [], ◌∷◌, ◌++◌, true, false, eqb, leb, length, take, drop}
use Rattle.std.proofs.Math.Option.{Option, none, some}
use Rattle.definitions.specs.Limits.{text_width, printer_limit}
use Rattle.definitions.specs.Ascii.{ascii}
use Rattle.definitions.specs.Bytes.{byte, past}
use Rattle.definitions.specs.Types.{Datatype, datatype_name, Ty, plain, range}
use Rattle.definitions.specs.Terms.{of_term_kind, body_width}
use Rattle.definitions.specs.Typing.{Written, unbound, undecided, fixed, written_types}
use Rattle.definitions.specs.Values.{natural_text}
use Rattle.definitions.specs.Result.{Result, refused, passed}
use Rattle.definitions.specs.Numbers.{refusal_number}
use Rattle.definitions.specs.declared.Refusal.TheVariants.{BadScript}
use Rattle.definitions.specs.Calls.{Checked, check}

-- ── splitting the joined input ──────────────────────────────────────────────────────────────

-- the body of a record of kinds 11 to 15
abbrev pub term_body : Option Datatype → Option ℕ
term_body none = none
term_body (some d) = some (body_width d)

-- the body of a record of kind 21
unfoldable pub entry_body : ℕ → Option ℕ
entry_body k = elim (eqb k 0x21) [ true ↦ some (text_width + 1) | false ↦ none ]

-- the offset at which records of some kinds end, from an offset on; `left` bounds their number, and is never reached, since past the end the byte is 0, which
-- is no kind (`print_types`, `EndLaws.ends-out`)
unfoldable pub end_from : (width : ℕ → Option ℕ) → (left : ℕ) → List ℕ → ℕ → ℕ
end_from width zero s at = at
end_from width (suc left) s at = elim (width (byte s at)) [ none ↦ at | some n ↦ end_from width left s (past at n) ]

-- the terms end before the first kind outside 11 to 15; a record cut off by the end of the input is theirs
unfoldable pub terms_end : List ℕ → ℕ
terms_end s = end_from (λ k. term_body (of_term_kind k)) (length s) s 0

-- the schema ends before the first other than 21
unfoldable pub schema_end : List ℕ → ℕ
schema_end s = end_from entry_body (length s) s (terms_end s)

abbrev pub terms_part : List ℕ → List ℕ
terms_part s = take (terms_end s) s

abbrev pub schema_part : List ℕ → List ℕ
schema_part s = drop (terms_end s) (take (schema_end s) s)

abbrev pub script_part : List ℕ → List ℕ
script_part s = drop (schema_end s) s

-- ── lines ───────────────────────────────────────────────────────────────────────────────────

unfoldable pub line : List ℕ → List ℕ
line t = t ++ (0x0A ∷ [])

unfoldable pub type_name : Ty → List ℕ
type_name (plain d) = datatype_name d
type_name (range d) = ascii "range(" ++ (datatype_name d ++ ascii ")")

-- variable number and type, by number, of the variables in pairs
abbrev pub type_line : ℕ → Written → Ty → List ℕ
type_line v unbound τ = []
type_line v undecided τ = line (natural_text v ++ (ascii " " ++ type_name τ))
type_line v (fixed σ) τ = line (natural_text v ++ (ascii " " ++ type_name τ))

unfoldable pub type_lines : ℕ → List Written → List Ty → List ℕ
type_lines v [] Γ = []
type_lines v (w ∷ ws) [] = []
type_lines v (w ∷ ws) (τ ∷ Γ) = type_line v w τ ++ type_lines (suc v) ws Γ

abbrev pub counted : Written → ℕ → ℕ
counted unbound n = n
counted undecided n = suc n
counted (fixed σ) n = suc n

-- how many variables are in pairs, used or not
unfoldable pub bound_count : List Written → ℕ
bound_count [] = zero
bound_count (w ∷ ws) = counted w (bound_count ws)

-- state and variable count, then a line for each variable; on a refusal the single line `refused` and its number
unfoldable pub printed_result : Result Checked → List ℕ
printed_result (refused n) = line (ascii "refused " ++ natural_text (refusal_number n))
printed_result (passed c) =
    let ws = written_types c.root in
    line (ascii "accepted " ++ natural_text (bound_count ws)) ++ type_lines 0 ws c.types

-- at most 32,512 bytes, else refused 6
unfoldable pub printed : List ℕ → List ℕ
printed s =
    elim (leb (length s) printer_limit) [
      | true ↦ printed_result (check (terms_part s) (schema_part s) (script_part s))
      | false ↦ printed_result (refused BadScript)
    ]
