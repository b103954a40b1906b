-- The evaluator of tuples, from its input to its output: what a run call is lent and tuples for the block on top, to a line for each.
use Rattle.std.specs.Prelude.{ℕ, ◌-◌, ◌*◌, ◌/◌, List, true, false, leb, length}
use Rattle.definitions.specs.Ascii.{ascii}
use Rattle.definitions.specs.Bytes.{part}
use Rattle.definitions.specs.Printer.{line}
use Rattle.tuple_lines.specs.TriedLine.{line_room}
use Rattle.tuples.specs.Asking.{entered, entered_lines}
use Rattle.evaluator_input.specs.Input.{tuple_width, tuples_in, input_limit, tuples_at, lent_in, saved_in, now_in, uncut}

-- room for a line of each tuple that an input may have
abbrev pub output_room : ℕ
output_room = line_room * (input_limit / tuple_width)

-- of an input that is not cut off refusal 1 never comes (`EvaluationLaws.tables-fit`)
unfoldable pub evaluated : List ℕ → List ℕ
evaluated s =
    elim (leb (length s) input_limit) [
      | true ↦ elim (uncut s) [
        | true ↦ entered_lines (lent_in s).ranks (now_in s) (tuples_in (part s (tuples_at s) (length s - tuples_at s))) (entered (lent_in s) (saved_in s) (now_in s))
        | false ↦ line (ascii "cut off")
      ]
      | false ↦ line (ascii "too long")
    ]
