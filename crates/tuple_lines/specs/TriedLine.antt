-- The evaluator's line by what trying a tuple gives, and the room that a line takes.
use Rattle.std.specs.Prelude.{ℕ, ◌+◌, List, ◌++◌, Bool, cond, Option as Maybe, None, Some}
use Rattle.definitions.specs.Ascii.{ascii}
use Rattle.definitions.specs.Values.{natural_text}
use Rattle.definitions.specs.Printer.{line}
use Rattle.search.specs.declared.Tried.{Tried}
use Rattle.output.specs.Written.{number_room}

-- the most bytes that a line takes
abbrev pub line_room : ℕ
line_room = 8 + number_room + 1

abbrev pub truth_text : Bool → List ℕ
truth_text b = cond b (ascii "true ") (ascii "false ")

unfoldable pub tried_line : Maybe Tried → List ℕ
tried_line None = line (ascii "bad")
tried_line (Some r) = line (truth_text r.holds ++ natural_text r.records)
