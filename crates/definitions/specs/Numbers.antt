-- The documents' number for every refusal and every state, the graph that a wanted one carries, and the term that a number's text reads as. What else an answer
-- carries stands in the reports (`Exports.run_report`, `Exports.page_report`, `Exports.total_report`, `Exports.suggest_report`, `Exports.schema_report`,
-- `Exports.publish_report`).
use Rattle.std.specs.Prelude.{ℕ, Ok, Err}
use Rattle.definitions.specs.Bytes.{signed}
use Rattle.definitions.specs.Terms.{Term}
use Rattle.definitions.specs.Result.{Result, refused, passed, OrRefusal}
use Rattle.definitions.specs.declared.RunState.{RunState}
use Rattle.definitions.specs.declared.RunState.TheVariants.{Ended, Wanted, Waiting, Spent}
use Rattle.definitions.specs.declared.Refusal.{Refusal}
use Rattle.definitions.specs.declared.Refusal.TheVariants as Refusals
use Rattle.definitions.specs.declared.Number.{Number}
use Rattle.definitions.specs.declared.Number.TheVariants as Numbers

abbrev pub refusal_number : Refusal → ℕ
refusal_number Refusals.WrongLength = 1
refusal_number Refusals.BadTerm = 2
refusal_number Refusals.TermTwice = 3
refusal_number Refusals.BadEntry = 4
refusal_number Refusals.PropertyTwice = 5
refusal_number Refusals.BadScript = 6
refusal_number Refusals.OutOfScope = 7
refusal_number Refusals.NoTyping = 8
refusal_number Refusals.NoGreatest = 9
refusal_number Refusals.Unsound = 10
refusal_number Refusals.BadRun = 11
refusal_number Refusals.NoGraph = 12
refusal_number Refusals.BadPage = 13
refusal_number Refusals.NoRoom = 14
refusal_number Refusals.BadNumberText = 16
refusal_number Refusals.NoSuchNumber = 17
refusal_number Refusals.TooManyEntries = 19
refusal_number Refusals.BadRanks = 21
refusal_number Refusals.NotFetched = 22
refusal_number Refusals.ShortBuffer = 23

-- 0, or the refusal's number
abbrev pub answer_number : {A : Type 0} → OrRefusal A → ℕ
answer_number (Ok a) = 0
answer_number (Err r) = refusal_number r

abbrev pub result_number : {A : Type 0} → Result A → ℕ
result_number (refused r) = refusal_number r
result_number (passed a) = 0

-- the term that a text reads as; its number is carried in two's complement
abbrev pub as_term : Number → Term
as_term (Numbers.Integer n) = Term.integer (signed n)
as_term (Numbers.Decimal n) = Term.decimal (signed n)

abbrev pub term_read : OrRefusal Number → Result Term
term_read (Ok n) = passed (as_term n)
term_read (Err r) = refused r

-- the state of a run, and the wanted graph's term number
abbrev pub state_number : RunState → ℕ
state_number Ended = 0
state_number (Wanted g) = 1
state_number Waiting = 2
state_number Spent = 3

abbrev pub wanted_graph : RunState → ℕ
wanted_graph Ended = 0
wanted_graph (Wanted g) = g
wanted_graph Waiting = 0
wanted_graph Spent = 0
