-- Tuples for the block on top of a saved run, each with its line; or why there is none.
use Rattle.definitions.specs.Numbers.{refusal_number}
use Rattle.definitions.specs.declared.Refusal.TheVariants.{Unsound, BadRun, BadRanks}
use Rattle.std.specs.Prelude.{ℕ, List, [], ◌∷◌, ◌++◌, Bool, true, false, ℤ}
use Rattle.std.proofs.Math.Option.{Option, none, some}
use Rattle.definitions.specs.Ascii.{ascii}
use Rattle.definitions.specs.Terms.{is_date_time}
use Rattle.definitions.specs.Tree.{Script, success, from_named, block, sequence, Query}
use Rattle.definitions.specs.Scope.{variables_of}
use Rattle.definitions.specs.Typing.{type_at}
use Rattle.definitions.specs.Values.{natural_text}
use Rattle.definitions.specs.Outcome.{Outcome, ok, fault}
use Rattle.definitions.specs.Evaluate.{query}
use Rattle.definitions.specs.Evaluated.{query_records}
use Rattle.definitions.specs.Search.{Tuple, bind}
use Rattle.definitions.specs.Machine.{Item}
use Rattle.definitions.specs.Result.{Result, refused, passed, ◌>>=◌, ◌>>◌, require, given}
use Rattle.definitions.specs.Calls.{Lent, Sound, setting_of, entry_tests}
use Rattle.definitions.specs.Alphabet.{is_alphabet}
use Rattle.definitions.specs.Exports.{saved_from}
use Rattle.definitions.specs.Printer.{line}
use Rattle.search.specs.Trying.{tuple_fits}

-- ── a line for each tuple ───────────────────────────────────────────────────────────────────

-- a block's variables and its query
pub record Asked : Type 0 where
  pub variables : List ℕ
  pub query : Query

unfoldable pub asked_by : Script → Option Asked
asked_by (success at) = none
asked_by (from_named at n c) = none
asked_by (block at each bs q c) = some (record { variables = variables_of bs; query = q })
asked_by (sequence at c d) = none

-- the block on top
unfoldable pub asked_on : List Item → Option Asked
asked_on [] = none
asked_on (i ∷ rest) = asked_by i.script

-- that there is no fault is `answers::try_top`'s promise
abbrev pub outcome_text : Outcome Bool → List ℕ
outcome_text (ok true) = ascii "true "
outcome_text (ok false) = ascii "false "
outcome_text (fault f) = ascii "fault "

-- the tuple's terms for the block's variables, the run's other bindings, and this now
unfoldable pub tuple_line : Sound → (ranks : List ℕ) → (now : ℤ) → Asked → Tuple → List ℕ
tuple_line x ranks now a t =
    let c = x.checked in
    let here = setting_of c ranks now in
    let s = x.state.store in
    let β = bind a.variables t x.state.control.bindings in
    elim (tuple_fits c.schema (type_at c.types) s.terms a.variables t) [
      | true ↦ line (outcome_text (query here s.terms s.quads β a.query) ++ natural_text (query_records here s.terms s.quads β a.query))
      | false ↦ line (ascii "bad")
    ]

unfoldable pub tuple_lines : (Tuple → List ℕ) → List Tuple → List ℕ
tuple_lines f [] = []
tuple_lines f (t ∷ ts) = f t ++ tuple_lines f ts

unfoldable pub asked_lines : Sound → (ranks : List ℕ) → (now : ℤ) → List Tuple → Option Asked → List ℕ
asked_lines x ranks now ts none = line (ascii "no block")
asked_lines x ranks now ts (some a) = tuple_lines (tuple_line x ranks now a) ts

-- ── on a saved run ──────────────────────────────────────────────────────────────────────────

-- as a run call is refused: 21, then 10, also for bytes that no saved run has, then 11 for now
unfoldable pub entered : Lent → (saved : List ℕ) → (now : ℤ) → Result Sound
entered l saved now = do
  require BadRanks (is_alphabet l.ranks)
  run ← given Unsound (saved_from saved)
  x ← entry_tests l run
  require BadRun (is_date_time now)
  passed x

unfoldable pub entered_lines : (ranks : List ℕ) → (now : ℤ) → List Tuple → Result Sound → List ℕ
entered_lines ranks now ts (refused n) = line (ascii "refused " ++ natural_text (refusal_number n))
entered_lines ranks now ts (passed x) = asked_lines x ranks now ts (asked_on x.state.control.stack)
