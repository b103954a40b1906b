-- Document 02, Ask 12: how long a script with no each block takes.
--
--   Counted from its load, it never takes more steps than the script has records of kinds 71 to 74, and it has ended exactly
--   when it has taken that many. Pages, waits and the cutting into calls don't alter the total.
--
-- Of every list of run and page calls after an accepted load, refused calls included: of the calls' answers, and at the C interface of the bytes of the reports.
use Rattle.std.specs.Prelude.{Ok, Err}
use Rattle.std.specs.Prelude.{ℕ, ◌+◌, ◌≤◌, ◌≡◌, List, [], ◌∷◌, Bool, cond, not, T, eqb, take}
use Rattle.std.proofs.Math.Option.{some}
use Rattle.definitions.specs.Lists.{some?}
use Rattle.definitions.specs.Bytes.{byte, little}
use Rattle.definitions.specs.Tree.{Script}
use Rattle.definitions.specs.Total.{script_records, has_each}
use Rattle.definitions.specs.Outcome.{ok}
use Rattle.definitions.specs.Machine.{Item, State}
use Rattle.definitions.specs.Saved.{held}
use Rattle.definitions.specs.Result.{passed}
use Rattle.definitions.specs.Calls.{Parsed, read_tests, Lent, load, total}
use Rattle.definitions.specs.CallList.{Answer, ran, paged}
use Rattle.definitions.specs.Numbers.{state_number}
use Rattle.definitions.specs.Exports.{saved_from}
use Rattle.definitions.specs.declared.SavedRun.{SavedRun}
use Rattle.theorems.specs.Hosts.{HostCall, Handed, kept_after_load, kept_after_all, engine_calls}
use Rattle.theorems.specs.OnBytes.{ExportCall, running, paging, Exported, bytes_of, after_all, export_calls}

-- ── what is reported ────────────────────────────────────────────────────────────────────────

-- the steps of a run, and its state by its number: 0 is ended
pub record RunTold : Type 0 where
  pub steps : ℕ
  pub state : ℕ

-- what an answer tells of a run, before what later answers tell
unfoldable pub with_run : Answer → List RunTold → List RunTold
with_run (ran (Ok e)) later = record { steps = e.steps; state = state_number e.state } ∷ later
with_run (ran (Err n)) later = later
with_run (paged a) later = later

unfoldable pub runs_told : List Handed → List RunTold
runs_told [] = []
runs_told (h ∷ hs) = with_run h.answer (runs_told hs)

-- the same at the C interface: a run that returns 0 has written its report
unfoldable pub runs_reported : List ExportCall → List Exported → List RunTold
runs_reported [] es = []
runs_reported (x ∷ xs) [] = []
runs_reported (running t budget now ∷ xs) (e ∷ es) =
    cond (eqb e.number 0) (record { steps = little (take 4 e.report); state = byte e.report 4 } ∷ runs_reported xs es) (runs_reported xs es)
runs_reported (paging t g page ∷ xs) (e ∷ es) = runs_reported xs es

unfoldable pub steps_of : List RunTold → ℕ
steps_of [] = 0
steps_of (r ∷ rs) = r.steps + steps_of rs

-- one of the runs has ended
unfoldable pub has_ended : List RunTold → Bool
has_ended runs = some? (λ r. eqb r.state 0) runs

-- ── what is promised ────────────────────────────────────────────────────────────────────────

-- the records of kinds 71 to 74 of what is on a stack: each item's own, and those below it
unfoldable pub stack_records : List Item → ℕ
stack_records [] = 0
stack_records (i ∷ rest) = script_records i.script + stack_records rest

-- each run has ended exactly when as many steps are taken with it, and before it, as the script has records
abbrev pub EndsExactly : (records before : ℕ) → List RunTold → Type 0
EndsExactly n before [] = Unit {0}
EndsExactly n before (r ∷ rs) =
    ((r.state ≡ 0 → before + r.steps ≡ n) × (before + r.steps ≡ n → r.state ≡ 0)) × EndsExactly n (before + r.steps) rs

-- runs of a script with so many records, and the stack that they leave
pub record Exact (records : ℕ) (runs : List RunTold) (stack : List Item) : Type 0 where
  -- the steps reported so far, and the records of what is left on the stack, are the script's
  pub counted : steps_of runs + stack_records stack ≡ records
  -- never more steps than records
  pub at_most : steps_of runs ≤ records
  -- ended exactly when that many are taken
  pub ends : EndsExactly records 0 runs
  -- and where a run has ended, that many are taken in all
  pub all : T (has_ended runs) → steps_of runs ≡ records

-- a list of calls after the load: `left` is the state that the host's saved run and tables hold after them
pub record ExactAnswers (l : Lent) (root : Script) (calls : List HostCall) : Type 0 where
  pub handed : List Handed
  pub given : engine_calls l calls (kept_after_load l) ≡ ok handed
  pub left : State
  pub holds : let k = kept_after_all calls (kept_after_load l) handed in held root k.term_table k.quad_table k.saved ≡ some left
  pub exact : Exact (script_records root) (runs_told handed) left.control.stack

-- the same at the C interface
pub record ExactReports (l : Lent) (root : Script) (calls : List ExportCall) : Type 0 where
  pub exported : List Exported
  pub given : export_calls l calls (bytes_of (kept_after_load l)) ≡ ok exported
  pub saved : SavedRun
  pub reads : saved_from (after_all calls (bytes_of (kept_after_load l)) exported).saved ≡ some saved
  pub left : State
  pub holds : let k = after_all calls (bytes_of (kept_after_load l)) exported in held root k.term_table k.quad_table saved ≡ some left
  pub exact : Exact (script_records root) (runs_reported calls exported) left.control.stack

-- a load that is accepted, of a script with no each block
pub record OnceLoad (l : Lent) : Type 0 where
  pub accepted : (load l).returned.answer ≡ Ok tt
  pub read : Parsed
  pub reads : read_tests l.terms l.schema l.script ≡ passed read
  pub no_each : T (not (has_each read.root))

pub record ExactSteps (l : Lent) (root : Script) : Type 0 where
  -- the total that is told
  pub told : total l.terms l.schema l.script ≡ Ok (script_records root)
  pub answers : (calls : List HostCall) → ExactAnswers l root calls
  pub reports : (calls : List ExportCall) → ExactReports l root calls
  -- two lists of calls that both reach the end report the same total
  pub same_answers : (xs ys : List HostCall) → let us = runs_told (answers xs).handed in let vs = runs_told (answers ys).handed in
      T (has_ended us) → T (has_ended vs) → steps_of us ≡ steps_of vs
  pub same_reports : (xs ys : List ExportCall) → let us = runs_reported xs (reports xs).exported in let vs = runs_reported ys (reports ys).exported in
      T (has_ended us) → T (has_ended vs) → steps_of us ≡ steps_of vs
