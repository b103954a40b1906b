-- Document 01, "The machine", last paragraph: the untyped machine fed a list of run and page calls.
-- It is fed only each call's lengths of ranks and tables with budget and now, or with graph number and page; refusals are tested on these and on what it holds.
use Rattle.std.specs.Prelude.{ℕ, List, [], ◌∷◌, length, ℤ, Ok, Err}
use Rattle.definitions.specs.Outcome.{Outcome, ok, ◌>>=◌}
use Rattle.definitions.specs.Machine.{State, Run, last_of}
use Rattle.definitions.specs.Result as Results
use Rattle.definitions.specs.Result.{Result, refused, passed, OrRefusal, require}
use Rattle.definitions.specs.declared.RunEnd.{RunEnd}
use Rattle.definitions.specs.declared.Refusal.TheVariants.{WrongLength}
use Rattle.definitions.specs.Calls.{Checked, Lengths, tables_fit, run_in, PageTaken, take_in}

pub data Call : Type 0 where
  running : Lengths → (budget : ℕ) → (now : ℤ) → Call
  paging : Lengths → (graph : ℕ) → (page : List ℕ) → Call

pub data Answer : Type 0 where
  ran : OrRefusal RunEnd → Answer
  paged : OrRefusal ℕ → Answer

-- a call's answer, and the states after its steps, or after its page, in order; a refused call changes nothing
pub record Done : Type 0 where
  pub answer : Answer
  pub passed : List State

unfoldable pub run_done : Result (Outcome Run) → Outcome Done
run_done (refused n) = ok (record { answer = ran (Err n); passed = [] })
run_done (passed m) = m >>= λ r. ok (record { answer = ran (Ok (record { steps = length r.passed; state = r.ending })); passed = r.passed })

unfoldable pub page_done : Result PageTaken → Done
page_done (refused n) = record { answer = paged (Err n); passed = [] }
page_done (passed k) = record { answer = paged (Ok k.skipped); passed = k.state ∷ [] }

-- under the ranks that were lent at load
module _ (c : Checked) (ranks : List ℕ) where
  unfoldable pub machine_call : Call → State → Outcome Done
  machine_call (running n budget now) s = run_done (Results.◌>>◌ (require WrongLength (tables_fit n)) (run_in c ranks budget now s))
  machine_call (paging n g page) s = ok (page_done (Results.◌>>◌ (require WrongLength (tables_fit n)) (take_in c g page s)))

  unfoldable pub machine_calls : List Call → State → Outcome (List Done)
  machine_calls [] s = ok []
  machine_calls (x ∷ xs) s = do
    d ← machine_call x s
    ds ← machine_calls xs (last_of s d.passed)
    ok (d ∷ ds)
