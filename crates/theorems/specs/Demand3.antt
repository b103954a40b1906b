-- Demand 3: the whole list of calls.
--
--   For every accepted script and every list of calls after its load, refused ones included: the untyped machine of document
--   01, fed the same calls, stops at none of its eight type faults, and each call gives the machine's answer. After every
--   step and page each bound variable holds a term of its reported type, each stored triple has a property in the schema and
--   an object of its datatype, each stack item keeps the typing rules.
--
-- `Hosts` says what a list of calls is, and `WellTyped` what is well typed.
use Rattle.std.specs.Prelude.{◌≡◌, List, [], ◌∷◌, map, length}
use Rattle.std.proofs.Math.Option.{some}
use Rattle.definitions.specs.Limits.{term_table_width, quad_table_width}
use Rattle.definitions.specs.Outcome.{ok}
use Rattle.definitions.specs.Machine.{State, last_of, loaded}
use Rattle.definitions.specs.Saved.{held}
use Rattle.definitions.specs.Result.{passed}
use Rattle.definitions.specs.Calls.{Checked, check, reported, Lent, load}
use Rattle.definitions.specs.CallList.{Done, machine_calls}
use Rattle.laws.specs.Lists.{All}
use Rattle.theorems.specs.Hosts.{Kept, Lending, as_left, others, HostCall, lending, fed, kept_of, kept_after_load, Handed, number_of, lent_kept, kept_after, engine_calls}
use Rattle.theorems.specs.WellTyped.{WellTyped}

-- saved run and tables are a state's
pub record Keeps (c : Checked) (k : Kept) (s : State) : Type 0 where
  -- every byte of them is the state's, with the reported types
  pub written : k ≡ kept_of c s
  -- and they hold the state: stack, last tuples, bound variables' terms, terms by number, fetched graphs and quads
  pub holds : held c.root k.term_table k.quad_table k.saved ≡ some s
  -- the tables have the lengths that the machine is fed
  pub lengths : (length k.term_table ≡ term_table_width) × (length k.quad_table ≡ quad_table_width)

-- a call that is lent a table of another length
abbrev pub Wrong : Lending → Type 0
Wrong as_left = ⊥
Wrong (others l saved wrong) = Unit {0}

-- a call of a host that keeps k, which the machine, from state s, answers with d
pub record Agrees (c : Checked) (x : HostCall) (k : Kept) (s : State) (d : Done) (h : Handed) : Type 0 where
  -- the call gives the machine's answer
  pub answer : h.answer ≡ d.answer
  -- refusal 10 never comes; a table of another length gives 1
  pub never_ten : number_of h.answer ≡ 10 → ⊥
  pub one : Wrong (lending x) → number_of h.answer ≡ 1
  -- after every step and page: variables, triples and stack items are well typed
  pub typed : All (WellTyped c) d.passed
  -- after the call the host's saved run and tables are the machine's
  pub keeps : Keeps c (kept_after (lending x) k h) (last_of s d.passed)
  -- a refused call changes nothing: neither the machine nor anything that it was lent
  pub refused : (number_of h.answer ≡ 0 → ⊥) → (d.passed ≡ []) × (h.left ≡ lent_kept (lending x) k)

-- call by call, from a state on
abbrev pub CallByCall : Checked → List HostCall → Kept → State → List Done → List Handed → Type 0
CallByCall c [] k s [] [] = Unit {0}
CallByCall c [] k s [] (h ∷ hs) = ⊥
CallByCall c [] k s (d ∷ ds) hs = ⊥
CallByCall c (x ∷ xs) k s [] hs = ⊥
CallByCall c (x ∷ xs) k s (d ∷ ds) [] = ⊥
CallByCall c (x ∷ xs) k s (d ∷ ds) (h ∷ hs) =
    Agrees c x k s d h × CallByCall c xs (kept_after (lending x) k h) (last_of s d.passed) ds hs

pub record Demand3 (l : Lent) (calls : List HostCall) : Type 0 where
  -- what loading finds: terms, script and the types worked out, which are the reported ones
  pub checked : Checked
  pub loads : check l.terms l.schema l.script ≡ passed checked
  pub types : (load l).returned.saved.control.types ≡ reported checked
  -- the machine starts from the load
  pub start : Keeps checked (kept_after_load l) (loaded checked.terms checked.root)
  pub start_typed : WellTyped checked (loaded checked.terms checked.root)
  -- fed the same calls it stops at no fault; its look with no budget left, which tells waiting from spent, is part of it
  pub done : List Done
  pub no_fault : machine_calls checked l.ranks (map fed calls) (loaded checked.terms checked.root) ≡ ok done
  -- and the calls, each on what the one before left, agree with it
  pub handed : List Handed
  pub given : engine_calls l calls (kept_after_load l) ≡ ok handed
  pub agree : CallByCall checked calls (kept_after_load l) (loaded checked.terms checked.root) done handed
