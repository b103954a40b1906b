-- Demand 2: typing, runs and pages.
--
--   A script past refusals 1 to 7 is accepted exactly when the typing rules give it a typing that is above all its other
--   typings, variable by variable; that typing is reported. Refusal 8: it has none; 9: it has some and none is above the
--   rest. A run takes the steps of document 01's machine, and a page taken in leaves its graph holding that page's
--   well-typed triples and nothing else.
--
-- `IsTyping` and `IsGreatest` (`laws`, `Typings`) say what a typing is, and when it is above all; `Steps` and `Ends`
-- (`safety`, `Steps`) what a run is; `PageLeaves` what a page leaves. `Saved.held` is the state that saved run and tables
-- hold.
use Rattle.definitions.specs.declared.Refusal.TheVariants.{NoTyping, NoGreatest}
use Rattle.std.specs.Prelude.{Ok, Err}
use Rattle.std.specs.Prelude.{ℕ, ◌≤◌, ◌≡◌, ◌⊎◌, ◌↔◌, List, T, length, ℤ}
use Rattle.std.proofs.Math.Option.{some}
use Rattle.definitions.specs.Lists.{distinct}
use Rattle.definitions.specs.Types.{Ty}
use Rattle.definitions.specs.Terms.{Term, Schema, Sort, Triple, same_term, same_property, read_terms, read_schema}
use Rattle.definitions.specs.Tree.{Script}
use Rattle.definitions.specs.Reading.{parsed}
use Rattle.definitions.specs.Scope.{in_scope}
use Rattle.definitions.specs.Typing.{Written, written_types, type_at}
use Rattle.definitions.specs.Outcome.{ok}
use Rattle.definitions.specs.Machine.{State, last_of, with_properties}
use Rattle.definitions.specs.Saved.{held}
use Rattle.definitions.specs.Result.{passed}
use Rattle.definitions.specs.Alphabet.{is_alphabet}
use Rattle.definitions.specs.Calls.{Checked, constants_of, sizes_fit, check, reported_types, reported, Lent, lengths_fit, load, run_call, page_in, page_call, setting_of}
use Rattle.definitions.specs.Numbers.{answer_number}
use Rattle.definitions.specs.declared.SavedRun.{SavedRun}
use Rattle.definitions.specs.declared.RunState.{RunState}
use Rattle.definitions.specs.declared.Ran.{Ran}
use Rattle.laws.specs.Typings.{IsTyping, IsGreatest}
use Rattle.safety.specs.Steps.{Steps, Ends}
use Rattle.theorems.specs.PageLeaves.{PageLeaves}

-- ── load ──────────────────────────────────────────────────────────────────────────────────────

-- a refusal that comes before 8 does
abbrev pub BeforeEight : ℕ → Type 0
BeforeEight n = ((1 ≤ n) × (n ≤ 7)) ⊎ (n ≡ 21)

-- past refusals 1, 21 and 2 to 7
pub record PastSeven (l : Lent) : Type 0 where
  -- 1: ranks and tables have their lengths; 21: the ranks are an alphabet
  pub lengths : T (lengths_fit l)
  pub ranks : T (is_alphabet l.ranks)
  -- 2 and 3: the terms are read, none twice
  pub listed : List Term
  pub reads : read_terms l.terms ≡ some listed
  pub apart : T (distinct same_term listed)
  -- 4 and 5: the schema is read, no property twice
  pub schema : Schema
  pub entries : read_schema l.schema ≡ some schema
  pub properties : T (distinct same_property schema)
  -- 6: terms, entries and script keep their limits, and the script is well formed
  pub sizes : T (sizes_fit (with_properties schema listed) schema l.script)
  pub root : Script
  pub parses : parsed (length (with_properties schema listed)) l.script ≡ some root
  -- 7: each variable is bound at its use, and by one pair
  pub scope : T (in_scope root)

module _ {l : Lent} (p : PastSeven l) where
  -- the constants' sorts, by term number, and what is written at the variables
  abbrev pub constants : ℕ → Sort
  constants = constants_of p.schema (with_properties p.schema p.listed)

  abbrev pub written : List Written
  written = written_types p.root

  -- a typing of the script; one that is above all its typings
  abbrev pub Typing : List Ty → Type 0
  Typing Γ = IsTyping constants written p.root Γ

  abbrev pub Greatest : List Ty → Type 0
  Greatest Γ = IsGreatest Typing Γ

  pub record LoadDecides : Type 0 where
    -- accepted exactly when there is a typing above all others, and that one is reported
    pub accepted : ((load l).returned.answer ≡ Ok tt) ↔ ((Γ : List Ty) × Greatest Γ)
    pub reported : (Γ : List Ty) → Greatest Γ → (load l).returned.saved.control.types ≡ reported_types written Γ
    -- it has none
    pub refusal-8 : ((load l).returned.answer ≡ Err NoTyping) ↔ ((Γ : List Ty) → Typing Γ → ⊥)
    -- it has some, and none is above the rest
    pub refusal-9 : ((load l).returned.answer ≡ Err NoGreatest) ↔ (((Γ : List Ty) × Typing Γ) × ((Γ : List Ty) → Greatest Γ → ⊥))

-- ── run ───────────────────────────────────────────────────────────────────────────────────────

-- a run call that reports so many steps and how it ended
pub record RunTakes (l : Lent) (saved : SavedRun) (budget : ℕ) (now : ℤ) (ran : Ran) (steps : ℕ) (ending : RunState) : Type 0 where
  pub checked : Checked
  pub loads : check l.terms l.schema l.script ≡ passed checked
  -- the state that was lent
  pub before : State
  pub entry : held checked.root l.term_table l.quad_table saved ≡ some before
  -- from it the machine takes as many steps as are reported
  pub states : List State
  pub is_steps : Steps (setting_of checked l.ranks now) (type_at checked.types) before states
  pub count : length states ≡ steps
  pub in_budget : steps ≤ budget
  -- and stands as is reported, or could go on with the budget spent
  pub ends : Ends (setting_of checked l.ranks now) (type_at checked.types) budget steps (last_of before states) ending
  -- the saved run handed back and the tables hold the state after the last step
  pub exit : held checked.root l.term_table l.quad_table ran.saved ≡ some (last_of before states)

-- ── page ──────────────────────────────────────────────────────────────────────────────────────

-- a page call that reports so many records skipped
pub record PageTakes (l : Lent) (saved : SavedRun) (graph : ℕ) (page : List ℕ) (skipped : ℕ) : Type 0 where
  pub checked : Checked
  pub loads : check l.terms l.schema l.script ≡ passed checked
  -- the state that was lent, and the page's triples
  pub before : State
  pub entry : held checked.root l.term_table l.quad_table saved ≡ some before
  pub triples : List Triple
  pub reads : page_in page ≡ some triples
  -- the state that is left: the graph holds the page's well typed triples and nothing else, all other graphs what they held
  pub after : State
  pub leaves : PageLeaves checked.schema graph triples before (record { skipped = skipped; state = after })
  pub exit : let r = page_call l saved graph page in held checked.root r.term_table r.quad_table r.returned.saved ≡ some after

-- ── the whole ─────────────────────────────────────────────────────────────────────────────────

pub record Demand2 : Type 0 where
  -- a load is refused with 1 to 7 or 21, or its script is past them
  pub reaches : (l : Lent) → BeforeEight (answer_number (load l).returned.answer) ⊎ PastSeven l
  pub load : (l : Lent) (p : PastSeven l) → LoadDecides p
  pub run : (l : Lent) (saved : SavedRun) (budget : ℕ) (now : ℤ) (ran : Ran) → run_call l saved budget now ≡ ok ran
      → (steps : ℕ) (ending : RunState) → ran.answer ≡ Ok (record { steps = steps; state = ending }) → RunTakes l saved budget now ran steps ending
  pub page : (l : Lent) (saved : SavedRun) (graph : ℕ) (page : List ℕ) (skipped : ℕ)
      → (page_call l saved graph page).returned.answer ≡ Ok skipped → PageTakes l saved graph page skipped
