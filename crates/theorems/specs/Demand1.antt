-- Demand 1: refusals.
--
--   If anything a call is handed breaks a rule of document 01, the call gives the refusal number of the first one broken
--   in that call's order, and every lent buffer keeps its bytes; every other input gets its answer.
--
-- Each call has a table of its rules in its order: the refusal's number, and whether what the call is handed keeps the rule.
-- `ExportRefusals` says the same of the C interface, where the saved run and the report are lent as bytes too.
use Rattle.std.specs.Prelude.{Ok, Err}
use Rattle.definitions.specs.declared.Refusal.{Refusal}
use Rattle.std.specs.Prelude.{ℕ, ◌≡◌, List, [], ◌∷◌, ◌++◌, Bool, true, false, not, ◌&&◌, eqb, leb, length, ℤ}
use Rattle.std.proofs.Math.Option.{Option, none, some}
use Rattle.std.proofs.Math.ListN.{get_elem?}
use Rattle.definitions.specs.Limits.{entry_limit, budget_limit, schema_width}
use Rattle.definitions.specs.Lists.{every, some?, distinct, is_empty, is_in}
use Rattle.definitions.specs.Alphabet.{is_alphabet}
use Rattle.definitions.specs.Bytes.{onward}
use Rattle.definitions.specs.Types.{Ty}
use Rattle.definitions.specs.Terms.{Term, same_term, same_property, is_date_time, read_terms, read_schema}
use Rattle.definitions.specs.Gathering.{gathered}
use Rattle.definitions.specs.Tree.{Script}
use Rattle.definitions.specs.Reading.{parsed}
use Rattle.definitions.specs.Scope.{in_scope}
use Rattle.definitions.specs.Typing.{written_types, typings, above}
use Rattle.definitions.specs.Outcome.{ok}
use Rattle.definitions.specs.Machine.{with_properties, taken, with_page, in_limits}
use Rattle.definitions.specs.Publish.{published}
use Rattle.definitions.specs.Result.{passed, given}
use Rattle.definitions.specs.Numerals.{numeral_of, term_of}
use Rattle.definitions.specs.Calls.{constants_of, sizes_fit, Lent, lengths_fit, load, Sound, sound_in, run_call, is_graph, page_in, page_call, total, number_call, suggest, schema_call}
use Rattle.definitions.specs.Calls.{lengths_of, both_tables_fit, publish_call}
use Rattle.definitions.specs.Numbers.{answer_number, result_number}
use Rattle.definitions.specs.declared.SavedRun.{SavedRun}
use Rattle.definitions.specs.declared.RunState.{RunState}
use Rattle.definitions.specs.declared.Ran.{Ran}
use Rattle.definitions.specs.declared.Suggested.TheVariants as Suggests

-- ── rules in order ──────────────────────────────────────────────────────────────────────────

-- the number of the first rule broken, 0 where none is
unfoldable pub first_broken : List (ℕ × Bool) → ℕ
first_broken [] = 0
first_broken (r ∷ rules) = elim r.1 [ true ↦ first_broken rules | false ↦ r.0 ]

-- something could be read; and it passes a test, which is not asked where nothing could be read, since a rule before it is broken
unfoldable pub is_there : {A : Type 0} → Option A → Bool
is_there none = false
is_there (some a) = true

unfoldable pub if_there : {A : Type 0} → Option A → (A → Bool) → Bool
if_there none test = true
if_there (some a) test = test a

-- the terms as loading numbers them, and the script, where they can be read
abbrev pub numbered_in : (terms schema : List ℕ) → Option (List Term)
numbered_in terms schema = onward (read_terms terms) (λ ts. onward (read_schema schema) (λ S. some (with_properties S ts)))

abbrev pub root_in : (terms schema script : List ℕ) → Option Script
root_in terms schema script = onward (numbered_in terms schema) (λ ts. parsed (length ts) script)

-- Reading terms, schema and script: 2 to 7 in that order.
abbrev pub read_rules : (terms schema script : List ℕ) → List (ℕ × Bool)
read_rules terms schema script =
    let listed = read_terms terms in
    let entries = read_schema schema in
    let root = root_in terms schema script in
    (2, is_there listed)  -- bad term record
    ∷ (3, if_there listed (distinct same_term))  -- a term listed twice
    ∷ (4, is_there entries)  -- bad schema record
    ∷ (5, if_there entries (distinct same_property))  -- a property twice in the schema
    ∷ (6, if_there entries (λ S. if_there (numbered_in terms schema) (λ ts. sizes_fit ts S script)) && is_there root)  -- a limit passed, or script malformed
    ∷ (7, if_there root in_scope)  -- a variable unbound at its use, or bound by two pairs
    ∷ []

-- the typings of a script, where it can be read
abbrev pub typings_in : (terms schema script : List ℕ) → Option (List (List Ty))
typings_in terms schema script =
    onward (read_schema schema) (λ S. onward (numbered_in terms schema) (λ ts. onward (root_in terms schema script) (λ c.
    some (typings (constants_of S ts) (written_types c) c))))

-- Loading checks 1, 21, and 2 to 9 in that order. (`lengths`: the lent tables have their lengths.)
abbrev pub load_rules : (lengths : Bool) → Lent → List (ℕ × Bool)
load_rules lengths l =
    let all = typings_in l.terms l.schema l.script in
    (1, lengths)  -- ranks or a lent table of another length
    ∷ (21, is_alphabet l.ranks)  -- ranks that are no alphabet
    ∷ read_rules l.terms l.schema l.script
    ++ ((8, if_there all (λ Γs. not (is_empty Γs)))  -- no typing
    ∷ (9, if_there all (λ Γs. some? (λ Γ. every (above Γ) Γs) Γs))  -- typings, none above the rest
    ∷ [])

-- A suggestion: 2 to 8.
abbrev pub suggest_rules : (terms schema script : List ℕ) → List (ℕ × Bool)
suggest_rules terms schema script = read_rules terms schema script ++ ((8, if_there (typings_in terms schema script) (λ Γs. not (is_empty Γs))) ∷ [])

-- Running: 1, 21, 10, 11. (`found`: the sound state that saved run and tables hold, if they do.)
abbrev pub run_rules : (lengths : Bool) → (ranks : List ℕ) → (found : Option Sound) → (budget : ℕ) → (now : ℤ) → List (ℕ × Bool)
run_rules lengths ranks found budget now =
    (1, lengths)
    ∷ (21, is_alphabet ranks)
    ∷ (10, is_there found)  -- saved run or tables unsound
    ∷ (11, leb budget budget_limit && is_date_time now)  -- budget over 60,000, or now no date_time
    ∷ []

-- A page: 1, 21, 10, 12, 13, 14.
abbrev pub page_rules : (lengths : Bool) → (ranks : List ℕ) → (found : Option Sound) → (graph : ℕ) → (page : List ℕ) → List (ℕ × Bool)
page_rules lengths ranks found g page =
    let triples = page_in page in
    (1, lengths)
    ∷ (21, is_alphabet ranks)
    ∷ (10, is_there found)
    ∷ (12, if_there found (λ x. is_graph (get_elem? x.state.store.terms g)))  -- page graph no URI of the table
    ∷ (13, is_there triples)  -- page over 65,536 bytes or a bad record in it
    ∷ (14, if_there found (λ x. if_there triples (λ rs. in_limits (with_page g (taken x.checked.schema g rs x.state.store) x.state.store))))
    ∷ []  -- 14: terms, quads or graphs would pass their limits

-- A number: 16, 17.
abbrev pub number_rules : (text : List ℕ) → List (ℕ × Bool)
number_rules text =
    (16, is_there (numeral_of text))  -- text not of this form or length
    ∷ (17, if_there (numeral_of text) (λ n. is_there (term_of n)))  -- value outside the kind's limits or no whole count of millionths
    ∷ []

-- A schema out of a page: 1, 13, 19.
abbrev pub schema_rules : (lengths : Bool) → (page : List ℕ) → List (ℕ × Bool)
schema_rules lengths page =
    let triples = page_in page in
    (1, lengths)
    ∷ (13, is_there triples)
    ∷ (19, if_there triples (λ rs. leb (length (gathered rs).entries) entry_limit))  -- more subjects would get an entry than a schema has
    ∷ []

-- Publishing: 1, 10, 22, 23. (`room`: the bytes of the buffer.)
abbrev pub publish_rules : (lengths : Bool) → (found : Option Sound) → (graph room : ℕ) → List (ℕ × Bool)
publish_rules lengths found g room =
    (1, lengths)
    ∷ (10, is_there found)
    ∷ (22, if_there found (λ x. is_in g x.state.store.fetched))  -- graph not fetched
    ∷ (23, if_there found (λ x. leb (length (published g x.state.store)) room))  -- buffer shorter than the page
    ∷ []

-- ── the calls ───────────────────────────────────────────────────────────────────────────────

-- the first rule broken by what a call is handed, 0 where none is
abbrev pub load_broken : Lent → ℕ
load_broken l = first_broken (load_rules (lengths_fit l) l)

abbrev pub run_broken : Lent → SavedRun → (budget : ℕ) → (now : ℤ) → ℕ
run_broken l saved budget now = first_broken (run_rules (lengths_fit l) l.ranks (sound_in l saved) budget now)

abbrev pub page_broken : Lent → SavedRun → (graph : ℕ) → (page : List ℕ) → ℕ
page_broken l saved g page = first_broken (page_rules (lengths_fit l) l.ranks (sound_in l saved) g page)

-- the total: 2 to 7
abbrev pub total_broken : (terms schema script : List ℕ) → ℕ
total_broken terms schema script = first_broken (read_rules terms schema script)

abbrev pub number_broken : (text : List ℕ) → ℕ
number_broken text = first_broken (number_rules text)

-- a suggestion: 2 to 8
abbrev pub suggest_broken : (terms schema script : List ℕ) → ℕ
suggest_broken terms schema script = first_broken (suggest_rules terms schema script)

-- the buffer for the schema is lent
abbrev pub schema_broken : (page schema : List ℕ) → ℕ
schema_broken page schema = first_broken (schema_rules (eqb (length schema) schema_width) page)

abbrev pub publish_broken : Lent → SavedRun → (graph : ℕ) → (buffer : List ℕ) → ℕ
publish_broken l saved g buffer = first_broken (publish_rules (both_tables_fit (lengths_of l)) (sound_in l saved) g (length buffer))

pub record LoadRefuses (l : Lent) : Type 0 where
  -- the call gives the number of the first rule broken
  pub number : answer_number (load l).returned.answer ≡ load_broken l
  -- and every lent buffer keeps its bytes
  pub keeps : (load_broken l ≡ 0 → ⊥) → ((load l).term_table ≡ l.term_table) × ((load l).quad_table ≡ l.quad_table)
  -- every other input gets its answer
  pub answers : load_broken l ≡ 0 → (load l).returned.answer ≡ Ok tt

-- a run call has an outcome, no fault; the tables it only reads
pub record RunRefuses (l : Lent) (saved : SavedRun) (budget : ℕ) (now : ℤ) : Type 0 where
  pub ran : Ran
  pub given : run_call l saved budget now ≡ ok ran
  pub number : answer_number ran.answer ≡ run_broken l saved budget now
  pub keeps : (run_broken l saved budget now ≡ 0 → ⊥) → ran.saved ≡ saved
  pub answers : run_broken l saved budget now ≡ 0 → (steps : ℕ) × (state : RunState) × (ran.answer ≡ Ok (record { steps = steps; state = state }))

pub record PageRefuses (l : Lent) (saved : SavedRun) (graph : ℕ) (page : List ℕ) : Type 0 where
  pub number : answer_number (page_call l saved graph page).returned.answer ≡ page_broken l saved graph page
  pub keeps : (page_broken l saved graph page ≡ 0 → ⊥) → let r = page_call l saved graph page in
      (r.returned.saved ≡ saved) × (r.term_table ≡ l.term_table) × (r.quad_table ≡ l.quad_table)
  pub answers : page_broken l saved graph page ≡ 0
      → (skipped : ℕ) × ((page_call l saved graph page).returned.answer ≡ Ok skipped)

-- the total and the number are lent nothing that they write
pub record TotalRefuses (terms schema script : List ℕ) : Type 0 where
  pub number : answer_number (total terms schema script) ≡ total_broken terms schema script
  pub answers : total_broken terms schema script ≡ 0 → (n : ℕ) × (total terms schema script ≡ Ok n)

pub record NumberRefuses (text : List ℕ) : Type 0 where
  pub number : result_number (number_call text) ≡ number_broken text
  pub answers : number_broken text ≡ 0 → (t : Term) × (number_call text ≡ passed t)

-- nor is a suggestion
pub record SuggestRefuses (terms schema script : List ℕ) : Type 0 where
  pub number : answer_number (suggest terms schema script) ≡ suggest_broken terms schema script
  pub answers : suggest_broken terms schema script ≡ 0 → (n : Refusal) → suggest terms schema script ≡ Err n → ⊥

pub record SchemaRefuses (page schema : List ℕ) : Type 0 where
  pub number : answer_number (schema_call page schema).answer ≡ schema_broken page schema
  pub keeps : (schema_broken page schema ≡ 0 → ⊥) → (schema_call page schema).schema ≡ schema
  pub answers : schema_broken page schema ≡ 0 → (entries left_out : ℕ) × ((schema_call page schema).answer ≡ Ok (record { entries = entries; left_out = left_out }))

-- publishing writes its buffer alone
pub record PublishRefuses (l : Lent) (saved : SavedRun) (graph : ℕ) (buffer : List ℕ) : Type 0 where
  pub number : answer_number (publish_call l saved graph buffer).returned ≡ publish_broken l saved graph buffer
  pub keeps : (publish_broken l saved graph buffer ≡ 0 → ⊥) → (publish_call l saved graph buffer).page ≡ buffer
  pub answers : publish_broken l saved graph buffer ≡ 0 → (n : ℕ) × ((publish_call l saved graph buffer).returned ≡ Ok n)

pub record Demand1 : Type 0 where
  pub load : (l : Lent) → LoadRefuses l
  pub run : (l : Lent) (saved : SavedRun) (budget : ℕ) (now : ℤ) → RunRefuses l saved budget now
  pub page : (l : Lent) (saved : SavedRun) (graph : ℕ) (page : List ℕ) → PageRefuses l saved graph page
  pub total : (terms schema script : List ℕ) → TotalRefuses terms schema script
  pub number : (text : List ℕ) → NumberRefuses text
  pub suggest : (terms schema script : List ℕ) → SuggestRefuses terms schema script
  pub schema : (page schema : List ℕ) → SchemaRefuses page schema
  pub publish : (l : Lent) (saved : SavedRun) (graph : ℕ) (buffer : List ℕ) → PublishRefuses l saved graph buffer
