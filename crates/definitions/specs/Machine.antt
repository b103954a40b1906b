-- Document 01, "The machine": its state, one step, a run with its steps, a page taken in.
use Rattle.std.specs.Prelude.{ℕ, zero, suc, List, [], ◌∷◌, ◌++◌, Bool, true, false, cond, not, ◌&&◌, eqb, leb, length}
use Rattle.std.proofs.Math.Option.{Option, none, some}
use Rattle.definitions.specs.Limits.{term_limit, quad_limit, graph_limit}
use Rattle.definitions.specs.Lists.{keep, is_in}
use Rattle.definitions.specs.Types.{Datatype, plain}
use Rattle.definitions.specs.Terms.{Term, Schema, Triple, datatype_in, has_type, same_term}
use Rattle.definitions.specs.Tree.{Query, Script, success, from_named, block, sequence}
use Rattle.definitions.specs.Scope.{variables_of}
use Rattle.definitions.specs.Outcome.{Outcome, ok, ◌>>=◌, ◌>>◌, demand, from_named_no_uri}
use Rattle.definitions.specs.Values.{before}
use Rattle.definitions.specs.Evaluate.{Setting, Bindings, Quad, same_quad, Named, named, is_uri}
use Rattle.definitions.specs.Search.{Typing, Tuple, bind, answer}
use Rattle.definitions.specs.declared.RunState.{RunState}
use Rattle.definitions.specs.declared.RunState.TheVariants.{Ended, Wanted, Waiting, Spent}

-- ── the state ───────────────────────────────────────────────────────────────────────────────

-- a script item; an each block's with the tuple it last used
pub record Item : Type 0 where
  pub script : Script
  pub last : Option Tuple

-- the stack, its top first, and the variables' terms
pub record Control : Type 0 where
  pub stack : List Item
  pub bindings : Bindings

-- the terms by number, the quads and the fetched list
pub record Store : Type 0 where
  pub terms : List Term
  pub quads : List Quad
  pub fetched : List ℕ

pub record State : Type 0 where
  pub control : Control
  pub store : Store

abbrev pub fresh : Script → Item
fresh c = record { script = c; last = none }

abbrev pub with_stack : State → List Item → State
with_stack s stack = record { control = record { stack = stack; bindings = s.control.bindings }; store = s.store }

abbrev pub with_answer : State → (variables : List ℕ) → Tuple → List Item → State
with_answer s vs t stack = record { control = record { stack = stack; bindings = bind vs t s.control.bindings }; store = s.store }

-- A load leaves the root alone on the stack, nothing bound or fetched.
unfoldable pub loaded : List Term → Script → State
loaded terms root =
    record {
      control = record { stack = fresh root ∷ []; bindings = λ v. none };
      store = record { terms = terms; quads = []; fetched = [] };
    }

-- ── one step ────────────────────────────────────────────────────────────────────────────────

-- a step to the next state, or none and why
pub data Next : Type 0 where
  step : State → Next
  stand : RunState → Next

-- from named a fetched graph becomes its script; another graph is wanted, with no step
unfoldable pub enter_named : State → List Item → Named → Next
enter_named s stack g = cond (is_in g.number s.store.fetched) (step (with_stack s stack)) (stand (Wanted g.number))

-- a once block binds its first answer and becomes its script; with none it waits, with no step
unfoldable pub enter_once : State → (variables : List ℕ) → List Item → Option Tuple → Next
enter_once s vs stack none = stand Waiting
enter_once s vs stack (some t) = step (with_answer s vs t stack)

-- an each block binds its first answer after the tuple it last used and puts its script on top of itself; with none it is dropped
unfoldable pub enter_each : State → (variables : List ℕ) → (rest : List Item) → (Tuple → List Item) → Option Tuple → Next
enter_each s vs rest stack none = step (with_stack s rest)
enter_each s vs rest stack (some t) = step (with_answer s vs t (stack t))

module _ (σ : Setting) (Γ : Typing) where
  -- answers are looked for in the store of that moment
  abbrev pub answer_now : State → (variables : List ℕ) → Query → (last : Option Tuple) → Outcome (Option Tuple)
  answer_now s vs q last = answer σ Γ s.store.terms s.store.quads s.control.bindings vs q last

  -- the top item acts on the rest
  unfoldable pub act : State → (rest : List Item) → (last : Option Tuple) → Script → Outcome Next
  -- success is dropped
  act s rest last (success at) = ok (step (with_stack s rest))
  act s rest last (from_named at n c) = do
    g ← named s.store.terms s.control.bindings n
    demand (is_uri g.term) from_named_no_uri
    ok (enter_named s (fresh c ∷ rest) g)
  act s rest last (block at false bs q c) = do
    t ← answer_now s (variables_of bs) q none
    ok (enter_once s (variables_of bs) (fresh c ∷ rest) t)
  act s rest last (block at true bs q c) = do
    t ← answer_now s (variables_of bs) q last
    ok (enter_each s (variables_of bs) rest (λ u. fresh c ∷ record { script = block at true bs q c; last = some u } ∷ rest) t)
  -- a sequence becomes its first script on top of its second
  act s rest last (sequence at c d) = ok (step (with_stack s (fresh c ∷ fresh d ∷ rest)))

  unfoldable pub next_of : State → List Item → Outcome Next
  next_of s [] = ok (stand Ended)
  next_of s (i ∷ rest) = act s rest i.last i.script

  abbrev pub next : State → Outcome Next
  next s = next_of s s.control.stack

-- ── a run ───────────────────────────────────────────────────────────────────────────────────

-- the state after each step, in order, and how the run ends
pub record Run : Type 0 where
  pub passed : List State
  pub ending : RunState

abbrev pub still : RunState → Run
still r = record { passed = []; ending = r }

abbrev pub preceded : State → Run → Run
preceded s r = record { passed = s ∷ r.passed; ending = r.ending }

abbrev pub is_each_block : Script → Bool
is_each_block (success at) = false
is_each_block (from_named at n c) = false
is_each_block (block at each bs q c) = each
is_each_block (sequence at c d) = false

-- spent: none of the other three
abbrev pub ending_of : Next → RunState
ending_of (step s) = Spent
ending_of (stand r) = r

unfoldable pub go_on : (State → Outcome Run) → Next → Outcome Run
go_on more (step s) = do
  r ← more s
  ok (preceded s r)
go_on more (stand r) = ok (still r)

module _ (σ : Setting) (Γ : Typing) where
  -- with no budget left the machine looks whether it stands; an each block always has a step to take, and is not searched
  unfoldable pub look : State → List Item → Outcome RunState
  look s [] = ok Ended
  look s (i ∷ rest) =
      elim (is_each_block i.script) [
        | true ↦ ok Spent
        | false ↦ act σ Γ s rest i.last i.script >>= λ n. ok (ending_of n)
      ]

  unfoldable pub run : (budget : ℕ) → State → Outcome Run
  run zero s = do
    r ← look s s.control.stack
    ok (still r)
  run (suc budget) s = do
    n ← next σ Γ s
    go_on (run budget) n

-- the state after a list of states passed
abbrev pub last_of : State → List State → State
last_of s [] = s
last_of s (x ∷ xs) = last_of x xs

-- ── numbering terms ─────────────────────────────────────────────────────────────────────────

pub record Numbered : Type 0 where
  pub number : ℕ
  pub terms : List Term

abbrev pub after_term : Term → Numbered → Numbered
after_term x r = record { number = suc r.number; terms = x ∷ r.terms }

-- a term's number; a new term joins at the end
unfoldable pub numbered : Term → List Term → Numbered
numbered t [] = record { number = zero; terms = t ∷ [] }
numbered t (x ∷ xs) = elim (same_term t x) [ true ↦ record { number = zero; terms = x ∷ xs } | false ↦ after_term x (numbered t xs) ]

-- Terms are numbered from 0 as listed; schema URIs not yet there follow in schema order.
unfoldable pub with_properties : Schema → List Term → List Term
with_properties [] terms = terms
with_properties (e ∷ es) terms = with_properties es (numbered (Term.uri e.property) terms).terms

-- ── a page ──────────────────────────────────────────────────────────────────────────────────

-- of the records so far: how many were skipped, the terms, the quads
pub record Taken : Type 0 where
  pub skipped : ℕ
  pub terms : List Term
  pub quads : List Quad

abbrev pub skip : Taken → Taken
skip k = record { skipped = suc k.skipped; terms = k.terms; quads = k.quads }

-- the order of quads: by graph, subject, property and object number
abbrev pub numbers_of : Quad → List ℕ
numbers_of q = q.graph ∷ (q.subject ∷ (q.property ∷ (q.object ∷ [])))

unfoldable pub quad_before : Quad → Quad → Bool
quad_before q r = before (λ n. n) (numbers_of q) (numbers_of r)

-- each quad comes before the next
abbrev pub before_first : Quad → List Quad → Bool
before_first q [] = true
before_first q (r ∷ rs) = quad_before q r

unfoldable pub in_order : List Quad → Bool
in_order [] = true
in_order (q ∷ qs) = before_first q qs && in_order qs

-- a quad put in its place, once
unfoldable pub with_quad : Quad → List Quad → List Quad
with_quad q [] = q ∷ []
with_quad q (r ∷ rs) = cond (quad_before q r) (q ∷ (r ∷ rs)) (cond (same_quad q r) (r ∷ rs) (r ∷ with_quad q rs))

-- subject before object; the property is a schema URI, which the load has numbered
unfoldable pub store : (graph : ℕ) → Triple → Taken → Taken
store g r k =
    let x = numbered (Term.uri r.subject) k.terms in
    let p = numbered (Term.uri r.property) x.terms in
    let o = numbered r.object p.terms in
    record {
      skipped = k.skipped;
      terms = o.terms;
      quads = with_quad (record { graph = g; subject = x.number; property = p.number; object = o.number }) k.quads;
    }

-- an object of a property's datatype; none where the property has no schema entry
abbrev pub object_fits : Schema → Option Datatype → Term → Bool
object_fits S none o = false
object_fits S (some d) o = has_type S o (plain d)

unfoldable pub well_typed : Schema → Triple → Bool
well_typed S r = object_fits S (datatype_in S r.property) r.object

-- a skipped record adds no term
unfoldable pub take_one : Schema → (graph : ℕ) → Triple → Taken → Taken
take_one S g r k = elim (well_typed S r) [ true ↦ store g r k | false ↦ skip k ]

unfoldable pub take_all : Schema → (graph : ℕ) → List Triple → Taken → Taken
take_all S g [] k = k
take_all S g (r ∷ rs) k = take_all S g rs (take_one S g r k)

-- a graph not yet fetched joins the list
unfoldable pub joined : (graph : ℕ) → List ℕ → List ℕ
joined g fetched = cond (is_in g fetched) fetched (fetched ++ (g ∷ []))

abbrev pub of_graph : ℕ → Quad → Bool
of_graph g q = eqb q.graph g

-- the page's triples replace the quads that the graph had
unfoldable pub taken : Schema → (graph : ℕ) → List Triple → Store → Taken
taken S g page s = take_all S g page (record { skipped = zero; terms = s.terms; quads = keep (λ q. not (of_graph g q)) s.quads })

unfoldable pub with_page : (graph : ℕ) → Taken → Store → Store
with_page g k s = record { terms = k.terms; quads = k.quads; fetched = joined g s.fetched }

-- terms, quads and graphs
unfoldable pub in_limits : Store → Bool
in_limits s = leb (length s.terms) term_limit && (leb (length s.quads) quad_limit && leb (length s.fetched) graph_limit)
