-- Document 01, refusal 10: when saved run and tables are sound, clause by clause.
use Rattle.std.specs.Prelude.{ℕ, suc, List, [], ◌∷◌, Bool, true, false, not, ◌&&◌, ◌||◌, eqb, leb, ltb, length}
use Rattle.std.proofs.Math.Option.{Option, none, some}
use Rattle.std.proofs.Math.ListN.{get_elem?}
use Rattle.definitions.specs.Lists.{every, distinct, is_in}
use Rattle.definitions.specs.Types.{Datatype, Ty, plain}
use Rattle.definitions.specs.Terms.{Term, Schema, datatype_in, has_type, same_term}
use Rattle.definitions.specs.Tree.{Script, success, from_named, block, sequence}
use Rattle.definitions.specs.Scope.{variables, variables_of, is_free, binders_of}
use Rattle.definitions.specs.Typing.{type_at}
use Rattle.definitions.specs.Evaluate.{Quad, Bindings}
use Rattle.definitions.specs.Search.{Tuple}
use Rattle.definitions.specs.Machine.{Item, Control, Store, State, object_fits, in_limits, in_order}
use Rattle.definitions.specs.Saved.{Place, place_in, offset_of, is_bound}

-- terms begin as loading numbers them
unfoldable pub begins_with : (known terms : List Term) → Bool
begins_with [] terms = true
begins_with (k ∷ known) [] = false
begins_with (k ∷ known) (t ∷ terms) = same_term k t && begins_with known terms

-- ── terms by number ─────────────────────────────────────────────────────────────────────────

abbrev pub term_has : Schema → Option Term → Ty → Bool
term_has S none τ = false
term_has S (some t) τ = has_type S t τ

-- the term of a number has a type
abbrev pub number_has : Schema → List Term → ℕ → Ty → Bool
number_has S terms i τ = term_has S (get_elem? terms i) τ

abbrev pub is_uri_number : Schema → List Term → ℕ → Bool
is_uri_number S terms i = number_has S terms i (plain Datatype.any_uri)

-- ── quads and fetched graphs ────────────────────────────────────────────────────────────────

-- a property of the schema, and an object of its datatype
abbrev pub pair_fits : Schema → Option Term → Option Term → Bool
pair_fits S (some (Term.uri p)) (some o) = object_fits S (datatype_in S p) o
pair_fits S (some (Term.uri p)) none = false
pair_fits S (some (Term.string g t)) o = false
pair_fits S (some (Term.integer n)) o = false
pair_fits S (some (Term.decimal n)) o = false
pair_fits S (some (Term.date_time n)) o = false
pair_fits S none o = false

-- well typed, in a fetched graph
unfoldable pub quad_sound : Schema → List Term → (fetched : List ℕ) → Quad → Bool
quad_sound S terms fetched q =
    is_in q.graph fetched
    && (is_uri_number S terms q.graph
    && (is_uri_number S terms q.subject
    && pair_fits S (get_elem? terms q.property) (get_elem? terms q.object)))

-- ── stack and bindings ──────────────────────────────────────────────────────────────────────

abbrev pub deep_enough : ℕ → Option Place → Bool
deep_enough n none = false
deep_enough n (some p) = leb n p.depth

-- each variable free in an item is bound
unfoldable pub free_bound : Bindings → Script → Bool
free_bound β c = every (λ v. not (is_free v c) || is_bound (β v)) variables

-- a last tuple, an each block's, names terms of the table
unfoldable pub last_sound : (terms : ℕ) → Script → Option Tuple → Bool
last_sound terms c none = true
last_sound terms (success at) (some t) = false
last_sound terms (from_named at n c) (some t) = false
last_sound terms (block at false bs q c) (some t) = false
last_sound terms (block at true bs q c) (some t) = eqb (length t) (length bs) && every (λ i. ltb i terms) t
last_sound terms (sequence at c d) (some t) = false

-- the n-th item from the bottom stands at depth n or more; the item is the record that stands at its offset, since `Saved.held` made it so
unfoldable pub item_sound : (root : Script) → (terms : ℕ) → Bindings → (place : ℕ) → Item → Bool
item_sound root terms β n i =
    deep_enough n (place_in root (offset_of i.script)) && (free_bound β i.script && last_sound terms i.script i.last)

unfoldable pub stack_sound : (root : Script) → (terms : ℕ) → Bindings → List Item → Bool
stack_sound root terms β [] = true
stack_sound root terms β (i ∷ rest) = item_sound root terms β (suc (length rest)) i && stack_sound root terms β rest

-- a bound variable is one that the script binds, and holds a term of its type
abbrev pub binding_sound : Schema → List Ty → List Term → (bound : List ℕ) → ℕ → Option ℕ → Bool
binding_sound S Γ terms bound v none = true
binding_sound S Γ terms bound v (some i) = is_in v bound && number_has S terms i (type_at Γ v)

-- ── the state ───────────────────────────────────────────────────────────────────────────────

-- terms, quads and fetched graphs, over the schema and the terms as loading numbers them
unfoldable pub store_sound : Schema → (known : List Term) → Store → Bool
store_sound S known s =
    distinct same_term s.terms
    && (begins_with known s.terms
    && (in_order s.quads
    && (every (quad_sound S s.terms s.fetched) s.quads
    && (distinct eqb s.fetched
    && (every (is_uri_number S s.terms) s.fetched
    && in_limits s)))))

-- stack and bindings, over the schema, the reported types, the script and the store's terms
unfoldable pub control_sound : Schema → List Ty → (root : Script) → List Term → Control → Bool
control_sound S Γ root terms c =
    stack_sound root (length terms) c.bindings c.stack
    && every (λ v. binding_sound S Γ terms (variables_of (binders_of root)) v (c.bindings v)) variables

unfoldable pub state_sound : Schema → List Ty → (known : List Term) → (root : Script) → State → Bool
state_sound S Γ known root s = store_sound S known s.store && control_sound S Γ root s.store.terms s.control
