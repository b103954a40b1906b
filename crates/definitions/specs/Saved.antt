-- Document 01, "Records" and "The machine": what the lent tables and the saved run hold, and how a state stands in them.
-- What means nothing (places past a count, unbound variables' numbers, tuples that are not there) is not looked at when it is lent, and zero when it is written.
use Rattle.std.specs.Prelude.{ℕ, zero, suc, ◌+◌, ◌-◌, ◌*◌, List, [], ◌∷◌, ◌++◌, map, Bool, true, false, cond, ◌&&◌, eqb, leb, ltb, length, get_or, take, drop, replicate}
use Rattle.std.proofs.Math.Option.{Option, none, some}
use Rattle.definitions.specs.Limits.{slot_width, quad_width, term_limit, quad_limit, graph_limit, depth_limit, variable_limit, pair_limit, term_table_width, quad_table_width}
use Rattle.definitions.specs.Bytes.{byte, word, part, little_bytes, all_zero, filled, provided, onward}
use Rattle.definitions.specs.Terms.{Term, slot_of, read_term}
use Rattle.definitions.specs.Tree.{Script, success, from_named, block, sequence}
use Rattle.definitions.specs.Scope.{variables}
use Rattle.definitions.specs.Evaluate.{Quad, Bindings}
use Rattle.definitions.specs.Search.{Tuple}
use Rattle.definitions.specs.Machine.{Item, Control, Store, State}
use Rattle.definitions.specs.declared.SavedItem.{SavedItem}
use Rattle.definitions.specs.declared.SavedControl.{SavedControl}
use Rattle.definitions.specs.declared.SavedStore.{SavedStore}
use Rattle.definitions.specs.declared.SavedRun.{SavedRun}

-- ── the term table: a record and zeros in each slot, zeros after the last ──────────────────

unfoldable pub slots : List Term → List ℕ
slots [] = []
slots (t ∷ ts) = slot_of t ++ slots ts

unfoldable pub term_table : List Term → List ℕ
term_table ts = filled term_table_width (slots ts)

-- the term of a slot; none where it is no valid record with zeros after it
unfoldable pub slot_term : List ℕ → Option Term
slot_term slot = onward (read_term slot 0) (λ r. provided (all_zero (drop r.1 slot)) (some r.0))

-- used slots are those before the first that begins with zero; from there on all is zero
unfoldable pub terms_from : (left : ℕ) → List ℕ → (at : ℕ) → Option (List Term)
terms_from zero table at = some []
terms_from (suc left) table at =
    elim (eqb (byte table at) 0) [
      | true ↦ provided (all_zero (drop at table)) (some [])
      | false ↦ onward (slot_term (part table at slot_width)) (λ t. onward (terms_from left table (at + slot_width)) (λ ts. some (t ∷ ts)))
    ]

unfoldable pub terms_in : (table : List ℕ) → Option (List Term)
terms_in table = terms_from term_limit table 0

-- ── the quad table: four 2-byte numbers for each quad, zeros after the last ─────────────────

unfoldable pub quad_bytes : List Quad → List ℕ
quad_bytes [] = []
quad_bytes (q ∷ qs) =
    little_bytes 2 q.graph ++ (little_bytes 2 q.subject ++ (little_bytes 2 q.property ++ (little_bytes 2 q.object ++ quad_bytes qs)))

unfoldable pub quad_table : List Quad → List ℕ
quad_table qs = filled quad_table_width (quad_bytes qs)

abbrev pub quad_at : List ℕ → ℕ → Quad
quad_at table at =
    record { graph = word table at; subject = word table (at + 2); property = word table (at + 4); object = word table (at + 6) }

-- so many quads from an offset on
unfoldable pub quads_from : (count : ℕ) → List ℕ → (at : ℕ) → List Quad
quads_from zero table at = []
quads_from (suc count) table at = quad_at table at ∷ quads_from count table (at + quad_width)

-- the saved run counts the quads; they stand first, zeros after
unfoldable pub quads_in : (count : ℕ) → (table : List ℕ) → Option (List Quad)
quads_in count table = provided (leb count quad_limit && all_zero (drop (quad_width * count) table)) (some (quads_from count table 0))

-- ── stack items ─────────────────────────────────────────────────────────────────────────────

abbrev pub offset_of : Script → ℕ
offset_of (success at) = at
offset_of (from_named at n c) = at
offset_of (block at each bs q c) = at
offset_of (sequence at c d) = at

-- a record of kinds 71 to 74 and its depth, the root's being 1
pub record Place : Type 0 where
  pub depth : ℕ
  pub script : Script

abbrev pub or_else : Option Place → Option Place → Option Place
or_else none b = b
or_else (some p) b = some p

-- the record at an offset, looked for from a depth on
unfoldable pub place_from : (depth : ℕ) → Script → ℕ → Option Place
place_from depth (success at) i = provided (eqb i at) (some (record { depth = depth; script = success at }))
place_from depth (from_named at n c) i =
    elim (eqb i at) [ true ↦ some (record { depth = depth; script = from_named at n c }) | false ↦ place_from (suc depth) c i ]
place_from depth (block at each bs q c) i =
    elim (eqb i at) [ true ↦ some (record { depth = depth; script = block at each bs q c }) | false ↦ place_from (suc depth) c i ]
place_from depth (sequence at c d) i =
    elim (eqb i at) [
      | true ↦ some (record { depth = depth; script = sequence at c d })
      | false ↦ or_else (place_from (suc depth) c i) (place_from (suc depth) d i)
    ]

unfoldable pub place_in : (root : Script) → ℕ → Option Place
place_in root i = place_from 1 root i

-- only an each block has a last tuple, a number for each of its variables
unfoldable pub last_tuple : Script → SavedItem → Option Tuple
last_tuple (success at) i = none
last_tuple (from_named at n c) i = none
last_tuple (block at false bs q c) i = none
last_tuple (block at true bs q c) i = cond i.started (some (take (length bs) i.last)) none
last_tuple (sequence at c d) i = none

-- past the stack's places
abbrev pub no_item : SavedItem
no_item = record { «at» = 0; started = false; last = [] }

-- the lowest items of a stack, its top first; none where an offset is no record's
unfoldable pub stack_from : (root : Script) → (height : ℕ) → List SavedItem → Option (List Item)
stack_from root zero items = some []
stack_from root (suc n) items =
    let i = get_or items n no_item in
    onward (place_in root i.«at») (λ p. onward (stack_from root n items) (λ rest. some (record { script = p.script; last = last_tuple p.script i } ∷ rest)))

-- four numbers, zero where the tuple has none
abbrev pub last_numbers : Option Tuple → List ℕ
last_numbers none = filled pair_limit []
last_numbers (some t) = filled pair_limit t

abbrev pub has_tuple : Option Tuple → Bool
has_tuple none = false
has_tuple (some t) = true

unfoldable pub saved_item : Item → SavedItem
saved_item i = record { «at» = offset_of i.script; started = has_tuple i.last; last = last_numbers i.last }

-- from the bottom
unfoldable pub saved_items : (stack : List Item) → List SavedItem
saved_items [] = []
saved_items (i ∷ rest) = saved_items rest ++ (saved_item i ∷ [])

abbrev pub zero_item : SavedItem
zero_item = record { «at» = 0; started = false; last = filled pair_limit [] }

-- ── bindings ────────────────────────────────────────────────────────────────────────────────

unfoldable pub bindings_in : SavedControl → Bindings
bindings_in saved v = cond (ltb v variable_limit && get_or saved.bound v false) (some (get_or saved.bindings v 0)) none

abbrev pub is_bound : Option ℕ → Bool
is_bound none = false
is_bound (some i) = true

abbrev pub number_or_zero : Option ℕ → ℕ
number_or_zero none = 0
number_or_zero (some i) = i

-- ── control and store ───────────────────────────────────────────────────────────────────────

-- the control that a saved control holds; none where it holds none
unfoldable pub held_control : (root : Script) → SavedControl → Option Control
held_control root saved =
    provided (leb saved.height depth_limit) (onward (stack_from root saved.height saved.items) (λ stack.
    some (record { stack = stack; bindings = bindings_in saved })))

-- the store that tables and saved store hold; none where they hold none
unfoldable pub held_store : (term_table quad_table : List ℕ) → SavedStore → Option Store
held_store tt qt saved =
    onward (terms_in tt) (λ terms.
    onward (quads_in saved.quads qt) (λ quads.
    provided (leb saved.graphs graph_limit) (some (record { terms = terms; quads = quads; fetched = take saved.graphs saved.fetched }))))

-- with the reported types by their codes
unfoldable pub saved_control : (types : List ℕ) → Control → SavedControl
saved_control types c =
    let items = saved_items c.stack in
    record {
      height = length c.stack;
      types = types;
      bound = map (λ v. is_bound (c.bindings v)) variables;
      bindings = map (λ v. number_or_zero (c.bindings v)) variables;
      items = items ++ replicate (depth_limit - length items) zero_item;
    }

unfoldable pub saved_store : Store → SavedStore
saved_store s = record { quads = length s.quads; graphs = length s.fetched; fetched = filled graph_limit s.fetched }

-- ── the whole ───────────────────────────────────────────────────────────────────────────────

-- the state that saved run and tables hold; none where they hold none
unfoldable pub held : (root : Script) → (term_table quad_table : List ℕ) → SavedRun → Option State
held root tt qt saved =
    onward (held_store tt qt saved.store) (λ store.
    onward (held_control root saved.control) (λ control. some (record { control = control; store = store })))

-- the saved run of a state
abbrev pub saved_of : (types : List ℕ) → State → SavedRun
saved_of types s = record { control = saved_control types s.control; store = saved_store s.store }

-- the saved run of a refused load
abbrev pub no_run : SavedRun
no_run =
    record {
      control = record {
        height = 0;
        types = replicate variable_limit 0;
        bound = replicate variable_limit false;
        bindings = replicate variable_limit 0;
        items = replicate depth_limit zero_item;
      };
      store = record { quads = 0; graphs = 0; fetched = replicate graph_limit 0 };
    }
