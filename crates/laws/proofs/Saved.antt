-- The saved run: what it holds of a sound state is that state again (stack, last tuples, bindings, fetched graphs).
use Prim.Native.Nat.{ℕ, zero, suc, ◌+◌, ◌-◌, ◌*◌, ◌≤◌, ◌<◌}
use mathlib.Core.Bool.{Bool, true, false, cond, ◌&&◌}
use mathlib.Core.List.{List, [], ◌∷◌, ◌++◌, append_assoc}
use mathlib.Core.Option.{Option, none, some}
use mathlib.Core.Path.{◌≡◌, refl, ap, sym, subst, fun_ext, ◌∙◌}
use mathlib.Core.Logic.{⊎_elim}
use native.Mathlib.Omega.{arith}
use lib.Dec.{T, eqb, leb, ltb, leb→le, le→leb, eqb→eq}
use lib.ListN.{length, get_or, take, drop, replicate, length-append, length-replicate}
use lib.Seq.{take_at, get_or_at}
use borrow.Author.Tests.{lt-ltb, le-ltb, ltb-true}
use Rattle.definitions.specs.Limits.{term_limit, quad_limit, graph_limit, depth_limit, variable_limit, pair_limit, quad_width}
use Rattle.definitions.specs.Lists.{every}
use Rattle.definitions.specs.Bytes.{all_zero, filled, provided, onward}
use Rattle.definitions.specs.Terms.{Term}
use Rattle.definitions.specs.Tree.{Script, success, from_named, block, sequence}
use Rattle.definitions.specs.Evaluate.{Quad, Bindings}
use Rattle.definitions.specs.Search.{Tuple}
use Rattle.definitions.specs.Machine.{Item, Control, Store, State, in_limits}
use Rattle.definitions.specs.Saved.{term_table, quad_table, terms_in, quads_in, Place, offset_of, place_in, last_tuple, no_item, stack_from}
use Rattle.definitions.specs.Saved.{saved_item, saved_items, zero_item, last_numbers, bindings_in, is_bound, number_or_zero, quads_from}
use Rattle.definitions.specs.Saved.{held_control, held_store, held, saved_control, saved_store, saved_of}
use Rattle.definitions.specs.Sound.{last_sound, state_sound}
use Rattle.definitions.specs.Calls.{Checked}
use Rattle.definitions.specs.declared.SavedItem.{SavedItem}
use Rattle.definitions.specs.declared.SavedControl.{SavedControl}
use Rattle.definitions.specs.declared.SavedStore.{SavedStore}
use Rattle.definitions.specs.declared.SavedRun.{SavedRun}
use Rattle.laws.proofs.Tests.{and_left, and_right, is_true}
use Rattle.laws.proofs.Ranges.{split}
use Rattle.laws.proofs.Options.{some_is, some-not-none, onward-inv, provided-inv}
use Rattle.laws.proofs.Variables.{at-variable}
use Rattle.laws.specs.Lists.{All}
use Rattle.laws.proofs.All.{all_append, all-weaken}
use Rattle.laws.proofs.Bindings.{is_below}
use Rattle.laws.proofs.Places.{found, inherits, depth-fits}
use Rattle.laws.specs.Sound.{height, Accepted, Sound, Own}
use Rattle.laws.proofs.SoundMeans.{Facts, facts, StackFacts}
use Rattle.laws.specs.Quads.{QuadFacts}
use Rattle.laws.specs.Valid.{ValidIn}
use Rattle.laws.proofs.Bytes.{filled-length}
use Rattle.laws.proofs.ReadBounds.{PairsFit}
use Rattle.laws.proofs.Tables.{terms-of, quads-of}
use Rattle.laws.specs.Quads.{place_limit, Small}
use Rattle.definitions.specs.Limits.{item_width}
use Rattle.definitions.specs.Exports.{items_from}

-- ── lists with something after them ─────────────────────────────────────────────────────────

take-filled : (n width : ℕ) (t : List ℕ) → length t ≡ n → take n (filled width t) ≡ t
unfolding filled
take-filled n width t e = take_at t (replicate (width - length t) 0) n e

-- ── last tuples ─────────────────────────────────────────────────────────────────────────────

-- an item's last tuple stands in its saved item
pub last-again : (terms : ℕ) (c : Script) (last : Option Tuple) → T (last_sound terms c last)
    → last_tuple c (saved_item (record { script = c; last = last })) ≡ last
unfolding last_sound last_tuple saved_item
last-again terms (success at) none h = refl
last-again terms (from_named at n c) none h = refl
last-again terms (block at false bs q c) none h = refl
last-again terms (block at true bs q c) none h = refl
last-again terms (sequence at c d) none h = refl
last-again terms (success at) (some t) h = absurd h
last-again terms (from_named at n c) (some t) h = absurd h
last-again terms (block at false bs q c) (some t) h = absurd h
last-again terms (block at true bs q c) (some t) h =
    let e = eqb→eq (length t) (length bs) (and_left (eqb (length t) (length bs)) (every (λ i. ltb i terms) t) h) in
    ap some (take-filled (length bs) pair_limit t e)
last-again terms (sequence at c d) (some t) h = absurd h

-- ── the stack ───────────────────────────────────────────────────────────────────────────────

pub items-length : (stack : List Item) → length (saved_items stack) ≡ length stack
unfolding saved_items
items-length [] = refl
items-length (i ∷ rest) = omega (arith, length-append (saved_items rest) (saved_item i ∷ []), items-length rest)

-- one more item: its offset finds its script again
one-item : (root : Script) (n : ℕ) (items : List SavedItem) (i : Item) (rest : List Item) (depth terms : ℕ)
    → get_or items n no_item ≡ saved_item i → place_in root (offset_of i.script) ≡ some (record { depth = depth; script = i.script })
    → T (last_sound terms i.script i.last) → stack_from root n items ≡ some rest → stack_from root (suc n) items ≡ some (i ∷ rest)
unfolding stack_from onward saved_item
one-item root n items i rest depth terms e p l r =
    rw (e, p, r) (ap (λ (last : Option Tuple). some (record { script = i.script; last = last } ∷ rest)) (last-again terms i.script i.last l))

-- the items of a stack, from the bottom, whatever stands after them
pub stack-again : (root : Script) (terms : ℕ) (β : Bindings) (stack : List Item) (after : List SavedItem) → StackFacts root terms β stack → Own root stack
    → stack_from root (length stack) (saved_items stack ++ after) ≡ some stack
unfolding saved_items
stack-again root terms β [] after f o = unfold stack_from in refl
stack-again root terms β (i ∷ rest) after f o =
    let items = saved_items rest ++ (saved_item i ∷ after) in
    let here : get_or items (length rest) no_item ≡ saved_item i = get_or_at (saved_items rest) (saved_item i) after no_item (length rest) (items-length rest) in
    rw (append_assoc (saved_items rest) (saved_item i ∷ []) after)
    (one-item root (length rest) items i rest o.0.0 terms here o.0.1 f.0.last (stack-again root terms β rest (saved_item i ∷ after) f.1 o.1))

-- the n-th item from the bottom is at depth n or more, so the stack is no higher than the script is deep
pub stack-height : (root : Script) (terms : ℕ) (β : Bindings) (stack : List Item) → StackFacts root terms β stack → length stack ≤ height root
stack-height root terms β [] f = omega arith
stack-height root terms β (i ∷ rest) f = omega (arith, f.0.deep, depth-fits f.0.in_root)

-- ── bindings ────────────────────────────────────────────────────────────────────────────────

bound-again : (o : Option ℕ) → cond (is_bound o) (some (number_or_zero o)) none ≡ o
bound-again none = refl
bound-again (some i) = refl

-- only the 16 variables are bound
pub bindings-few : (saved : SavedControl) (v i : ℕ) → bindings_in saved v ≡ some i → v < variable_limit
unfolding bindings_in
bindings-few saved v i e = go (ltb v variable_limit) refl e
  where
    go : (b : Bool) → ltb v variable_limit ≡ b → cond (b && get_or saved.bound v false) (some (get_or saved.bindings v 0)) none ≡ some i → v < variable_limit
    go true t e = ltb-true v variable_limit t
    go false t e = absurd (some-not-none e refl)

pub bindings-again : (types : List ℕ) (c : Control) → ((v i : ℕ) → c.bindings v ≡ some i → v < variable_limit)
    → bindings_in (saved_control types c) ≡ c.bindings
unfolding bindings_in saved_control
bindings-again types c few = fun_ext (λ v. ⊎_elim (outside v) (within v) (split variable_limit v))
  where
    β : Bindings
    β = c.bindings

    within : (v : ℕ) → v < variable_limit → bindings_in (saved_control types c) v ≡ β v
    within v l =
        rw (lt-ltb v variable_limit l, at-variable (λ v. is_bound (β v)) false v l, at-variable (λ v. number_or_zero (β v)) 0 v l) (bound-again (β v))

    nothing : (v : ℕ) → variable_limit ≤ v → (o : Option ℕ) → β v ≡ o → none ≡ o
    nothing v h none e = refl
    nothing v h (some i) e = absurd (omega (arith, few v i e))

    outside : (v : ℕ) → variable_limit ≤ v → bindings_in (saved_control types c) v ≡ β v
    outside v h = rw (le-ltb v variable_limit h) (nothing v h (β v) refl)

-- ── what is held, part by part ──────────────────────────────────────────────────────────────

pub record HoldsControl (root : Script) (saved : SavedControl) (c : Control) : Type 0 where
  pub height : T (leb saved.height depth_limit)
  pub stack : stack_from root saved.height saved.items ≡ some c.stack
  pub bindings : bindings_in saved ≡ c.bindings

module _ (root : Script) (saved : SavedControl) (c : Control) where
  control-of : HoldsControl root saved c → held_control root saved ≡ some c
  unfolding held_control onward provided
  control-of h =
      rw (is_true (leb saved.height depth_limit) h.height, h.stack) (λ i. some (record { stack = c.stack; bindings = h.bindings i }))

  control-inv : held_control root saved ≡ some c → HoldsControl root saved c
  unfolding held_control
  control-inv e =
      let made : List Item → Control = λ stack. record { stack = stack; bindings = bindings_in saved } in
      let stacked = stack_from root saved.height saved.items in
      let p = provided-inv (leb saved.height depth_limit) (onward stacked (λ stack. some (made stack))) e in
      let x = onward-inv stacked (λ stack. some (made stack)) p.1 in
      subst (HoldsControl root saved) {x = made x.0} (some_is {a = made x.0} x.2) (record { height = p.0; stack = x.1; bindings = refl })

pub record HoldsStore (term_bytes quad_bytes : List ℕ) (saved : SavedStore) (s : Store) : Type 0 where
  pub terms : terms_in term_bytes ≡ some s.terms
  pub quads : quads_in saved.quads quad_bytes ≡ some s.quads
  pub graphs : T (leb saved.graphs graph_limit)
  pub fetched : take saved.graphs saved.fetched ≡ s.fetched

module _ (term_bytes quad_bytes : List ℕ) (saved : SavedStore) (s : Store) where
  store_of : HoldsStore term_bytes quad_bytes saved s → held_store term_bytes quad_bytes saved ≡ some s
  unfolding held_store onward provided
  store_of h =
      rw (h.terms, h.quads, is_true (leb saved.graphs graph_limit) h.graphs)
      (λ i. some (record { terms = s.terms; quads = s.quads; fetched = h.fetched i }))

  pub store-inv : held_store term_bytes quad_bytes saved ≡ some s → HoldsStore term_bytes quad_bytes saved s
  unfolding held_store
  store-inv e =
      let fits = leb saved.graphs graph_limit in
      let made : List Term → List Quad → Store = λ terms quads. record { terms = terms; quads = quads; fetched = take saved.graphs saved.fetched } in
      let counted : List Term → Option Store = λ terms. onward (quads_in saved.quads quad_bytes) (λ quads. provided fits (some (made terms quads))) in
      let x = onward-inv (terms_in term_bytes) counted e in
      let y = onward-inv (quads_in saved.quads quad_bytes) (λ quads. provided fits (some (made x.0 quads))) x.2 in
      let held = made x.0 y.0 in
      let p = provided-inv fits (some held) y.2 in
      subst (HoldsStore term_bytes quad_bytes saved) {x = held} (some_is {a = held} p.1)
      (record { terms = x.1; quads = y.1; graphs = p.0; fetched = refl })

-- as many quads as are counted
pub quads-from-count : (n : ℕ) (table : List ℕ) (at : ℕ) → length (quads_from n table at) ≡ n
unfolding quads_from
quads-from-count zero table at = refl
quads-from-count (suc n) table at = ap suc (quads-from-count n table (at + quad_width))

pub quads-in-are : (n : ℕ) (table : List ℕ) (qs : List Quad) → quads_in n table ≡ some qs → quads_from n table 0 ≡ qs
unfolding quads_in
quads-in-are n table qs e = some_is (provided-inv (leb n quad_limit && all_zero (drop (quad_width * n) table)) (some (quads_from n table 0)) e).1

pub quads-in-count : (n : ℕ) (table : List ℕ) (qs : List Quad) → quads_in n table ≡ some qs → length qs ≡ n
quads-in-count n table qs e = ap length (sym (quads-in-are n table qs e)) ∙ quads-from-count n table 0

pub record Holding (root : Script) (term_bytes quad_bytes : List ℕ) (saved : SavedRun) (s : State) : Type 0 where
  pub control : HoldsControl root saved.control s.control
  pub store : HoldsStore term_bytes quad_bytes saved.store s.store

module _ (root : Script) (term_bytes quad_bytes : List ℕ) (saved : SavedRun) (s : State) where
  pub held_of : Holding root term_bytes quad_bytes saved s → held root term_bytes quad_bytes saved ≡ some s
  unfolding held onward
  held_of h =
      rw (store_of term_bytes quad_bytes saved.store s.store h.store, control-of root saved.control s.control h.control) refl

  pub held-inv : held root term_bytes quad_bytes saved ≡ some s → Holding root term_bytes quad_bytes saved s
  unfolding held
  held-inv e =
      let made : Store → Control → State = λ store control. record { control = control; store = store } in
      let x = onward-inv (held_store term_bytes quad_bytes saved.store) (λ store. onward (held_control root saved.control) (λ control. some (made store control))) e in
      let y = onward-inv (held_control root saved.control) (λ control. some (made x.0 control)) x.2 in
      let held = made x.0 y.0 in
      subst (Holding root term_bytes quad_bytes saved) {x = held} (some_is {a = held} y.2)
      (record { control = control-inv root saved.control y.0 y.1; store = store-inv term_bytes quad_bytes saved.store x.0 x.1 })

-- an item that is held is the record of the script at its offset
stack-own : (root : Script) (n : ℕ) (items : List SavedItem) (stack : List Item) → stack_from root n items ≡ some stack → Own root stack
unfolding stack_from
stack-own root zero items stack e = subst (Own root) (some_is e) tt
stack-own root (suc n) items stack e =
    let i = get_or items n no_item in
    let item : Place → Item = λ p. record { script = p.script; last = last_tuple p.script i } in
    let p = onward-inv (place_in root i.«at») (λ p. onward (stack_from root n items) (λ rest. some (item p ∷ rest))) e in
    let r = onward-inv (stack_from root n items) (λ rest. some (item p.0 ∷ rest)) p.2 in
    let f = found root i.«at» p.0 p.1 in
    let here : place_in root (offset_of p.0.script) ≡ some p.0 = ap (place_in root) f.offset ∙ p.1 in
    subst (Own root) (some_is r.2) ((p.0.depth, here), stack-own root n items r.0 r.1)

-- a state that is held and passes refusal 10's test is sound
pub held-sound : (c : Checked) (term_bytes quad_bytes : List ℕ) (saved : SavedRun) (s : State) → held c.root term_bytes quad_bytes saved ≡ some s
    → T (state_sound c.schema c.types c.terms c.root s) → Sound c s
held-sound c term_bytes quad_bytes saved s e t =
    let h = (held-inv c.root term_bytes quad_bytes saved s e).control in
    record {
      test = t;
      few = λ v i b. bindings-few saved.control v i (ap (λ (β : Bindings). β v) h.bindings ∙ b);
      own = stack-own c.root saved.control.height saved.control.items s.control.stack h.stack;
    }

-- ── the whole, written and read ─────────────────────────────────────────────────────────────

-- a sound state's numbers fit two bytes, and its counts their limits
module _ (c : Checked) (accepted : Accepted c) (s : State) (sound : Sound c s) where
  pub all-facts : Facts c s
  all-facts = facts c accepted s sound

  limits : (T (leb (length s.store.terms) term_limit) × T (leb (length s.store.quads) quad_limit)) × T (leb (length s.store.fetched) graph_limit)
  unfolding in_limits
  limits =
      let terms = leb (length s.store.terms) term_limit in
      let quads = leb (length s.store.quads) quad_limit in
      let graphs = leb (length s.store.fetched) graph_limit in
      let rest = and_right terms (quads && graphs) all-facts.limits in
      ((and_left terms (quads && graphs) all-facts.limits, and_left quads graphs rest), and_right quads graphs rest)

  pub terms-few : length s.store.terms ≤ term_limit
  terms-few = leb→le (length s.store.terms) term_limit limits.0.0

  pub quads-few : length s.store.quads ≤ quad_limit
  quads-few = leb→le (length s.store.quads) quad_limit limits.0.1

  pub graphs-few : length s.store.fetched ≤ graph_limit
  graphs-few = leb→le (length s.store.fetched) graph_limit limits.1

  pub stack-low : length s.control.stack ≤ depth_limit
  stack-low =
      let h = stack-height c.root (length s.store.terms) s.control.bindings s.control.stack all-facts.stack in
      omega (arith, accepted.shallow)

  -- a number that names a term
  number_small : (i : ℕ) → i < length s.store.terms → i < place_limit
  number_small i h = omega (arith, terms-few)

  pub quads-small : All Small s.store.quads
  quads-small =
      let terms = s.store.terms in
      all-weaken (QuadFacts c.schema terms s.store.fetched) Small (λ q f.
      record {
        graph = number_small q.graph (is_below terms q.graph f.graph.term f.graph.there);
        subject = number_small q.subject (is_below terms q.subject f.subject.term f.subject.there);
        property = number_small q.property (is_below terms q.property (Term.uri f.property) f.is_property);
        object = number_small q.object (is_below terms q.object f.object.term f.object.there);
      }) s.store.quads all-facts.quads

  -- the saved control of a sound state holds its control
  pub control-again : (types : List ℕ) → HoldsControl c.root (saved_control types s.control) s.control
  unfolding saved_control
  control-again types =
      let stack = s.control.stack in
      let after = replicate (depth_limit - length (saved_items stack)) zero_item in
      record {
        height = le→leb (length stack) depth_limit stack-low;
        stack = stack-again c.root (length s.store.terms) s.control.bindings stack after all-facts.stack sound.own;
        bindings = bindings-again types s.control sound.few;
      }

  -- and whatever tables hold its terms and quads, they hold its store with its saved store
  pub store-again : (term_bytes quad_bytes : List ℕ) → terms_in term_bytes ≡ some s.store.terms
      → quads_in (length s.store.quads) quad_bytes ≡ some s.store.quads → HoldsStore term_bytes quad_bytes (saved_store s.store) s.store
  unfolding saved_store
  store-again term_bytes quad_bytes terms quads =
      let fetched = s.store.fetched in
      record { terms = terms; quads = quads; graphs = limits.1; fetched = take-filled (length fetched) graph_limit fetched refl }

  -- tables and saved run of a sound state hold it
  pub held-again : ValidIn s → (types : List ℕ) → held c.root (term_table s.store.terms) (quad_table s.store.quads) (saved_of types s) ≡ some s
  held-again valid types =
      let σ = s.store in
      held_of c.root (term_table σ.terms) (quad_table σ.quads) (saved_of types s) s
      (record {
        control = control-again types;
        store = store-again (term_table σ.terms) (quad_table σ.quads) (terms-of σ.terms valid terms-few) (quads-of σ.quads quads-small quads-few);
      })

-- ── the places of the saved run ─────────────────────────────────────────────────────────────

-- 16 types, 16 variables, 64 graphs and 24 items with four numbers each
pub record Shaped (saved : SavedRun) : Type 0 where
  pub types : length saved.control.types ≡ variable_limit
  pub bound : length saved.control.bound ≡ variable_limit
  pub bindings : length saved.control.bindings ≡ variable_limit
  pub fetched : length saved.store.fetched ≡ graph_limit
  pub items : length saved.control.items ≡ depth_limit
  pub lasts : All (λ i. length i.last ≡ pair_limit) saved.control.items

last-shaped : (terms : ℕ) (c : Script) (last : Option Tuple) → PairsFit c → T (last_sound terms c last) → length (last_numbers last) ≡ pair_limit
unfolding last_sound
last-shaped terms c none p h = filled-length pair_limit [] (omega arith)
last-shaped terms (success at) (some t) p h = absurd h
last-shaped terms (from_named at n c) (some t) p h = absurd h
last-shaped terms (block at false bs q c) (some t) p h = absurd h
last-shaped terms (block at true bs q c) (some t) p h =
    let e = eqb→eq (length t) (length bs) (and_left (eqb (length t) (length bs)) (every (λ i. ltb i terms) t) h) in
    filled-length pair_limit t (omega (arith, p.0))
last-shaped terms (sequence at c d) (some t) p h = absurd h

items-shaped : (root : Script) (terms : ℕ) (β : Bindings) (stack : List Item) → PairsFit root → StackFacts root terms β stack
    → All (λ i. length i.last ≡ pair_limit) (saved_items stack)
unfolding saved_items saved_item
items-shaped root terms β [] p f = tt
items-shaped root terms β (i ∷ rest) p f =
    let pairs = inherits PairsFit (λ at n c k. k) (λ at each bs q c k. k.1) (λ at c d k. k.0) (λ at c d k. k.1) f.0.in_root p in
    all_append (λ i. length i.last ≡ pair_limit) (saved_items rest) (saved_item i ∷ []) (items-shaped root terms β rest p f.1)
    (last-shaped terms i.script i.last pairs f.0.last, tt)

zero-items : (n : ℕ) → All (λ i. length i.last ≡ pair_limit) (replicate n zero_item)
zero-items zero = tt
zero-items (suc n) = (filled-length pair_limit [] (omega arith), zero-items n)

pub saved-shaped : (c : Checked) → Accepted c → PairsFit c.root → (s : State) → Sound c s → (types : List ℕ)
    → length types ≡ variable_limit → Shaped (saved_of types s)
unfolding saved_control saved_store
saved-shaped c accepted pairs s sound types n =
    let stack = s.control.stack in
    let after = depth_limit - length (saved_items stack) in
    let f = (all-facts c accepted s sound).stack in
    let places = length-append (saved_items stack) (replicate after zero_item) in
    let zeroes = length-replicate {A = SavedItem} after zero_item in
    record {
      types = n;
      bound = refl;
      bindings = refl;
      fetched = filled-length graph_limit s.store.fetched (graphs-few c accepted s sound);
      items = omega (arith, places, zeroes, items-length stack, stack-low c accepted s sound);
      lasts = all_append (λ i. length i.last ≡ pair_limit) (saved_items stack) (replicate after zero_item)
          (items-shaped c.root (length s.store.terms) s.control.bindings stack pairs f) (zero-items after);
    }

-- ── as bytes ────────────────────────────────────────────────────────────────────────────────

-- no item is in use
pub items-none : (b : List ℕ) (left at : ℕ) → items_from left 0 b at ≡ replicate left zero_item
unfolding items_from
items-none b zero at = refl
items-none b (suc left) at = ap (λ (l : List SavedItem). zero_item ∷ l) (items-none b left (at + item_width))
