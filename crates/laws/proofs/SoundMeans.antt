-- A sound state taken apart into facts, and put together again. No other file opens the test of refusal 10.
use Prim.Native.Nat.{ℕ, zero, suc, ◌≤◌, ◌<◌}
use native.Mathlib.Omega.{arith}
use mathlib.Core.Path.{◌≡◌, refl, ◌∙◌}
use mathlib.Core.Logic.{◌⊎◌, inl, inr}
use mathlib.Core.List.{List, [], ◌∷◌}
use mathlib.Core.Bool.{Bool, true, false, not, ◌&&◌, ◌||◌}
use mathlib.Core.Option.{Option, none, some, none-ne-some, some-injective}
use lib.Dec.{T, eqb, eqb_refl, leb, leb→le, le→leb, ltb, ltb→lt, lt→ltb, T_not}
use lib.ListN.{length, get_elem?, length-map}
use Rattle.definitions.specs.Limits.{variable_limit, script_limit}
use Rattle.definitions.specs.Lists.{every, distinct, is_in}
use Rattle.definitions.specs.Types.{Datatype, Ty, plain}
use Rattle.definitions.specs.Terms.{Term, Text, Schema, datatype_in, same_term}
use Rattle.definitions.specs.Tree.{Binder, Query, Script, success, from_named, block, sequence}
use Rattle.definitions.specs.Scope.{variables, variables_of, is_free, binders_of}
use Rattle.definitions.specs.Typing.{type_at}
use Rattle.definitions.specs.Evaluate.{Bindings, Quad}
use Rattle.definitions.specs.Search.{Typing, Tuple}
use Rattle.definitions.specs.Machine.{Item, State, object_fits, in_limits, in_order}
use Rattle.definitions.specs.Saved.{Place, place_in, offset_of, is_bound}
use Rattle.definitions.specs.Sound.{begins_with, is_uri_number, number_has, pair_fits, quad_sound, deep_enough, free_bound, last_sound, item_sound, stack_sound, binding_sound}
use Rattle.definitions.specs.Sound.{store_sound, control_sound, state_sound}
use Rattle.definitions.specs.Calls.{Checked}
use Rattle.laws.proofs.Tests.{and_left, and_right, and_make, or_cases, or_left, or_right, decide}
use Rattle.laws.specs.Lists.{All}
use Rattle.laws.proofs.All.{conj-all, all-conj, all-of-every, every-of-all, every_any}
use Rattle.laws.proofs.Equality.{same-term, term-refl}
use Rattle.laws.specs.Bindings.{Extends, Holds, HoldsURI, Bound, BoundIn, Fits}
use Rattle.laws.proofs.Bindings.{test-holds, holds_test, is_below, test-bound, bound-test}
use Rattle.laws.proofs.Places.{At, place_found, found, bounded_at}
use Rattle.laws.proofs.Variables.{every-variable}
use Rattle.laws.proofs.Check.{free-bounded}
use Rattle.laws.specs.Sound.{ScriptBounded, Placed, Accepted, Sound, Own}
use Rattle.laws.specs.Quads.{QuadFacts}

-- ── terms that go on ────────────────────────────────────────────────────────────────────────

begins-extends : (loaded terms : List Term) → T (begins_with loaded terms) → Extends loaded terms
unfolding begins_with
begins-extends [] terms h i t e = absurd (none-ne-some t e)
begins-extends (k ∷ loaded) [] h i t e = absurd h
begins-extends (k ∷ loaded) (x ∷ terms) h zero t e = rw (← (same-term k x (and_left (same_term k x) (begins_with loaded terms) h))) e
begins-extends (k ∷ loaded) (x ∷ terms) h (suc i) t e = begins-extends loaded terms (and_right (same_term k x) (begins_with loaded terms) h) i t e

extends-begins : (loaded terms : List Term) → Extends loaded terms → T (begins_with loaded terms)
unfolding begins_with
extends-begins [] terms h = tt
extends-begins (k ∷ loaded) [] h = absurd (none-ne-some k (h 0 k refl))
extends-begins (k ∷ loaded) (x ∷ terms) h =
    and_make (same_term k x) (begins_with loaded terms) (rw (some-injective x k (h 0 k refl)) (term-refl k))
    (extends-begins loaded terms (λ i t e. h (suc i) t e))

abbrev any : Ty
any = plain Datatype.any_uri

-- ── quads ───────────────────────────────────────────────────────────────────────────────────

module _ (S : Schema) (terms : List Term) (fetched : List ℕ) where
  pair-facts : (q : Quad) → T (is_in q.graph fetched) → HoldsURI S terms q.graph → HoldsURI S terms q.subject
      → T (pair_fits S (get_elem? terms q.property) (get_elem? terms q.object)) → QuadFacts S terms fetched q
  pair-facts q f g s h = go (get_elem? terms q.property) refl (get_elem? terms q.object) refl h
    where
      known : (p : Text) → get_elem? terms q.property ≡ some (Term.uri p) → (o : Term) → get_elem? terms q.object ≡ some o
          → (d : Option Datatype) → datatype_in S p ≡ d → T (object_fits S d o) → QuadFacts S terms fetched q
      known p ep o eo none ed k = absurd k
      known p ep o eo (some d) ed k =
          record {
            is_fetched = f;
            graph = g;
            subject = s;
            property = p;
            is_property = ep;
            datatype = d;
            in_schema = ed;
            object = record { term = o; there = eo; typed = k };
          }

      go : (p : Option Term) → get_elem? terms q.property ≡ p → (o : Option Term) → get_elem? terms q.object ≡ o → T (pair_fits S p o)
          → QuadFacts S terms fetched q
      go (some (Term.uri p)) ep (some o) eo k = known p ep o eo (datatype_in S p) refl k
      go (some (Term.uri p)) ep none eo k = absurd k
      go (some (Term.string g t)) ep o eo k = absurd k
      go (some (Term.integer n)) ep o eo k = absurd k
      go (some (Term.decimal n)) ep o eo k = absurd k
      go (some (Term.date_time n)) ep o eo k = absurd k
      go none ep o eo k = absurd k

  abbrev quad_tests : Quad → List Bool
  quad_tests q =
      is_in q.graph fetched
      ∷ is_uri_number S terms q.graph
      ∷ is_uri_number S terms q.subject
      ∷ pair_fits S (get_elem? terms q.property) (get_elem? terms q.object)
      ∷ []

  quad-facts : (q : Quad) → T (quad_sound S terms fetched q) → QuadFacts S terms fetched q
  unfolding quad_sound
  quad-facts q h =
      let (in_fetched, (graph, (subject, (pair, u)))) = conj-all (quad_tests q) h in
      pair-facts q in_fetched (test-holds S terms any q.graph graph) (test-holds S terms any q.subject subject) pair

  quad-test : (q : Quad) → QuadFacts S terms fetched q → T (quad_sound S terms fetched q)
  unfolding quad_sound
  quad-test q h =
      let o = h.object in
      let pair : T (pair_fits S (get_elem? terms q.property) (get_elem? terms q.object)) = rw (h.is_property, o.there, h.in_schema) o.typed in
      let graph = holds_test S terms any q.graph h.graph in
      let subject = holds_test S terms any q.subject h.subject in
      all-conj (quad_tests q) (h.is_fetched, (graph, (subject, (pair, tt))))

-- ── stack items ─────────────────────────────────────────────────────────────────────────────

free-facts : (β : Bindings) (terms : ℕ) (c : Script) → ScriptBounded terms c → T (free_bound β c) → BoundIn β (λ v. is_free v c)
unfolding free_bound
free-facts β terms c b h v m =
    go (or_cases (not (is_free v c)) (is_bound (β v)) (every-variable (λ v. not (is_free v c) || is_bound (β v)) h v (free-bounded terms v c b m)))
  where
    go : T (not (is_free v c)) ⊎ T (is_bound (β v)) → Bound β v
    go (inl n) = absurd (T_not (is_free v c) n m)
    go (inr k) = test-bound β v k

free-test : (β : Bindings) (c : Script) → BoundIn β (λ v. is_free v c) → T (free_bound β c)
unfolding free_bound
free-test β c b = every_any (λ v. not (is_free v c) || is_bound (β v)) (λ v. go v (decide (is_free v c))) variables
  where
    go : (v : ℕ) → T (is_free v c) ⊎ T (not (is_free v c)) → T (not (is_free v c) || is_bound (β v))
    go v (inl m) = or_right (not (is_free v c)) (is_bound (β v)) (bound-test β v (b v m))
    go v (inr n) = or_left (not (is_free v c)) (is_bound (β v)) n

-- a last tuple is an each block's, and names terms of the table
pub no_last : (terms : ℕ) (c : Script) → T (last_sound terms c none)
unfolding last_sound
no_last terms c = tt

fits-length : (S : Schema) (Γ : Typing) (terms : List Term) (vs : List ℕ) (t : Tuple) → Fits S Γ terms vs t → length t ≡ length vs
fits-length S Γ terms [] [] h = refl
fits-length S Γ terms [] (i ∷ t) h = absurd h
fits-length S Γ terms (v ∷ vs) [] h = absurd h
fits-length S Γ terms (v ∷ vs) (i ∷ t) h = rw (fits-length S Γ terms vs t h.1)

fits_below : (S : Schema) (Γ : Typing) (terms : List Term) (vs : List ℕ) (t : Tuple) → Fits S Γ terms vs t → T (every (λ i. ltb i (length terms)) t)
fits_below S Γ terms [] [] h = tt
fits_below S Γ terms [] (i ∷ t) h = absurd h
fits_below S Γ terms (v ∷ vs) [] h = absurd h
fits_below S Γ terms (v ∷ vs) (i ∷ t) h =
    and_make (ltb i (length terms)) (every (λ i. ltb i (length terms)) t)
    (lt→ltb i (length terms) (is_below terms i h.0.term h.0.there)) (fits_below S Γ terms vs t h.1)

pub last-answer : (S : Schema) (Γ : Typing) (terms : List Term) (at : ℕ) (bs : List Binder) (q : Query) (c : Script) (t : Tuple)
    → Fits S Γ terms (variables_of bs) t → T (last_sound (length terms) (block at true bs q c) (some t))
unfolding last_sound
last-answer S Γ terms at bs q c t h =
    let same : length t ≡ length bs = fits-length S Γ terms (variables_of bs) t h ∙ length-map bs (λ b. b.variable) in
    and_make (eqb (length t) (length bs)) (every (λ i. ltb i (length terms)) t)
    (rw same (eqb_refl (length bs))) (fits_below S Γ terms (variables_of bs) t h)

pub last_more : (n m : ℕ) → n ≤ m → (c : Script) (l : Option Tuple) → T (last_sound n c l) → T (last_sound m c l)
unfolding last_sound
last_more n m le c none h = tt
last_more n m le (success at) (some t) h = h
last_more n m le (from_named at x c) (some t) h = h
last_more n m le (block at false bs q c) (some t) h = h
last_more n m le (block at true bs q c) (some t) h =
    let sized = eqb (length t) (length bs) in
    and_make sized (every (λ i. ltb i m) t) (and_left sized (every (λ i. ltb i n) t) h)
    (every-of-all (λ i. ltb i m) (λ i. i < n) (λ i k. lt→ltb i m (omega arith)) t
    (all-of-every (λ i. ltb i n) (λ i. i < n) (λ i k. ltb→lt i n k) t (and_right sized (every (λ i. ltb i n) t) h)))
last_more n m le (sequence at c d) (some t) h = h

-- a record of the script, at its place's depth or deeper, with its free variables bound
pub record ItemFacts (root : Script) (terms : ℕ) (β : Bindings) (place : ℕ) (i : Item) : Type 0 where
  pub depth : ℕ
  pub in_root : At root depth i.script
  pub deep : place ≤ depth
  pub bound : BoundIn β (λ v. is_free v i.script)
  pub last : T (last_sound terms i.script i.last)

-- places are counted from the bottom, from 1
abbrev pub StackFacts : (root : Script) → (terms : ℕ) → Bindings → List Item → Type 0
StackFacts root terms β [] = Unit {0}
StackFacts root terms β (i ∷ rest) = ItemFacts root terms β (suc (length rest)) i × StackFacts root terms β rest

abbrev item_tests : (root : Script) → (terms : ℕ) → Bindings → (place : ℕ) → Item → List Bool
item_tests root terms β place i =
    deep_enough place (place_in root (offset_of i.script)) ∷ free_bound β i.script ∷ last_sound terms i.script i.last ∷ []

module _ (root : Script) (loaded terms : ℕ) (β : Bindings) where
  item-facts : ScriptBounded loaded root → (place : ℕ) (i : Item) (depth : ℕ)
      → place_in root (offset_of i.script) ≡ some (record { depth = depth; script = i.script })
      → T (item_sound root terms β place i) → ItemFacts root terms β place i
  unfolding item_sound
  item-facts b place i depth e h =
      let p : Place = record { depth = depth; script = i.script } in
      let in_root = (found root (offset_of i.script) p e).in_root in
      let (deep, (free, (last, u))) = conj-all (item_tests root terms β place i) h in
      let far : T (leb place depth) = rw e at deep in
      record {
        depth = depth;
        in_root = in_root;
        deep = leb→le place depth far;
        bound = free-facts β loaded i.script (bounded_at in_root loaded b) free;
        last = last;
      }

  stack-facts : ScriptBounded loaded root → (stack : List Item) → Own root stack → T (stack_sound root terms β stack) → StackFacts root terms β stack
  unfolding stack_sound
  stack-facts b [] o h = tt
  stack-facts b (i ∷ rest) o h =
      let sound = item_sound root terms β (suc (length rest)) i in (
        item-facts b (suc (length rest)) i o.0.0 o.0.1 (and_left sound (stack_sound root terms β rest) h),
        stack-facts b rest o.1 (and_right sound (stack_sound root terms β rest) h),
      )

module _ (root : Script) (lo hi : ℕ) (placed : Placed lo hi root) (terms : ℕ) (β : Bindings) where
  item-test : (place : ℕ) (i : Item) → ItemFacts root terms β place i → T (item_sound root terms β place i)
  unfolding item_sound
  item-test place i h =
      let deep : T (deep_enough place (place_in root (offset_of i.script))) =
      rw (place_found lo hi placed h.in_root) (le→leb place h.depth h.deep) in
      all-conj (item_tests root terms β place i) (deep, (free-test β i.script h.bound, (h.last, tt)))

  stack-test : (stack : List Item) → StackFacts root terms β stack → T (stack_sound root terms β stack)
  unfolding stack_sound
  stack-test [] h = tt
  stack-test (i ∷ rest) h =
      and_make (item_sound root terms β (suc (length rest)) i) (stack_sound root terms β rest) (item-test (suc (length rest)) i h.0) (stack-test rest h.1)

  stack-own : (stack : List Item) → StackFacts root terms β stack → Own root stack
  stack-own [] h = tt
  stack-own (i ∷ rest) h = ((h.0.depth, place_found lo hi placed h.0.in_root), stack-own rest h.1)

-- ── bindings ────────────────────────────────────────────────────────────────────────────────

-- a bound variable is one of the 16, the script binds it, and it holds a term of its type
pub record BindingFacts (S : Schema) (Γ : Typing) (terms : List Term) (root : Script) (v i : ℕ) : Type 0 where
  pub below : v < variable_limit
  pub binds : T (is_in v (variables_of (binders_of root)))
  pub holds : Holds S terms i (Γ v)

module _ (S : Schema) (Γ : List Ty) (terms : List Term) (root : Script) (β : Bindings) where
  abbrev binding_test : ℕ → Bool
  binding_test v = binding_sound S Γ terms (variables_of (binders_of root)) v (β v)

  binding-facts : T (every binding_test variables) → (v i : ℕ) → v < variable_limit → β v ≡ some i → BindingFacts S (type_at Γ) terms root v i
  binding-facts h v i l e =
      let binds = is_in v (variables_of (binders_of root)) in
      let k : T (binds && number_has S terms i (type_at Γ v)) = rw e at (every-variable binding_test h v l) in
      record {
        below = l;
        binds = and_left binds (number_has S terms i (type_at Γ v)) k;
        holds = test-holds S terms (type_at Γ v) i (and_right binds (number_has S terms i (type_at Γ v)) k);
      }

  bindings-test : ((v i : ℕ) → β v ≡ some i → BindingFacts S (type_at Γ) terms root v i) → T (every binding_test variables)
  bindings-test f = every_any binding_test (λ v. go v (β v) refl) variables
    where
      go : (v : ℕ) (o : Option ℕ) → β v ≡ o → T (binding_sound S Γ terms (variables_of (binders_of root)) v o)
      go v none e = tt
      go v (some i) e =
          and_make (is_in v (variables_of (binders_of root))) (number_has S terms i (type_at Γ v))
          (f v i e).binds (holds_test S terms (type_at Γ v) i (f v i e).holds)

-- ── the whole ───────────────────────────────────────────────────────────────────────────────

pub record Facts (c : Checked) (s : State) : Type 0 where
  pub terms_apart : T (distinct same_term s.store.terms)
  pub extends : Extends c.terms s.store.terms
  pub quads_in_order : T (in_order s.store.quads)
  pub quads : All (QuadFacts c.schema s.store.terms s.store.fetched) s.store.quads
  pub fetched_apart : T (distinct eqb s.store.fetched)
  pub fetched : All (HoldsURI c.schema s.store.terms) s.store.fetched
  pub limits : T (in_limits s.store)
  pub stack : StackFacts c.root (length s.store.terms) s.control.bindings s.control.stack
  pub bindings : (v i : ℕ) → s.control.bindings v ≡ some i → BindingFacts c.schema (type_at c.types) s.store.terms c.root v i

-- the tests of refusal 10, in their order
module _ (c : Checked) (s : State) where
  abbrev store_tests : List Bool
  store_tests =
      let terms = s.store.terms in
      let fetched = s.store.fetched in
      distinct same_term terms
      ∷ begins_with c.terms terms
      ∷ in_order s.store.quads
      ∷ every (quad_sound c.schema terms fetched) s.store.quads
      ∷ distinct eqb fetched
      ∷ every (is_uri_number c.schema terms) fetched
      ∷ in_limits s.store
      ∷ []

  abbrev control_tests : List Bool
  control_tests =
      let terms = s.store.terms in
      stack_sound c.root (length terms) s.control.bindings s.control.stack
      ∷ every (binding_test c.schema c.types terms c.root s.control.bindings) variables
      ∷ []

  abbrev halves : List Bool
  halves = store_sound c.schema c.terms s.store ∷ control_sound c.schema c.types c.root s.store.terms s.control ∷ []

module _ (c : Checked) (accepted : Accepted c) (s : State) where
  pub facts : Sound c s → Facts c s
  unfolding store_sound control_sound state_sound
  facts h =
      let S = c.schema in
      let terms = s.store.terms in
      let fetched = s.store.fetched in
      let β = s.control.bindings in
      let (store, (control, u)) = conj-all (halves c s) h.test in
      let (terms_apart, (begins, (quads_in_order, (quads, (fetched_apart, (uris, (limits, v))))))) = conj-all (store_tests c s) store in
      let (stack, (bindings, w)) = conj-all (control_tests c s) control in
      record {
        terms_apart = terms_apart;
        extends = begins-extends c.terms terms begins;
        quads_in_order = quads_in_order;
        quads = all-of-every (quad_sound S terms fetched) (QuadFacts S terms fetched) (quad-facts S terms fetched) s.store.quads quads;
        fetched_apart = fetched_apart;
        fetched = all-of-every (is_uri_number S terms) (HoldsURI S terms) (test-holds S terms any) fetched uris;
        limits = limits;
        stack = stack-facts c.root (length c.terms) (length terms) β accepted.bounded s.control.stack h.own stack;
        bindings = λ v i e. binding-facts S c.types terms c.root β bindings v i (h.few v i e) e;
      }

  pub sound : Facts c s → Sound c s
  unfolding store_sound control_sound state_sound
  sound h =
      let S = c.schema in
      let terms = s.store.terms in
      let fetched = s.store.fetched in
      let β = s.control.bindings in
      let begins = extends-begins c.terms terms h.extends in
      let quads = every-of-all (quad_sound S terms fetched) (QuadFacts S terms fetched) (quad-test S terms fetched) s.store.quads h.quads in
      let uris = every-of-all (is_uri_number S terms) (HoldsURI S terms) (holds_test S terms any) fetched h.fetched in
      let stack = stack-test c.root 0 script_limit accepted.placed (length terms) β s.control.stack h.stack in
      let bindings = bindings-test S c.types terms c.root β h.bindings in
      record {
        test = all-conj (halves c s) (
          all-conj (store_tests c s) (h.terms_apart, (begins, (h.quads_in_order, (quads, (h.fetched_apart, (uris, (h.limits, tt))))))),
          (all-conj (control_tests c s) (stack, (bindings, tt)), tt),
        );
        few = λ v i e. (h.bindings v i e).below;
        own = stack-own c.root 0 script_limit accepted.placed (length terms) β s.control.stack h.stack;
      }
