-- A page taken in: the state after it is sound.
use Prim.Native.Nat.{ℕ, zero, ◌≤◌}
use mathlib.Core.Path.{◌≡◌, refl, subst⁻¹}
use mathlib.Core.List.{List, [], ◌∷◌}
use mathlib.Core.Bool.{not}
use mathlib.Core.Option.{Option, none, some}
use lib.Dec.{T}
use lib.ListN.{length, get_elem?}
use Rattle.definitions.specs.Lists.{keep, is_in, distinct}
use Rattle.definitions.specs.Types.{Datatype, plain}
use Rattle.definitions.specs.Terms.{Term, Schema, Triple, datatype_in, sort_of, has_type, same_term}
use Rattle.definitions.specs.Tree.{Script}
use Rattle.definitions.specs.Typing.{type_at}
use Rattle.definitions.specs.Evaluate.{Bindings, Quad, same_quad}
use Rattle.definitions.specs.Machine.{Item, State, Taken, in_order, with_quad, store, take_all, joined, of_graph, taken, with_page, in_limits}
use Rattle.definitions.specs.Result.{passed}
use Rattle.definitions.specs.Calls.{Checked, is_graph, PageTaken, page_taken, take_in}
use Rattle.laws.specs.Lists.{All}
use Rattle.laws.proofs.All.{all_keep, all-weaken, distinct-keep}
use Rattle.laws.proofs.Equality.{same-quad, quad-refl}
use Rattle.laws.proofs.Sorts.{uri-has, of-uri}
use Rattle.laws.specs.Bindings.{Extends, HoldsURI}
use Rattle.laws.proofs.Bindings.{holds_more}
use Rattle.laws.proofs.TermNumbers.{extends-length}
use Rattle.laws.proofs.QuadOrder.{in-order-keep, with-quad-all, with-quad-order}
use Rattle.laws.proofs.Taking.{stored_one, well_typed_lem, joined-has, joined_keeps, joined-apart, joined-all, take_all_lem}
use Rattle.laws.proofs.PageCheck.{page-passed}
use Rattle.laws.specs.Sound.{Accepted, Sound}
use Rattle.laws.specs.Quads.{QuadFacts}
use Rattle.laws.proofs.SoundMeans.{StackFacts, Facts, facts, sound, last_more}

-- ── what holds of a table holds of one that goes on ─────────────────────────────────────────

module _ (S : Schema) (old new : List Term) (more : Extends old new) where
  quad-more : (fetched after : List ℕ) → ((g : ℕ) → T (is_in g fetched) → T (is_in g after)) → (q : Quad) → QuadFacts S old fetched q → QuadFacts S new after q
  quad-more fetched after f q h =
      record {
        is_fetched = f q.graph h.is_fetched;
        graph = holds_more S old new more q.graph (plain Datatype.any_uri) h.graph;
        subject = holds_more S old new more q.subject (plain Datatype.any_uri) h.subject;
        property = h.property;
        is_property = more q.property (Term.uri h.property) h.is_property;
        datatype = h.datatype;
        in_schema = h.in_schema;
        object = holds_more S old new more q.object (plain h.datatype) h.object;
      }

stack-more : (root : Script) (n m : ℕ) → n ≤ m → (β : Bindings) (stack : List Item) → StackFacts root n β stack → StackFacts root m β stack
stack-more root n m le β [] h = tt
stack-more root n m le β (i ∷ rest) h =
    let k = h.0 in (
      record { depth = k.depth; in_root = k.in_root; deep = k.deep; bound = k.bound; last = last_more n m le i.script i.last k.last },
      stack-more root n m le β rest h.1,
    )

-- ── one record after the other ──────────────────────────────────────────────────────────────

module _ (S : Schema) (g : ℕ) (start : List Term) (fetched : List ℕ) (is_fetched : T (is_in g fetched)) (graph : HoldsURI S start g) where
  record TakenFacts (k : Taken) : Type 0 where
    extends : Extends start k.terms
    terms_apart : T (distinct same_term k.terms)
    quads_in_order : T (in_order k.quads)
    quads : All (QuadFacts S k.terms fetched) k.quads

  store-facts : (r : Triple) (k : Taken) → (d : Datatype) → datatype_in S r.property ≡ some d → T (has_type S r.object (plain d))
      → TakenFacts k → TakenFacts (store g r k)
  unfolding sort_of
  store-facts r k d e typed h =
      let x = stored_one g r k in
      let terms = x.terms in
      let q = x.quad in
      let more : Extends start terms = λ i t y. x.extends i t (h.extends i t y) in
      let new : QuadFacts S terms fetched q =
      record {
        is_fetched = rw x.graph is_fetched;
        graph = rw x.graph (holds_more S start terms more g (plain Datatype.any_uri) graph);
        subject = record { term = Term.uri r.subject; there = x.names.subject; typed = uri-has (datatype_in S r.subject) };
        property = r.property;
        is_property = x.names.property;
        datatype = d;
        in_schema = e;
        object = record { term = r.object; there = x.names.object; typed = typed };
      } in
      let old = all-weaken (QuadFacts S k.terms fetched) (QuadFacts S terms fetched)
      (quad-more S k.terms terms x.extends fetched fetched (λ y m. m)) k.quads h.quads in
      let after : Taken = record { skipped = k.skipped; terms = terms; quads = with_quad q k.quads } in
      let holds : TakenFacts after =
      record {
        extends = more;
        terms_apart = x.apart h.terms_apart;
        quads_in_order = with-quad-order q k.quads h.quads_in_order;
        quads = with-quad-all (QuadFacts S terms fetched) q k.quads old new;
      } in
      rw x.is holds

  all-facts : (page : List Triple) (k : Taken) → TakenFacts k → TakenFacts (take_all S g page k)
  all-facts page k h =
      take_all_lem S g TakenFacts page (λ r k m t h. let w = well_typed_lem S r t in store-facts r k w.0 w.1 w.2 h)
      (λ k h. record { extends = h.extends; terms_apart = h.terms_apart; quads_in_order = h.quads_in_order; quads = h.quads }) k h

-- ── the call ────────────────────────────────────────────────────────────────────────────────

graph-holds : (S : Schema) (terms : List Term) (g : ℕ) → T (is_graph (get_elem? terms g)) → HoldsURI S terms g
graph-holds S terms g h = go (get_elem? terms g) refl h
  where
    go : (o : Option Term) → get_elem? terms g ≡ o → T (is_graph o) → HoldsURI S terms g
    go none e k = absurd k
    go (some t) e k = record { term = t; there = e; typed = of-uri S t k }

module _ (c : Checked) (accepted : Accepted c) (g : ℕ) (triples : List Triple) (s : State) where
  abbrev after : State
  after = (page_taken g (taken c.schema g triples s.store) s).state

  page-facts : HoldsURI c.schema s.store.terms g → Facts c s → T (in_limits after.store) → Facts c after
  unfolding taken with_page
  page-facts graph h limits =
      let S = c.schema in
      let old = s.store.terms in
      let fetched = joined g s.store.fetched in
      let start : Taken = record { skipped = zero; terms = old; quads = keep (λ q. not (of_graph g q)) s.store.quads } in
      let is_fetched = joined-has g s.store.fetched in
      let end = all-facts S g old fetched is_fetched graph triples start
      (record {
        extends = λ i t e. e;
        terms_apart = h.terms_apart;
        quads_in_order = in-order-keep (λ q. not (of_graph g q)) s.store.quads h.quads_in_order;
        quads = all_keep (QuadFacts S old fetched) (λ q. not (of_graph g q)) s.store.quads
            (all-weaken (QuadFacts S old s.store.fetched) (QuadFacts S old fetched)
            (quad-more S old old (λ i t e. e) s.store.fetched fetched (joined_keeps g s.store.fetched)) s.store.quads h.quads);
      }) in
      let new = (take_all S g triples start).terms in
      let more : Extends old new = end.extends in
      let uri-more : (x : ℕ) → HoldsURI S old x → HoldsURI S new x = λ x. holds_more S old new more x (plain Datatype.any_uri) in
      let graphs = all-weaken (HoldsURI S old) (HoldsURI S new) uri-more s.store.fetched h.fetched in
      record {
        terms_apart = end.terms_apart;
        extends = λ i t e. more i t (h.extends i t e);
        quads_in_order = end.quads_in_order;
        quads = end.quads;
        fetched_apart = joined-apart g s.store.fetched h.fetched_apart;
        fetched = joined-all g s.store.fetched (HoldsURI S new) graphs (uri-more g graph);
        limits = limits;
        stack = stack-more c.root (length old) (length new) (extends-length old new more) s.control.bindings s.control.stack h.stack;
        bindings = λ v i e.
            let b = h.bindings v i e in
            record { below = b.below; binds = b.binds; holds = holds_more S old new more i (type_at c.types v) b.holds };
      }

pub page-sound : (c : Checked) → Accepted c → (g : ℕ) (page : List ℕ) (s : State) (k : PageTaken)
    → Sound c s → take_in c g page s ≡ passed k → Sound c k.state
page-sound c accepted g page s k h e =
    let p = page-passed c g s page k e in
    let x = after c accepted g p.triples s in
    let graph = graph-holds c.schema s.store.terms g p.graph in
    let ok : Sound c x = sound c accepted x (page-facts c accepted g p.triples s graph (facts c accepted s h) p.limits) in
    subst⁻¹ (λ (k : PageTaken). Sound c k.state) p.result ok
