-- What a sound store says of a graph: each of its quads a valid, well typed triple, no two the same; its page is its records sorted.
use Prim.Native.Nat.{ℕ, zero, suc}
use mathlib.Core.Path.{◌≡◌, refl, ap, sym, ◌∙◌, subst}
use mathlib.Core.List.Memᴰ
use mathlib.Core.List.{List, [], ◌∷◌, map}
use mathlib.Core.Bool.{not}
use mathlib.Core.Option.{Option, none, some}
use mathlib.Core.Logic.{⊎_elim}
use lib.Dec.{T, T_not, eqb→eq}
use lib.IntN.{pos}
use lib.ListN.{get_elem?}
use Rattle.definitions.specs.Lists.{every, keep, distinct}
use Rattle.definitions.specs.Types.{Datatype, plain}
use Rattle.definitions.specs.Terms.{Term, Text, Schema, Triple, sort_of, has_type, same_term}
use Rattle.definitions.specs.Evaluate.{Quad, same_quad}
use Rattle.definitions.specs.Machine.{Store, in_order, of_graph, well_typed}
use Rattle.definitions.specs.Publish.{triple_of, triples_in, triples_of, triple_bytes, rising_once, page_of, published}
use Rattle.laws.specs.Lists.{All, ◌∈◌}
use Rattle.laws.specs.Quads.{QuadFacts, Names}
use Rattle.laws.specs.Valid.{Valid, ValidTriple}
use Rattle.laws.proofs.Tests.{and_left, and_right}
use Rattle.laws.proofs.Options.{some_is, some-not-none}
use Rattle.laws.proofs.Lists.{keep_at, every-at}
use Rattle.laws.proofs.Equality.{quad-refl}
use Rattle.laws.proofs.QuadOrder.{in-order-keep, in-order-apart}
use Rattle.laws.proofs.TermNumbers.{number-unique}
use Rattle.triples.specs.Sorting.{sort}
use Rattle.triples.specs.Bytewise.{byte_le}
use Rattle.triples.proofs.Rising.{Apart, sort-rising}
use Rattle.triples.proofs.Images.{image-from, says-names, names-says, triples-from, all_say}
use Rattle.triples.proofs.ReadBack.{bytes-tell}

-- ── lists ───────────────────────────────────────────────────────────────────────────────────

module _ {A : Type 0} (P : A → Type 0) where
  pub all_in : (xs : List A) → All P xs → (x : A) → x ∈ xs → P x
  all_in [] h x m = absurd (Memᴰ.not-nil m)
  all_in (y ∷ ys) h x m = ⊎_elim (λ e. subst P (sym e) h.0) (λ n. all_in ys h.1 x n) (Memᴰ.cases_cons m)

  all-numbered : (xs : List A) → All P xs → (i : ℕ) (x : A) → get_elem? xs i ≡ some x → P x
  all-numbered [] h i x e = absurd (some-not-none e refl)
  all-numbered (y ∷ ys) h zero x e = subst P (some_is e) h.0
  all-numbered (y ∷ ys) h (suc i) x e = all-numbered ys h.1 i x e

map-map : {A B C : Type 0} (f : B → C) (g : A → B) (xs : List A) → map f (map g xs) ≡ map (λ x. f (g x)) xs
map-map f g [] = refl
map-map f g (x ∷ xs) = ap (λ l. f (g x) ∷ l) (map-map f g xs)

pub map_same : {A B : Type 0} (f g : A → B) (xs : List A) → ((x : A) → x ∈ xs → f x ≡ g x) → map f xs ≡ map g xs
map_same f g [] h = refl
map_same f g (x ∷ xs) h = (λ i. h x (Memᴰ.head refl) i ∷ map_same f g xs (λ y m. h y (Memᴰ.tail m)) i)

-- ── one quad ────────────────────────────────────────────────────────────────────────────────

-- two quads of one graph that say the same triple are one
pub names-tell : (terms : List Term) → T (distinct same_term terms) → (p q : Quad) → p.graph ≡ q.graph → (r : Triple) → Names terms p r → Names terms q r → p ≡ q
names-tell terms h p q e r a b =
    let s = number-unique (Term.uri r.subject) terms h p.subject q.subject a.subject b.subject in
    let y = number-unique (Term.uri r.property) terms h p.property q.property a.property b.property in
    let o = number-unique r.object terms h p.object q.object a.object b.object in
    λ i. record { graph = e i; subject = s i; property = y i; object = o i }

uri-term : (S : Schema) (t : Term) → T (has_type S t (plain Datatype.any_uri)) → (u : Text) × (t ≡ Term.uri u)
unfolding sort_of
uri-term S (Term.uri u) h = (u, refl)
uri-term S (Term.string g t) h = absurd h
uri-term S (Term.integer n) h = absurd h
uri-term S (Term.decimal n) h = absurd h
uri-term S (Term.date_time n) h = absurd h

-- what a sound quad says
pub record Says (S : Schema) (terms : List Term) (q : Quad) : Type 0 where
  pub triple : Triple
  pub names : Names terms q triple
  pub typed : T (well_typed S triple)

pub quad-says : (S : Schema) (terms : List Term) (fetched : List ℕ) (q : Quad) → QuadFacts S terms fetched q → Says S terms q
unfolding well_typed
quad-says S terms fetched q f =
    let u = uri-term S f.subject.term f.subject.typed in
    record {
      triple = record { subject = u.0; property = f.property; object = f.object.term };
      names = record { subject = f.subject.there ∙ ap some u.1; property = f.is_property; object = f.object.there };
      typed = rw f.in_schema f.object.typed;
    }

pub says-valid : (terms : List Term) → All Valid terms → (q : Quad) (r : Triple) → Names terms q r → ValidTriple r
says-valid terms v q r n =
    record {
      subject = all-numbered Valid terms v q.subject (Term.uri r.subject) n.subject;
      property = all-numbered Valid terms v q.property (Term.uri r.property) n.property;
      object = all-numbered Valid terms v q.object r.object n.object;
    }

-- ── a graph ─────────────────────────────────────────────────────────────────────────────────

-- the triple that a quad says, or another
unfoldable pub said : List Term → Quad → Triple
said terms q = elim (triple_of terms q) [ none ↦ record { subject = []; property = []; object = Term.integer (pos 0) } | some r ↦ r ]

said-is : (terms : List Term) (q : Quad) (r : Triple) → triple_of terms q ≡ some r → said terms q ≡ r
unfolding said
said-is terms q r e = go (triple_of terms q) e
  where
    go : (o : Option Triple) → o ≡ some r → (elim o as (λ c. Triple) [ none ↦ record { subject = []; property = []; object = Term.integer (pos 0) } | some r ↦ r ]) ≡ r
    go none e = absurd (some-not-none e refl)
    go (some t) e = some_is e

apart-images : (f : Quad → List ℕ) (qs : List Quad) → T (distinct same_quad qs) → ((p q : Quad) → p ∈ qs → q ∈ qs → f p ≡ f q → p ≡ q) → Apart (map f qs)
apart-images f [] h k = tt
apart-images f (q ∷ qs) h k = (
  (λ m.
      let w = image-from f (f q) qs m in
      let e : q ≡ w.0 = k q w.0 (Memᴰ.head refl) (Memᴰ.tail w.1) w.2 in
      let d = every-at (λ y. not (same_quad q y)) qs (and_left (every (λ y. not (same_quad q y)) qs) (distinct same_quad qs) h) w.0 w.1 in
      T_not (same_quad q w.0) d (subst (λ y. T (same_quad q y)) e (quad-refl q))),
  apart-images f qs (and_right (every (λ y. not (same_quad q y)) qs) (distinct same_quad qs) h) (λ p r m n. k p r (Memᴰ.tail m) (Memᴰ.tail n)),
)

-- what is known of a sound store
pub record SoundStore (S : Schema) (s : Store) : Type 0 where
  pub apart : T (distinct same_term s.terms)
  pub valid : All Valid s.terms
  pub order : T (in_order s.quads)
  pub quads : All (QuadFacts S s.terms s.fetched) s.quads

module _ (S : Schema) (s : Store) (h : SoundStore S s) where
  pub says_at : (q : Quad) → q ∈ s.quads → Says S s.terms q
  says_at q m = quad-says S s.terms s.fetched q (all_in (QuadFacts S s.terms s.fetched) s.quads h.quads q m)

  said-names : (q : Quad) → q ∈ s.quads → Names s.terms q (said s.terms q)
  said-names q m =
      let w = says_at q m in
      subst (Names s.terms q) (sym (said-is s.terms q w.triple (names-says s.terms q w.triple w.names))) w.names

  pub triples-valid : (g : ℕ) (r : Triple) → r ∈ triples_of g s → ValidTriple r
  triples-valid g r m = let w = triples-from g s r m in says-valid s.terms h.valid w.0 r (says-names s.terms w.0 r w.3)

  pub triples-typed : (g : ℕ) (r : Triple) → r ∈ triples_of g s → T (well_typed S r)
  triples-typed g r m =
      let w = triples-from g s r m in
      let y = says_at w.0 w.1 in
      subst (λ r. T (well_typed S r)) (some_is (sym (names-says s.terms w.0 y.triple y.names) ∙ w.3)) y.typed

  module _ (g : ℕ) where
    abbrev own : List Quad
    own = keep (of_graph g) s.quads

    own_at : (q : Quad) → q ∈ own → (q ∈ s.quads) × (q.graph ≡ g)
    own_at q m = let k = keep_at (of_graph g) s.quads q m in (k.0, eqb→eq q.graph g k.1)

    one-record : (p q : Quad) → p ∈ own → q ∈ own → triple_bytes (said s.terms p) ≡ triple_bytes (said s.terms q) → p ≡ q
    one-record p q m n e =
        let a = own_at p m in
        let b = own_at q n in
        let x = said-names p a.0 in
        let y = said-names q b.0 in
        let t = bytes-tell (said s.terms p) (said s.terms q) (says-valid s.terms h.valid p _ x) (says-valid s.terms h.valid q _ y) e in
        names-tell s.terms h.apart p q (a.1 ∙ sym b.1) (said s.terms q) (subst (Names s.terms p) t x) y

    -- the page is the records of the graph's quads, sorted
    pub published-sorted : published g s ≡ page_of (sort byte_le (map (λ q. triple_bytes (said s.terms q)) own))
    unfolding published triples_of
    published-sorted =
        let all : triples_in s.terms own ≡ map (said s.terms) own =
        all_say s.terms (said s.terms) own (λ q m. names-says s.terms q (said s.terms q) (said-names q (own_at q m).0)) in
        let records = map (λ q. triple_bytes (said s.terms q)) own in
        let e : map triple_bytes (triples_in s.terms own) ≡ records = ap (map triple_bytes) all ∙ map-map triple_bytes (said s.terms) own in
        ap page_of (ap rising_once e ∙ sym (sort-rising records
        (apart-images (λ q. triple_bytes (said s.terms q)) own (in-order-apart own (in-order-keep (of_graph g) s.quads h.order)) one-record)))

    pub own-named : (q : Quad) → q ∈ own → Names s.terms q (said s.terms q)
    own-named q m = said-names q (own_at q m).0
