-- Laws of a page call: the copies it works on, its limits, and the saved store after it.
use Rattle.std.specs.Prelude.{Ok}
use Prim.Native.Nat.{ℕ, ◌+◌, ◌≤◌, ◌<◌}
use native.Mathlib.Omega.{arith}
use mathlib.Core.Path.{◌≡◌, refl, ap, sym, ◌∙◌}
use mathlib.Core.List.{List, [], ◌∷◌, ◌++◌}
use mathlib.Core.Bool.{Bool, true, false, cond, ◌&&◌, ◌||◌, and-false}
use lib.Dec.{leb, ltb}
use lib.ListN.{length, take, replicate, length-append}
use borrow.Author.Tests.{le-leb, lt-leb, ltb-true, ltb-false}
use Rattle.definitions.specs.Limits.{term_limit, quad_limit, graph_limit, term_table_width, quad_table_width}
use Rattle.definitions.specs.Lists.{is_in}
use Rattle.definitions.specs.Bytes.{filled}
use Rattle.definitions.specs.Terms.{Term, Schema, Triple}
use Rattle.definitions.specs.Evaluate.{Quad}
use Rattle.definitions.specs.Machine.{Store, Taken, take_all, taken, with_page, joined, in_limits, in_order}
use Rattle.definitions.specs.Saved.{term_table, quad_table, quad_bytes, quads_from}
use Rattle.definitions.specs.declared.SavedStore.{SavedStore}
use Rattle.laws.specs.Lists.{All}
use Rattle.laws.specs.Quads.{Small}
use Rattle.keys.specs.Keys.{keys_from, rows_from, rising, keys_of}
use Rattle.keys.proofs.Quads.{order-rises}
use Rattle.keys.proofs.Rise.{keys-all, keys-front}
use Rattle.key_merging.specs.Inserted.{insert_all}
use Rattle.ordering.specs.Sets.{others, apart, Gathered}
use Rattle.ordering.proofs.Gathering.{gathered_none, apart-small, apart-order, page-count, page-rows}
use Rattle.pages.specs.declared.Counts.{Counts}
use Rattle.pages.specs.declared.AfterPage.{AfterPage}
use Rattle.store.specs.Graphs.{graph_fits, paged}
use Rattle.table.specs.Table.{HeldTerms}
use Rattle.pages.specs.Page.{HeldQuads, HeldTaken, Took}
use Rattle.pages.specs.Taking.{start_of, HeldStore, PageDone, refused_page, taken_page}
use Rattle.pages.proofs.TakeLaws.{quads-are}

-- ── the copies ──────────────────────────────────────────────────────────────────────────────

pub empty-table : replicate {A = ℕ} quad_table_width 0 ≡ quad_table []
unfolding quad_table quad_bytes filled
empty-table = refl

pub none-order : in_order [] ≡ true
unfolding in_order
none-order = refl

-- a page begins with no keys of its own
pub copies-held : (t t' old : List ℕ) (n : ℕ) (ts : List Term) (keys : List ℕ) (others : List Quad) → HeldTerms t n ts → length old ≡ term_table_width
    → t' ≡ t → in_order others ≡ true → All Small others
    → HeldTaken t' keys others (record { terms = n; keys = 0; skipped = 0 }) (start_of ts others)
copies-held t t' old n ts keys others h w e o s =
    record {
      terms = record { is = e ∙ h.is; valid = h.valid; count = h.count; few = h.few };
      quads = gathered_none others keys o s;
      skipped = refl;
    }

-- the quads of a table as keys, and in order
module _ (table : List ℕ) (n : ℕ) (qs : List Quad) (h : HeldQuads table n qs) where
  module _ (keys : List ℕ) (e : keys_from n keys 0 ≡ keys_of (quads_from n table 0)) where
    pub held-keys : keys_from n keys 0 ≡ keys_of qs
    held-keys = e ∙ ap keys_of (quads-are table n qs h)

    pub held-rise : rising (keys_from n keys 0) ≡ true
    held-rise = ap rising held-keys ∙ (sym (order-rises qs h.small) ∙ h.order)

    -- with the page's keys put in
    pub ordered : (g r : ℕ) (fresh after-keys : List ℕ) (after : List Quad) → Gathered (apart g qs) fresh (length fresh) after
        → keys_from r after-keys 0 ≡ insert_all fresh (others g (keys_from n keys 0)) → (r ≡ length after) × (rows_from r after-keys 0 ≡ after)
    ordered g r fresh after-keys after k e =
        let d = e ∙ ap (λ ks. insert_all ks (others g (keys_from n keys 0))) (sym (keys-all fresh)) in (
          page-count g qs keys fresh after-keys n (length fresh) r after h.small held-keys k d,
          page-rows g qs keys fresh after-keys n (length fresh) r after h.small held-keys k d,
        )

  pub apart-held : (g : ℕ) → (in_order (apart g qs) ≡ true) × All Small (apart g qs)
  apart-held g = (apart-order g qs h.order, apart-small g qs h.small)

-- a page's keys as a list of their own
pub gathered-front : (base : List Quad) (fresh : List ℕ) (m : ℕ) (qs : List Quad) → m ≤ length fresh → Gathered base fresh m qs
    → Gathered base (take m fresh) (length (take m fresh)) qs
gathered-front base fresh m qs h g = record {
  order = g.order;
  small = g.small;
  all_small = g.all_small;
  keys = g.keys ∙ ap (λ ks. insert_all ks (keys_of base)) (keys-front fresh m h ∙ sym (keys-all (take m fresh)));
}

-- what is taken beside the quads of other graphs is what the machine takes
pub took_of : (S : Schema) (g : ℕ) (rs : List Triple) (σ : Store) (t q : List ℕ) (n : ℕ) (store : SavedStore) → HeldStore t q n store σ → (t' f : List ℕ) (c : Counts)
    → ((ts : List Term) (others : List Quad) → HeldTerms t n ts → in_order others ≡ true → All Small others → Took t' f others c (take_all S g rs (start_of ts others)))
    → Took t' f (apart g σ.quads) c (taken S g rs σ)
unfolding taken
took_of S g rs σ t q n store h t' f c all =
    let a = apart-held q store.quads σ.quads h.quads g in
    all σ.terms (apart g σ.quads) h.terms a.0 a.1

-- ── limits ──────────────────────────────────────────────────────────────────────────────────

module _ (S : Schema) (g : ℕ) (rs : List Triple) (σ : Store) where
  abbrev k : Taken
  k = taken S g rs σ

  abbrev fits : Bool
  fits = in_limits (with_page g k σ)

  pub terms-over : term_limit < length k.terms → fits ≡ false
  unfolding in_limits with_page
  terms-over h = ap (λ (b : Bool). b && (leb (length k.quads) quad_limit && leb (length (joined g σ.fetched)) graph_limit)) (lt-leb _ _ h)

  pub quads-over : quad_limit < length k.quads → fits ≡ false
  unfolding in_limits with_page
  quads-over h =
      ap (λ (b : Bool). leb (length k.terms) term_limit && (b && leb (length (joined g σ.fetched)) graph_limit)) (lt-leb _ _ h)
      ∙ and-false (leb (length k.terms) term_limit)

  pub graphs-over : graph_limit < length (joined g σ.fetched) → fits ≡ false
  unfolding in_limits with_page
  graphs-over h =
      ap (λ (b : Bool). leb (length k.terms) term_limit && (leb (length k.quads) quad_limit && b)) (lt-leb _ _ h)
      ∙ (ap (λ (b : Bool). leb (length k.terms) term_limit && b) (and-false (leb (length k.quads) quad_limit)) ∙ and-false (leb (length k.terms) term_limit))

  all_fit : length k.terms ≤ term_limit → length k.quads ≤ quad_limit → length (joined g σ.fetched) ≤ graph_limit → fits ≡ true
  unfolding in_limits with_page
  all_fit a b c = λ i. le-leb _ _ a i && (le-leb _ _ b i && le-leb _ _ c i)

-- the list with the graph
joined_length : (g : ℕ) (l : List ℕ) → length (joined g l) ≡ cond (is_in g l) (length l) (length l + 1)
unfolding joined
joined_length g l = go (is_in g l)
  where
    go : (b : Bool) → length (cond b l (l ++ (g ∷ []))) ≡ cond b (length l) (length l + 1)
    go true = refl
    go false = length-append l (g ∷ [])

module _ (t q : List ℕ) (n : ℕ) (store : SavedStore) (σ : Store) (h : HeldStore t q n store σ) (g : ℕ) where
  fits_by : (b : Bool) → is_in g σ.fetched ≡ b → graph_fits store g ≡ (b || ltb store.graphs 64)
  unfolding graph_fits
  fits_by b e = ap (λ (l : List ℕ). is_in g l || ltb store.graphs 64) h.fetched ∙ ap (λ (c : Bool). c || ltb store.graphs 64) e

  pub no_room : graph_fits store g ≡ false → graph_limit < length (joined g σ.fetched)
  no_room e = go (is_in g σ.fetched) refl
    where
      go : (b : Bool) → is_in g σ.fetched ≡ b → graph_limit < length (joined g σ.fetched)
      go true f = absurd (let z : ◌≡◌ {A = ℕ} 0 1 = (let y : ◌≡◌ {A = Bool} true false = sym (fits_by true f) ∙ e in cc) in omega arith)
      go false f =
          let w = ltb-false store.graphs 64 (sym (fits_by false f) ∙ e) in
          omega (arith, joined_length g σ.fetched ∙ ap (λ (b : Bool). cond b (length σ.fetched) (length σ.fetched + 1)) f, h.count)

  pub has_room : graph_fits store g ≡ true → length (joined g σ.fetched) ≤ graph_limit
  has_room e = go (is_in g σ.fetched) refl
    where
      go : (b : Bool) → is_in g σ.fetched ≡ b → length (joined g σ.fetched) ≤ graph_limit
      go true f = omega (arith, joined_length g σ.fetched ∙ ap (λ (b : Bool). cond b (length σ.fetched) (length σ.fetched + 1)) f, h.count, h.graphs)
      go false f =
          let w = ltb-true store.graphs 64 (sym (fits_by false f) ∙ e) in
          omega (arith, joined_length g σ.fetched ∙ ap (λ (b : Bool). cond b (length σ.fetched) (length σ.fetched + 1)) f, h.count)

-- ── what the call leaves ────────────────────────────────────────────────────────────────────

module _ (S : Schema) (g : ℕ) (rs : List Triple) (σ : Store) (store : SavedStore) (t q : List ℕ) where
  pub not_done : (r : AfterPage) → r ≡ refused_page store → in_limits (with_page g (taken S g rs σ) σ) ≡ false → PageDone S g rs σ store t q r t q
  not_done r e f =
      record {
        answer = e ∙ sym (ap (λ (b : Bool). cond b (taken_page store g (taken S g rs σ)) (refused_page store)) f);
        term_bytes = sym (ap (λ (b : Bool). cond b (term_table (taken S g rs σ).terms) t) f);
        quad_bytes = sym (ap (λ (b : Bool). cond b (quad_table (taken S g rs σ).quads) q) f);
      }

  module _ (t' f : List ℕ) (c : Counts) (took : Took t' f (apart g σ.quads) c (taken S g rs σ)) where
    pub terms-passed : term_limit < c.terms → in_limits (with_page g (taken S g rs σ) σ) ≡ false
    terms-passed h = terms-over S g rs σ (omega (arith, took.terms_at_most))

    -- the quads in order, so many
    module _ (few : c.terms ≤ term_limit) (keys : List ℕ) (count : ℕ)
        (sorted : (after : List Quad) → Gathered (apart g σ.quads) f c.keys after → (count ≡ length after) × (rows_from count keys 0 ≡ after)) where
      counted : count ≡ length (taken S g rs σ).quads
      counted = (sorted (taken S g rs σ).quads (took.held few).quads).0

      pub quads-passed : quad_limit < count → in_limits (with_page g (taken S g rs σ) σ) ≡ false
      quads-passed h = quads-over S g rs σ (omega (arith, counted))

      pub done : length t ≡ term_table_width → length q ≡ quad_table_width → count ≤ quad_limit → length (joined g σ.fetched) ≤ graph_limit
          → (q' t'' q'' : List ℕ) → q' ≡ quad_table (rows_from count keys 0) → t'' ≡ t' → q'' ≡ q' → (after : SavedStore) → after ≡ paged store g count
          → PageDone S g rs σ store t q (record { answer = Ok c.skipped; store = after }) t'' q''
      done wt wq room graphs q' t'' q'' written e f after s =
          let h = took.held few in
          let is : q' ≡ quad_table (taken S g rs σ).quads = written ∙ ap quad_table (sorted (taken S g rs σ).quads h.quads).1 in
          let all : in_limits (with_page g (taken S g rs σ) σ) ≡ true =
          all_fit S g rs σ (omega (arith, h.terms.count)) (omega (arith, counted)) graphs in
          let answer : record { answer = Ok c.skipped; store = after } ≡ taken_page store g (taken S g rs σ) =
          λ i. record { answer = Ok (h.skipped i); store = (s ∙ ap (paged store g) counted) i } in
          record {
            answer = answer ∙ sym (ap (λ (b : Bool). cond b (taken_page store g (taken S g rs σ)) (refused_page store)) all);
            term_bytes = e ∙ (h.terms.is ∙ sym (ap (λ (b : Bool). cond b (term_table (taken S g rs σ).terms) t) all));
            quad_bytes = f ∙ (is ∙ sym (ap (λ (b : Bool). cond b (quad_table (taken S g rs σ).quads) q) all));
          }
