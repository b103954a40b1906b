-- A page taken in leaves its graph holding exactly that page's well typed triples, and every other graph as it was.
use Prim.Native.Nat.{ℕ, zero, ◌+◌}
use native.Mathlib.Omega.{arith}
use mathlib.Core.Path.{◌≡◌, refl, sym, ap, ◌∙◌, subst, subst⁻¹}
use mathlib.Core.Logic.{⊎_elim}
use mathlib.Core.List.Memᴰ
use mathlib.Core.List.{List, [], ◌∷◌}
use mathlib.Core.Bool.{Bool, true, false, cond, not, ◌||◌}
use mathlib.Core.Option.{some, some-injective}
use lib.Dec.{T, eqb→eq, T_not, not_T}
use borrow.Author.Tests.{eq-eqb}
use lib.ListN.{length}
use Rattle.definitions.specs.Lists.{some?, keep, is_in, distinct}
use Rattle.definitions.specs.Terms.{Term, Schema, Triple, same_term}
use Rattle.definitions.specs.Evaluate.{Quad, same_quad, stored}
use Rattle.definitions.specs.Machine.{State, Taken, skip, in_order, with_quad, store, well_typed, take_one, take_all, joined, of_graph, taken, with_page}
use Rattle.definitions.specs.Result.{passed}
use Rattle.definitions.specs.Calls.{Checked, page_in, PageTaken, page_taken, take_in}
use Rattle.laws.proofs.Tests.{is_false, true_is, false_is, not_both}
use Rattle.laws.specs.Lists.{All}
use Rattle.laws.proofs.All.{kept, all-weaken, all-at}
use Rattle.laws.specs.Lists.{◌∈◌}
use Rattle.laws.proofs.Equality.{same-quad, quad-refl}
use Rattle.laws.specs.Bindings.{Extends}
use Rattle.laws.specs.Quads.{Names}
use Rattle.laws.proofs.QuadOrder.{in-order-apart, with-quad-all, with-quad-keep, stored-now, stored-still}
use Rattle.laws.proofs.Taking.{names_more, stored_one, joined-has, joined_keeps, joined-cases, take-one, take_all_lem}
use Rattle.laws.proofs.PageCheck.{page-passed}
use Rattle.laws.specs.Sound.{Accepted, Sound}
use Rattle.laws.proofs.SoundMeans.{Facts, facts}
use Rattle.triples.proofs.Graphs.{names-tell}
use Rattle.safety.proofs.PageSound.{page-sound}
use Rattle.theorems.specs.PageLeaves.{FromPage, not_of, PageLeaves}

-- ── quads ───────────────────────────────────────────────────────────────────────────────────

module _ {A : Type 0} (p : A → Bool) where
  keep-keep : (xs : List A) → keep p (keep p xs) ≡ keep p xs
  keep-keep [] = refl
  keep-keep (x ∷ xs) = go (p x) refl (keep-keep xs)
    where
      go : (b : Bool) → p x ≡ b → keep p (keep p xs) ≡ keep p xs → keep p (cond b (x ∷ keep p xs) (keep p xs)) ≡ cond b (x ∷ keep p xs) (keep p xs)
      go true e h = rw (e, h)
      go false e h = h

-- a quad that a choice keeps is there after it as before
stored-keep : (p : Quad → Bool) (q : Quad) → T (p q) → (quads : List Quad) → stored q (keep p quads) ≡ stored q quads
unfolding stored
stored-keep p q t [] = refl
stored-keep p q t (x ∷ xs) = go (p x) refl (stored-keep p q t xs)
  where
    other : p x ≡ false → same_quad q x ≡ false
    other e = is_false (same_quad q x) (not_T (same_quad q x) (λ m. not_both (p x) (subst (λ y. T (p y)) (same-quad q x m) t) (false_is (p x) e)))

    go : (b : Bool) → p x ≡ b → some? (same_quad q) (keep p xs) ≡ some? (same_quad q) xs
        → some? (same_quad q) (cond b (x ∷ keep p xs) (keep p xs)) ≡ (same_quad q x || some? (same_quad q) xs)
    go true e h = ap (λ b. same_quad q x || b) h
    go false e h = rw (other e) h

-- ── the page's quads ────────────────────────────────────────────────────────────────────────

module _ (S : Schema) (g : ℕ) (page : List Triple) where
  -- each quad of the graph is a triple of the page
  abbrev Own : Taken → Type 0
  Own k = All (λ q. q.graph ≡ g → FromPage S page k.terms q) k.quads

  from_more : (old new : List Term) → Extends old new → (q : Quad) → FromPage S page old q → FromPage S page new q
  from_more old new more q f =
      record { triple = f.triple; in_page = f.in_page; typed = f.typed; names = names_more old new more q f.triple f.names }

  store-own : (r : Triple) (k : Taken) → r ∈ page → T (well_typed S r) → Own k → Own (store g r k)
  store-own r k m t h =
      let x = stored_one g r k in
      let old = all-weaken (λ q. q.graph ≡ g → FromPage S page k.terms q) (λ q. q.graph ≡ g → FromPage S page x.terms q)
      (λ q f e. from_more k.terms x.terms x.extends q (f e)) k.quads h in
      let new : Own (record { skipped = k.skipped; terms = x.terms; quads = with_quad x.quad k.quads }) =
      with-quad-all (λ q. q.graph ≡ g → FromPage S page x.terms q) x.quad k.quads old
      (λ e. record { triple = r; in_page = m; typed = t; names = x.names }) in
      rw x.is new

  all_own : (k : Taken) → Own k → Own (take_all S g page k)
  all_own k h = take_all_lem S g Own page store-own (λ k h. h) k h

  -- the quads of other graphs stay
  store-others : (r : Triple) (k : Taken) → keep (not_of g) (store g r k).quads ≡ keep (not_of g) k.quads
  store-others r k =
      let x = stored_one g r k in
      rw x.is (with-quad-keep (not_of g) x.quad (ap not (eq-eqb x.quad.graph g x.graph)) k.quads)

  all_others : (k : Taken) → keep (not_of g) (take_all S g page k).quads ≡ keep (not_of g) k.quads
  all_others k =
      take_all_lem S g (λ j. keep (not_of g) j.quads ≡ keep (not_of g) k.quads) page (λ r j m t h. store-others r j ∙ h) (λ j h. h) k refl

module _ (S : Schema) (g : ℕ) where
  -- a quad that is there stays, with its names
  record There (q : Quad) (r : Triple) (k : Taken) : Type 0 where
    is_stored : T (stored q k.quads)
    names : Names k.terms q r

  still-there : (q : Quad) (r : Triple) (page : List Triple) (k : Taken) → There q r k → There q r (take_all S g page k)
  still-there q r page k h = take_all_lem S g (There q r) page step (λ k h. record { is_stored = h.is_stored; names = h.names }) k h
    where
      step : (x : Triple) (k : Taken) → x ∈ page → T (well_typed S x) → There q r k → There q r (store g x k)
      step x k m t h =
          let y = stored_one g x k in
          let new : There q r (record { skipped = k.skipped; terms = y.terms; quads = with_quad y.quad k.quads }) =
          record { is_stored = stored-still q y.quad k.quads h.is_stored; names = names_more k.terms y.terms y.extends q r h.names } in
          rw y.is new

  -- a triple has its quad in the graph
  abbrev Ends : Triple → Taken → Type 0
  Ends r k = (q : Quad) × (q.graph ≡ g) × There q r k

  now-there : (r : Triple) (k : Taken) → Ends r (store g r k)
  now-there r k =
      let y = stored_one g r k in
      let new : There y.quad r (record { skipped = k.skipped; terms = y.terms; quads = with_quad y.quad k.quads }) =
      record { is_stored = stored-now y.quad k.quads; names = y.names } in
      (y.quad, y.graph, rw y.is new)

  -- each well typed triple of the page has its quad
  all_there : (page : List Triple) (k : Taken) (r : Triple) → r ∈ page → T (well_typed S r) → Ends r (take_all S g page k)
  unfolding take_all
  all_there [] k r m t = absurd (Memᴰ.not-nil m)
  all_there (x ∷ rs) k r m t =
      ⊎_elim (λ e. subst⁻¹ (λ y. Ends y (take_all S g rs (take_one S g x k))) e (first (subst (λ y. T (well_typed S y)) e t)))
      (λ l. all_there rs (take_one S g x k) r l t) (Memᴰ.cases_cons m)
    where
      first : T (well_typed S x) → Ends x (take_all S g rs (take_one S g x k))
      first u =
          take-one S g (λ j. Ends x (take_all S g rs j)) x k
          (λ v. let n = now-there x k in (n.0, n.1, still-there n.0 x rs (store g x k) n.2)) (λ v. absurd (not_both (well_typed S x) u v))

-- ── terms and the skipped count ─────────────────────────────────────────────────────────────

all-extends : (S : Schema) (g : ℕ) (page : List Triple) (k : Taken) → Extends k.terms (take_all S g page k).terms
all-extends S g page k =
    take_all_lem S g (λ j. Extends k.terms j.terms) page
    (λ r j m t h. let x = stored_one g r j in rw x.is (λ i u e. x.extends i u (h i u e))) (λ j h. h) k (λ i u e. e)

module _ (S : Schema) (g : ℕ) where
  abbrev bad : Triple → Bool
  bad r = not (well_typed S r)

  one-skipped : (r : Triple) (rs : List Triple) (k : Taken) → (take_one S g r k).skipped + length (keep bad rs) ≡ k.skipped + length (keep bad (r ∷ rs))
  unfolding take_one store
  one-skipped r rs k = go (well_typed S r)
    where
      go : (b : Bool) → (elim b as (λ c. Taken) [ true ↦ store g r k | false ↦ skip k ]).skipped + length (keep bad rs)
          ≡ k.skipped + length (cond (not b) (r ∷ keep bad rs) (keep bad rs))
      go true = refl
      go false = omega arith

  all-skipped : (page : List Triple) (k : Taken) → (take_all S g page k).skipped ≡ k.skipped + length (keep bad page)
  unfolding take_all
  all-skipped [] k = omega arith
  all-skipped (r ∷ rs) k = all-skipped rs (take_one S g r k) ∙ one-skipped r rs k

-- ── the theorem ─────────────────────────────────────────────────────────────────────────────

module _ (S : Schema) (g : ℕ) (page : List Triple) (s : State) where
  abbrev start : Taken
  start = record { skipped = zero; terms = s.store.terms; quads = keep (not_of g) s.store.quads }

  abbrev end : Taken
  end = take_all S g page start

  -- at the start no quad is the graph's
  none-own : All (λ q. q.graph ≡ g → FromPage S page s.store.terms q) (keep (not_of g) s.store.quads)
  none-own =
      all-weaken (λ q. T (not_of g q)) (λ q. q.graph ≡ g → FromPage S page s.store.terms q)
      (λ q n e. absurd (T_not (of_graph g q) n (true_is (of_graph g q) (eq-eqb q.graph g e))))
      (keep (not_of g) s.store.quads) (kept (not_of g) s.store.quads)

  pub leaves : T (distinct same_term end.terms) → T (in_order end.quads) → PageLeaves S g page s (page_taken g (taken S g page s.store) s)
  unfolding taken with_page stored
  leaves apart order =
      let others = all_others S g page start ∙ keep-keep (not_of g) s.store.quads in
      record {
        numbers = all-extends S g page start;
        terms_apart = apart;
        graph = λ q e. (
          λ m. all-at same_quad same-quad quad-refl (λ q. q.graph ≡ g → FromPage S page end.terms q) q end.quads (all_own S g page start none-own) m e,
          λ f.
              let x = all_there S g page start f.triple f.in_page f.typed in
              let one = names-tell end.terms apart q x.0 (e ∙ sym x.1) f.triple f.names x.2.names in
              subst⁻¹ (λ q. T (stored q end.quads)) one x.2.is_stored,
        );
        others = others;
        elsewhere = λ q n.
            let t : T (not_of g q) = not_T (of_graph g q) (λ m. n (eqb→eq q.graph g m)) in
            sym (stored-keep (not_of g) q t end.quads) ∙ (ap (stored q) others ∙ stored-keep (not_of g) q t s.store.quads);
        quads_in_order = order;
        quads_apart = in-order-apart end.quads order;
        skipped = omega (arith, all-skipped S g page start);
        fetched = λ x.
            let before = s.store.fetched in
            let new : x ≡ g → T (is_in x (joined g before)) = λ e. subst⁻¹ (λ y. T (is_in y (joined g before))) e (joined-has g before) in
            (joined-cases g before x, ⊎_elim new (joined_keeps g before x));
        control = refl;
      }

module _ (c : Checked) (accepted : Accepted c) (g : ℕ) (page : List ℕ) (s : State) (k : PageTaken) (h : Sound c s) where
  pub page-leaves : take_in c g page s ≡ passed k → (triples : List Triple) → page_in page ≡ some triples → PageLeaves c.schema g triples s k
  unfolding taken with_page
  page-leaves e triples read =
      let S = c.schema in
      let p = page-passed c g s page k e in
      let same : p.triples ≡ triples = some-injective p.triples triples (sym p.read ∙ read) in
      let f : Facts c (page_taken g (taken S g p.triples s.store) s).state =
      subst (λ (k : PageTaken). Facts c k.state) p.result (facts c accepted k.state (page-sound c accepted g page s k h e)) in
      subst (λ ts. PageLeaves S g ts s k) same
      (subst⁻¹ (λ k. PageLeaves S g p.triples s k) p.result (leaves S g p.triples s f.terms_apart f.quads_in_order))
