-- A published page: read as the graph's triples, taken in again it leaves the store as it was, it fits, and the same triples give the same bytes.
use Rattle.definitions.specs.declared.Refusal.TheVariants.{WrongLength, Unsound, NoGraph, BadPage, NoRoom, NotFetched, ShortBuffer}
use Rattle.std.specs.Prelude.{Ok}
use Prim.Native.Nat.{ℕ, zero, suc, ◌-◌, ◌≤◌}
use native.Mathlib.Omega.{arith}
use mathlib.Core.Path.{◌≡◌, refl, sym, ap, ◌∙◌, subst, subst⁻¹}
use mathlib.Core.Logic.{◌⊎◌, inl, ⊎_elim}
use mathlib.Core.List.Memᴰ
use mathlib.Core.List.{List, [], ◌∷◌}
use mathlib.Core.Bool.{Bool, true, false, not}
use mathlib.Core.Option.{some}
use borrow.Author.Tests.{eq-eqb}
use lib.Dec.{T, T_not, leb, le→leb, eqb, eqb→eq}
use lib.ListN.{length, get_elem?, take, drop, replicate}
use lib.Seq.{take_at}
use Rattle.definitions.specs.Limits.{ranks_width, page_limit, graph_limit, term_table_width, quad_table_width}
use Rattle.definitions.specs.Lists.{keep, is_in, distinct}
use Rattle.definitions.specs.Alphabet.{is_alphabet}
use Rattle.definitions.specs.Bytes.{filled}
use Rattle.definitions.specs.Types.{Datatype, plain}
use Rattle.definitions.specs.Terms.{Term, Schema, Triple, sort_of, has_type, same_term, read_page}
use Rattle.definitions.specs.Evaluate.{Quad, same_quad, stored, is_uri}
use Rattle.definitions.specs.Machine.{Store, State, Taken, numbered, in_order, store, well_typed, joined, taken, with_page, in_limits}
use Rattle.definitions.specs.Publish.{triples_of, published}
use Rattle.definitions.specs.Saved.{term_table, quad_table, saved_store, saved_of}
use Rattle.definitions.specs.Result.{Result, refused, passed, ◌>>=◌, ◌>>◌, require, given}
use Rattle.definitions.specs.Calls as Calls
use Rattle.definitions.specs.Calls.{Lent, lengths_of, both_tables_fit, tables_fit, lengths_fit, reported, sound_in, is_graph}
use Rattle.definitions.specs.Calls.{PageTaken, page_taken, take_in, Taking, page_tests, page_result, page_call}
use Rattle.definitions.specs.Calls.{publish_in, publish_tests, publish_result, publish_call}
use Rattle.definitions.specs.declared.SavedRun.{SavedRun}
use Rattle.laws.specs.Lists.{All, ◌∈◌}
use Rattle.laws.specs.Bindings.{HoldsURI}
use Rattle.laws.specs.Quads.{Names}
use Rattle.laws.specs.Valid.{ValidIn}
use Rattle.laws.specs.Sound.{Sound}
use Rattle.laws.proofs.Tests.{and_left, and_right, is_true, is_false, true_is, decide}
use Rattle.laws.proofs.Options.{some_is, some-not-none, provided-inv, provided-holds, same_some}
use Rattle.laws.proofs.Results.{passed_is, require-after-inv, given-bind-inv, require-after, given-bind, bind-passed}
use Rattle.laws.proofs.Lists.{some_at, some_of}
use Rattle.laws.proofs.Equality.{same-quad, quad-refl, term-refl}
use Rattle.laws.proofs.Numbering.{by-numbered}
use Rattle.laws.proofs.QuadOrder.{in-order-keep, with-quad-order, one-order}
use Rattle.laws.proofs.Taking.{stored_one, take_all_lem}
use Rattle.laws.proofs.PageCheck.{page-passed}
use Rattle.laws.proofs.SoundMeans.{Facts, facts}
use Rattle.laws.proofs.Saved.{quads-in-count}
use Rattle.laws.proofs.SoundIn.{entry_of, SoundIn, sound-in, is-accepted, holding, terms-held, quads-held, lengths-again, sound-again}
use Rattle.laws.proofs.Valid.{page-keeps-valid}
use Rattle.safety.proofs.PageSound.{page-sound}
use Rattle.triples.proofs.Rising.{Same}
use Rattle.triples.proofs.Images.{says-names, names-says, triples-to, triples-from}
use Rattle.triples.proofs.Graphs.{SoundStore, all_in, names-tell, says_at, triples-valid, triples-typed}
use Rattle.triples.proofs.Pages.{same-published, published-fits, page-length, published-reads}
use Rattle.theorems.specs.PageLeaves.{not_of, PageLeaves}
use Rattle.theorems.specs.Publishing.{Publishes, written_page, TablesOfBytes, AsItWas, TakenAgain, lent_after, AlwaysFits, SameBytes, SaysTriples, Publishing}
use Rattle.theorems.proofs.PageTaken.{leaves, page-leaves}
use Rattle.theorems.proofs.CallsPassed.{taking-passed}
use Rattle.theorems.proofs.StillHeld.{valid-held}

-- ── a call that publishes ───────────────────────────────────────────────────────────────────

-- what it has found and written
record Found (l : Lent) (saved : SavedRun) (g : ℕ) (buffer : List ℕ) (n : ℕ) : Type 0 where
  sound : Calls.Sound
  soundly : sound_in l saved ≡ some sound
  fetched : T (is_in g sound.state.store.fetched)
  long : n ≡ length (published g sound.state.store)
  page : written_page l saved g buffer n ≡ published g sound.state.store

module _ (l : Lent) (saved : SavedRun) (g : ℕ) where
  tests-inv : (room : ℕ) (page : List ℕ) → publish_tests l saved g room ≡ passed page
      → (x : Calls.Sound) × (sound_in l saved ≡ some x) × T (is_in g x.state.store.fetched) × (published g x.state.store ≡ page)
  unfolding publish_tests publish_in
  tests-inv room page e =
      let last : Store → Result (List ℕ) = λ s. require ShortBuffer (leb (length (published g s)) room) >> passed (published g s) in
      let i₁ = require-after-inv WrongLength (both_tables_fit (lengths_of l)) (given Unsound (sound_in l saved) >>= λ x. publish_in g room x.state.store) e in
      let i₁₀ = given-bind-inv Unsound (sound_in l saved) (λ x. publish_in g room x.state.store) i₁.1 in
      let s = i₁₀.0.state.store in
      let i₂₂ = require-after-inv NotFetched (is_in g s.fetched) (last s) i₁₀.2 in
      let i₂₃ = require-after-inv ShortBuffer (leb (length (published g s)) room) (passed (published g s)) i₂₂.1 in
      (i₁₀.0, i₁₀.1, i₂₂.0, passed_is i₂₃.1)

  module _ (buffer : List ℕ) (n : ℕ) where
    written : (t : Result (List ℕ)) → publish_tests l saved g (length buffer) ≡ t → (publish_result buffer t).returned ≡ Ok n
        → (page : List ℕ) × (publish_tests l saved g (length buffer) ≡ passed page) × (n ≡ length page) × (take n (publish_result buffer t).page ≡ page)
    unfolding publish_result
    written (refused k) e a = absurd (let z : ◌≡◌ {A = ℕ} 0 1 = cc in omega arith)
    written (passed page) e a =
        let m : length page ≡ n = cc in
        (page, e, sym m, take_at page (drop (length page) buffer) n m)

    found : Publishes l saved g buffer n → Found l saved g buffer n
    unfolding publish_call
    found a =
        let w = written (publish_tests l saved g (length buffer)) refl a in
        let i = tests-inv (length buffer) w.0 w.1 in
        record { sound = i.0; soundly = i.1; fetched = i.2; long = w.2 ∙ ap length (sym i.3); page = w.3 ∙ sym i.3 }

  -- and one whose tests pass publishes
  publishes : (buffer : List ℕ) → T (both_tables_fit (lengths_of l)) → (x : Calls.Sound) → sound_in l saved ≡ some x → T (is_in g x.state.store.fetched)
      → length (published g x.state.store) ≤ length buffer → Publishes l saved g buffer (length (published g x.state.store))
  unfolding publish_call publish_tests publish_in publish_result
  publishes buffer fit x e f room =
      let page = published g x.state.store in
      let last = require ShortBuffer (leb (length page) (length buffer)) >> passed page in
      let p : publish_tests l saved g (length buffer) ≡ passed page =
      require-after WrongLength (both_tables_fit (lengths_of l)) (given Unsound (sound_in l saved) >>= λ x. publish_in g (length buffer) x.state.store) fit
      ∙ (given-bind Unsound (λ x. publish_in g (length buffer) x.state.store) e
      ∙ (require-after NotFetched (is_in g x.state.store.fetched) last f ∙ require-after ShortBuffer (leb (length page) (length buffer)) (passed page) (le→leb (length page) (length buffer) room))) in
      ap (λ t. (publish_result buffer t).returned) p

-- ── what a sound state is known to be ───────────────────────────────────────────────────────

module _ (l : Lent) (saved : SavedRun) (x : Calls.Sound) (e : sound_in l saved ≡ some x) where
  soundly : SoundIn l saved x
  soundly = sound-in l saved x e

  known : Facts x.checked x.state
  known = facts x.checked (is-accepted l saved x soundly) x.state soundly.sound

  valid : ValidIn x.state
  valid = valid-held x.checked l.term_table l.quad_table saved x.state soundly.holds

  store-sound : SoundStore x.checked.schema x.state.store
  store-sound = record { apart = known.terms_apart; valid = valid; order = known.quads_in_order; quads = known.quads }

-- ── the same triples taken in again ─────────────────────────────────────────────────────────

-- a term that is there does not join
stays : (t : Term) (terms : List Term) (i : ℕ) → get_elem? terms i ≡ some t → (numbered t terms).terms ≡ terms
stays t [] i e = absurd (some-not-none e refl)
stays t (x ∷ xs) zero e =
    by-numbered (λ l. l ≡ x ∷ xs) t x xs (λ h. refl) (λ h. absurd (T_not (same_term t x) h (subst (λ y. T (same_term t y)) (sym (some_is e)) (term-refl t))))
stays t (x ∷ xs) (suc i) e = by-numbered (λ l. l ≡ x ∷ xs) t x xs (λ h. refl) (λ h. ap (λ l. x ∷ l) (stays t xs i e))

iff-same : (a b : Bool) → (T a → T b) → (T b → T a) → a ≡ b
iff-same true true f h = refl
iff-same true false f h = absurd (f tt)
iff-same false true f h = absurd (h tt)
iff-same false false f h = refl

keep-none : {A : Type 0} (p : A → Bool) (xs : List A) → ((x : A) → x ∈ xs → T (not (p x))) → keep p xs ≡ []
keep-none p [] h = refl
keep-none p (x ∷ xs) h = rw (is_false (p x) (h x (Memᴰ.head refl))) (keep-none p xs (λ y m. h y (Memᴰ.tail m)))

not-not : (b : Bool) → T b → T (not (not b))
not-not true h = tt
not-not false h = h

stored-in : (q : Quad) (quads : List Quad) → T (stored q quads) → q ∈ quads
unfolding stored
stored-in q quads h = let w = some_at (same_quad q) quads h in subst⁻¹ (λ y. y ∈ quads) (same-quad q w.0 w.2) w.1

in-stored : (q : Quad) (quads : List Quad) → q ∈ quads → T (stored q quads)
unfolding stored
in-stored q quads m = some_of (same_quad q) quads q m (quad-refl q)

module _ (S : Schema) (g : ℕ) (s : State) (h : SoundStore S s.store) (f : T (is_in g s.store.fetched)) (ts : List Triple) (same : Same ts (triples_of g s.store)) where
  abbrev terms : List Term
  terms = s.store.terms

  abbrev start : Taken
  start = record { skipped = zero; terms = terms; quads = keep (not_of g) s.store.quads }

  abbrev end : Taken
  end = taken S g ts s.store

  -- a triple of the page has its terms in the table
  named : (r : Triple) → r ∈ ts → (q : Quad) × (q ∈ s.store.quads) × (q.graph ≡ g) × Names terms q r
  named r m = let w = triples-from g s.store r (same.0 r m) in (w.0, w.1, w.2, says-names terms w.0 r w.3)

  terms-kept : end.terms ≡ terms
  unfolding taken store
  terms-kept = take_all_lem S g (λ k. k.terms ≡ terms) ts step (λ k e. e) start refl
    where
      step : (r : Triple) (k : Taken) → r ∈ ts → T (well_typed S r) → k.terms ≡ terms → (store g r k).terms ≡ terms
      step r k m t e =
          let w = named r m in
          let q = w.0 in
          let n = w.3 in
          let a = ap (λ l. (numbered (Term.uri r.subject) l).terms) e ∙ stays (Term.uri r.subject) terms q.subject n.subject in
          let b = ap (λ l. (numbered (Term.uri r.property) l).terms) a ∙ stays (Term.uri r.property) terms q.property n.property in
          ap (λ l. (numbered r.object l).terms) b ∙ stays r.object terms q.object n.object

  order-kept : T (in_order end.quads)
  unfolding taken
  order-kept =
      take_all_lem S g (λ k. T (in_order k.quads)) ts (λ r k m t o. let x = stored_one g r k in rw x.is (with-quad-order x.quad k.quads o)) (λ k o. o) start
      (in-order-keep (not_of g) s.store.quads h.order)

  left : PageLeaves S g ts s (page_taken g end s)
  unfolding taken
  left = leaves S g ts s (subst⁻¹ (λ l. T (distinct same_term l)) terms-kept h.apart) order-kept

  none-skipped : end.skipped ≡ zero
  none-skipped = left.skipped ∙ ap length (keep-none (λ r. not (well_typed S r)) ts (λ r m. not-not (well_typed S r) (triples-typed S s.store h g r (same.0 r m))))

  own_same : (q : Quad) → q.graph ≡ g → stored q end.quads ≡ stored q s.store.quads
  unfolding with_page
  own_same q e = iff-same (stored q end.quads) (stored q s.store.quads) back there
    where
      back : T (stored q end.quads) → T (stored q s.store.quads)
      back m =
          let p = (left.graph q e).0 m in
          let w = named p.triple p.in_page in
          let n : Names terms q p.triple = subst (λ l. Names l q p.triple) terms-kept p.names in
          let one = names-tell terms h.apart q w.0 (e ∙ sym w.2) p.triple n w.3 in
          in-stored q s.store.quads (subst⁻¹ (λ y. y ∈ s.store.quads) one w.1)

      there : T (stored q s.store.quads) → T (stored q end.quads)
      there m =
          let i = stored-in q s.store.quads m in
          let y = says_at S s.store h q i in
          let r = y.triple in
          let in-page = same.1 r (triples-to g s.store r q i e (names-says terms q r y.names)) in
          (left.graph q e).1 (record { triple = r; in_page = in-page; typed = y.typed; names = subst⁻¹ (λ l. Names l q r) terms-kept y.names })

  quads-kept : end.quads ≡ s.store.quads
  unfolding with_page
  quads-kept = one-order end.quads s.store.quads order-kept h.order (λ q. ⊎_elim (λ t. own_same q (eqb→eq q.graph g t))
      (λ t. left.elsewhere q (λ e. T_not (eqb q.graph g) t (true_is (eqb q.graph g) (eq-eqb q.graph g e)))) (decide (eqb q.graph g)))

  fetched-kept : joined g s.store.fetched ≡ s.store.fetched
  unfolding joined
  fetched-kept = rw (is_true (is_in g s.store.fetched) f) refl

  store_kept : with_page g end s.store ≡ s.store
  unfolding with_page
  store_kept = λ i. record { terms = terms-kept i; quads = quads-kept i; fetched = fetched-kept i }

-- ── the page call ───────────────────────────────────────────────────────────────────────────

uri-graph : (S : Schema) (terms : List Term) (g : ℕ) → HoldsURI S terms g → T (is_graph (get_elem? terms g))
unfolding sort_of
uri-graph S terms g h = rw h.there (go h.term h.typed)
  where
    go : (t : Term) → T (has_type S t (plain Datatype.any_uri)) → T (is_uri t)
    go (Term.uri u) k = tt
    go (Term.string a b) k = k
    go (Term.integer n) k = k
    go (Term.decimal n) k = k
    go (Term.date_time n) k = k

listed : (P : ℕ → Type 0) (g : ℕ) (xs : List ℕ) → All P xs → T (is_in g xs) → P g
listed P g xs h m = let w = some_at (eqb g) xs m in subst⁻¹ P (eqb→eq g w.0 w.2) (all_in P xs h w.0 w.1)

module _ (l : Lent) (saved : SavedRun) (g : ℕ) (x : Calls.Sound) (e : sound_in l saved ≡ some x) (f : T (is_in g x.state.store.fetched))
    (fit : T (lengths_fit l)) (ranks : T (is_alphabet l.ranks)) (short : length (published g x.state.store) ≤ page_limit) where
  abbrev S : Schema
  S = x.checked.schema

  abbrev s : State
  s = x.state

  abbrev page : List ℕ
  page = published g s.store

  reads : (ts : List Triple) × (read_page page ≡ some ts) × Same ts (triples_of g s.store)
  reads = published-reads g s.store (triples-valid S s.store (store-sound l saved x e) g)

  abbrev k : Taken
  k = taken S g reads.0 s.store

  kept : with_page g k s.store ≡ s.store
  kept = store_kept S g s (store-sound l saved x e) f reads.0 reads.2

  page-read : Calls.page_in page ≡ some reads.0
  unfolding Calls.page_in
  page-read = provided-holds (leb (length page) page_limit) (le→leb (length page) page_limit short) reads.1

  takes : take_in x.checked g page s ≡ passed (page_taken g k s)
  unfolding take_in
  takes =
      let from14 : List Triple → Result PageTaken = λ rs.
      require NoRoom (in_limits (with_page g (taken S g rs s.store) s.store)) >> passed (page_taken g (taken S g rs s.store) s) in
      require-after NoGraph (is_graph (get_elem? s.store.terms g)) (given BadPage (Calls.page_in page) >>= from14)
      (uri-graph S s.store.terms g (listed (HoldsURI S s.store.terms) g s.store.fetched (known l saved x e).fetched f))
      ∙ (given-bind BadPage from14 page-read
      ∙ require-after NoRoom (in_limits (with_page g k s.store)) (passed (page_taken g k s)) (subst⁻¹ (λ z. T (in_limits z)) kept (known l saved x e).limits))

  abbrev after : State
  after = record { control = s.control; store = with_page g k s.store }

  called : page_call l saved g page ≡ record {
    returned = record { answer = Ok k.skipped; saved = saved_of (reported x.checked) after };
    term_table = term_table after.store.terms;
    quad_table = quad_table after.store.quads;
  }
  unfolding page_call page_tests page_result
  called =
      let made : Calls.Sound → PageTaken → Taking = λ y j. record { checked = y.checked; taken = j } in
      let rest : Calls.Sound → Result Taking = λ y. take_in y.checked g page y.state >>= λ j. passed (made y j) in
      ap (page_result l saved) (bind-passed rest (entry_of l saved fit ranks e) ∙ bind-passed (λ j. passed (made x j)) takes)

  as_it_was : TablesOfBytes l → AsItWas l saved (page_call l saved g page)
  unfolding saved_store filled
  as_it_was b =
      let h = soundly l saved x e in
      let st = (holding l saved x h).store in
      let fits = and_right (eqb (length l.ranks) ranks_width) (both_tables_fit (lengths_of l)) (unfold tables_fit in fit) in
      let wide = eqb→eq (length l.term_table) term_table_width (and_left (eqb (length l.term_table) term_table_width) (eqb (length l.quad_table) quad_table_width) fits) in
      let broad = eqb→eq (length l.quad_table) quad_table_width (and_right (eqb (length l.term_table) term_table_width) (eqb (length l.quad_table) quad_table_width) fits) in
      let fetched = s.store.fetched in
      rw called
      (record {
        skips = ap Ok (none-skipped S g s (store-sound l saved x e) f reads.0 reads.2);
        term_table = ap (λ (z : Store). term_table z.terms) kept ∙ sym (terms-held l saved x h b.terms wide);
        quad_table = ap (λ (z : Store). quad_table z.quads) kept ∙ sym (quads-held l saved x h b.quads broad);
        quads = ap (λ (z : Store). length z.quads) kept ∙ quads-in-count saved.store.quads l.quad_table s.store.quads st.quads;
        fetched = ap (λ (z : Store). take (length z.fetched) (filled graph_limit z.fetched)) kept
            ∙ (take_at fetched (replicate (graph_limit - length fetched) 0) (length fetched) refl ∙ sym st.fetched);
      })

-- ── the theorem ─────────────────────────────────────────────────────────────────────────────

taken-again : TakenAgain
taken-again l saved g buffer n a small fit ranks b =
    let w = found l saved g buffer n a in
    let x = w.sound in
    subst⁻¹ (λ p. AsItWas l saved (page_call l saved g p)) w.page (as_it_was l saved g x w.soundly w.fetched fit ranks (omega (arith, w.long)) b)

same_bytes_lem : SameBytes
same_bytes_lem l m saved other g h buffer room n k a b x y ex ey same =
    let v = found l saved g buffer n a in
    let w = found m other h room k b in
    let p = same_some v.soundly ex in
    let q = same_some w.soundly ey in
    v.page
    ∙ (ap (λ (z : Calls.Sound). published g z.state.store) p
    ∙ (same-published x.state.store y.state.store g h ((λ r i. (same r).0 i), (λ r i. (same r).1 i))
    ∙ (ap (λ (z : Calls.Sound). published h z.state.store) (sym q) ∙ sym w.page)))

says-triples : SaysTriples
says-triples l saved g buffer n a x ex =
    let v = found l saved g buffer n a in
    let p = same_some v.soundly ex in
    let r = published-reads g x.state.store (triples-valid x.checked.schema x.state.store (store-sound l saved x ex) g) in
    (r.0, ap read_page (v.page ∙ ap (λ (z : Calls.Sound). published g z.state.store) p) ∙ r.1, λ t. (r.2.0 t, r.2.1 t))

page-reads : (page : List ℕ) (ts : List Triple) → Calls.page_in page ≡ some ts → read_page page ≡ some ts
unfolding Calls.page_in
page-reads page ts e = (provided-inv (leb (length page) page_limit) (read_page page) e).1

module _ (l : Lent) (saved : SavedRun) (g : ℕ) (page : List ℕ) where
  fits_after : (t : Result Taking) → page_tests l saved g page ≡ t → (skipped : ℕ) → (page_result l saved t).returned.answer ≡ Ok skipped
      → (buffer : List ℕ) → length page ≤ length buffer
      → let r = page_result l saved t in (n : ℕ) × Publishes (lent_after l r) r.returned.saved g buffer n × (n ≤ length page)
  unfolding page_result
  fits_after (refused j) e skipped a buffer room = absurd (let z : ◌≡◌ {A = ℕ} 0 1 = cc in omega arith)
  fits_after (passed y) e skipped a buffer room =
      let p = taking-passed l saved g page y e in
      let c = y.checked in
      let s = p.state in
      let after = y.taken.state in
      let accepted = is-accepted l saved (record { checked = c; state = s }) p.sound in
      let read = page-passed c g s page y.taken p.is_taken in
      let sound = page-sound c accepted g page s y.taken p.sound.sound p.is_taken in
      let good = page-keeps-valid c g page s y.taken p.is_taken (valid-held c l.term_table l.quad_table saved s p.sound.holds) in
      let left = page-leaves c accepted g page s y.taken p.sound.sound p.is_taken read.triples read.read in
      let lent = lent_after l (page_result l saved (passed y)) in
      let x : Calls.Sound = record { checked = c; state = after } in
      let again : sound_in lent (saved_of (reported c) after) ≡ some x = sound-again l c p.sound.loads after sound good in
      let fit = and_right (eqb (length l.ranks) ranks_width) (both_tables_fit (lengths_of lent)) (unfold tables_fit in lengths-again l c p.sound.loads after sound good p.lengths) in
      let listed = (left.fetched g).1 (inl refl) in
      let own : (r : Triple) → r ∈ triples_of g after.store → r ∈ read.triples = λ r m.
      let w = triples-from g after.store r m in
      let q = (left.graph w.0 w.2).0 (in-stored w.0 after.store.quads w.1) in
      let same : q.triple ≡ r = some_is (sym (names-says after.store.terms w.0 q.triple q.names) ∙ w.3) in
      subst (λ t. t ∈ read.triples) same q.in_page in
      let long = page-length page read.triples (page-reads page read.triples read.read) in
      let small : length (published g after.store) ≤ length page = omega (arith, published-fits g after.store read.triples own, long) in
      (length (published g after.store), publishes lent (saved_of (reported c) after) g buffer fit x again listed (omega arith), small)

always-fits : AlwaysFits
unfolding page_call
always-fits l saved g page skipped a buffer room = fits_after l saved g page (page_tests l saved g page) refl skipped a buffer room

pub publishing : Publishing
publishing = record { says = says-triples; again = taken-again; fits = always-fits; same = same_bytes_lem }
