-- A page that has passed refusals 1 to 13, taken in: what the machine's part is lent, and what its result means for the call.
use Rattle.std.specs.Prelude.{Ok, Err}
use Rattle.definitions.specs.declared.Refusal.{Refusal}
use Rattle.definitions.specs.declared.Refusal.TheVariants.{NoRoom}
use Rattle.definitions.specs.Result.{OrRefusal}
use Prim.Native.Nat.{ℕ, ◌-◌, ◌≤◌, ◌<◌}
use native.Mathlib.Omega.{arith}
use mathlib.Core.Path.{◌≡◌, refl, sym, ap, subst, ◌∙◌}
use mathlib.Core.List.{List}
use mathlib.Core.Bool.{Bool, true, false, cond, ◌&&◌}
use mathlib.Core.Option.{Option, none, some}
use lib.Dec.{leb, leb→le}
use lib.ListN.{length, get_elem?, replicate}
use lib.Seq.{take_at}
use Rattle.definitions.specs.Limits.{term_limit, quad_limit, graph_limit, depth_limit, variable_limit, page_limit, term_table_width, quad_table_width}
use Rattle.definitions.specs.Bytes.{filled}
use Rattle.definitions.specs.Terms.{Term, read_schema, read_page}
use Rattle.laws.proofs.SoundMeans.{facts}
use Rattle.definitions.specs.Machine.{State, Store, Taken, taken, with_page, in_limits, joined, in_order}
use Rattle.definitions.specs.Saved.{saved_control, saved_store, term_table, quad_table}
use Rattle.definitions.specs.Calls.{Checked, reported, Lent, lengths_of, lengths_fit, is_graph, page_in, page_result, page_call}
use Rattle.definitions.specs.Result as Results
use Rattle.definitions.specs.declared.SavedControl.{SavedControl}
use Rattle.definitions.specs.declared.SavedStore.{SavedStore}
use Rattle.definitions.specs.declared.SavedRun.{SavedRun}
use Rattle.definitions.specs.declared.Paged.{Paged}
use Rattle.laws.proofs.Tests.{is_true, true_is, and_right}
use Rattle.laws.proofs.Bytes.{AreBytes}
use Rattle.laws.proofs.Bindings.{is_below}
use Rattle.laws.proofs.Options.{provided-inv}
use Rattle.laws.specs.Quads.{place_limit}
use Rattle.laws.specs.Sound.{Accepted}
use Rattle.laws.proofs.SoundIn.{SoundIn, entry-inv, terms-held, valid-held, quads-held}
use Rattle.laws.proofs.Saved.{terms-few, quads-few, graphs-few, quads-small}
use Rattle.store.specs.Graphs.{graph_fits, paged}
use Rattle.store.specs.Canonical.{canonical_control, canonical_store}
use Rattle.pages.specs.declared.AfterPage.{AfterPage}
use Rattle.pages.specs.Page.{PageReads, Reads}
use Rattle.pages.specs.Taking.{HeldStore, HeldTables, PageDone, taken_page, refused_page as not_taken}
use Rattle.pages.proofs.DoneLaws.{no_room}
use Rattle.store.proofs.GraphLaws.{saved-paged}
use Rattle.paging.specs.Refused.{handed_back}
use Rattle.lengths.specs.Lent.{lent_of}
use Rattle.paging.specs.Passed.{Passed}
use Rattle.lengths.proofs.TableLaws.{fit-both}
use Rattle.entry.proofs.PassedLaws.{passed-10, accepted, loads, stack-low, graphs-low, control-saved, store-saved}
use Rattle.paging.proofs.PageLaws.{refused-14, taken_in}

a-term : (o : Option Term) → is_graph o ≡ true → (t : Term) × (o ≡ some t)
a-term none e = absurd (let z : ◌≡◌ {A = ℕ} 0 1 = cc in omega arith)
a-term (some t) e = (t, refl)

taken_refused : {m : ℕ} {n : Refusal} → ◌≡◌ {A = OrRefusal ℕ} (Ok m) (Err n) → ⊥
taken_refused e = let z : ◌≡◌ {A = ℕ} 0 1 = cc in omega arith

same-refusal : {m n : Refusal} → ◌≡◌ {A = OrRefusal ℕ} (Err m) (Err n) → m ≡ n
same-refusal e = cc

over-limits : (g : ℕ) (k : Taken) (σ : Store) → in_limits (with_page g k σ) ≡ true → graph_limit < length (joined g σ.fetched) → ⊥
unfolding in_limits with_page
over-limits g k σ e h =
    let terms = leb (length k.terms) term_limit in
    let quads = leb (length k.quads) quad_limit in
    let graphs = leb (length (joined g σ.fetched)) graph_limit in
    let last = and_right quads graphs (and_right terms (quads && graphs) (true_is (terms && (quads && graphs)) e)) in
    omega (arith, leb→le (length (joined g σ.fetched)) graph_limit last)

module _ (ranks terms schema script table store : List ℕ) (saved : SavedRun) (n : ℕ) (entries : List ℕ) (g : ℕ) (page : List ℕ)
    (p : Passed (lent_of ranks terms schema script table store) saved n entries g page) where
  abbrev l : Lent
  l = lent_of ranks terms schema script table store

  abbrev c : Checked
  c = p.found.checked

  abbrev s : State
  s = p.found.state

  abbrev k : Taken
  k = taken c.schema g p.triples s.store

  passed : SoundIn l saved p.found
  passed = passed-10 ranks terms schema script table store saved p.found p.entered

  accepts : Accepted c
  accepts = accepted ranks terms schema script table store saved p.found p.entered

  -- ── what the machine's part asks for ──────────────────────────────────────────────────────

  pub run-low : (saved.control.height ≤ depth_limit) × (saved.store.graphs ≤ graph_limit)
  run-low = (stack-low ranks terms schema script table store saved p.found p.entered, graphs-low ranks terms schema script table store saved p.found p.entered)

  pub graph-small : g < place_limit
  graph-small =
      let t = a-term (get_elem? s.store.terms g) p.is_uri in
      omega (arith, is_below s.store.terms g t.0 t.1, terms-few c accepts s passed.sound)

  pub page-is : read_page page ≡ some p.triples
  unfolding page_in
  page-is = (provided-inv (leb (length page) page_limit) (read_page page) p.reads).1

  pub page-read : PageReads page
  page-read = (p.triples, page-is)

  pub page-fits : length page ≤ page_limit
  unfolding page_in
  page-fits = leb→le (length page) page_limit (provided-inv (leb (length page) page_limit) (read_page page) p.reads).0

  pub schema-is : read_schema schema ≡ some c.schema
  schema-is = (loads ranks terms schema script table store saved p.found p.entered).reads.entries

  pub schema-read : Reads schema entries
  schema-read = (c.schema, schema-is, p.hashed)

  fit : (length table ≡ term_table_width) × (length store ≡ quad_table_width)
  fit = fit-both (lengths_of l) refl (is_true (lengths_fit l) (entry-inv l saved p.entered).0)

  -- ── the store that is held, with the saved store without what means nothing ───────────────

  module _ (term_bytes : AreBytes table) (quad_bytes : AreBytes store) (places : length saved.store.fetched ≡ graph_limit) (kept : SavedStore)
      (e : kept ≡ canonical_store saved.store) where
    is : kept ≡ saved_store s.store
    is = store-saved ranks terms schema script table store saved p.found p.entered places e

    held-as-saved : HeldStore table store n (saved_store s.store) s.store
    unfolding saved_store filled
    held-as-saved =
        record {
          terms = record {
            is = terms-held l saved p.found passed term_bytes fit.0;
            valid = valid-held l saved p.found passed term_bytes fit.0;
            count = sym p.count;
            few = omega (arith, p.count, terms-few c accepts s passed.sound);
          };
          quads = record {
            is = quads-held l saved p.found passed quad_bytes fit.1;
            small = quads-small c accepts s passed.sound;
            order = is_true (in_order s.store.quads) (facts c accepts s passed.sound).quads_in_order;
            count = refl;
            few = quads-few c accepts s passed.sound;
          };
          fetched = take_at s.store.fetched (replicate (graph_limit - length s.store.fetched) 0) (length s.store.fetched) refl;
          count = refl;
          graphs = graphs-few c accepts s passed.sound;
        }

    pub held-store : HeldStore table store n kept s.store
    held-store = subst (λ (r : SavedStore). HeldStore table store n r s.store) (sym is) held-as-saved

    pub held-tables : HeldTables table store n kept
    held-tables = (s.store, held-store)

    -- where the limits are kept, the graph fits in the list
    fitting : in_limits (with_page g k s.store) ≡ true → graph_fits (saved_store s.store) g ≡ true
    fitting f = go (graph_fits (saved_store s.store) g) refl
      where
        go : (b : Bool) → graph_fits (saved_store s.store) g ≡ b → b ≡ true
        go true h = refl
        go false h = absurd (over-limits g k s.store f (no_room table store n (saved_store s.store) s.store held-as-saved g h))

    -- ── its result ──────────────────────────────────────────────────────────────────────────

    module _ (r : AfterPage) (table₁ store₁ : List ℕ) (done : PageDone c.schema g p.triples s.store kept table store r table₁ store₁) where
      abbrev fits : Bool
      fits = in_limits (with_page g k s.store)

      by-limits : (b : Bool) → fits ≡ b
          → (r ≡ cond b (taken_page kept g k) (not_taken kept)) × (table₁ ≡ cond b (term_table k.terms) table) × (store₁ ≡ cond b (quad_table k.quads) store)
      by-limits b f = (
        done.answer ∙ ap (λ (b : Bool). cond b (taken_page kept g k) (not_taken kept)) f,
        done.term_bytes ∙ ap (λ (b : Bool). cond b (term_table k.terms) table) f,
        done.quad_bytes ∙ ap (λ (b : Bool). cond b (quad_table k.quads) store) f,
      )

      -- 14
      pub not_taken_lem : {m : Refusal} → r.answer ≡ Err m → {r' : OrRefusal Paged} → r' ≡ Err m
          → page_call l saved g page ≡ record { returned = handed_back saved r'; term_table = table₁; quad_table = store₁ }
      not_taken_lem {m} h {r'} e = go fits refl
        where
          go : (b : Bool) → fits ≡ b → page_call l saved g page ≡ record { returned = handed_back saved r'; term_table = table₁; quad_table = store₁ }
          go true f = absurd (taken_refused (sym (ap (λ (r : AfterPage). r.answer) (by-limits true f).0) ∙ h))
          go false f =
              let same : r' ≡ Err NoRoom = e ∙ ap Err (same-refusal (sym h ∙ ap (λ (r : AfterPage). r.answer) (by-limits false f).0)) in
              refused-14 l saved g page p.found p.entered p.is_uri p.triples p.reads f
              ∙ (λ i. record { returned = handed_back saved (sym same i); term_table = sym (by-limits false f).1 i; quad_table = sym (by-limits false f).2 i })

      pub now-taken : length saved.control.bound ≡ variable_limit → length saved.control.items ≡ depth_limit
          → (clean : SavedControl) → clean ≡ canonical_control script saved.control → {m : ℕ} → r.answer ≡ Ok m
          → page_call l saved g page
          ≡ record { returned = record { answer = Ok m; saved = record { control = clean; store = r.store } }; term_table = table₁; quad_table = store₁ }
      unfolding page_result Results.◌>>=◌ with_page
      now-taken sixteen levels clean ec {m} h = go fits refl
        where
          go : (b : Bool) → fits ≡ b → page_call l saved g page
              ≡ record { returned = record { answer = Ok m; saved = record { control = clean; store = r.store } }; term_table = table₁; quad_table = store₁ }
          go false f = absurd (taken_refused (sym h ∙ ap (λ (r : AfterPage). r.answer) (by-limits false f).0))
          go true f =
              let b = by-limits true f in
              let control : clean ≡ saved_control (reported c) s.control = control-saved ranks terms schema script table store saved p.found p.entered ec sixteen levels in
              let stored : r.store ≡ saved_store (with_page g k s.store) =
              ap (λ (r : AfterPage). r.store) b.0
              ∙ (ap (λ (t : SavedStore). paged t g (length k.quads)) is ∙ saved-paged s.store g k (graphs-few c accepts s passed.sound) (fitting f)) in
              let told = ap (λ (r : AfterPage). r.answer) (sym b.0) ∙ h in
              taken_in l saved g page p.found p.entered p.is_uri p.triples p.reads f
              ∙ (λ i. record {
                returned = record { answer = told i; saved = record { control = sym control i; store = sym stored i } };
                term_table = sym b.1 i;
                quad_table = sym b.2 i;
              })
