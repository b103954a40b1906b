-- The publish call, refusal by refusal, and its result where nothing is refused.
use Rattle.definitions.specs.declared.Refusal.TheVariants.{WrongLength, NoGreatest, Unsound, NotFetched, ShortBuffer}
use Rattle.std.specs.Prelude.{Err}
use Rattle.definitions.specs.declared.Refusal.{Refusal}
use Prim.Native.Nat.{ℕ, zero, ◌+◌, ◌-◌, ◌*◌, ◌≤◌, ◌<◌}
use native.Mathlib.Omega.{arith}
use mathlib.Core.Path.{◌≡◌, refl, sym, ap, ◌∙◌}
use mathlib.Core.List.{List, map}
use mathlib.Core.Bool.{Bool, true, false, ◌&&◌}
use mathlib.Core.Option.{some}
use borrow.Author.Tests.{lt-ltb, ltb-true}
use lib.Dec.{eqb, eqb→eq, ltb, leb, leb→le}
use lib.ListN.{length, take, drop, length-take}
use Rattle.definitions.specs.Limits.{term_limit, quad_limit, graph_limit, term_table_width}
use Rattle.definitions.specs.Lists.{keep, is_in}
use Rattle.definitions.specs.Bytes.{part}
use Rattle.definitions.specs.Terms.{Schema}
use Rattle.definitions.specs.Machine.{Store, of_graph}
use Rattle.definitions.specs.Publish.{published}
use Rattle.definitions.specs.Saved.{terms_in}
use Rattle.definitions.specs.Result.{Result, refused, passed, ◌>>=◌, ◌>>◌, require, given}
use Rattle.definitions.specs.Calls as Calls
use Rattle.definitions.specs.Calls.{Lent, lengths_of, both_tables_fit, sound_in, publish_in, publish_tests, PublishResult, publish_result, publish_call}
use Rattle.definitions.specs.declared.SavedRun.{SavedRun}
use Rattle.laws.specs.Bindings.{HoldsURI}
use Rattle.laws.proofs.Tests.{and_left, and_false, is_true, true_is}
use Rattle.laws.proofs.Results.{require-after, require-refused, bind-refused, bind-passed, given-inv}
use Rattle.laws.proofs.Bindings.{is_below}
use Rattle.laws.proofs.Lists.{some_at}
use Rattle.laws.proofs.Bytes.{AreBytes}
use Rattle.laws.proofs.SoundMeans.{Facts, facts}
use Rattle.laws.proofs.Saved.{quads-in-count, quads-few}
use Rattle.laws.proofs.SoundIn.{SoundIn, sound-in, is-accepted, holding, valid-held}
use Rattle.keys.specs.Keys.{graph_weight, quad_of, rows_from, Splits}
use Rattle.triples.proofs.Graphs.{SoundStore, all_in}
use Rattle.record_order.specs.Records.{keys_in}
use Rattle.page_writing.specs.Page.{sorted_page, fitted}
use Rattle.query.proofs.TermLaws.{few}
use Rattle.page_writing.proofs.StoreLaws.{keys_in_lem, page-is, stretch, rows-part}
use Rattle.entry.specs.declared.Entered.{Entered}
use Rattle.lengths.specs.Lent.{lent_of}
use Rattle.lengths.proofs.TableLaws.{both-fit}
use Rattle.entry.specs.Entry.{Found}

-- ── refusals ────────────────────────────────────────────────────────────────────────────────

module _ (l : Lent) (saved : SavedRun) (g : ℕ) (buffer : List ℕ) where
  -- the buffer as it was
  abbrev keeping : Refusal → PublishResult
  keeping n = record { returned = Err n; page = buffer }

  -- what comes after the lengths, and after soundness
  abbrev go_on : Calls.Sound → Result (List ℕ)
  go_on x = publish_in g (length buffer) x.state.store

  abbrev after_lengths : Result (List ℕ)
  after_lengths = given Unsound (sound_in l saved) >>= go_on

  pub wrong-length : both_tables_fit (lengths_of l) ≡ false → publish_call l saved g buffer ≡ keeping WrongLength
  unfolding publish_call publish_tests publish_result
  wrong-length e = ap (publish_result buffer) (require-refused WrongLength after_lengths e)

  module _ (fit : both_tables_fit (lengths_of l) ≡ true) where
    sized : publish_tests l saved g (length buffer) ≡ after_lengths
    unfolding publish_tests
    sized = require-after WrongLength (both_tables_fit (lengths_of l)) after_lengths (true_is (both_tables_fit (lengths_of l)) fit)

    pub not_sound : {n : Refusal} → given Unsound (sound_in l saved) ≡ refused n → publish_call l saved g buffer ≡ keeping n
    unfolding publish_call publish_result
    not_sound e = ap (publish_result buffer) (sized ∙ bind-refused go_on e)

    module _ (x : Calls.Sound) (e : given Unsound (sound_in l saved) ≡ passed x) where
      abbrev s : Store
      s = x.state.store

      goes_on : publish_call l saved g buffer ≡ publish_result buffer (go_on x)
      unfolding publish_call
      goes_on = ap (publish_result buffer) (sized ∙ bind-passed go_on e)

      pub not-fetched : is_in g s.fetched ≡ false → publish_call l saved g buffer ≡ keeping NotFetched
      unfolding publish_in publish_result
      not-fetched h = goes_on ∙ ap (publish_result buffer) (require-refused NotFetched (require ShortBuffer (leb (length (published g s)) (length buffer)) >> passed (published g s)) h)

      pub of-page : is_in g s.fetched ≡ true → {page : List ℕ} → page ≡ published g s → publish_call l saved g buffer ≡ publish_result buffer (fitted page (length buffer))
      unfolding publish_in fitted
      of-page h {page} p =
          goes_on
          ∙ (ap (publish_result buffer) (require-after NotFetched (is_in g s.fetched) (require ShortBuffer (leb (length (published g s)) (length buffer)) >> passed (published g s)) (true_is (is_in g s.fetched) h))
          ∙ ap (λ p. publish_result buffer (require ShortBuffer (leb (length p) (length buffer)) >> passed p)) (sym p))

-- it is lent no ranks
pub ranks-unread : (ranks other terms schema script table store : List ℕ) (saved : SavedRun) (g : ℕ) (buffer : List ℕ)
    → publish_call (lent_of ranks terms schema script table store) saved g buffer ≡ publish_call (lent_of other terms schema script table store) saved g buffer
unfolding publish_call publish_tests sound_in
ranks-unread ranks other terms schema script table store saved g buffer = refl

-- a number that passed is below the count
pub below-count : (g count : ℕ) (b : Bool) {r : Bool} → r ≡ (ltb g count && b) → r ≡ true → g < count
below-count g count b e h = ltb-true g count (is_true (ltb g count) (and_left (ltb g count) b (true_is (ltb g count && b) (sym e ∙ h))))

-- ── what soundness says ─────────────────────────────────────────────────────────────────────

-- what is known where 1 and 10 have passed
pub record Passed (l : Lent) (saved : SavedRun) (r : Entered) (rows leasts : List ℕ) : Type 0 where
  pub fits : both_tables_fit (lengths_of l) ≡ true
  pub bytes : AreBytes l.term_table
  pub found : Calls.Sound
  pub passes : given Unsound (sound_in l saved) ≡ passed found
  pub finds : Found l saved rows leasts found r

pub has-passed : (l : Lent) (saved : SavedRun) {r : Entered} {rows leasts : List ℕ} → both_tables_fit (lengths_of l) ≡ true → AreBytes l.term_table
    → (x : Calls.Sound) × (given Unsound (sound_in l saved) ≡ passed x) × Found l saved rows leasts x r → Passed l saved r rows leasts
has-passed l saved fit bytes x = record { fits = fit; bytes = bytes; found = x.0; passes = x.1; finds = x.2 }

-- the graph's keys, as bisection finds them: their page is the graph's
pub record Stretch (table rows : List ℕ) (g low high : ℕ) (s : Store) : Type 0 where
  pub ordered : low ≤ high
  pub within : high ≤ length rows
  pub few : length (part rows low (high - low)) ≤ quad_limit
  pub inside : keys_in table (part rows low (high - low)) ≡ true
  pub page : sorted_page table (part rows low (high - low)) ≡ published g s

module _ {l : Lent} {saved : SavedRun} {r : Entered} {rows leasts : List ℕ} (w : Passed l saved r rows leasts) where
  abbrev x : Calls.Sound
  x = w.found

  abbrev S : Schema
  S = x.checked.schema

  abbrev kept : Store
  kept = x.state.store

  soundly : SoundIn l saved x
  soundly = sound-in l saved x (given-inv Unsound (sound_in l saved) w.passes)

  known : Facts x.checked x.state
  known = facts x.checked (is-accepted l saved x soundly) x.state soundly.sound

  pub graphs-few : saved.store.graphs ≤ graph_limit
  graphs-few = leb→le saved.store.graphs graph_limit (holding l saved x soundly).store.graphs

  pub terms-few : r.count ≤ term_limit
  terms-few = few _ _ _ (w.finds.lent 0).tabled

  -- a fetched graph is a term in use
  pub listed-is : (g : ℕ) {b : Bool} → b ≡ (ltb g r.count && is_in g (take saved.store.graphs saved.store.fetched)) → b ≡ is_in g kept.fetched
  listed-is g h = h ∙ (ap (λ l. ltb g r.count && is_in g l) (holding l saved x soundly).store.fetched ∙ go (is_in g kept.fetched) refl)
    where
      go : (b : Bool) → is_in g kept.fetched ≡ b → (ltb g r.count && b) ≡ b
      go true i =
          let m = some_at (eqb g) kept.fetched (true_is (is_in g kept.fetched) i) in
          let u = all_in (HoldsURI S kept.terms) kept.fetched known.fetched m.0 m.1 in
          let b = is_below kept.terms m.0 u.term u.there in
          let n = eqb→eq g m.0 m.2 in
          ap (λ b. b && true) (lt-ltb g r.count (omega (arith, (w.finds.lent 0).tabled.counted, b, n)))
      go false i = and_false (ltb g r.count)

  wide : length l.term_table ≡ term_table_width
  wide = (both-fit (lengths_of l) (true_is (both_tables_fit (lengths_of l)) w.fits)).0

  store-sound : SoundStore S kept
  store-sound = record { apart = known.terms_apart; valid = valid-held l saved x soundly w.bytes wide; order = known.quads_in_order; quads = known.quads }

  module _ (g : ℕ) {low high : ℕ} (a : Splits rows saved.store.quads (g * graph_weight) low) (b : Splits rows saved.store.quads (g * graph_weight + (graph_weight - 1) + 1) high) where
    abbrev n : ℕ
    n = saved.store.quads

    abbrev own : List ℕ
    own = part rows low (high - low)

    cut : (low ≤ high) × (high ≤ n) × (keep (of_graph g) (rows_from n rows 0) ≡ rows_from (high - low) rows low)
    cut = stretch g rows n low high a b

    room : n ≤ length rows
    room = (w.finds.lent 0).stored.room

    own-are : map quad_of own ≡ keep (of_graph g) kept.quads
    own-are =
        sym (rows-part g rows (high - low) low (omega (arith, cut.0, cut.1, room))) ∙ (sym cut.2 ∙ ap (keep (of_graph g)) (w.finds.lent 0).quads_are)

    terms-read : terms_in l.term_table ≡ some kept.terms
    terms-read = (holding l saved x soundly).store.terms

    pub graph-stretch : Stretch l.term_table rows g low high kept
    graph-stretch =
        record {
          ordered = cut.0;
          within = omega (arith, cut.1, room);
          few =
              omega (
                arith,
                length-take (high - low) (drop low rows),
                cut.1,
                quads-in-count n l.quad_table kept.quads (holding l saved x soundly).store.quads,
                quads-few x.checked (is-accepted l saved x soundly) x.state soundly.sound,
              );
          inside = keys_in_lem l.term_table w.bytes wide kept.terms terms-read S kept store-sound refl g own own-are;
          page = page-is l.term_table w.bytes wide kept.terms terms-read S kept store-sound refl g own own-are;
        }
