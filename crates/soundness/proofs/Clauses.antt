-- The tests together are the clauses of the definition.
use Prim.Native.Nat.{ℕ, ◌*◌, ◌≤◌, ◌<◌}
use native.Mathlib.Omega.{arith}
use mathlib.Core.Path.{◌≡◌, refl, sym, ap, ◌∙◌}
use mathlib.Core.List.{List}
use mathlib.Core.Bool.{Bool, true, false, not, ◌&&◌, and_assoc, and_comm}
use mathlib.Core.Option.{some}
use lib.Dec.{T, eqb, leb, leb→le}
use lib.ListN.{length, take, drop, length-take}
use borrow.Author.Tests.{not-true, not-false, le-leb, lt-leb}
use Rattle.definitions.specs.Limits.{quad_width, term_limit, quad_limit, graph_limit}
use Rattle.definitions.specs.Lists.{every, distinct}
use Rattle.definitions.specs.Bytes.{all_zero, provided, onward}
use Rattle.definitions.specs.Terms.{Term, Schema, same_term}
use Rattle.definitions.specs.Evaluate.{Quad}
use Rattle.definitions.specs.Machine.{Store, in_limits, in_order}
use Rattle.definitions.specs.Saved.{terms_in, quads_from, quads_in, held_store}
use Rattle.definitions.specs.Sound.{begins_with, quad_sound, is_uri_number, store_sound}
use Rattle.definitions.specs.declared.SavedStore.{SavedStore}
use Rattle.laws.proofs.Tests.{and_left}
use Rattle.laws.proofs.Options.{some_is}
use Rattle.laws.proofs.SlotAt.{terms-few}
use Rattle.laws.specs.ReadAnswers.{is_some, passes}
use Rattle.laws.specs.Sorts.{LeastOf}
use Rattle.laws.proofs.Saved.{quads-from-count}
use Rattle.fields.specs.Answers.{distinct_in}
use Rattle.table.specs.Table.{HoldsTerms}
use Rattle.laws.proofs.ReadAnswers.{provided-is}
use Rattle.table.proofs.TableLaws.{terms, terms-length}
use Rattle.keys.specs.Keys.{rows_from}
use Rattle.soundness.specs.Store.{begins_in, terms_sound, quads_test, store_test}
use Rattle.sound_quads.specs.TermNumbers.{uri_number, quad_numbers}
use Rattle.sound_quads.proofs.TermTests.{uri-number, quad-numbers, every-same}

-- ── quads and graphs, one test after another ────────────────────────────────────────────────

module _ (table : List ℕ) (n : ℕ) (fetched leasts : List ℕ) (count : ℕ) {a : Bool} (ea : a ≡ is_some (quads_in n table)) where
  pub not-held : not a ≡ true → false ≡ quads_test table n fetched leasts count
  unfolding quads_test
  not-held t = rw (sym ea ∙ not-true a t)

  module _ (ta : not a ≡ false) where
    module _ {b : Bool} (eb : b ≡ distinct eqb fetched && every (uri_number leasts count) fetched) where
      pub bad-graphs : not b ≡ true → false ≡ quads_test table n fetched leasts count
      unfolding quads_test
      bad-graphs t = rw (sym ea ∙ not-false a ta, sym eb ∙ not-true b t)

      module _ (tb : not b ≡ false) (rows : List ℕ) (er : rows_from n rows 0 ≡ quads_from n table 0) {c : Bool} (ec : c ≡ in_order (rows_from n rows 0)) where
        pub quads-out : not c ≡ true → false ≡ quads_test table n fetched leasts count
        unfolding quads_test
        quads-out t = rw (sym ea ∙ not-false a ta, sym eb ∙ not-false b tb, ← er, sym ec ∙ not-true c t)

        pub quads-all : not c ≡ false → {r : Bool} → r ≡ every (quad_numbers leasts count fetched) (rows_from n rows 0) → r ≡ quads_test table n fetched leasts count
        unfolding quads_test
        quads-all t e = e ∙ rw (sym ea ∙ not-false a ta, sym eb ∙ not-false b tb, ← er, sym ec ∙ not-false c t)

-- ── the fetched list's limit ────────────────────────────────────────────────────────────────

module _ (table : List ℕ) (saved : SavedStore) (leasts : List ℕ) (count : ℕ) where
  pub many-graphs : graph_limit < saved.graphs → false ≡ store_test table saved leasts count
  unfolding store_test
  many-graphs h = rw (lt-leb saved.graphs graph_limit h)

  pub few-graphs : saved.graphs ≤ graph_limit → {r : Bool} → r ≡ quads_test table saved.quads (take saved.graphs saved.fetched) leasts count
      → r ≡ store_test table saved leasts count
  unfolding store_test
  few-graphs h e = e ∙ rw (le-leb saved.graphs graph_limit h)

-- ── all clauses ─────────────────────────────────────────────────────────────────────────────

and-false : (x : Bool) → x && false ≡ false
and-false true = refl
and-false false = refl

and-true : (x : Bool) → x ≡ x && true
and-true true = refl
and-true false = refl

-- begin and different terms; graphs; URIs; quads
in_order_lem : (b d f u q s : Bool) → (b && d) && ((f && u) && (q && s)) ≡ d && (b && (q && (s && (f && (u && true)))))
in_order_lem b d f u q s =
    ap (λ (x : Bool). x && ((f && u) && (q && s))) (and_comm b d)
    ∙ and_assoc d b ((f && u) && (q && s))
    ∙ ap (λ (x : Bool). d && (b && x))
    (and_comm (f && u) (q && s) ∙ and_assoc q s (f && u) ∙ ap (λ (x : Bool). q && (s && (f && x))) (and-true u))

-- with the limits, which hold where there are quads and few graphs
in_all : (h g b d f u q s l : Bool) → (T h → T g → l ≡ true)
    → (b && d) && (g && (h && ((f && u) && (q && s)))) ≡ h && (g && (d && (b && (q && (s && (f && (u && l)))))))
in_all true true b d f u q s l e = in_order_lem b d f u q s ∙ ap (λ (x : Bool). d && (b && (q && (s && (f && (u && x)))))) (sym (e tt tt))
in_all true false b d f u q s l e = and-false (b && d)
in_all false true b d f u q s l e = and-false (b && d)
in_all false false b d f u q s l e = and-false (b && d)

passes-provided : {A : Type 0} (p : A → Bool) (b : Bool) (a : A) → passes p (provided b (some a)) ≡ b && p a
unfolding passes provided
passes-provided p true a = refl
passes-provided p false a = refl

passes-both : {A B : Type 0} (p : B → Bool) (b c : Bool) (a : A) (f : A → B)
    → passes p (onward (provided b (some a)) (λ a. provided c (some (f a)))) ≡ b && (c && p (f a))
unfolding provided onward passes
passes-both p true c a f = passes-provided p c (f a)
passes-both p false c a f = refl

module _ (loading tt qt : List ℕ) (count : ℕ) (ht : HoldsTerms tt count) (saved : SavedStore) (leasts : List ℕ) where
  module _ (S : Schema) (ks ts : List Term) (ek : terms_in loading ≡ some ks) (et : terms_in tt ≡ some ts) (each : LeastOf S ts leasts) where
    abbrev fetched : List ℕ
    fetched = take saved.graphs saved.fetched

    abbrev quads : List Quad
    quads = quads_from saved.quads qt 0

    abbrev store : Store
    store = record { terms = ts; quads = quads; fetched = fetched }

    abbrev held? : Bool
    held? = leb saved.quads quad_limit && all_zero (drop (quad_width * saved.quads) qt)

    abbrev few? : Bool
    few? = leb saved.graphs graph_limit

    size : length ts ≡ count
    size = omega (arith, terms-length tt count ht, ap length (some_is (sym et ∙ (terms tt count ht).1)))

    store_is : passes (store_sound S ks) (held_store tt qt saved) ≡ held? && (few? && store_sound S ks store)
    unfolding held_store onward quads_in
    store_is =
        rw et (passes-both (store_sound S ks) held? few? quads (λ quads. record { terms = ts; quads = quads; fetched = fetched }))

    limits : T held? → T few? → in_limits store ≡ true
    unfolding in_limits
    limits h g =
        let n : length quads ≤ quad_limit =
        omega (arith, quads-from-count saved.quads qt 0, leb→le saved.quads quad_limit (and_left (leb saved.quads quad_limit) (all_zero (drop (quad_width * saved.quads) qt)) h)) in
        let m : length fetched ≤ graph_limit = omega (arith, length-take saved.graphs saved.fetched, leb→le saved.graphs graph_limit g) in
        rw (le-leb (length ts) term_limit (terms-few tt ts et), le-leb (length quads) quad_limit n, le-leb (length fetched) graph_limit m)

    -- the tests in the code's order
    pub store-tests : terms_sound (terms_in loading) (terms_in tt) && store_test qt saved leasts count ≡ passes (store_sound S ks) (held_store tt qt saved)
    unfolding terms_sound begins_in distinct_in store_test quads_test store_sound quads_in
    store-tests =
        rw (ek, et, provided-is held? quads, every-same (uri-number S ts leasts count size each) fetched, every-same (quad-numbers S ts leasts count size each fetched) quads)
        (in_all held? few? (begins_with ks ts) (distinct same_term ts) (distinct eqb fetched) (every (is_uri_number S ts) fetched) (in_order quads)
        (every (quad_sound S ts fetched) quads) (in_limits store) limits)
        ∙ sym store_is
