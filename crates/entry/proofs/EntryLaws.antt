-- Refusal 10, from the tests that the code makes.
use Rattle.definitions.specs.declared.Refusal.TheVariants.{WrongLength, Unsound, BadRanks}
use Rattle.std.specs.Prelude.{Some, None}
use Rattle.std.specs.declared.option.Option as Answer
use Rattle.definitions.specs.declared.Refusal.{Refusal}
use Prim.Native.Nat.{ℕ, zero, suc, ◌≤◌}
use native.Mathlib.Omega.{arith}
use mathlib.Core.Path.{◌≡◌, refl, sym, ap, subst, ◌∙◌}
use mathlib.Core.List.{List, [], ◌∷◌, ◌++◌, map}
use mathlib.Core.Bool.{Bool, true, false, ◌&&◌, and-false}
use mathlib.Core.Option.{some}
use lib.Dec.{T}
use lib.ListN.{length, take, drop, length-map, length-append, length-drop, length-take}
use Rattle.definitions.specs.Limits.{term_limit, quad_limit, term_table_width}
use Rattle.definitions.specs.Bytes.{same_bytes, onward}
use Rattle.definitions.specs.Lists.{distinct}
use Rattle.definitions.specs.Terms.{Term, Schema, sort_of, same_term, read_schema}
use Rattle.definitions.specs.Reading.{parsed}
use Rattle.definitions.specs.Saved.{terms_in, quads_from, held_control, held_store}
use Rattle.definitions.specs.Sound.{begins_with, store_sound, control_sound}
use Rattle.definitions.specs.Result.{Result, OrRefusal, refused, passed, require, given, ◌>>◌}
use Rattle.definitions.specs.Calls as Calls
use Rattle.definitions.specs.Calls.{Checked, check, reported, Lent, tables_fit, lengths_fit, sound_in, entry_tests, lengths_of}
use Rattle.definitions.specs.Alphabet.{is_alphabet}
use Rattle.definitions.specs.declared.SavedRun.{SavedRun}
use Rattle.laws.proofs.Tests.{is_true, true_is, and_left}
use Rattle.laws.proofs.Order.{type-of-code}
use Rattle.laws.proofs.Options.{some_is, some-not-none}
use Rattle.laws.proofs.Results.{passed_is, not-refused, given-inv, require-after}
use Rattle.laws.proofs.ReadAnswers.{is-some, is_none}
use Rattle.laws.proofs.Equality.{same_bytes_lem, bytes-refl}
use Rattle.laws.specs.Sorts.{least, LeastOf}
use Rattle.laws.proofs.Check.{Passed, check-passed, accepted, terms-fit, types-length}
use Rattle.laws.proofs.Valid.{check-valid}
use Rattle.laws.proofs.Tables.{terms-of, term-table-length}
use Rattle.laws.proofs.Saved.{store-inv, held-inv, quads-in-are, quads-in-count, quads-few}
use Rattle.laws.proofs.SoundIn.{sound-in, is-accepted, entry-one, entry-ranks}
use Rattle.fields.specs.Answers.{count_of, distinct_in}
use Rattle.table.specs.Table.{HoldsTerms}
use Rattle.table.specs.Hashes.{HashedEntries}
use Rattle.table.proofs.CountLaws.{count_none, count-some}
use Rattle.table.proofs.TableLaws.{holds-few}
use Rattle.laws.specs.ReadAnswers.{is_some, passes}
use Rattle.soundness.specs.Store.{begins_in, terms_sound, store_test, InOrder}
use Rattle.soundness.proofs.BeginLaws.{begins-take}
use Rattle.soundness.proofs.Clauses.{store-tests}
use Rattle.control.specs.Control.{ControlOf}
use Rattle.entry.proofs.Halves.{control_fits, both_fit, sound-test, not-loaded, first-fails, then-second}
use Rattle.entry.specs.declared.Entered.{Entered}
use Rattle.card.specs.declared.refusals.Card.{Card}
use Rattle.card.specs.Check.{Tells, CardOf}
use Rattle.card.specs.Leasts.{code_of, least_codes}
use Rattle.lengths.specs.Lent.{lent_of}
use Rattle.entry.specs.Entry.{Found}
use Rattle.card.proofs.Told.{told-refusal}

-- ── the codes of least types ────────────────────────────────────────────────────────────────

-- codes in front of whatever else there is
codes_at : (S : Schema) (terms : List Term) (rest : List ℕ) → LeastOf S terms (map (code_of S) terms ++ rest)
unfolding code_of
codes_at S [] rest i t e = absurd (some-not-none e refl)
codes_at S (x ∷ terms) rest zero t e = type-of-code (least (sort_of S x)) ∙ ap (λ (t : Term). some (least (sort_of S t))) (some_is e)
codes_at S (x ∷ terms) rest (suc i) t e = codes_at S terms rest i t e

-- the first of them
take-codes : (S : Schema) (n : ℕ) (ts : List Term) → take n (map (code_of S) ts) ≡ map (code_of S) (take n ts)
take-codes S zero ts = refl
take-codes S (suc n) [] = refl
take-codes S (suc n) (t ∷ ts) = ap (λ (l : List ℕ). code_of S t ∷ l) (take-codes S n ts)

differ : (a b : List ℕ) → (a ≡ b → ⊥) → same_bytes a b ≡ false
differ a b h = go (same_bytes a b) refl
  where
    go : (t : Bool) → same_bytes a b ≡ t → t ≡ false
    go true e = absurd (h (same_bytes_lem a b (true_is (same_bytes a b) e)))
    go false e = refl

alike : (a b : List ℕ) → a ≡ b → same_bytes a b ≡ true
alike a b e = go (same_bytes a b) refl
  where
    go : (t : Bool) → same_bytes a b ≡ t → t ≡ true
    go true h = refl
    go false h = absurd (let z : ◌≡◌ {A = ℕ} 0
        1 = (let y : ◌≡◌ {A = Bool} true false = sym (is_true (same_bytes a b) (subst (λ (x : List ℕ). T (same_bytes a x)) e (bytes-refl a))) ∙ h in cc) in omega arith)

-- ── what is not sound ───────────────────────────────────────────────────────────────────────

module _ (ranks terms schema script table store : List ℕ) (saved : SavedRun) where
  abbrev l : Lent
  l = lent_of ranks terms schema script table store

  abbrev Refuses : Type 0
  Refuses = given Unsound (sound_in l saved) ≡ refused Unsound

  unsound : is_some (sound_in l saved) ≡ false → Refuses
  unfolding given
  unsound e = rw (is_none (sound_in l saved) e)

  -- 2 to 9
  pub not-checked : {n : Refusal} → check terms schema script ≡ refused n → Refuses
  not-checked {n} e = unsound (not-loaded l saved n e)

  module _ {card : Card} {loading codes₀ : List ℕ} (told : (c : Checked) × (check terms schema script ≡ passed c) × CardOf schema loading codes₀ c card) where
    abbrev c : Checked
    c = told.0

    abbrev checks : check terms schema script ≡ passed c
    checks = told.1

    abbrev tables : CardOf schema loading codes₀ c card
    tables = told.2

    passes-all : Passed terms schema script c
    passes-all = check-passed terms schema script c checks

    loaded-is : card.count ≡ length c.terms
    loaded-is = tables.count

    types_are : card.types ≡ reported c
    types_are = tables.types

    test : is_some (sound_in l saved)
        ≡ (same_bytes saved.control.types (reported c)
        && passes (both_fit c saved.control) (held_store table store saved.store))
    test = sound-test l saved c checks

    by-types : same_bytes saved.control.types (reported c) ≡ false → is_some (sound_in l saved) ≡ false
    by-types e = test ∙ ap (λ (b : Bool). b && passes (both_fit c saved.control) (held_store table store saved.store)) e

    by_state : passes (both_fit c saved.control) (held_store table store saved.store) ≡ false
        → is_some (sound_in l saved) ≡ false
    by_state e = test ∙ ap (λ (b : Bool). same_bytes saved.control.types (reported c) && b) e ∙ and-false (same_bytes saved.control.types (reported c))

    -- the term table holds no terms
    pub no-terms : {n : Answer.Option ℕ} → n ≡ count_of (terms_in table) → n ≡ None → Refuses
    unfolding held_store passes onward
    no-terms e h = unsound (by_state (rw (count_none (terms_in table) (sym e ∙ h)) refl))

    pub other-types : {b : Bool} → (saved.control.types ≡ card.types → b ≡ true) → b ≡ false → Refuses
    other-types {b} same e =
        unsound (by-types (differ saved.control.types (reported c) (λ h.
        absurd (let z : ◌≡◌ {A = ℕ} 0 1 = (let y : ◌≡◌ {A = Bool} true false = sym (same (h ∙ sym types_are)) ∙ e in cc) in omega arith))))

    -- ── what the tests are lent ────────────────────────────────────────────────────────────

    pub schema-good : is_some (read_schema schema) ≡ true
    schema-good = rw passes-all.reads.entries refl

    pub schema-hashed : HashedEntries schema card.entries
    schema-hashed = tables.hashes

    pub script-good : is_some (parsed card.count script) ≡ true
    script-good = rw (loaded-is, passes-all.reads.parses) refl

    few : length c.terms ≤ term_limit
    few = terms-fit terms schema script c passes-all

    loading-in : terms_in loading ≡ some c.terms
    loading-in = ap terms_in tables.slots ∙ terms-of c.terms (check-valid terms schema script c checks) few

    pub loading-apart : distinct_in same_term (terms_in loading) ≡ true
    unfolding distinct_in
    loading-apart = ap (distinct_in same_term) loading-in ∙ is_true (distinct same_term c.terms) (accepted terms schema script c passes-all).apart

    pub loading-holds : HoldsTerms loading card.count
    unfolding count_of
    loading-holds =
        record {
          width = ap length tables.slots ∙ term-table-length c.terms (check-valid terms schema script c checks) few;
          count = ap count_of loading-in ∙ ap Some (sym loaded-is);
        }

    -- ── the terms in use ───────────────────────────────────────────────────────────────────

    module _ {n : Answer.Option ℕ} {count : ℕ} (width : length table ≡ term_table_width) (en : n ≡ count_of (terms_in table)) (hn : n ≡ Some count) where
      used : (ts : List Term) × (terms_in table ≡ some ts) × (length ts ≡ count)
      used = count-some (terms_in table) (sym en ∙ hn)

      pub table-holds : HoldsTerms table count
      table-holds = record { width = width; count = sym en ∙ hn }

      -- the tests of the store, by any codes of its terms
      store_is : (leasts : List ℕ) → LeastOf c.schema used.0 leasts
          → terms_sound (terms_in loading) (terms_in table) && store_test store saved.store leasts count ≡ passes (store_sound c.schema c.terms) (held_store table store saved.store)
      store_is leasts codes = store-tests loading table store count table-holds saved.store leasts c.schema c.terms used.0 loading-in used.1 codes

      no_store : passes (store_sound c.schema c.terms) (held_store table store saved.store) ≡ false → Refuses
      no_store e = unsound (by_state (first-fails (store_sound c.schema c.terms) (control_fits c saved.control) (held_store table store saved.store) e))

      module _ {a : Bool} (ea : a ≡ terms_sound (terms_in loading) (terms_in table)) where
        pub other-terms : a ≡ false → Refuses
        other-terms e =
            let any = map (code_of c.schema) used.0 ++ [] in
            no_store (sym (store_is any (codes_at c.schema used.0 [])) ∙ ap (λ (b : Bool). b && store_test store saved.store any count) (sym ea ∙ e))

        module _ (ga : a ≡ true) where
          first : take (length c.terms) used.0 ≡ c.terms
          unfolding terms_sound begins_in
          first =
              let both : begins_with c.terms used.0 && distinct_in same_term (some used.0) ≡ true = rw (loading-in, used.1) at (sym ea ∙ ga) in
              begins-take c.terms used.0 (and_left (begins_with c.terms used.0) (distinct_in same_term (some used.0)) (true_is _ both))

          pub loaded-in : card.count ≤ count
          loaded-in = omega (arith, ap length first, length-take (length c.terms) used.0, used.2, loaded-is)

          -- the codes of loading's terms are those of the table's first
          pub codes-stand : take card.count codes₀ ≡ take card.count (least_codes (read_schema schema) (terms_in table))
          unfolding least_codes
          codes-stand =
              rw (loaded-is, passes-all.reads.entries, used.1)
              (tables.codes ∙ ap (map (code_of c.schema)) (sym first) ∙ sym (take-codes c.schema (length c.terms) used.0))

          module _ (room : length codes₀ ≡ term_limit) {leasts : List ℕ} (el : leasts ≡ least_codes (read_schema schema) (terms_in table) ++ drop count codes₀) where
            codes-are : leasts ≡ map (code_of c.schema) used.0 ++ drop count codes₀
            unfolding least_codes
            codes-are = el ∙ rw (passes-all.reads.entries, used.1) refl

            codes : LeastOf c.schema used.0 leasts
            codes = subst (LeastOf c.schema used.0) (sym codes-are) (codes_at c.schema used.0 (drop count codes₀))

            fewer : count ≤ term_limit
            fewer = holds-few table count table-holds

            pub leasts-length : length leasts ≡ term_limit
            leasts-length =
                omega (
                  arith,
                  ap length codes-are,
                  length-append (map (code_of c.schema) used.0) (drop count codes₀),
                  length-map used.0 (code_of c.schema),
                  used.2,
                  length-drop count codes₀,
                  room,
                  fewer,
                )

            module _ {b : Bool} (eb : b ≡ store_test store saved.store leasts count) where
              stored : b ≡ passes (store_sound c.schema c.terms) (held_store table store saved.store)
              stored = eb ∙ ap (λ (x : Bool). x && store_test store saved.store leasts count) (sym ga ∙ ea) ∙ store_is leasts codes

              pub other-store : b ≡ false → Refuses
              other-store e = no_store (sym stored ∙ e)

              module _ (gb : b ≡ true) {s : Bool} (same : s ≡ true → saved.control.types ≡ card.types) (es : s ≡ true)
                  {k : Bool} (ek : ControlOf script card.count saved.control count leasts k) where
                types_same : saved.control.types ≡ reported c
                types_same = same es ∙ types_are

                control-is : k ≡ passes (control_sound c.schema c.types c.root used.0) (held_control c.root saved.control)
                control-is =
                    ek c used.0
                    (record {
                      parses = ap (λ (n : ℕ). parsed n script) loaded-is ∙ passes-all.reads.parses;
                      types = types_same;
                      each = types-length terms schema script c passes-all;
                      counted = sym used.2;
                      codes = codes;
                    })

                -- the control's half decides
                decided : k ≡ is_some (sound_in l saved)
                decided =
                    let p = store_sound c.schema c.terms in
                    let q = control_fits c saved.control in
                    let h = then-second p q (held_store table store saved.store) (sym stored ∙ gb) in
                    control-is
                    ∙ ap (λ (ts : List Term). passes (control_sound c.schema c.types c.root ts) (held_control c.root saved.control))
                    (some_is (sym used.1 ∙ (store-inv table store saved.store h.0 h.1).terms))
                    ∙ sym h.3
                    ∙ sym (test ∙ ap (λ (b : Bool). b && passes (both_fit c saved.control) (held_store table store saved.store)) (alike saved.control.types (reported c) types_same))

                pub other-control : k ≡ false → Refuses
                other-control e = unsound (sym decided ∙ e)

                pub all_found : k ≡ true → (rows : List ℕ) → length rows ≡ quad_limit
                    → (b ≡ true → InOrder saved.store.quads rows (quads_from saved.store.quads store 0))
                    → (x : Calls.Sound) × (given Unsound (sound_in l saved) ≡ passed x)
                    × Found l saved rows leasts x (record { loaded = card.count; count = count; entries = card.entries })
                unfolding given
                all_found e rows wide er =
                    let y = is-some (sound_in l saved) (sym decided ∙ e) in
                    let x = y.0 in
                    let i = sound-in l saved x y.1 in
                    let is : x.checked ≡ c = passed_is (sym i.loads ∙ checks) in
                    let h = held-inv x.checked.root table store saved x.state i.holds in
                    let all : used.0 ≡ x.state.store.terms = some_is (sym used.1 ∙ h.store.terms) in
                    let n = saved.store.quads in
                    let quads = quads-few x.checked (is-accepted l saved x i) x.state i.sound in (
                      x,
                      ap (given Unsound) y.1,
                      record {
                        loaded = loaded-is ∙ ap (λ (c : Checked). length c.terms) (sym is);
                        lent = λ clock.
                            record {
                              tabled = record { reads = h.store.terms; counted = ap length (sym all) ∙ used.2; size = width };
                              stored = record { room = omega (arith, quads, quads-in-count n store x.state.store.quads h.store.quads, wide); rises = (er gb).rises };
                              quads_are = (er gb).rows ∙ quads-in-are n store x.state.store.quads h.store.quads;
                              room = omega (arith, fewer, leasts-length);
                              least_of = subst (λ (ts : List Term). LeastOf x.checked.schema ts leasts) all (subst (λ (c : Checked). LeastOf c.schema used.0 leasts) (sym is) codes);
                            };
                        hashed = schema-hashed;
                      },
                    )

-- ── refusals 1 and 21 ───────────────────────────────────────────────────────────────────────

module _ (l : Lent) {a : Bool} (ea : a ≡ tables_fit (lengths_of l)) where
  pub wrong-length : (saved : SavedRun) → a ≡ false → entry_tests l saved ≡ refused WrongLength
  wrong-length saved e = entry-one l saved (sym ea ∙ e)

  module _ (fit : a ≡ true) where
    module _ (saved : SavedRun) {b : Bool} (eb : b ≡ is_alphabet l.ranks) where
      pub no-alphabet : b ≡ false → entry_tests l saved ≡ refused BadRanks
      no-alphabet e = entry-ranks l saved (true_is (lengths_fit l) (sym ea ∙ fit)) (sym eb ∙ e)

      -- the tests are those of refusal 10
      pub tests-go-on : b ≡ true → {B : Type 0} (says : Calls.Sound → B → Type 0) (r : OrRefusal B) → Tells says (given Unsound (sound_in l saved)) r → Tells says (entry_tests l saved) r
      unfolding entry_tests
      tests-go-on e says r f =
          let rest = given Unsound (sound_in l saved) in
          subst (λ (m : Result Calls.Sound). Tells says m r)
          (sym (require-after WrongLength (lengths_fit l) (require BadRanks (is_alphabet l.ranks) >> rest) (true_is (lengths_fit l) (sym ea ∙ fit))
          ∙ require-after BadRanks (is_alphabet l.ranks) rest (true_is (is_alphabet l.ranks) (sym eb ∙ e)))) f
