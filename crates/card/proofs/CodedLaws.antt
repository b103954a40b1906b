-- A card that is read, with the codes of its terms' least types.
use Prim.Native.Nat.{ℕ, ◌≤◌}
use native.Mathlib.Omega.{arith}
use mathlib.Core.Path.{◌≡◌, refl, sym, ap, subst, ◌∙◌}
use mathlib.Core.List.{List, map, ◌++◌}
use mathlib.Core.Bool.{true}
use mathlib.Core.Option.{some}
use lib.ListN.{length, take, drop, length-map, length-append, length-take}
use lib.Seq.{take-append_seam}
use Rattle.definitions.specs.Limits.{term_limit}
use Rattle.definitions.specs.Terms.{Sort, read_schema}
use Rattle.definitions.specs.Tree.{Script}
use Rattle.definitions.specs.Reading.{parsed}
use Rattle.definitions.specs.Saved.{terms_in}
use Rattle.definitions.specs.Result.{passed}
use Rattle.definitions.specs.Calls.{Parsed, read_tests, constants_of}
use Rattle.laws.specs.ReadAnswers.{is_some}
use Rattle.laws.proofs.Check.{ReadPassed, read-passed}
use Rattle.table.specs.Hashes.{HashedEntries}
use Rattle.table.specs.Table.{HoldsTerms, HeldTerms}
use Rattle.records.proofs.NumberingLaws.{held-terms, held-holds}
use Rattle.facts.specs.Codes.{sorts_in}
use Rattle.typing.proofs.Constants.{over-terms}
use Rattle.card.specs.Leasts.{code_of, least_codes}
use Rattle.card.specs.Check.{ReadyOf, CodedOf}
use Rattle.card.specs.declared.refusals.Ready.{Ready}
use Rattle.card.proofs.ReadyLaws.{reads_of}

module _ (terms schema script : List ℕ) (r : Ready) where
  -- ── the codes are written ─────────────────────────────────────────────────────────────────

  module _ {table : List ℕ} (told : (x : Parsed) × (read_tests terms schema script ≡ passed x) × ReadyOf schema table x r) where
    abbrev x : Parsed
    x = told.0

    abbrev ready : ReadyOf schema table x r
    ready = told.2

    passes : ReadPassed terms schema script x
    passes = read-passed terms schema script x told.1

    held : HeldTerms table r.count x.terms
    held =
        let reads = reads_of terms schema script x passes in
        record { is = ready.slots; valid = reads.valid; count = sym ready.count; few = omega (arith, reads.few, ready.count) }

    pub holds : HoldsTerms table r.count
    holds = held-holds _ _ _ held

    pub schema-reads : is_some (read_schema schema) ≡ true
    schema-reads = rw passes.entries

    pub schema-hashed : HashedEntries schema r.entries
    schema-hashed = ready.entries

    pub leasts-room : (old : List ℕ) → length old ≡ term_limit → r.count ≤ length old
    leasts-room old e = omega (arith, e, held.few)

    pub coded : (old : List ℕ) {leasts : List ℕ} → leasts ≡ least_codes (read_schema schema) (terms_in table) ++ drop r.count old
        → (x : Parsed) × (read_tests terms schema script ≡ passed x) × CodedOf schema table leasts x r
    unfolding least_codes
    coded old {leasts} el = (
      x,
      told.1,
      record {
        ready = ready;
        codes =
            ap (take (length x.terms)) (el ∙ rw (passes.entries, held-terms _ _ _ held))
            ∙ ap (λ (n : ℕ). take n (codes ++ drop r.count old)) (sym (length-map x.terms (code_of x.schema)))
            ∙ take-append_seam codes (drop r.count old);
      },
    )
      where
        codes : List ℕ
        codes = map (code_of x.schema) x.terms

  -- ── the codes are there ───────────────────────────────────────────────────────────────────

  module _ {table leasts : List ℕ} (told : (x : Parsed) × (read_tests terms schema script ≡ passed x) × CodedOf schema table leasts x r) where
    pub parse-sorts : take r.count leasts ≡ map (code_of told.0.schema) told.0.terms
    parse-sorts = ap (λ (n : ℕ). take n leasts) told.2.ready.count ∙ told.2.codes

    pub sorts-length : r.count ≡ length (take r.count leasts)
    sorts-length = sym (ap length parse-sorts ∙ length-map told.0.terms (code_of told.0.schema) ∙ sym told.2.ready.count)

    -- the codes stand in front
    pub codes-fit : r.count ≤ length leasts
    codes-fit = omega (arith, sorts-length, length-take r.count leasts)

    parses : parsed (length told.0.terms) script ≡ some told.0.root
    parses = (read-passed terms schema script told.0 told.1).parses

    pub script-reads : is_some (parsed (length (take r.count leasts)) script) ≡ true
    script-reads = rw (ap (λ (n : ℕ). parsed n script) (sym sorts-length ∙ told.2.ready.count) ∙ parses)

    -- what is found of the script over the codes is found of it over its terms
    pub of-terms : {R : Type 0} (f : (ℕ → Sort) → Script → R) {a : R}
        → ((root : Script) → parsed (length (take r.count leasts)) script ≡ some root → a ≡ f (sorts_in (take r.count leasts)) root)
        → a ≡ f (constants_of told.0.schema told.0.terms) told.0.root
    unfolding code_of
    of-terms f h = over-terms told.0.schema told.0.terms parse-sorts f script h told.0.root parses
