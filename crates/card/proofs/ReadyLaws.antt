-- Refusals 2 to 7 in one: from what the code finds, which one is met, or what is ready to be typed.
use Rattle.definitions.specs.declared.Refusal.TheVariants.{BadScript}
use Rattle.std.specs.Prelude.{Some, None, Ok, Err}
use Rattle.definitions.specs.declared.Refusal.{Refusal}
use Rattle.std.specs.declared.option.Option as Answer
use Prim.Native.Nat.{ℕ, ◌*◌, ◌≤◌, ◌<◌}
use native.Mathlib.Omega.{arith}
use mathlib.Core.Path.{◌≡◌, refl, sym, ap, subst, ◌∙◌}
use mathlib.Core.List.{List}
use mathlib.Core.Bool.{Bool, true, false, ◌&&◌}
use mathlib.Core.Option.{Option, some}
use lib.Dec.{leb, leb→le}
use lib.ListN.{length, length-append}
use borrow.Author.Tests.{lt-leb}
use Rattle.definitions.specs.Limits.{term_limit, entry_limit, script_limit, schema_width}
use Rattle.definitions.specs.Lists.{distinct}
use Rattle.definitions.specs.Terms.{Term, Schema, read_terms, read_schema, same_term, same_property}
use Rattle.definitions.specs.Tree.{Script}
use Rattle.definitions.specs.Reading.{parsed}
use Rattle.definitions.specs.Scope.{in_scope}
use Rattle.definitions.specs.Machine.{with_properties}
use Rattle.definitions.specs.Result.{Result, refused, passed, ◌>>=◌, require, given}
use Rattle.laws.specs.Lists.{All}
use Rattle.laws.proofs.Options.{some_is}
use Rattle.laws.proofs.Numbering.{all-properties}
use Rattle.laws.proofs.Results.{passed_is, not-refused, require-refused, bind_inv, bind-refused, bind-passed}
use Rattle.laws.proofs.Tests.{is_true, and_left}
use Rattle.laws.specs.Valid.{Valid}
use Rattle.laws.proofs.Valid.{terms-valid, schema-valid}
use Rattle.laws.specs.ReadAnswers.{is_some}
use Rattle.definitions.specs.Limits.{entry_width}
use Rattle.table.specs.Table.{HeldTerms, list_of, added_of, table_of}
use Rattle.records.proofs.EntryLaws.{schema-length}
use Rattle.records.proofs.NumberingLaws.{held-added, properties-append}
use Rattle.records.specs.Listing.{listed_of}
use Rattle.table.specs.Hashes.{HashedEntries}
use Rattle.definitions.specs.Calls.{Listed, record_tests, script_tests, Parsed, read_tests}
use Rattle.card.specs.Check.{ReadyOf}
use Rattle.card.proofs.CardLaws.{two-three, listed}
use Rattle.laws.proofs.Check.{ReadPassed, records-inv, read-passed}
use Rattle.laws.proofs.Valid.{read-valid}
use Rattle.definitions.specs.Calls.{sizes_fit}
use Rattle.laws.proofs.Tests.{and_right}
use lib.Dec.{T}

-- ── what the tests that pass found ──────────────────────────────────────────────────────────

-- the bytes of the schema, and the terms
pub record Reads (schema : List ℕ) (x : Parsed) : Type 0 where
  pub short : length schema ≤ entry_limit * entry_width
  pub valid : All Valid x.terms
  pub few : length x.terms ≤ term_limit

pub reads_of : (terms schema script : List ℕ) (x : Parsed) → ReadPassed terms schema script x → Reads schema x
unfolding sizes_fit
reads_of terms schema script x p =
    let few = leb (length x.terms) term_limit in
    let entries = leb (length x.schema) entry_limit in
    let bytes = leb (length script) script_limit in
    let rest = and_right few (entries && bytes) p.sizes in
    record {
      short = omega (arith, leb→le (length x.schema) entry_limit (and_left entries bytes rest), schema-length schema x.schema p.entries);
      valid = read-valid terms schema script x p;
      few = leb→le (length x.terms) term_limit (and_left few (entries && bytes) p.sizes);
    }

full-fits : (ts : List Term) → leb (length ts) term_limit ≡ true → None ≡ added_of ts → ⊥
unfolding added_of
full-fits ts e h = let g : None ≡ Some (length ts) = h ∙ rw e in let z : ◌≡◌ {A = ℕ} 0 1 = cc in omega arith

-- ── the code's answer ───────────────────────────────────────────────────────────────────────

-- what is listed in a table is what is read
pub listed-so : (S : Schema) {A : Type 0} (f : List Term → A) {o p : Option (List Term)} → o ≡ p → f (with_properties S (list_of o)) ≡ f (with_properties S (list_of p))
listed-so S f e = ap (λ (o : Option (List Term)). f (with_properties S (list_of o))) e

module _ (terms schema script : List ℕ) where
  -- 2 to 5
  pub records-refused : {n : Refusal} → record_tests terms schema ≡ refused n → read_tests terms schema script ≡ refused n
  unfolding read_tests
  records-refused e = bind-refused _ e

  pub terms-refused : {n : Refusal} → Err n ≡ listed_of (read_terms terms) → read_tests terms schema script ≡ refused n
  terms-refused e = records-refused (two-three terms schema e)

  module _ (lists : (l : Listed) × (record_tests terms schema ≡ passed l)) where
    abbrev S : Schema
    S = lists.0.schema

    found : (read_terms terms ≡ some lists.0.terms) × T (distinct same_term lists.0.terms) × (read_schema schema ≡ some S) × T (distinct same_property S)
    found = records-inv terms schema lists.0 lists.1

    pub terms-good : is_some (read_terms terms) ≡ true
    terms-good = rw found.0

    pub schema-good : is_some (read_schema schema) ≡ true
    schema-good = rw found.2

    numbered : List Term
    numbered = with_properties S lists.0.terms

    numbered_is : with_properties (list_of (read_schema schema)) (list_of (read_terms terms)) ≡ numbered
    unfolding numbered list_of
    numbered_is = rw (found.2, found.0)

    numbered-valid : All Valid numbered
    unfolding numbered
    numbered-valid = all-properties Valid S lists.0.terms (terms-valid terms lists.0.terms found.0) (schema-valid schema S found.2)

    abbrev made : Script → Parsed
    made root = record { schema = S; terms = numbered; root = root }

    second : read_tests terms schema script ≡ (script_tests numbered S script >>= λ root. passed (made root))
    unfolding read_tests numbered
    second = bind-passed _ lists.1

    -- a limit passed
    many : leb (length numbered) term_limit ≡ false → read_tests terms schema script ≡ refused BadScript
    unfolding script_tests sizes_fit
    many e = second ∙ bind-refused _ (require-refused BadScript _ (rw e))

    pub many-listed : {n : ℕ} → Ok n ≡ listed_of (read_terms terms) → term_limit < n → read_tests terms schema script ≡ refused BadScript
    unfolding numbered
    many-listed {n} e l =
        let more = properties-append S lists.0.terms in
        let here = listed terms e in
        let k : n ≡ length lists.0.terms = here.3 ∙ ap length (some_is (sym here.1 ∙ found.0)) in
        many (lt-leb (length numbered) term_limit (omega (arith, k, ap length more.1, length-append lists.0.terms more.0)))

    module _ {r : Answer.Option ℕ} {table : List ℕ} (er : r ≡ added_of (with_properties (list_of (read_schema schema)) (list_of (read_terms terms))))
        (et : table ≡ table_of (with_properties (list_of (read_schema schema)) (list_of (read_terms terms)))) where
      pub too_many : r ≡ None → read_tests terms schema script ≡ refused BadScript
      too_many k = many (go (leb (length numbered) term_limit) refl)
        where
          go : (b : Bool) → leb (length numbered) term_limit ≡ b → leb (length numbered) term_limit ≡ false
          go true e = absurd (full-fits numbered e (sym k ∙ er ∙ ap added_of numbered_is))
          go false e = e

      module _ {n : ℕ} (k : r ≡ Some n) where
        held : HeldTerms table n numbered
        held = held-added numbered numbered-valid n (sym k ∙ er ∙ ap added_of numbered_is) (et ∙ ap table_of numbered_is)

        -- 6 and 7
        pub script-refused : {m : Refusal} → ((ts : List Term) (S : Schema) → length ts ≡ n → n ≤ term_limit → read_schema schema ≡ some S → script_tests ts S script ≡ refused m)
            → read_tests terms schema script ≡ refused m
        script-refused says = second ∙ bind-refused _ (says numbered S held.count held.few found.2)

        pub ready : ((ts : List Term) (S : Schema) → length ts ≡ n → n ≤ term_limit → read_schema schema ≡ some S → (root : Script) × (script_tests ts S script ≡ passed root) × Unit {0})
            → (entries : List ℕ) → (length schema ≤ schema_width → HashedEntries schema entries)
            → (x : Parsed) × (read_tests terms schema script ≡ passed x) × ReadyOf schema table x (record { count = n; entries = entries })
        ready says entries h =
            let root = says numbered S held.count held.few found.2 in
            let x = made root.0 in
            let e : read_tests terms schema script ≡ passed x = second ∙ bind-passed _ root.1 in
            (x, e, record { count = sym held.count; slots = held.is; entries = h (reads_of terms schema script x (read-passed terms schema script x e)).short })
