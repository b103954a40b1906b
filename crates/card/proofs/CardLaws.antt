-- Which of refusals 2 to 5 terms and schema meet, from what the code finds in them.
use Rattle.std.specs.Prelude.{Some, None, Ok, Err}
use Rattle.definitions.specs.declared.Refusal.{Refusal}
use Rattle.definitions.specs.declared.Refusal.TheVariants.{BadTerm, TermTwice, BadEntry, PropertyTwice}
use Rattle.std.specs.declared.option.Option as Answer
use Prim.Native.Nat.{ℕ}
use native.Mathlib.Omega.{arith}
use mathlib.Core.Path.{◌≡◌, refl, sym, ap, ◌∙◌}
use mathlib.Core.List.{List}
use mathlib.Core.Bool.{Bool, true, false, cond}
use mathlib.Core.Option.{Option, none, some}
use lib.Dec.{T}
use lib.ListN.{length}
use Rattle.definitions.specs.Lists.{distinct}
use Rattle.definitions.specs.Terms.{Term, Schema, read_terms, read_schema, same_term, same_property}
use Rattle.definitions.specs.Result.{OrRefusal, refused, passed, ◌>>=◌, ◌>>◌, require, given}
use Rattle.laws.proofs.Tests.{true_is}
use Rattle.laws.proofs.Results.{given-bind, given-refused, require-after, require-refused}
use Rattle.fields.specs.Answers.{count_of, distinct_in}
use Rattle.definitions.specs.Calls.{Listed, record_tests}
use Rattle.table.proofs.CountLaws.{count_none, count-some}
use Rattle.records.specs.Listing.{listed_of}

distinct_of : {A : Type 0} (same : A → A → Bool) {o : Option (List A)} {xs : List A} → o ≡ some xs → distinct_in same o ≡ distinct same xs
unfolding distinct_in
distinct_of same e = rw e

-- ── what is said of listed terms ────────────────────────────────────────────────────────────

ok-not-err : {A : Type 0} {a : A} {n : Refusal} → ◌≡◌ {A = OrRefusal A} (Ok a) (Err n) → ⊥
ok-not-err e = let z : ◌≡◌ {A = ℕ} 0 1 = cc in omega arith

same-refusal : {A : Type 0} {m n : Refusal} → ◌≡◌ {A = OrRefusal A} (Err m) (Err n) → m ≡ n
same-refusal e = cc

same-count : {m n : ℕ} → ◌≡◌ {A = OrRefusal ℕ} (Ok m) (Ok n) → m ≡ n
same-count e = cc

-- 2 and 3
pub two-three : (terms schema : List ℕ) {n : Refusal} → Err n ≡ listed_of (read_terms terms) → record_tests terms schema ≡ refused n
unfolding record_tests listed_of
two-three terms schema {n} = go (read_terms terms) refl
  where
    twice : (ts : List Term) → read_terms terms ≡ some ts → (b : Bool) → distinct same_term ts ≡ b
        → Err n ≡ cond {A = OrRefusal ℕ} b (Ok (length ts)) (Err TermTwice) → record_tests terms schema ≡ refused n
    twice ts e true d q = absurd (ok-not-err (sym q))
    twice ts e false d q = given-bind BadTerm _ e ∙ require-refused TermTwice _ d ∙ ap refused (sym (same-refusal q))

    go : (o : Option (List Term)) → read_terms terms ≡ o → Err n ≡ listed_of o → record_tests terms schema ≡ refused n
    go none e q = given-refused BadTerm _ e ∙ ap refused (sym (same-refusal q))
    go (some ts) e q = twice ts e (distinct same_term ts) refl q

module _ (terms : List ℕ) {n : ℕ} (en : Ok n ≡ listed_of (read_terms terms)) where
  pub listed : (ts : List Term) × (read_terms terms ≡ some ts) × T (distinct same_term ts) × (n ≡ length ts)
  unfolding listed_of
  listed = go (read_terms terms) refl en
    where
      twice : (ts : List Term) → read_terms terms ≡ some ts → (b : Bool) → distinct same_term ts ≡ b
          → Ok n ≡ cond {A = OrRefusal ℕ} b (Ok (length ts)) (Err TermTwice) → (ts : List Term) × (read_terms terms ≡ some ts) × T (distinct same_term ts) × (n ≡ length ts)
      twice ts e true d q = (ts, e, true_is _ d, same-count q)
      twice ts e false d q = absurd (ok-not-err q)

      go : (o : Option (List Term)) → read_terms terms ≡ o → Ok n ≡ listed_of o → (ts : List Term) × (read_terms terms ≡ some ts) × T (distinct same_term ts) × (n ≡ length ts)
      go none e q = absurd (ok-not-err q)
      go (some ts) e q = twice ts e (distinct same_term ts) refl q

  -- ── 4 and 5 ───────────────────────────────────────────────────────────────────────────────

  module _ (schema : List ℕ) {b : Answer.Option ℕ} (eb : b ≡ count_of (read_schema schema)) where
    second : record_tests terms schema ≡ (given BadEntry (read_schema schema) >>= λ S. require PropertyTwice (distinct same_property S) >> passed (record { terms = listed.0; schema = S }))
    unfolding record_tests
    second = given-bind BadTerm _ listed.1 ∙ require-after TermTwice _ _ listed.2

    pub four : b ≡ None → record_tests terms schema ≡ refused BadEntry
    four m = second ∙ given-refused BadEntry _ (count_none (read_schema schema) (sym eb ∙ m))

    module _ {k : ℕ} (kb : b ≡ Some k) {f : Bool} (ef : f ≡ distinct_in same_property (read_schema schema)) where
      entries : (xs : Schema) × (read_schema schema ≡ some xs) × (length xs ≡ k)
      entries = count-some (read_schema schema) (sym eb ∙ kb)

      properties : distinct same_property entries.0 ≡ f
      properties = sym (ef ∙ distinct_of same_property entries.1)

      pub five : f ≡ false → record_tests terms schema ≡ refused PropertyTwice
      five h = second ∙ given-bind BadEntry _ entries.1 ∙ require-refused PropertyTwice _ (properties ∙ h)

      pub all_pass : f ≡ true → (l : Listed) × (record_tests terms schema ≡ passed l)
      all_pass h = (record { terms = listed.0; schema = entries.0 }, second ∙ given-bind BadEntry _ entries.1 ∙ require-after PropertyTwice _ _ (true_is _ (properties ∙ h)))
