-- Which of refusals 6 and 7 schema and script meet, from what the code finds in them.
use Rattle.definitions.specs.declared.Refusal.TheVariants.{BadScript, OutOfScope}
use Prim.Native.Nat.{ℕ, ◌*◌, ◌≤◌, ◌<◌}
use native.Mathlib.Omega.{arith}
use mathlib.Core.Path.{◌≡◌, refl, sym, ap, ◌∙◌}
use mathlib.Core.List.{List}
use mathlib.Core.Bool.{Bool, true, false, not, ◌&&◌}
use mathlib.Core.Option.{some}
use borrow.Author.Tests.{not-true, not-false, le-leb, lt-leb}
use lib.Dec.{leb}
use lib.ListN.{length}
use Rattle.definitions.specs.Limits.{term_limit, entry_limit, script_limit}
use Rattle.definitions.specs.Terms.{Term, Schema, read_schema}
use Rattle.definitions.specs.Tree.{Script}
use Rattle.definitions.specs.Reading.{parsed}
use Rattle.definitions.specs.Scope.{in_scope}
use Rattle.definitions.specs.declared.Refusal.{Refusal}
use Rattle.definitions.specs.Result.{Result, refused, passed, ◌>>=◌, ◌>>◌, require, given}
use Rattle.laws.proofs.Tests.{true_is}
use Rattle.laws.proofs.Results.{given-bind, given-refused, require-after, require-refused}
use Rattle.definitions.specs.Limits.{entry_width}
use Rattle.records.proofs.EntryLaws.{schema-length}
use Rattle.laws.specs.ReadAnswers.{is_some, passes}
use Rattle.laws.proofs.ReadAnswers.{is-some, is_none}
use Rattle.definitions.specs.Calls.{script_tests}
use Rattle.definitions.specs.Calls.{sizes_fit}

module _ (terms : ℕ) (schema script : List ℕ) where
  -- of any terms of that number, and of the schema that is read
  abbrev Says : (Result Script → Type 0) → Type 0
  Says P = (ts : List Term) (S : Schema) → length ts ≡ terms → terms ≤ term_limit → read_schema schema ≡ some S → P (script_tests ts S script)

  abbrev Refused : Refusal → Type 0
  Refused n = Says (λ m. m ≡ refused n)

  sizes : (ts : List Term) (S : Schema) → length ts ≡ terms → terms ≤ term_limit
      → sizes_fit ts S script ≡ (leb (length S) entry_limit && leb (length script) script_limit)
  unfolding sizes_fit
  sizes ts S n few = rw (le-leb (length ts) term_limit (omega (arith, n))) refl

  pub many-entries : entry_limit * entry_width < length schema → Refused BadScript
  unfolding script_tests
  many-entries h ts S n few e =
      let long = schema-length schema S e in
      require-refused BadScript _ (sizes ts S n few
      ∙ ap (λ (b : Bool). b && leb (length script) script_limit) (lt-leb (length S) entry_limit (omega (arith, long))))

  module _ (kn : length schema ≤ entry_limit * entry_width) where
    entries-few : (S : Schema) → read_schema schema ≡ some S → leb (length S) entry_limit ≡ true
    entries-few S e = let long = schema-length schema S e in le-leb (length S) entry_limit (omega (arith, long))

    pub long-script : script_limit < length script → Refused BadScript
    unfolding script_tests
    long-script h ts S n few e =
        require-refused BadScript _ (sizes ts S n few ∙ rw (entries-few S e) (lt-leb (length script) script_limit h))

    module _ (ks : length script ≤ script_limit) {b : Bool} (eb : b ≡ is_some (parsed terms script)) where
      reading : (ts : List Term) (S : Schema) → length ts ≡ terms → terms ≤ term_limit → read_schema schema ≡ some S
          → script_tests ts S script ≡ (given BadScript (parsed terms script) >>= λ root. require OutOfScope (in_scope root) >> passed root)
      unfolding script_tests
      reading ts S n few e =
          require-after BadScript _ _ (true_is _ (sizes ts S n few ∙ rw (entries-few S e) (le-leb (length script) script_limit ks)))
          ∙ ap (λ (k : ℕ). given BadScript (parsed k script) >>= λ root. require OutOfScope (in_scope root) >> passed root) n

      pub malformed : not b ≡ true → Refused BadScript
      malformed h ts S n few e = reading ts S n few e ∙ given-refused BadScript _ (is_none (parsed terms script) (sym eb ∙ not-true b h))

      module _ (kb : not b ≡ false) {d : Bool} (ed : d ≡ passes in_scope (parsed terms script)) where
        root : (c : Script) × (parsed terms script ≡ some c)
        root = is-some (parsed terms script) (sym eb ∙ not-false b kb)

        scoped : in_scope root.0 ≡ d
        unfolding passes
        scoped = sym (ed ∙ ap (passes in_scope) root.1)

        pub out-of-scope : not d ≡ true → Refused OutOfScope
        out-of-scope h ts S n few e =
            reading ts S n few e ∙ given-bind BadScript _ root.1 ∙ require-refused OutOfScope _ (scoped ∙ not-true d h)

        pub script-passes : not d ≡ false → Says (λ m. (c : Script) × (m ≡ passed c) × Unit {0})
        script-passes h ts S n few e =
            (root.0, reading ts S n few e ∙ given-bind BadScript _ root.1 ∙ require-after OutOfScope _ _ (true_is _ (scoped ∙ not-false d h)), tt)
