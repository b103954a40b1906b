-- The whole check, refusals 2 to 9: what the code finds.
use Rattle.std.specs.Prelude.{Ok, Err}
use Rattle.definitions.specs.declared.Refusal.{Refusal}
use Prim.Native.Nat.{ℕ, ◌*◌, ◌≤◌}
use native.Mathlib.Omega.{arith}
use mathlib.Core.Path.{◌≡◌, refl, sym, ap, subst, ◌∙◌}
use mathlib.Core.List.{List}
use mathlib.Core.Option.{some}
use lib.ListN.{length, take}
use Rattle.definitions.specs.Limits.{entry_limit}
use Rattle.definitions.specs.Types.{Ty}
use Rattle.definitions.specs.Tree.{Script}
use Rattle.definitions.specs.Reading.{parsed}
use Rattle.definitions.specs.Typing.{Verdict, no_typing, no_greatest, greatest, written_types, verdict}
use Rattle.definitions.specs.Result.{Result, OrRefusal, refused, passed, ◌>>=◌}
use Rattle.definitions.specs.Calls.{Checked, constants_of, types_of, check, reported}
use Rattle.laws.proofs.Check.{Passed, schema-fits}
use Rattle.laws.proofs.Results.{bind-refused, bind-passed}
use Rattle.definitions.specs.Limits.{entry_width}
use Rattle.records.proofs.EntryLaws.{schema-length}
use Rattle.facts.specs.Codes.{sorts_in}
use Rattle.facts.specs.Answers.{answer_of}
use Rattle.definitions.specs.Calls.{Parsed, read_tests, type_tests}
use Rattle.card.specs.Check.{CodedOf, CardOf}
use Rattle.card.specs.declared.refusals.Ready.{Ready}
use Rattle.card.proofs.CodedLaws.{of-terms}

-- ── the bytes of a schema that passes ───────────────────────────────────────────────────────

pub passed-short : (terms schema script : List ℕ) (c : Checked) → Passed terms schema script c → length schema ≤ entry_limit * entry_width
passed-short terms schema script c p = omega (arith, schema-fits terms schema script c p, schema-length schema c.schema p.reads.entries)

-- ── what the code answers ───────────────────────────────────────────────────────────────────

ok-not-err : {A : Type 0} {a : A} {n : Refusal} → ◌≡◌ {A = OrRefusal A} (Ok a) (Err n) → ⊥
ok-not-err e = let z : ◌≡◌ {A = ℕ} 0 1 = cc in omega arith

same-refusal : {A : Type 0} {m n : Refusal} → ◌≡◌ {A = OrRefusal A} (Err m) (Err n) → m ≡ n
same-refusal e = cc

same-types : {a b : List ℕ} → ◌≡◌ {A = OrRefusal (List ℕ)} (Ok a) (Ok b) → a ≡ b
same-types e = cc

-- the types worked out, from the typer's answer
module _ (x : Parsed) where
  abbrev made : List Ty → Checked
  made Γ = record { schema = x.schema; terms = x.terms; root = x.root; types = Γ }

  typed : Verdict → Result Checked
  typed v = types_of v >>= λ Γ. passed (made Γ)

  typed-refused : (v : Verdict) {n : Refusal} → Err n ≡ answer_of (written_types x.root) v → typed v ≡ refused n
  unfolding typed answer_of types_of ◌>>=◌
  typed-refused no_typing e = ap refused (sym (same-refusal e))
  typed-refused no_greatest e = ap refused (sym (same-refusal e))
  typed-refused (greatest Γ) e = absurd (ok-not-err (sym e))

  typed-passed : (v : Verdict) {types : List ℕ} → Ok types ≡ answer_of (written_types x.root) v
      → (Γ : List Ty) × (typed v ≡ passed (made Γ)) × (types ≡ reported (made Γ))
  unfolding typed answer_of types_of ◌>>=◌
  typed-passed no_typing e = absurd (ok-not-err e)
  typed-passed no_greatest e = absurd (ok-not-err e)
  typed-passed (greatest Γ) e = (Γ, refl, same-types e)

module _ (terms schema script : List ℕ) where
  pub read-refused : {n : Refusal} → read_tests terms schema script ≡ refused n → check terms schema script ≡ refused n
  unfolding check
  read-refused e = bind-refused type_tests e

  module _ (r : Ready) {table leasts : List ℕ} (told : (x : Parsed) × (read_tests terms schema script ≡ passed x) × CodedOf schema table leasts x r) where
    abbrev x : Parsed
    x = told.0

    types-left : check terms schema script ≡ typed x (verdict (constants_of x.schema x.terms) (written_types x.root) x.root)
    unfolding check typed type_tests
    types-left = bind-passed type_tests told.1

    module _ {a : OrRefusal (List ℕ)} (ea : (root : Script) → parsed (length (take r.count leasts)) script ≡ some root
        → a ≡ answer_of (written_types root) (verdict (sorts_in (take r.count leasts)) (written_types root) root)) where
      answer : a ≡ answer_of (written_types x.root) (verdict (constants_of x.schema x.terms) (written_types x.root) x.root)
      answer = of-terms terms schema script r told (λ constants root. answer_of (written_types root) (verdict constants (written_types root) root)) ea

      pub types-refused : {n : Refusal} → a ≡ Err n → check terms schema script ≡ refused n
      types-refused e = types-left ∙ typed-refused x _ (sym e ∙ answer)

      pub types-found : {types : List ℕ} → a ≡ Ok types
          → (c : Checked) × (check terms schema script ≡ passed c) × CardOf schema table leasts c (record { count = r.count; types = types; entries = r.entries })
      types-found e =
          let t = typed-passed x _ (sym e ∙ answer) in
          let k = told.2 in
          (made x t.0, types-left ∙ t.1, record { count = k.ready.count; types = t.2; slots = k.ready.slots; codes = k.codes; hashes = k.ready.entries })
