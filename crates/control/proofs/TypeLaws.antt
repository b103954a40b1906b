-- Terms of a type by the codes of their least types, and the reported types.
use Prim.Native.Nat.{ℕ, ◌<◌, ◌≤◌}
use mathlib.Core.Path.{◌≡◌, refl, sym, ◌∙◌, ap, ap₂}
use mathlib.Core.Logic.{⊎_elim}
use mathlib.Core.List.{List}
use mathlib.Core.Bool.{Bool, true, not, ◌&&◌}
use mathlib.Core.Option.{Option, none, some}
use lib.Dec.{eqb, ltb}
use lib.ListN.{length, get_or, get_elem?}
use borrow.Author.Tests.{lt-ltb, le-ltb}
use Rattle.definitions.specs.Types.{Ty, type_code}
use Rattle.definitions.specs.Terms.{Term, Schema, sort_of}
use Rattle.definitions.specs.Sound.{term_has, number_has}
use Rattle.laws.proofs.Tests.{is_true}
use Rattle.laws.proofs.Options.{some-not-none}
use Rattle.laws.proofs.Order.{by_type, type-of-code}
use Rattle.laws.proofs.Ranges.{split}
use Rattle.laws.specs.Sorts.{least, LeastOf}
use Rattle.laws.proofs.Sorts.{has-least}
use Rattle.laws.proofs.Bindings.{there-is, is_below}
use Rattle.codes.specs.TypeCodes.{code_leq}
use Rattle.codes.proofs.CodeLaws.{code_of, code-leq}
use Rattle.control.specs.Control.{number_fits}

-- ── codes ───────────────────────────────────────────────────────────────────────────────────

pub code-not-zero : (τ : Ty) → not (eqb (type_code τ) 0) ≡ true
code-not-zero τ = is_true (not (eqb (type_code τ) 0)) (by_type (λ τ. not (eqb (type_code τ) 0)) tt τ)

-- ── the term of a number ────────────────────────────────────────────────────────────────────

module _ (S : Schema) (terms : List Term) (leasts : List ℕ) (codes : LeastOf S terms leasts) where
  pub number_fits_lem : (i : ℕ) (τ : Ty) → number_fits leasts (length terms) i (type_code τ) ≡ number_has S terms i τ
  unfolding number_fits
  number_fits_lem i τ = go (get_elem? terms i) refl
    where
      go : (o : Option Term) → get_elem? terms i ≡ o → (ltb i (length terms) && code_leq (get_or leasts i 0) (type_code τ)) ≡ term_has S o τ
      go none e =
          let out = le-ltb i (length terms)
          (⊎_elim (λ (h : length terms ≤ i). h) (λ (h : i < length terms). absurd (some-not-none (there-is terms i h).1 e)) (split (length terms) i)) in
          ap (λ (b : Bool). b && code_leq (get_or leasts i 0) (type_code τ)) out
      go (some t) e =
          let σ = least (sort_of S t) in
          ap₂ ◌&&◌ (lt-ltb i (length terms) (is_below terms i t e)) (ap (λ (n : ℕ). code_leq n (type_code τ)) (sym (code_of (get_or leasts i 0) σ (codes i t e))))
          ∙ (code-leq (type_code σ) (type_code τ) σ τ (type-of-code σ) (type-of-code τ) ∙ sym (has-least (sort_of S t) τ))
