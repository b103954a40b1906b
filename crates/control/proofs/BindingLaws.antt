-- Flags and bindings of the sixteen variables: what a loop over them has still to do, and what they say of the state.
use Prim.Native.Nat.{ℕ, ◌+◌, ◌≤◌, ◌<◌}
use native.Mathlib.Omega.{arith}
use mathlib.Core.Path.{◌≡◌, refl, sym, ◌∙◌, ap, ap₂}
use mathlib.Core.List.{List, [], ◌∷◌}
use mathlib.Core.Bool.{Bool, true, false, cond, not, ◌&&◌, ◌||◌}
use mathlib.Core.Option.{none, some}
use lib.Dec.{eqb, ltb}
use lib.ListN.{length, get_or, drop, take, length-take}
use borrow.Author.Tests.{lt-ltb, le-ltb, eq-eqb, ne_eqb}
use Rattle.std.specs.List.{list_all}
use Rattle.definitions.specs.Limits.{variable_limit}
use Rattle.definitions.specs.Lists.{every}
use Rattle.definitions.specs.Types.{Ty}
use Rattle.definitions.specs.Terms.{Term, Schema}
use Rattle.definitions.specs.Scope.{variables, variables_of, binders_of}
use Rattle.definitions.specs.Typing.{Written, unbound, undecided, fixed, written_in, type_at}
use Rattle.definitions.specs.Saved.{bindings_in}
use Rattle.definitions.specs.Sound.{number_has, binding_sound}
use Rattle.definitions.specs.Calls.{Checked, reported_type}
use Rattle.definitions.specs.declared.SavedControl.{SavedControl}
use Rattle.laws.proofs.EveryFrom.{every-next, every-stop, every-none}
use Rattle.laws.proofs.Variables.{at-variable}
use Rattle.laws.proofs.Variables.{made-same}
use Rattle.laws.specs.Sorts.{LeastOf}
use Rattle.codes.specs.TypeCodes.{code_leq}
use Rattle.control.specs.Control.{tuple_fits, number_fits, binding_fits, bindings_fit, Lends}
use Rattle.laws.proofs.Reported.{variable-code, is_written, written-binds}
use Rattle.control.proofs.TypeLaws.{number_fits_lem, code-not-zero}

-- ── a test of the sixteen variables, one by one ─────────────────────────────────────────────

module _ (p : ℕ → Bool) (v : ℕ) (far : every p variables ≡ every p (drop v variables)) where
  at : v < 16 → p (get_or variables v 0) ≡ p v
  at h = ap p (at-variable (λ w. w) 0 v h)

  pub variables-next : v < 16 → p v ≡ true → every p variables ≡ every p (drop (v + 1) variables)
  variables-next h e = every-next p variables v 0 far h (at h ∙ e)

  pub variables-stop : v < 16 → p v ≡ false → false ≡ every p variables
  variables-stop h e = every-stop p variables v 0 far h (at h ∙ e)

  pub variables-done : 16 ≤ v → true ≡ every p variables
  variables-done h = every-none p variables v 0 far h

-- two tests that agree at each of them
pub every-same : (p q : ℕ → Bool) → ((v : ℕ) → v < 16 → p v ≡ q v) → every p variables ≡ every q variables
every-same p q h = ap (every (λ (b : Bool). b)) (made-same p q h)

-- ── a tuple's first numbers ─────────────────────────────────────────────────────────────────

-- std's word for a test of each element is the definitions'
all-every : {A : Type 0} (p : A → Bool) (l : List A) → list_all p l ≡ every p l
all-every p [] = refl
all-every p (x ∷ l) = ap (λ (b : Bool). p x && b) (all-every p l)

-- no more are asked for than there are
pub tuple-tested : (terms n : ℕ) (last : List ℕ) → length last ≡ 4 → n ≤ 4 → {r : Bool} → r ≡ list_all (λ i. ltb i terms) (take n last) → r ≡ tuple_fits terms n last
unfolding tuple_fits
tuple-tested terms n last l few e =
    let counted : length (take n last) ≡ n = omega (arith, length-take n last) in
    e ∙ (all-every (λ i. ltb i terms) (take n last)
    ∙ sym (ap (λ (b : Bool). b && every (λ i. ltb i terms) (take n last)) (eq-eqb (length (take n last)) n counted)))

-- ── one binding ─────────────────────────────────────────────────────────────────────────────

module _ (leasts : List ℕ) (count : ℕ) {bound : Bool} (i ty : ℕ) where
  pub not-bound : bound ≡ false → true ≡ binding_fits leasts count bound i ty
  unfolding binding_fits
  not-bound e = rw e

  module _ (b : bound ≡ true) where
    pub no-pair : ty ≡ 0 → false ≡ binding_fits leasts count bound i ty
    unfolding binding_fits
    no-pair e = rw (b, eq-eqb ty 0 e)

    module _ (pair : ty ≡ 0 → ⊥) where
      pub no-term : count ≤ i → false ≡ binding_fits leasts count bound i ty
      unfolding binding_fits number_fits
      no-term e = rw (b, ne_eqb ty 0 pair, le-ltb i count e)

      pub term_fits : i < count → {r : Bool} → r ≡ code_leq (get_or leasts i 0) ty → r ≡ binding_fits leasts count bound i ty
      unfolding binding_fits number_fits
      term_fits h e = rw (b, ne_eqb ty 0 pair, lt-ltb i count h) e

-- ── what the bindings stand for ─────────────────────────────────────────────────────────────

module _ (S : Schema) (terms : List Term) (leasts : List ℕ) (codes : LeastOf S terms leasts) where
  -- a bound variable, by what is written at it
  written-fits : (w : Written) (τ : Ty) (i : ℕ)
      → (not (eqb (reported_type w τ) 0) && number_fits leasts (length terms) i (reported_type w τ)) ≡ (is_written w && number_has S terms i τ)
  written-fits unbound τ i = refl
  written-fits undecided τ i = ap₂ ◌&&◌ (code-not-zero τ) (number_fits_lem S terms leasts codes i τ)
  written-fits (fixed σ) τ i = ap₂ ◌&&◌ (code-not-zero τ) (number_fits_lem S terms leasts codes i τ)

module _ (script : List ℕ) (loaded : ℕ) (saved : SavedControl) (count : ℕ) (leasts : List ℕ) (c : Checked) (terms : List Term)
    (lends : Lends script loaded saved count leasts c terms) where
  one-sound : (v : ℕ) → v < 16
      → binding_fits leasts count (get_or saved.bound v false) (get_or saved.bindings v 0) (get_or saved.types v 0)
      ≡ binding_sound c.schema c.types terms (variables_of (binders_of c.root)) v (bindings_in saved v)
  unfolding binding_fits bindings_in
  one-sound v h = rw (lt-ltb v variable_limit h) (go (get_or saved.bound v false))
    where
      code : get_or saved.types v 0 ≡ reported_type (written_in (binders_of c.root) v) (type_at c.types v)
      code = ap (λ (l : List ℕ). get_or l v 0) lends.types ∙ variable-code c.root c.types lends.each v h

      go : (b : Bool) → (not b || (not (eqb (get_or saved.types v 0) 0) && number_fits leasts count (get_or saved.bindings v 0) (get_or saved.types v 0)))
          ≡ binding_sound c.schema c.types terms (variables_of (binders_of c.root)) v (cond (true && b) (some (get_or saved.bindings v 0)) none)
      go false = refl
      go true =
          ap₂ (λ (ty n : ℕ). not (eqb ty 0) && number_fits leasts n (get_or saved.bindings v 0) ty) code lends.counted
          ∙ (written-fits c.schema terms leasts lends.codes (written_in (binders_of c.root) v) (type_at c.types v) (get_or saved.bindings v 0)
          ∙ ap (λ (b : Bool). b && number_has c.schema terms (get_or saved.bindings v 0) (type_at c.types v)) (written-binds (binders_of c.root) v))

  abbrev pub bindings_sound : Bool
  bindings_sound = every (λ v. binding_sound c.schema c.types terms (variables_of (binders_of c.root)) v (bindings_in saved v)) variables

  pub bindings-are : bindings_fit leasts count saved.bound saved.bindings saved.types ≡ bindings_sound
  unfolding bindings_fit
  bindings-are =
      every-same (λ v. binding_fits leasts count (get_or saved.bound v false) (get_or saved.bindings v 0) (get_or saved.types v 0))
      (λ v. binding_sound c.schema c.types terms (variables_of (binders_of c.root)) v (bindings_in saved v)) one-sound
