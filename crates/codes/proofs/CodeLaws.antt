-- What the codes of types stand for, and their order.
use Prim.Native.Nat.{ℕ, ◌+◌, ◌-◌, ◌≤◌, ◌<◌}
use native.Mathlib.Decide.{ℕ_discrete}
use native.Mathlib.Omega.{arith}
use mathlib.Core.Path.{◌≡◌, refl, sym, ap, ap₂, ◌∙◌}
use mathlib.Core.Bool.{Bool, false, not, ◌&&◌}
use mathlib.Core.Logic.{◌⊎◌, ⊎_elim}
use mathlib.Core.Option.{none, some}
use lib.Dec.{eqb, eqb→eq}
use borrow.Author.Tests.{lt-ltb, le-ltb, ne_eqb}
use Rattle.definitions.specs.Types.{Datatype, any_uri, string, decimal, date_time, integer, Ty, plain, range, datatype_code, type_code, type_rows, type_of_code, leq_datatype, leq, same_datatype}
use Rattle.laws.proofs.Reading.{Others, row-others, row-keys}
use Rattle.laws.proofs.Ranges.{every_in}
use Rattle.laws.proofs.Options.{some_is, some-not-none}
use Rattle.laws.proofs.TestEquations.{datatype-equal2, type-equal2}
use Rattle.codes.specs.Family.{family, own_datatype}
use Rattle.codes.specs.TypeCodes.{literal_rows, datatype_of, type_of, code_leq}

-- ── datatypes ───────────────────────────────────────────────────────────────────────────────

module _ (k : ℕ) where
  -- none of the literals' codes
  pub other-datatype : Others (Unit {0}) k literal_rows → datatype_of k ≡ any_uri
  unfolding datatype_of
  other-datatype h = row-others (Unit {0}) literal_rows any_uri k h

  pub is-decimal : same_datatype (datatype_of k) decimal ≡ eqb k 3
  unfolding datatype_of
  is-decimal = go (ℕ_discrete k 3)
    where
      go : Dec (k ≡ 3) → same_datatype (datatype_of k) decimal ≡ eqb k 3
      go (yes e) = rw e refl
      go (no n) =
          row-keys (λ k d. (k ≡ 3 → ⊥) → same_datatype d decimal ≡ false) k literal_rows any_uri
          (λ n. refl, (λ n. absurd (n refl), (λ n. refl, (λ n. refl, tt)))) (λ n. refl) n
          ∙ sym (ne_eqb k 3 n)

  pub is-integer : same_datatype (datatype_of k) integer ≡ eqb k 5
  unfolding datatype_of
  is-integer = go (ℕ_discrete k 5)
    where
      go : Dec (k ≡ 5) → same_datatype (datatype_of k) integer ≡ eqb k 5
      go (yes e) = rw e refl
      go (no n) =
          row-keys (λ k d. (k ≡ 5 → ⊥) → same_datatype d integer ≡ false) k literal_rows any_uri
          (λ n. refl, (λ n. refl, (λ n. refl, (λ n. absurd (n refl), tt)))) (λ n. refl) n
          ∙ sym (ne_eqb k 5 n)

-- a literal's code is its datatype's, any other stands for any_uri's
module _ (k : ℕ) where
  pub literal-code : 2 ≤ k → k < 6 → (k ≡ datatype_code (datatype_of k)) × (k < 8)
  unfolding datatype_of
  literal-code from to =
      (eqb→eq k (datatype_code (datatype_of k)) (every_in (λ k. eqb k (datatype_code (datatype_of k))) 2 4 tt k from (omega arith)), omega arith)

  pub other-code : (k < 2) ⊎ (6 ≤ k) → (1 ≡ datatype_code (datatype_of k)) × (1 < 8)
  other-code h = (
    sym (ap datatype_code (other-datatype k
        ((((tt, outside 2 (omega arith) (omega arith)), outside 3 (omega arith) (omega arith)), outside 4 (omega arith) (omega arith)), outside 5 (omega arith) (omega arith)))),
    omega arith,
  )
    where
      outside : (j : ℕ) → 2 ≤ j → j < 6 → k ≡ j → ⊥
      outside j from to e = ⊎_elim (λ w. omega arith) (λ w. omega arith) h

-- decimal is not below integer; else a datatype is below those of its family
leq-by-family : (d e : Datatype) → leq_datatype d e ≡ not (same_datatype d decimal && same_datatype e integer) && eqb (family d) (family e)
leq-by-family = datatype-equal2 leq_datatype (λ d e. not (same_datatype d decimal && same_datatype e integer) && eqb (family d) (family e)) tt

pub below-is : (a b : ℕ) (t : Bool) → (eqb a 3 && eqb b 5) ≡ t
    → leq_datatype (datatype_of a) (datatype_of b) ≡ not t && eqb (family (datatype_of a)) (family (datatype_of b))
below-is a b t e =
    leq-by-family (datatype_of a) (datatype_of b)
    ∙ ap (λ u. not u && eqb (family (datatype_of a)) (family (datatype_of b))) (ap₂ ◌&&◌ (is-decimal a) (is-integer b) ∙ e)

-- ── types ───────────────────────────────────────────────────────────────────────────────────

module _ (k : ℕ) where
  pub plain_code : k < 8 → type_of k ≡ plain (datatype_of k)
  unfolding type_of
  plain_code h = rw (lt-ltb k 8 h)

  pub range-code : 8 ≤ k → type_of k ≡ range (datatype_of (k - 8))
  unfolding type_of
  range-code h = rw (le-ltb k 8 h)

  pub own-plain : k < 8 → datatype_of k ≡ own_datatype (type_of k)
  own-plain h = sym (ap own_datatype (plain_code h))

  pub own_range : 8 ≤ k → datatype_of 1 ≡ own_datatype (type_of k)
  unfolding datatype_of
  own_range h = sym (ap own_datatype (range-code h))

  pub normal-plain : {r : ℕ} → k < 8 → r ≡ datatype_code (datatype_of k) → r ≡ type_code (type_of k)
  normal-plain h e = e ∙ sym (ap type_code (plain_code h))

  pub normal-range : {r : ℕ} → 8 ≤ k → r ≡ datatype_code (datatype_of (k - 8)) → 8 + r ≡ type_code (type_of k)
  normal-range h e = ap (λ n. 8 + n) e ∙ sym (ap type_code (range-code h))

-- a type's code stands for it
pub type-back : (τ : Ty) → type_of (type_code τ) ≡ τ
unfolding type_of datatype_of
type-back (plain any_uri) = refl
type-back (plain string) = refl
type-back (plain decimal) = refl
type-back (plain date_time) = refl
type-back (plain integer) = refl
type-back (range any_uri) = refl
type-back (range string) = refl
type-back (range decimal) = refl
type-back (range date_time) = refl
type-back (range integer) = refl

-- ── the order on codes ──────────────────────────────────────────────────────────────────────

pub code_of : (n : ℕ) (τ : Ty) → type_of_code n ≡ some τ → type_code τ ≡ n
code_of n τ = row-keys (λ k o. o ≡ some τ → type_code τ ≡ k) n type_rows none (is, (is, (is, (is, (is, (is, (is, (is, (is, (is, tt))))))))))
    (λ e. absurd (some-not-none e refl))
  where
    is : {σ : Ty} → some σ ≡ some τ → type_code τ ≡ type_code σ
    is e = ap type_code (sym (some_is e))

pub code-leq : (a b : ℕ) (σ τ : Ty) → type_of_code a ≡ some σ → type_of_code b ≡ some τ → code_leq a b ≡ leq σ τ
code-leq a b σ τ ea eb =
    ap₂ code_leq (sym (code_of a σ ea)) (sym (code_of b τ eb)) ∙ type-equal2 (λ σ τ. code_leq (type_code σ) (type_code τ)) leq tt σ τ
