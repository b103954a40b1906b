-- Equations and implications of tests; on all datatypes, or all types, by one computation: the proof handed over is `tt`.
use Prim.Native.Nat.{ℕ}
use mathlib.Core.Path.{◌≡◌, refl}
use mathlib.Core.Logic.{◌↔◌}
use mathlib.Core.Bool.{Bool, true, false, not, ◌&&◌, ◌||◌}
use lib.Dec.{T, eqb, eqb→eq, eqb_refl}
use Rattle.definitions.specs.Types.{Datatype, Ty}
use Rattle.laws.proofs.Tests.{and_left, and_right, and_make, implies, apply}
use Rattle.laws.proofs.Order.{every_datatype, every_type, by_datatype, by_datatype2, by_datatype3, by_type, by_type2}

abbrev pub agree : Bool → Bool → Bool
agree true b = b
agree false b = not b

pub agreed : (a b : Bool) → T (agree a b) → a ≡ b
agreed true true t = refl
agreed true false t = absurd t
agreed false true t = absurd t
agreed false false t = refl

-- two tests that imply each other
pub both_ways : (a b : Bool) → (T a → T b) → (T b → T a) → a ≡ b
both_ways true true f g = refl
both_ways true false f g = absurd (f tt)
both_ways false true f g = absurd (g tt)
both_ways false false f g = refl

pub eqb_swap : (a b : ℕ) → eqb a b ≡ eqb b a
eqb_swap a b = both_ways (eqb a b) (eqb b a) (λ h. rw (eqb→eq a b h) (eqb_refl b)) (λ h. rw (eqb→eq b a h) (eqb_refl a))

pub both-pass : (a b : Bool) → (T a × T b) ↔ T (a && b)
both-pass a b = (λ h. and_make a b h.0 h.1, λ h. (and_left a b h, and_right a b h))

-- an implication as a test
pub passes-if : (a b : Bool) → (T a → T b) ↔ T (not a || b)
passes-if true b = (λ f. f tt, λ h k. h)
passes-if false b = (λ f. tt, λ h k. absurd k)

-- ── equations ───────────────────────────────────────────────────────────────────────────────

pub datatype-equal : (p q : Datatype → Bool) → T (every_datatype (λ d. agree (p d) (q d))) → (d : Datatype) → p d ≡ q d
datatype-equal p q h d = agreed (p d) (q d) (by_datatype (λ d. agree (p d) (q d)) h d)

pub datatype-equal2 : (p q : Datatype → Datatype → Bool)
    → T (every_datatype (λ d. every_datatype (λ e. agree (p d e) (q d e)))) → (d e : Datatype) → p d e ≡ q d e
datatype-equal2 p q h d e = agreed (p d e) (q d e) (by_datatype2 (λ d e. agree (p d e) (q d e)) h d e)

pub datatype-equal3 : (p q : Datatype → Datatype → Datatype → Bool)
    → T (every_datatype (λ d. every_datatype (λ e. every_datatype (λ f. agree (p d e f) (q d e f))))) → (d e f : Datatype) → p d e f ≡ q d e f
datatype-equal3 p q h d e f = agreed (p d e f) (q d e f) (by_datatype3 (λ d e f. agree (p d e f) (q d e f)) h d e f)

pub type-equal : (p q : Ty → Bool) → T (every_type (λ τ. agree (p τ) (q τ))) → (τ : Ty) → p τ ≡ q τ
type-equal p q h τ = agreed (p τ) (q τ) (by_type (λ τ. agree (p τ) (q τ)) h τ)

pub type-equal2 : (p q : Ty → Ty → Bool) → T (every_type (λ τ. every_type (λ σ. agree (p τ σ) (q τ σ)))) → (τ σ : Ty) → p τ σ ≡ q τ σ
type-equal2 p q h τ σ = agreed (p τ σ) (q τ σ) (by_type2 (λ τ σ. agree (p τ σ) (q τ σ)) h τ σ)

-- ── implications ────────────────────────────────────────────────────────────────────────────

pub datatype-implies : (p q : Datatype → Bool) → T (every_datatype (λ d. implies (p d) (q d))) → (d : Datatype) → T (p d) → T (q d)
datatype-implies p q h d k = apply (p d) (q d) (by_datatype (λ d. implies (p d) (q d)) h d) k

pub datatype-implies2 : (p q : Datatype → Datatype → Bool)
    → T (every_datatype (λ d. every_datatype (λ e. implies (p d e) (q d e)))) → (d e : Datatype) → T (p d e) → T (q d e)
datatype-implies2 p q h d e k = apply (p d e) (q d e) (by_datatype2 (λ d e. implies (p d e) (q d e)) h d e) k

pub type-implies2 : (p q : Ty → Ty → Bool) → T (every_type (λ τ. every_type (λ σ. implies (p τ σ) (q τ σ)))) → (τ σ : Ty) → T (p τ σ) → T (q τ σ)
type-implies2 p q h τ σ k = apply (p τ σ) (q τ σ) (by_type2 (λ τ σ. implies (p τ σ) (q τ σ)) h τ σ) k
