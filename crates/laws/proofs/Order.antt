-- The order of the types. A fact about all datatypes, or all types, is one computed test over them.
use mathlib.Core.Path.{◌≡◌, refl, ap, sym, ◌∙◌}
use mathlib.Core.Bool.{Bool, ◌&&◌}
use mathlib.Core.Option.{some, some-injective}
use lib.Dec.{T, eqb→eq}
use Rattle.definitions.specs.Types.{Datatype, any_uri, string, decimal, date_time, integer, Ty, plain, range, leq, type_code, type_of_code, same_datatype, same_type}
use Rattle.laws.proofs.Tests.{and_left, and_right, implies, apply}

-- ── by computation over all of them ─────────────────────────────────────────────────────────

abbrev pub every_datatype : (Datatype → Bool) → Bool
every_datatype p = p any_uri && p string && p decimal && p date_time && p integer

abbrev pub every_type : (Ty → Bool) → Bool
every_type p = every_datatype (λ d. p (plain d)) && every_datatype (λ d. p (range d))

-- by_datatype p tt d
pub by_datatype : (p : Datatype → Bool) → T (every_datatype p) → (d : Datatype) → T (p d)
by_datatype p t any_uri = search (and_left, and_right)
by_datatype p t string = search (and_left, and_right)
by_datatype p t decimal = search (and_left, and_right)
by_datatype p t date_time = search (and_left, and_right)
by_datatype p t integer = search (and_left, and_right)

pub by_datatype2 : (p : Datatype → Datatype → Bool) → T (every_datatype (λ d. every_datatype (λ e. p d e))) → (d e : Datatype) → T (p d e)
by_datatype2 p h d e = by_datatype (p d) (by_datatype (λ d. every_datatype (λ e. p d e)) h d) e

pub by_datatype3 : (p : Datatype → Datatype → Datatype → Bool) → T (every_datatype (λ d. every_datatype (λ e. every_datatype (λ f. p d e f)))) → (d e f : Datatype) → T (p d e f)
by_datatype3 p h d e f = by_datatype2 (p d) (by_datatype (λ d. every_datatype (λ e. every_datatype (λ f. p d e f))) h d) e f

pub by_type : (p : Ty → Bool) → T (every_type p) → (τ : Ty) → T (p τ)
by_type p t (plain d) = by_datatype (λ d. p (plain d)) (and_left (every_datatype (λ d. p (plain d))) (every_datatype (λ d. p (range d))) t) d
by_type p t (range d) = by_datatype (λ d. p (range d)) (and_right (every_datatype (λ d. p (plain d))) (every_datatype (λ d. p (range d))) t) d

pub by_type2 : (p : Ty → Ty → Bool) → T (every_type (λ τ. every_type (λ σ. p τ σ))) → (τ σ : Ty) → T (p τ σ)
by_type2 p h τ σ = by_type (p τ) (by_type (λ τ. every_type (λ σ. p τ σ)) h τ) σ

pub by_type3 : (p : Ty → Ty → Ty → Bool) → T (every_type (λ τ. every_type (λ σ. every_type (λ ρ. p τ σ ρ)))) → (τ σ ρ : Ty) → T (p τ σ ρ)
by_type3 p h τ σ ρ = by_type2 (p τ) (by_type (λ τ. every_type (λ σ. every_type (λ ρ. p τ σ ρ))) h τ) σ ρ

-- ── the order ───────────────────────────────────────────────────────────────────────────────

pub leq-refl : (τ : Ty) → T (leq τ τ)
leq-refl τ = by_type (λ τ. leq τ τ) tt τ

pub leq-trans : (a b c : Ty) → T (leq a b) → T (leq b c) → T (leq a c)
leq-trans a b c p q =
    apply (leq b c) (leq a c) (apply (leq a b) (implies (leq b c) (leq a c)) (by_type3 (λ a b c. implies (leq a b) (implies (leq b c) (leq a c))) tt a b c) p) q

pub leq-antisym : (a b : Ty) → T (leq a b) → T (leq b a) → T (same_type a b)
leq-antisym a b p q =
    apply (leq b a) (same_type a b) (apply (leq a b) (implies (leq b a) (same_type a b)) (by_type2 (λ a b. implies (leq a b) (implies (leq b a) (same_type a b))) tt a b) p) q

-- ── equality is equality of codes ───────────────────────────────────────────────────────────

pub type-of-code : (τ : Ty) → type_of_code (type_code τ) ≡ some τ
type-of-code (plain any_uri) = refl
type-of-code (plain string) = refl
type-of-code (plain decimal) = refl
type-of-code (plain date_time) = refl
type-of-code (plain integer) = refl
type-of-code (range any_uri) = refl
type-of-code (range string) = refl
type-of-code (range decimal) = refl
type-of-code (range date_time) = refl
type-of-code (range integer) = refl

pub same-type : (τ σ : Ty) → T (same_type τ σ) → τ ≡ σ
same-type τ σ h = some-injective τ σ (sym (type-of-code τ) ∙ (ap type_of_code (eqb→eq (type_code τ) (type_code σ) h) ∙ type-of-code σ))

pub same-datatype : (d e : Datatype) → T (same_datatype d e) → d ≡ e
same-datatype d e h = let p : plain d ≡ plain e = same-type (plain d) (plain e) h in cc
