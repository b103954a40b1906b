-- The types of a term: a sort has exactly the types above a least one.
use mathlib.Core.Path.{◌≡◌, refl}
use mathlib.Core.Option.{Option, none, some}
use lib.Dec.{T}
use Rattle.definitions.specs.Types.{Datatype, Ty, plain, range, leq}
use Rattle.definitions.specs.Terms.{Term, Schema, datatype_in, Sort, has, sort_of, has_type}
use Rattle.definitions.specs.Evaluate.{is_uri}
use Rattle.laws.proofs.Order.{by_datatype, every_type, leq-trans}
use Rattle.laws.proofs.TestEquations.{agree, type-equal}
use Rattle.laws.specs.Sorts.{least}

pub has-least : (σ : Sort) (τ : Ty) → has σ τ ≡ leq (least σ) τ
unfolding least
has-least (Sort.uri none) τ = type-equal (has (Sort.uri none)) (leq (plain Datatype.any_uri)) tt τ
has-least (Sort.uri (some d)) τ =
    type-equal (has (Sort.uri (some d))) (leq (range d)) (by_datatype (λ d. every_type (λ τ. agree (has (Sort.uri (some d)) τ) (leq (range d) τ))) tt d) τ
has-least (Sort.literal d) τ = refl

pub has-of-least : (σ : Sort) (τ : Ty) → T (leq (least σ) τ) → T (has σ τ)
has-of-least σ τ h = rw (has-least σ τ) h

pub least-of-has : (σ : Sort) (τ : Ty) → T (has σ τ) → T (leq (least σ) τ)
least-of-has σ τ h = rw (has-least σ τ) at h

-- what has a type has every type above it
pub has_above : (σ : Sort) (τ ρ : Ty) → T (has σ τ) → T (leq τ ρ) → T (has σ ρ)
has_above σ τ ρ h k = has-of-least σ ρ (leq-trans (least σ) τ ρ (least-of-has σ τ h) k)

-- ── URIs ────────────────────────────────────────────────────────────────────────────────────

pub uri-has : (o : Option Datatype) → T (has (Sort.uri o) (plain Datatype.any_uri))
uri-has none = tt
uri-has (some d) = tt

-- a term has type any_uri exactly where it is a URI
pub is-uri : (S : Schema) (t : Term) → T (has_type S t (plain Datatype.any_uri)) → T (is_uri t)
unfolding sort_of
is-uri S (Term.uri u) h = tt
is-uri S (Term.string g t) h = h
is-uri S (Term.integer n) h = h
is-uri S (Term.decimal n) h = h
is-uri S (Term.date_time n) h = h

pub of-uri : (S : Schema) (t : Term) → T (is_uri t) → T (has_type S t (plain Datatype.any_uri))
unfolding sort_of
of-uri S (Term.uri u) h = uri-has (datatype_in S u)
of-uri S (Term.string g t) h = h
of-uri S (Term.integer n) h = h
of-uri S (Term.decimal n) h = h
of-uri S (Term.date_time n) h = h
