-- Facts about families, datatypes and types, most of them by one computation over all of them.
use mathlib.Core.Path.{◌≡◌, refl, sym, subst}
use Prim.Native.Nat.{◌<◌}
use native.Mathlib.Omega.{arith}
use mathlib.Core.Bool.{Bool, true, false, not, ◌&&◌}
use lib.Dec.{T, eqb, eqb→eq, eqb_refl, not_T}
use Rattle.definitions.specs.Types.{Datatype, any_uri, string, decimal, date_time, integer, Ty, plain, range, leq_datatype, leq, same_datatype}
use Rattle.laws.proofs.Tests.{and_left, and_right, and_make}
use Rattle.laws.proofs.Order.{leq-trans}
use Rattle.laws.proofs.TestEquations.{datatype-equal, datatype-implies, datatype-implies2, type-implies2}
use Rattle.codes.specs.Family.{family, own_datatype}
use Rattle.facts.specs.Tables.{family_limit}

abbrev pub is_range : Ty → Bool
is_range (plain d) = false
is_range (range d) = true

-- the datatype of a range; of what is no range the one given
abbrev pub range_or : Datatype → Ty → Datatype
range_or d (plain e) = d
range_or d (range e) = e

-- a property of the first type can have an object of the second; the datatype given does not matter
abbrev pub is_property : Datatype → Ty → Ty → Bool
is_property d τ σ = is_range τ && leq_datatype (own_datatype σ) (range_or d τ)

pub property-any : (τ σ : Ty) (d e : Datatype) → is_property d τ σ ≡ is_property e τ σ
property-any (plain c) σ d e = refl
property-any (range c) σ d e = refl

pub family-below : (d : Datatype) → family d < family_limit
family-below any_uri = omega arith
family-below string = omega arith
family-below decimal = omega arith
family-below date_time = omega arith
family-below integer = omega arith

same-family : (d e : Datatype) → family d ≡ family e → T (eqb (family d) (family e))
same-family d e h = subst (λ n. T (eqb (family d) n)) h (eqb_refl (family d))

-- ── datatypes ───────────────────────────────────────────────────────────────────────────────

pub datatype-trans : (a b c : Datatype) → T (leq_datatype a b) → T (leq_datatype b c) → T (leq_datatype a c)
datatype-trans a b c p q = leq-trans (plain a) (plain b) (plain c) p q

pub leq-family : (a b : Datatype) → T (leq_datatype a b) → family a ≡ family b
leq-family a b h = eqb→eq (family a) (family b) (datatype-implies2 leq_datatype (λ a b. eqb (family a) (family b)) tt a b h)

pub not-between : (a : Datatype) → T (leq_datatype decimal a) → T (leq_datatype a integer) → ⊥
not-between a p q =
    datatype-implies (λ a. leq_datatype decimal a && leq_datatype a integer) (λ a. false) tt a (and_make (leq_datatype decimal a) (leq_datatype a integer) p q)

pub is-decimal : (a : Datatype) → T (same_datatype a decimal) → T (leq_datatype decimal a)
is-decimal = datatype-implies (λ a. same_datatype a decimal) (leq_datatype decimal) tt

pub is-integer : (a : Datatype) → T (same_datatype a integer) → T (leq_datatype a integer)
is-integer = datatype-implies (λ a. same_datatype a integer) (λ a. leq_datatype a integer) tt

-- within a family a datatype is below another, but for decimal and integer
pub leq-within : (a b : Datatype) → family a ≡ family b → (T (same_datatype a decimal) → T (same_datatype b integer) → ⊥) → T (leq_datatype a b)
leq-within a b e f =
    let x : Bool = same_datatype a decimal in
    let y : Bool = same_datatype b integer in
    datatype-implies2 (λ a b. eqb (family a) (family b) && not (same_datatype a decimal && same_datatype b integer)) leq_datatype tt a b
    (and_make (eqb (family a) (family b)) (not (x && y)) (same-family a b e) (not_T (x && y) (λ t. f (and_left x y t) (and_right x y t))))

pub leq-at-most : (a d : Datatype) → family a ≡ family d → (T (same_datatype d integer) → T (leq_datatype a integer)) → T (leq_datatype a d)
leq-at-most a d e f = leq-within a d e (λ p q. not-between a (is-decimal a p) (f q))

pub leq-at-least : (d a : Datatype) → family d ≡ family a → (T (same_datatype d decimal) → T (leq_datatype decimal a)) → T (leq_datatype d a)
leq-at-least d a e f = leq-within d a e (λ p q. not-between a (f p) (is-integer a q))

-- ── types ───────────────────────────────────────────────────────────────────────────────────

pub leq-plain : (τ : Ty) (d : Datatype) → leq τ (plain d) ≡ leq_datatype (own_datatype τ) d
leq-plain (plain e) d = refl
leq-plain (range e) d = datatype-equal (λ d. same_datatype d any_uri) (leq_datatype any_uri) tt d

pub leq-ranges : (τ σ : Ty) (d e : Datatype) → T (is_range τ) → T (is_range σ) → T (leq_datatype (range_or e σ) (range_or d τ)) → T (leq τ σ)
leq-ranges (plain c) σ d e p q r = absurd p
leq-ranges (range b) (plain c) d e p q r = absurd q
leq-ranges (range b) (range c) d e p q r = r

pub leq-datatypes : (τ σ : Ty) → T (not (is_range σ)) → T (leq_datatype (own_datatype τ) (own_datatype σ)) → T (leq τ σ)
leq-datatypes τ (plain e) p q = subst T (sym (leq-plain τ e)) q
leq-datatypes τ (range e) p q = absurd p

pub own-leq : (τ σ : Ty) → T (leq τ σ) → T (leq_datatype (own_datatype τ) (own_datatype σ))
own-leq = type-implies2 leq (λ τ σ. leq_datatype (own_datatype τ) (own_datatype σ)) tt

pub range-leq : (τ σ : Ty) (d e : Datatype) → T (is_range σ) → T (leq τ σ) → T (leq_datatype (range_or e σ) (range_or d τ))
range-leq τ (plain c) d e p h = absurd p
range-leq (plain b) (range c) d e p h = absurd h
range-leq (range b) (range c) d e p h = h
