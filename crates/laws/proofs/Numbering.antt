-- Terms as loading and pages number them: what holds of all terms, and that they are distinct, is kept by a new number.
use Prim.Native.Nat.{zero}
use mathlib.Core.Bool.{Bool, true, false, not}
use mathlib.Core.List.{List, [], ◌∷◌}
use lib.Dec.{T}
use Rattle.definitions.specs.Lists.{every, distinct}
use Rattle.definitions.specs.Terms.{Term, Schema, same_term}
use Rattle.definitions.specs.Machine.{Numbered, numbered, after_term, with_properties}
use Rattle.laws.proofs.Tests.{and_left, and_right, and_make}
use Rattle.laws.specs.Lists.{All}
use Rattle.laws.proofs.All.{not-other-way}
use Rattle.laws.proofs.Equality.{same-term, term-refl}

-- by the cases of a term that is numbered: it is there, or it joins
pub by-numbered : (P : List Term → Type 0) (t x : Term) (ts : List Term)
    → (T (same_term t x) → P (x ∷ ts)) → (T (not (same_term t x)) → P (x ∷ (numbered t ts).terms)) → P (numbered t (x ∷ ts)).terms
unfolding numbered
by-numbered P t x ts h k = go (same_term t x) h k
  where
    go : (b : Bool) → (T b → P (x ∷ ts)) → (T (not b) → P (x ∷ (numbered t ts).terms))
        → P (elim b as (λ c. Numbered) [ true ↦ record { number = zero; terms = x ∷ ts } | false ↦ after_term x (numbered t ts) ]).terms
    go true h k = h tt
    go false h k = k tt

pub all-numbered : (P : Term → Type 0) (t : Term) (ts : List Term) → All P ts → P t → All P (numbered t ts).terms
unfolding numbered
all-numbered P t [] h k = (k, tt)
all-numbered P t (x ∷ ts) h k = by-numbered (All P) t x ts (λ e. h) (λ e. (h.0, all-numbered P t ts h.1 k))

pub every-numbered : (p : Term → Bool) (t : Term) (ts : List Term) → T (every p ts) → T (p t) → T (every p (numbered t ts).terms)
unfolding numbered
every-numbered p t [] h k = and_make (p t) true k tt
every-numbered p t (x ∷ ts) h k =
    by-numbered (λ l. T (every p l)) t x ts (λ e. h)
    (λ e. and_make (p x) (every p (numbered t ts).terms) (and_left (p x) (every p ts) h) (every-numbered p t ts (and_right (p x) (every p ts) h) k))

pub distinct-numbered : (t : Term) (ts : List Term) → T (distinct same_term ts) → T (distinct same_term (numbered t ts).terms)
unfolding numbered
distinct-numbered t [] h = tt
distinct-numbered t (x ∷ ts) h =
    let others : List Term → Bool = every (λ y. not (same_term x y)) in
    let apart = and_left (others ts) (distinct same_term ts) h in
    let rest = distinct-numbered t ts (and_right (others ts) (distinct same_term ts) h) in
    by-numbered (λ l. T (distinct same_term l)) t x ts (λ e. h) (λ e.
    and_make (others (numbered t ts).terms) (distinct same_term (numbered t ts).terms)
    (every-numbered (λ y. not (same_term x y)) t ts apart (not-other-way same_term same-term term-refl t x e)) rest)

-- ── the schema's URIs ───────────────────────────────────────────────────────────────────────

pub all-properties : (P : Term → Type 0) (S : Schema) (ts : List Term) → All P ts → All (λ e. P (Term.uri e.property)) S → All P (with_properties S ts)
unfolding with_properties
all-properties P [] ts h k = h
all-properties P (e ∷ S) ts h k = all-properties P S (numbered (Term.uri e.property) ts).terms (all-numbered P (Term.uri e.property) ts h k.0) k.1

pub distinct-properties : (S : Schema) (ts : List Term) → T (distinct same_term ts) → T (distinct same_term (with_properties S ts))
unfolding with_properties
distinct-properties [] ts h = h
distinct-properties (e ∷ S) ts h = distinct-properties S (numbered (Term.uri e.property) ts).terms (distinct-numbered (Term.uri e.property) ts h)
