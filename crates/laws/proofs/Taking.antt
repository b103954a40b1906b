-- Taking in a page, record by record: what a record that is stored does to terms and quads, and what holds at the end.
use Prim.Native.Nat.{ℕ}
use mathlib.Core.Path.{◌≡◌, refl}
use mathlib.Core.Logic.{◌⊎◌, inl, inr, ⊎_elim}
use mathlib.Core.List.{List, [], ◌∷◌, ◌++◌}
use mathlib.Core.Bool.{Bool, true, false, not, ◌||◌}
use mathlib.Core.Option.{Option, none, some}
use lib.Dec.{T, eqb, eqb→eq, eqb_refl}
use Rattle.definitions.specs.Lists.{is_in, distinct}
use Rattle.definitions.specs.Types.{Datatype, plain}
use Rattle.definitions.specs.Terms.{Term, Schema, Triple, datatype_in, has_type, same_term}
use Rattle.definitions.specs.Evaluate.{Quad}
use Rattle.definitions.specs.Machine.{numbered, Taken, skip, with_quad, store, object_fits, well_typed, take_one, take_all, joined}
use Rattle.laws.proofs.Tests.{or_left, or_right, or_cases, by-test}
use Rattle.laws.specs.Lists.{◌∈◌}
use Rattle.laws.proofs.Lists.{here, there, some-append}
use Rattle.laws.specs.Lists.{All}
use Rattle.laws.proofs.All.{all_append, distinct-end}
use Rattle.laws.specs.Bindings.{Extends}
use Rattle.laws.proofs.Numbering.{distinct-numbered}
use Rattle.laws.proofs.TermNumbers.{number-there, number-extends}
use Rattle.laws.specs.Quads.{Names}

-- ── one record ──────────────────────────────────────────────────────────────────────────────

pub names_more : (old new : List Term) → Extends old new → (q : Quad) (r : Triple) → Names old q r → Names new q r
names_more old new more q r h =
    record {
      subject = more q.subject (Term.uri r.subject) h.subject;
      property = more q.property (Term.uri r.property) h.property;
      object = more q.object r.object h.object;
    }

-- a well typed record: terms and one quad
pub record Stored (g : ℕ) (r : Triple) (k : Taken) : Type 0 where
  pub terms : List Term
  pub quad : Quad
  pub is : store g r k ≡ record { skipped = k.skipped; terms = terms; quads = with_quad quad k.quads }
  pub extends : Extends k.terms terms
  pub apart : T (distinct same_term k.terms) → T (distinct same_term terms)
  pub graph : quad.graph ≡ g
  pub names : Names terms quad r

pub stored_one : (g : ℕ) (r : Triple) (k : Taken) → Stored g r k
unfolding store
stored_one g r k =
    let x = numbered (Term.uri r.subject) k.terms in
    let p = numbered (Term.uri r.property) x.terms in
    let o = numbered r.object p.terms in
    let e₁ = number-extends (Term.uri r.subject) k.terms in
    let e₂ = number-extends (Term.uri r.property) x.terms in
    let e₃ = number-extends r.object p.terms in
    record {
      terms = o.terms;
      quad = record { graph = g; subject = x.number; property = p.number; object = o.number };
      is = refl;
      extends = λ i t y. e₃ i t (e₂ i t (e₁ i t y));
      apart = λ h.
          let h₁ = distinct-numbered (Term.uri r.subject) k.terms h in
          distinct-numbered r.object p.terms (distinct-numbered (Term.uri r.property) x.terms h₁);
      graph = refl;
      names = record {
        subject = e₃ x.number (Term.uri r.subject) (e₂ x.number (Term.uri r.subject) (number-there (Term.uri r.subject) k.terms));
        property = e₃ p.number (Term.uri r.property) (number-there (Term.uri r.property) x.terms);
        object = number-there r.object p.terms;
      };
    }

-- a well typed record has a schema entry, and its object the entry's datatype
abbrev pub Fitting : Schema → Triple → Type 0
Fitting S r = (d : Datatype) × (datatype_in S r.property ≡ some d) × T (has_type S r.object (plain d))

pub well_typed_lem : (S : Schema) (r : Triple) → T (well_typed S r) → Fitting S r
unfolding well_typed
well_typed_lem S r h = go (datatype_in S r.property) refl h
  where
    go : (o : Option Datatype) → datatype_in S r.property ≡ o → T (object_fits S o r.object) → Fitting S r
    go none e k = absurd k
    go (some d) e k = (d, e, k)

-- ── the fetched list ────────────────────────────────────────────────────────────────────────

module _ (g : ℕ) (fetched : List ℕ) where
  pub joined-has : T (is_in g (joined g fetched))
  unfolding joined
  joined-has = by-test (λ l. T (is_in g l)) (is_in g fetched) fetched (fetched ++ (g ∷ [])) (λ h. h)
      (λ h. rw (some-append (eqb g) fetched (g ∷ [])) (or_right (is_in g fetched) (eqb g g || false) (or_left (eqb g g) false (eqb_refl g))))

  pub joined-cases : (x : ℕ) → T (is_in x (joined g fetched)) → (x ≡ g) ⊎ T (is_in x fetched)
  unfolding joined
  joined-cases x =
      by-test (λ l. T (is_in x l) → (x ≡ g) ⊎ T (is_in x fetched)) (is_in g fetched) fetched (fetched ++ (g ∷ [])) (λ h m. inr m)
      (λ h m. ⊎_elim inr (λ k. inl (⊎_elim (eqb→eq x g) (λ n. absurd n) (or_cases (eqb x g) false k)))
      (or_cases (is_in x fetched) (eqb x g || false) (rw (some-append (eqb x) fetched (g ∷ [])) at m)))

  pub joined_keeps : (x : ℕ) → T (is_in x fetched) → T (is_in x (joined g fetched))
  unfolding joined
  joined_keeps x m = by-test (λ l. T (is_in x l)) (is_in g fetched) fetched (fetched ++ (g ∷ [])) (λ h. m)
      (λ h. rw (some-append (eqb x) fetched (g ∷ [])) (or_left (is_in x fetched) (eqb x g || false) m))

  pub joined-apart : T (distinct eqb fetched) → T (distinct eqb (joined g fetched))
  unfolding joined
  joined-apart h =
      by-test (λ l. T (distinct eqb l)) (is_in g fetched) fetched (fetched ++ (g ∷ [])) (λ m. h) (distinct-end eqb eqb→eq eqb_refl g fetched h)

  pub joined-all : (P : ℕ → Type 0) → All P fetched → P g → All P (joined g fetched)
  unfolding joined
  joined-all P h k = by-test (All P) (is_in g fetched) fetched (fetched ++ (g ∷ [])) (λ m. h) (λ m. all_append P fetched (g ∷ []) h (k, tt))

-- ── one record after the other ──────────────────────────────────────────────────────────────

module _ (S : Schema) (g : ℕ) where
  pub take-one : (P : Taken → Type 0) (r : Triple) (k : Taken) → (T (well_typed S r) → P (store g r k)) → (T (not (well_typed S r)) → P (skip k))
      → P (take_one S g r k)
  unfolding take_one
  take-one P r k h i = go (well_typed S r) h i
    where
      go : (b : Bool) → (T b → P (store g r k)) → (T (not b) → P (skip k)) → P (elim b as (λ c. Taken) [ true ↦ store g r k | false ↦ skip k ])
      go true h i = h tt
      go false h i = i tt

  -- what its stored records keep and skipped records keep, a page keeps
  pub take_all_lem : (P : Taken → Type 0) (page : List Triple) → ((r : Triple) (k : Taken) → r ∈ page → T (well_typed S r) → P k → P (store g r k))
      → ((k : Taken) → P k → P (skip k)) → (k : Taken) → P k → P (take_all S g page k)
  unfolding take_all
  take_all_lem P [] f i k h = h
  take_all_lem P (r ∷ rs) f i k h =
      take_all_lem P rs (λ r k m. f r k (there m)) i (take_one S g r k) (take-one P r k (λ t. f r k here t h) (λ t. i k h))
