-- The tests on term numbers are those of the definition: a term has exactly the types above its least.
use Prim.Native.Nat.{ℕ, zero, suc, ◌-◌, ◌≤◌, ◌<◌}
use native.Mathlib.Omega.{arith}
use mathlib.Core.Logic.{⊎_elim}
use mathlib.Core.Path.{◌≡◌, refl, sym, ap, ap₂, ◌∙◌}
use mathlib.Core.List.{List, [], ◌∷◌}
use mathlib.Core.Bool.{Bool, false, ◌&&◌, ◌||◌}
use mathlib.Core.Option.{Option, none, some}
use Rattle.laws.proofs.Ranges.{split}
use lib.Dec.{eqb, leb}
use lib.ListN.{length, get_or, get_elem?}
use borrow.Author.Tests.{lt-ltb, le-ltb}
use Rattle.definitions.specs.Lists.{every, is_in}
use Rattle.definitions.specs.Machine.{object_fits}
use Rattle.definitions.specs.Types.{Datatype, Ty, plain, range, leq, type_code}
use Rattle.definitions.specs.Terms.{Term, Schema, Sort, sort_of, datatype_in}
use Rattle.definitions.specs.Evaluate.{Quad}
use Rattle.definitions.specs.Sound.{is_uri_number, pair_fits, quad_sound}
use Rattle.laws.proofs.TestEquations.{agree, agreed, type-equal}
use Rattle.laws.proofs.Order.{by_type, by_datatype, every_type}
use Rattle.laws.specs.Sorts.{least, LeastOf}
use Rattle.laws.proofs.Sorts.{has-least}
use Rattle.laws.proofs.Bindings.{there-is}
use Rattle.codes.specs.TypeCodes.{code_leq}
use Rattle.codes.proofs.CodeLaws.{code_of}
use Rattle.sound_quads.specs.TermNumbers.{uri_number, pair_numbers, quad_numbers}

-- ── codes ───────────────────────────────────────────────────────────────────────────────────

uri-code : (τ : Ty) → (eqb (type_code τ) 1 || leb 9 (type_code τ)) ≡ leq τ (plain Datatype.any_uri)
uri-code = type-equal (λ τ. eqb (type_code τ) 1 || leb 9 (type_code τ)) (λ τ. leq τ (plain Datatype.any_uri)) tt

range-code : (σ : Ty) (d : Datatype) → (leb 9 (type_code (range d)) && code_leq (type_code σ) (type_code (range d) - 8)) ≡ leq σ (plain d)
range-code σ d =
    let same : Datatype → Ty → Bool = λ d σ. agree (leb 9 (type_code (range d)) && code_leq (type_code σ) (type_code (range d) - 8)) (leq σ (plain d)) in
    agreed (leb 9 (type_code (range d)) && code_leq (type_code σ) (type_code (range d) - 8)) (leq σ (plain d)) (by_type (same d) (by_datatype (λ d. every_type (same d)) tt d) σ)

-- ── terms ───────────────────────────────────────────────────────────────────────────────────

none-there : {A : Type 0} (xs : List A) (i : ℕ) → length xs ≤ i → get_elem? xs i ≡ none
none-there [] i h = refl
none-there (x ∷ xs) zero h = absurd (omega arith)
none-there (x ∷ xs) (suc i) h = none-there xs i (omega arith)

-- property and object by their least types
pair-terms : (S : Schema) (p o : Term)
    → (leb 9 (type_code (least (sort_of S p))) && code_leq (type_code (least (sort_of S o))) (type_code (least (sort_of S p)) - 8)) ≡ pair_fits S (some p) (some o)
unfolding sort_of least
pair-terms S (Term.uri u) o = go (datatype_in S u) refl
  where
    go : (d : Option Datatype) → datatype_in S u ≡ d
        → (leb 9 (type_code (least (Sort.uri d))) && code_leq (type_code (least (sort_of S o))) (type_code (least (Sort.uri d)) - 8)) ≡ object_fits S d o
    go none e = refl
    go (some d) e = range-code (least (sort_of S o)) d ∙ sym (has-least (sort_of S o) (plain d))
pair-terms S (Term.string g t) o = refl
pair-terms S (Term.integer n) o = refl
pair-terms S (Term.decimal n) o = refl
pair-terms S (Term.date_time n) o = refl

no-object : (S : Schema) (p : Option Term) → false ≡ pair_fits S p none
no-object S none = refl
no-object S (some (Term.uri u)) = refl
no-object S (some (Term.string g t)) = refl
no-object S (some (Term.integer n)) = refl
no-object S (some (Term.decimal n)) = refl
no-object S (some (Term.date_time n)) = refl

module _ (S : Schema) (terms : List Term) (leasts : List ℕ) (count : ℕ) (size : length terms ≡ count) (each : LeastOf S terms leasts) where
  -- the code of a term
  coded : (i : ℕ) (h : i < length terms) → get_or leasts i 0 ≡ type_code (least (sort_of S (there-is terms i h).0))
  coded i h = let t = there-is terms i h in sym (code_of (get_or leasts i 0) (least (sort_of S t.0)) (each i t.0 t.1))

  pub uri-number : (i : ℕ) → uri_number leasts count i ≡ is_uri_number S terms i
  unfolding uri_number
  uri-number i = ⊎_elim
      (λ h. rw (le-ltb i count (omega arith), none-there terms i h))
      (λ h.
      let t = there-is terms i h in
      rw (lt-ltb i count (omega arith), coded i h, t.1)
      (uri-code (least (sort_of S t.0)) ∙ sym (has-least (sort_of S t.0) (plain Datatype.any_uri))))
      (split (length terms) i)

  pub pair-numbers : (p o : ℕ) → pair_numbers leasts count p o ≡ pair_fits S (get_elem? terms p) (get_elem? terms o)
  unfolding pair_numbers
  pair-numbers p o = ⊎_elim
      (λ h. rw (le-ltb p count (omega arith), none-there terms p h))
      (λ h. ⊎_elim
      (λ k. rw (lt-ltb p count (omega arith), le-ltb o count (omega arith), none-there terms o k) (no-object S (get_elem? terms p)))
      (λ k.
      rw (lt-ltb p count (omega arith), lt-ltb o count (omega arith), coded p h, coded o k, (there-is terms p h).1, (there-is terms o k).1)
      (pair-terms S (there-is terms p h).0 (there-is terms o k).0))
      (split (length terms) o))
      (split (length terms) p)

  pub quad-numbers : (fetched : List ℕ) (q : Quad) → quad_numbers leasts count fetched q ≡ quad_sound S terms fetched q
  unfolding quad_numbers quad_sound
  quad-numbers fetched q =
      ap (λ (b : Bool). is_in q.graph fetched && b)
      (λ t. uri-number q.graph t && (uri-number q.subject t && pair-numbers q.property q.object t))

-- tests that agree
pub every-same : {A : Type 0} {p q : A → Bool} → ((a : A) → p a ≡ q a) → (xs : List A) → every p xs ≡ every q xs
every-same h [] = refl
every-same h (x ∷ xs) = ap₂ ◌&&◌ (h x) (every-same h xs)
