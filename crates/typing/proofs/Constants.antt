-- The sorts of a load's terms, from a list with the code of each term's least type.
use Prim.Native.Nat.{ℕ, zero, suc}
use mathlib.Core.Path.{◌≡◌, refl, ap, ◌∙◌, fun_ext}
use mathlib.Core.List.{List, [], ◌∷◌, map}
use mathlib.Core.Option.{Option, none, some}
use lib.ListN.{length, get_or, length-map}
use Rattle.definitions.specs.Types.{Datatype, type_code}
use Rattle.definitions.specs.Terms.{Term, Schema, Sort, sort_of, datatype_in}
use Rattle.definitions.specs.Tree.{Script}
use Rattle.definitions.specs.Reading.{parsed}
use Rattle.definitions.specs.Calls.{constants_of}
use Rattle.laws.specs.Sorts.{least}
use Rattle.codes.specs.TypeCodes.{datatype_of, type_of}
use Rattle.facts.specs.Codes.{sort_above, sorts_in}
use Rattle.codes.proofs.CodeLaws.{type-back}

uri-back : (o : Option Datatype) → sort_above (least (Sort.uri o)) ≡ Sort.uri o
unfolding least
uri-back none = refl
uri-back (some d) = refl

-- a term's sort is the one above its least type
sort-back : (S : Schema) (t : Term) → sort_above (least (sort_of S t)) ≡ sort_of S t
unfolding sort_of least
sort-back S (Term.uri u) = uri-back (datatype_in S u)
sort-back S (Term.string g t) = refl
sort-back S (Term.integer n) = refl
sort-back S (Term.decimal n) = refl
sort-back S (Term.date_time n) = refl

module _ (S : Schema) where
  -- the code of a term's least type
  abbrev pub least_of : Term → ℕ
  least_of t = type_code (least (sort_of S t))

  sort-at : (terms : List Term) (c : ℕ) → sort_above (type_of (get_or (map least_of terms) c 1)) ≡ get_or (map (sort_of S) terms) c (Sort.uri none)
  unfolding type_of datatype_of
  sort-at [] c = refl
  sort-at (t ∷ terms) zero = ap sort_above (type-back (least (sort_of S t))) ∙ sort-back S t
  sort-at (t ∷ terms) (suc c) = sort-at terms c

  module _ (terms : List Term) {leasts : List ℕ} (e : leasts ≡ map least_of terms) where
    pub sorts-are : sorts_in leasts ≡ constants_of S terms
    unfolding sorts_in constants_of
    sorts-are = fun_ext (λ c. ap (λ (l : List ℕ). sort_above (type_of (get_or l c 1))) e ∙ sort-at terms c)

    pub leasts-many : length leasts ≡ length terms
    leasts-many = ap length e ∙ length-map terms least_of

    -- what is ensured over the codes holds over the terms
    pub over-terms : {R : Type 0} (f : (ℕ → Sort) → Script → R) (s : List ℕ) {r : R}
        → ((root : Script) → parsed (length leasts) s ≡ some root → r ≡ f (sorts_in leasts) root)
        → (root : Script) → parsed (length terms) s ≡ some root → r ≡ f (constants_of S terms) root
    over-terms f s h root p = h root (ap (λ (n : ℕ). parsed n s) leasts-many ∙ p) ∙ ap (λ (constants : ℕ → Sort). f constants root) sorts-are
