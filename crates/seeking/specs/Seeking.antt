-- What a seek promises: no number is passed over with which the query holds, wherever no filter that is evaluated meets a fault.
use Rattle.std.specs.Prelude.{ℕ, ◌≤◌, min, ◌≡◌, List, Bool, T}
use Rattle.std.proofs.Math.Option.{some}
use Rattle.definitions.specs.Terms.{Term, Schema}
use Rattle.definitions.specs.Tree.{Cond, Query}
use Rattle.definitions.specs.Evaluate.{Setting, Bindings, Quad, query}
use Rattle.definitions.specs.Saved.{terms_in}
use Rattle.query.specs.Known.{SureTests, passes}
use Rattle.query.specs.Codes.{bindings_of}
use Rattle.query.specs.StoreLent.{setting_in}
use Rattle.query.specs.declared.Context.{Context}

-- what γ knows, δ has too
abbrev pub Keeps : Bindings → Bindings → Type 0
Keeps γ δ = (x i : ℕ) → γ x ≡ some i → δ x ≡ some i

module _ (σ : Setting) (terms : List Term) (quads : List Quad) where
  -- a fault is no pass
  abbrev pub holds : Bindings → Query → Bool
  holds δ q = passes (query σ terms quads δ q)

  module _ (γ : Bindings) where
    -- every test whose variables are all known meets no fault
    abbrev pub Sure : Query → Type 0
    Sure (Query.pattern g s p o) = Unit {0}
    Sure (Query.both q r) = Sure q × Sure r
    Sure (Query.union q r) = Sure q × Sure r
    Sure (Query.filter c) = SureTests σ terms quads γ c
    Sure Query.empty = Unit {0}

    -- wherever the query holds by bindings that have what γ knows and a number of v from lo on, the number is not below `least`
    abbrev pub Reaches : (v lo least : ℕ) → Query → Type 0
    Reaches v lo least q = (δ : Bindings) → Keeps γ δ → (j : ℕ) → δ v ≡ some j → lo ≤ j → T (holds δ q) → least ≤ j

-- `least` passes over no number of v from lo on; it never goes back
abbrev pub SeekOf : (ranks table known : List ℕ) (x : Context) (rows : List Quad) (v lo least : ℕ) → Query → Type 0
SeekOf ranks table known x rows v lo least q =
    (min lo x.count ≤ least)
    × ((S : Schema) (terms : List Term) → terms_in table ≡ some terms → let σ = setting_in S ranks x in
    Sure σ terms rows (bindings_of known) q → Reaches σ terms rows (bindings_of known) v lo least q)

-- the same of a filter's boolean; the quads and v do not matter
abbrev pub FilterOf : (ranks table known : List ℕ) (x : Context) (lo least : ℕ) → Cond → Type 0
FilterOf ranks table known x lo least c = (rows : List Quad) (v : ℕ) → SeekOf ranks table known x rows v lo least (Query.filter c)

-- with a number of v the query holds by no bindings that have what is known
abbrev pub Denies : (ranks table known : List ℕ) (x : Context) (rows : List Quad) (v number : ℕ) → Query → Type 0
Denies ranks table known x rows v number q =
    (S : Schema) (terms : List Term) → terms_in table ≡ some terms → let σ = setting_in S ranks x in
    Sure σ terms rows (bindings_of known) q → (δ : Bindings) → Keeps (bindings_of known) δ → δ v ≡ some number → T (holds σ terms rows δ q) → ⊥
