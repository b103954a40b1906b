-- What trying one tuple promises: the machine's outcome, and the number of records that Ask 4's rule evaluates.
use Rattle.std.specs.Prelude.{ℕ, ◌-◌, ◌≡◌, List, [], ◌∷◌, Bool, true, false, ◌&&◌, T, eqb, Option as Maybe, is_some, IfSome}
use Rattle.definitions.specs.Lists.{distinct}
use Rattle.definitions.specs.Terms.{Term, Schema}
use Rattle.definitions.specs.Outcome.{ok}
use Rattle.definitions.specs.Evaluate.{query}
use Rattle.definitions.specs.Evaluated.{query_records}
use Rattle.definitions.specs.Search.{Typing, Tuple, bind}
use Rattle.definitions.specs.Sound.{number_has}
use Rattle.query.specs.Codes.{bindings_of}
use Rattle.query.specs.declared.Context.{Context}
use Rattle.search.specs.Finding.{numbers_from, World, later, setting, ReadyFor}
use Rattle.search.specs.declared.Block.{Block}
use Rattle.search.specs.declared.Tried.{Tried}

-- each number is that of a term of its variable's type
unfoldable pub tuple_fits : Schema → Typing → List Term → (variables : List ℕ) → Tuple → Bool
tuple_fits S Γ terms [] t = true
tuple_fits S Γ terms (v ∷ vs) [] = false
tuple_fits S Γ terms (v ∷ vs) (i ∷ t) = number_has S terms i (Γ v) && tuple_fits S Γ terms vs t

module _ {script ranks table quads leasts : List ℕ} {x : Context} {block : Block} (w : World script ranks table quads leasts x block) (known tuple : List ℕ) where
  -- the numbers from place k on, for the block's variables from there on
  abbrev pub numbers_at : (k : ℕ) → Tuple
  numbers_at k = numbers_from (block.size - k) tuple k

  abbrev pub TriedOf : (k : ℕ) → Maybe Tried → Type 0
  TriedOf k r =
      T (distinct eqb (later block k)) → ReadyFor w known (later block k)
      → (is_some r ≡ tuple_fits w.schema w.typing w.terms (later block k) (numbers_at k))
      × IfSome r (λ t. let β = bind (later block k) (numbers_at k) (bindings_of known) in
      (query (setting w) w.terms w.rows β w.tree ≡ ok t.holds) × (t.records ≡ query_records (setting w) w.terms w.rows β w.tree))
