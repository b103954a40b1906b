-- What soundness gives of a block: then its search meets no fault.
use Rattle.std.specs.Prelude.{ℕ, List, not, ◌&&◌, T, length}
use Rattle.definitions.specs.Lists.{is_in}
use Rattle.definitions.specs.Terms.{Term, Schema}
use Rattle.definitions.specs.Tree.{Query}
use Rattle.definitions.specs.Scope.{in_query}
use Rattle.definitions.specs.Typing.{query_typed}
use Rattle.definitions.specs.Evaluate.{Bindings}
use Rattle.definitions.specs.Search.{Typing}
use Rattle.definitions.specs.Calls.{constants_of}
use Rattle.laws.specs.Bindings.{Extends, WellBound, BoundIn}
use Rattle.laws.specs.Sound.{QueryBounded}

-- the bindings hold terms of their types; the query is well typed, over known terms and variables that are bound or the block's
pub record Ready (S : Schema) (Γ : Typing) (terms : List Term) (β : Bindings) (vs : List ℕ) (q : Query) : Type 0 where
  pub loaded : List Term
  pub extends : Extends loaded terms
  pub well_bound : WellBound S Γ terms β
  pub bounded : QueryBounded (length loaded) q
  pub bound : BoundIn β (λ v. not (is_in v vs) && in_query v q)
  pub typed : T (query_typed (constants_of S loaded) Γ q)
