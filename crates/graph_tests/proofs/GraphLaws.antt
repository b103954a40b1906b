-- Graphs by the codes of their least types, and graphs in a list of terms in use.
use Prim.Native.Nat.{ℕ, ◌≤◌}
use mathlib.Core.Path.{◌≡◌, refl, sym, ◌∙◌}
use mathlib.Core.List.{List}
use mathlib.Core.Bool.{Bool, true, false}
use mathlib.Core.Option.{Option, none, some}
use lib.ListN.{length, get_elem?}
use Rattle.definitions.specs.Types.{Datatype, plain}
use Rattle.definitions.specs.Terms.{Term, Schema, datatype_in, Sort, has, sort_of, has_type}
use Rattle.definitions.specs.Evaluate.{is_uri}
use Rattle.definitions.specs.Sound.{term_has}
use Rattle.definitions.specs.Calls.{is_graph}
use borrow.Author.Tests.{le-ltb}
use Rattle.laws.specs.Sorts.{LeastOf}
use Rattle.sound_quads.specs.TermNumbers.{uri_number}
use Rattle.sound_quads.proofs.TermTests.{uri-number}

uri-is : (S : Schema) (t : Term) → has_type S t (plain Datatype.any_uri) ≡ is_uri t
unfolding sort_of
uri-is S (Term.uri u) = go (datatype_in S u)
  where
    go : (o : Option Datatype) → has (Sort.uri o) (plain Datatype.any_uri) ≡ true
    go none = refl
    go (some d) = refl
uri-is S (Term.string g t) = refl
uri-is S (Term.integer n) = refl
uri-is S (Term.decimal n) = refl
uri-is S (Term.date_time n) = refl

graph_is : (S : Schema) (o : Option Term) → term_has S o (plain Datatype.any_uri) ≡ is_graph o
graph_is S none = refl
graph_is S (some t) = uri-is S t

module _ (leasts : List ℕ) (count g : ℕ) where
  pub graph-number : (S : Schema) (terms : List Term) → LeastOf S terms leasts → count ≡ length terms → {r : Bool} → r ≡ uri_number leasts count g → r ≡ is_graph (get_elem? terms g)
  graph-number S terms codes size e = e ∙ uri-number S terms leasts count (sym size) codes g ∙ graph_is S (get_elem? terms g)

  pub graph-past : count ≤ g → false ≡ uri_number leasts count g
  unfolding uri_number
  graph-past h = rw (le-ltb g count h) refl
