-- Quads: a stored triple in a fetched graph, the triple of a page that a quad is, and numbers of 16 bits.
use Rattle.std.specs.Prelude.{ℕ, ◌<◌, ◌≡◌, List, T}
use Rattle.std.proofs.Math.Option.{some}
use Rattle.std.proofs.Math.ListN.{get_elem?}
use Rattle.definitions.specs.Lists.{is_in}
use Rattle.definitions.specs.Types.{Datatype, plain}
use Rattle.definitions.specs.Terms.{Term, Text, Schema, datatype_in, Triple, datatype}
use Rattle.definitions.specs.Evaluate.{Quad}
use Rattle.laws.specs.Bindings.{Holds, HoldsURI}

-- a stored triple is in a fetched graph, its property is a schema URI and its object has the property's datatype
pub record QuadFacts (S : Schema) (terms : List Term) (fetched : List ℕ) (q : Quad) : Type 0 where
  pub is_fetched : T (is_in q.graph fetched)
  pub graph : HoldsURI S terms q.graph
  pub subject : HoldsURI S terms q.subject
  pub property : Text
  pub is_property : get_elem? terms q.property ≡ some (Term.uri property)
  pub datatype : Datatype
  pub in_schema : datatype_in S property ≡ some datatype
  pub object : Holds S terms q.object (plain datatype)

-- a quad's numbers are those of a triple's terms
pub record Names (terms : List Term) (q : Quad) (r : Triple) : Type 0 where
  pub subject : get_elem? terms q.subject ≡ some (Term.uri r.subject)
  pub property : get_elem? terms q.property ≡ some (Term.uri r.property)
  pub object : get_elem? terms q.object ≡ some r.object

-- a quad's numbers are of 16 bits: two bytes of the table, a fourth of a key
abbrev pub place_limit : ℕ
place_limit = 65536

-- four such numbers
pub record Small (q : Quad) : Type 0 where
  pub graph : q.graph < place_limit
  pub subject : q.subject < place_limit
  pub property : q.property < place_limit
  pub object : q.object < place_limit
