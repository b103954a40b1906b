-- A pattern that meets no fault: its names have numbers, and it gives whether their quad is stored.
use Prim.Native.Nat.{ℕ}
use mathlib.Core.Path.{◌≡◌, refl, sym, ◌∙◌, ap}
use mathlib.Core.List.{List}
use mathlib.Core.Bool.{Bool}
use mathlib.Core.Option.{Option, none, some}
use lib.ListN.{get_elem?}
use Rattle.definitions.specs.Types.{plain}
use Rattle.definitions.specs.Terms.{Term, has_type}
use Rattle.definitions.specs.Tree.{Name, Query}
use Rattle.definitions.specs.Outcome.{ok, demand, graph_no_uri, subject_no_uri, object_not_of_datatype}
use Rattle.definitions.specs.Evaluate.{Setting, Bindings, Quad, stored, Named, named, number_of, term_of_number, with_term, is_uri, query}
use Rattle.laws.proofs.NoFault.{ok-is, no-fault, then_ok, and_ok}

-- what a name gives: its number, and that number's term
pub record NamedOk (terms : List Term) (β : Bindings) (n : Name) (x : Named) : Type 0 where
  pub number : number_of β n ≡ some x.number
  pub term : get_elem? terms x.number ≡ some x.term

pub named_ok : (terms : List Term) (β : Bindings) (n : Name) (x : Named) → named terms β n ≡ ok x → NamedOk terms β n x
unfolding named
named_ok terms β n x e = go (number_of β n) refl e
  where
    inner : (i : ℕ) → number_of β n ≡ some i → (t : Option Term) → get_elem? terms i ≡ t → with_term i t ≡ ok x → NamedOk terms β n x
    inner i m none f e = absurd (no-fault e)
    inner i m (some t) f e =
        let h = ok-is e in
        let a = ap (λ (y : Named). y.number) h in
        let b = ap (λ (y : Named). y.term) h in
        record { number = m ∙ ap some a; term = ap (get_elem? terms) (sym a) ∙ (f ∙ ap some b) }

    go : (o : Option ℕ) → number_of β n ≡ o → term_of_number terms o ≡ ok x → NamedOk terms β n x
    go none m e = absurd (no-fault e)
    go (some i) m e = inner i m (get_elem? terms i) refl e

pub record PatternOk (quads : List Quad) (β : Bindings) (g s p o : Name) (answer : Bool) : Type 0 where
  pub quad : Quad
  pub graph : number_of β g ≡ some quad.graph
  pub subject : number_of β s ≡ some quad.subject
  pub property : number_of β p ≡ some quad.property
  pub object : number_of β o ≡ some quad.object
  pub is_stored : stored quad quads ≡ answer

module _ (σ : Setting) (terms : List Term) (quads : List Quad) (β : Bindings) (g s p o : Name) where
  pub pattern-ok : (b : Bool) → query σ terms quads β (Query.pattern g s p o) ≡ ok b → PatternOk quads β g s p o b
  unfolding query
  pattern-ok b e =
      let (G, e_g, e₁) = then_ok e in
      let (X, e_x, e₂) = then_ok e₁ in
      let (P, e_p, e₃) = then_ok e₂ in
      let (O, e_o, e₄) = then_ok e₃ in
      let (d, ed, e₅) = then_ok (and_ok (demand (is_uri X.term) subject_no_uri) (and_ok (demand (is_uri G.term) graph_no_uri) e₄)) in
      record {
        quad = record { graph = G.number; subject = X.number; property = P.number; object = O.number };
        graph = (named_ok terms β g G e_g).number;
        subject = (named_ok terms β s X e_x).number;
        property = (named_ok terms β p P e_p).number;
        object = (named_ok terms β o O e_o).number;
        is_stored = ok-is (and_ok (demand (has_type σ.schema O.term (plain d)) object_not_of_datatype) e₅);
      }
