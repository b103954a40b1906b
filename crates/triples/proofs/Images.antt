-- What is in a list of images, and the triples of a graph: what its quads say.
use Prim.Native.Nat.{ℕ}
use mathlib.Core.Path.{◌≡◌, refl, ap, sym, ◌∙◌, subst}
use mathlib.Core.List.Memᴰ
use mathlib.Core.List.{List, [], ◌∷◌, map}
use mathlib.Core.Option.{Option, none, some}
use mathlib.Core.Logic.{⊎_elim}
use lib.Dec.{eqb, eqb→eq, eqb_refl, T}
use lib.ListN.{get_elem?}
use Rattle.definitions.specs.Lists.{keep}
use Rattle.definitions.specs.Bytes.{onward}
use Rattle.definitions.specs.Terms.{Term, Text, Triple}
use Rattle.definitions.specs.Evaluate.{Quad}
use Rattle.definitions.specs.Machine.{Store, of_graph}
use Rattle.definitions.specs.Publish.{uri_of, triple_of, triples_in, triples_of}
use Rattle.laws.specs.Lists.{◌∈◌}
use Rattle.laws.specs.Quads.{Names}
use Rattle.laws.proofs.Options.{some_is, some-not-none, onward-inv}
use Rattle.laws.proofs.Lists.{keep_at, keep-of}

module _ {A B : Type 0} (f : A → B) where
  pub image-to : (a : A) (xs : List A) → a ∈ xs → f a ∈ map f xs
  image-to a [] m = absurd (Memᴰ.not-nil m)
  image-to a (x ∷ xs) m = ⊎_elim (λ e. Memᴰ.head (ap f e)) (λ n. Memᴰ.tail (image-to a xs n)) (Memᴰ.cases_cons m)

  pub image-from : (b : B) (xs : List A) → b ∈ map f xs → (a : A) × (a ∈ xs) × (b ≡ f a)
  image-from b [] m = absurd (Memᴰ.not-nil m)
  image-from b (x ∷ xs) m =
      ⊎_elim (λ e. (x, Memᴰ.head refl, e)) (λ n. let w = image-from b xs n in (w.0, Memᴰ.tail w.1, w.2)) (Memᴰ.cases_cons m)

-- ── what a quad says ────────────────────────────────────────────────────────────────────────

uri-is : (t : Term) (u : Text) → uri_of t ≡ some u → t ≡ Term.uri u
unfolding uri_of
uri-is (Term.uri v) u e = ap Term.uri (some_is e)
uri-is (Term.string g t) u e = absurd (some-not-none e refl)
uri-is (Term.integer n) u e = absurd (some-not-none e refl)
uri-is (Term.decimal n) u e = absurd (some-not-none e refl)
uri-is (Term.date_time n) u e = absurd (some-not-none e refl)

uri-at : (terms : List Term) (i : ℕ) (u : Text) → onward (get_elem? terms i) uri_of ≡ some u → get_elem? terms i ≡ some (Term.uri u)
uri-at terms i u e = let w = onward-inv (get_elem? terms i) uri_of e in w.1 ∙ ap some (uri-is w.0 u w.2)

at-uri : (terms : List Term) (i : ℕ) (u : Text) → get_elem? terms i ≡ some (Term.uri u) → onward (get_elem? terms i) uri_of ≡ some u
unfolding onward uri_of
at-uri terms i u e = rw e

module _ (terms : List Term) (q : Quad) (r : Triple) where
  -- its numbers are those of the triple's terms
  pub says-names : triple_of terms q ≡ some r → Names terms q r
  unfolding triple_of
  says-names e =
      let made : Text → Text → Term → Option Triple = λ x p o. some (record { subject = x; property = p; object = o }) in
      let x = onward-inv (onward (get_elem? terms q.subject) uri_of)
      (λ x. onward (onward (get_elem? terms q.property) uri_of) (λ p. onward (get_elem? terms q.object) (made x p))) e in
      let p = onward-inv (onward (get_elem? terms q.property) uri_of) (λ p. onward (get_elem? terms q.object) (made x.0 p)) x.2 in
      let o = onward-inv (get_elem? terms q.object) (made x.0 p.0) p.2 in
      let m : record { subject = x.0; property = p.0; object = o.0 } ≡ r = some_is o.2 in
      record {
        subject = uri-at terms q.subject x.0 x.1 ∙ ap (λ (z : Triple). some (Term.uri z.subject)) m;
        property = uri-at terms q.property p.0 p.1 ∙ ap (λ (z : Triple). some (Term.uri z.property)) m;
        object = o.1 ∙ ap (λ (z : Triple). some z.object) m;
      }

  pub names-says : Names terms q r → triple_of terms q ≡ some r
  unfolding triple_of onward
  names-says n =
      rw (at-uri terms q.subject r.subject n.subject, at-uri terms q.property r.property n.property, n.object) refl

-- ── the triples of a graph ──────────────────────────────────────────────────────────────────

abbrev with_triple : Option Triple → List Triple → List Triple
with_triple none rs = rs
with_triple (some r) rs = r ∷ rs

in-front : (terms : List Term) (q : Quad) (qs : List Quad) → triples_in terms (q ∷ qs) ≡ with_triple (triple_of terms q) (triples_in terms qs)
unfolding triples_in
in-front terms q qs = go (triple_of terms q)
  where
    go : (o : Option Triple) → (elim o as (λ c. List Triple) [ none ↦ triples_in terms qs | some r ↦ r ∷ triples_in terms qs ]) ≡ with_triple o (triples_in terms qs)
    go none = refl
    go (some r) = refl

module _ (r : Triple) where
  with-here : (o : Option Triple) (rs : List Triple) → o ≡ some r → r ∈ with_triple o rs
  with-here none rs e = absurd (some-not-none e refl)
  with-here (some t) rs e = Memᴰ.head (sym (some_is e))

  with-on : (o : Option Triple) (rs : List Triple) → r ∈ rs → r ∈ with_triple o rs
  with-on none rs m = m
  with-on (some t) rs m = Memᴰ.tail m

  with_cases : {R : Type 0} (o : Option Triple) (rs : List Triple) → r ∈ with_triple o rs → (o ≡ some r → R) → (r ∈ rs → R) → R
  with_cases none rs m f g = g m
  with_cases (some t) rs m f g = ⊎_elim (λ e. f (ap some (sym e))) g (Memᴰ.cases_cons m)

  module _ (terms : List Term) where
    in-to : (q : Quad) (qs : List Quad) → q ∈ qs → triple_of terms q ≡ some r → r ∈ triples_in terms qs
    in-to q [] m e = absurd (Memᴰ.not-nil m)
    in-to q (x ∷ xs) m e =
        subst (λ l. r ∈ l) (sym (in-front terms x xs))
        (⊎_elim (λ i. with-here (triple_of terms x) (triples_in terms xs) (ap (triple_of terms) (sym i) ∙ e))
        (λ n. with-on (triple_of terms x) (triples_in terms xs) (in-to q xs n e)) (Memᴰ.cases_cons m))

    in-from : (qs : List Quad) → r ∈ triples_in terms qs → (q : Quad) × (q ∈ qs) × (triple_of terms q ≡ some r)
    in-from [] m = absurd (none_in m)
      where
        none_in : r ∈ triples_in terms [] → ⊥
        none_in m = unfold triples_in in Memᴰ.not-nil m
    in-from (x ∷ xs) m =
        with_cases (triple_of terms x) (triples_in terms xs) (subst (λ l. r ∈ l) (in-front terms x xs) m)
        (λ e. (x, Memᴰ.head refl, e))
        (λ n. let w = in-from xs n in (w.0, Memᴰ.tail w.1, w.2))

module _ (g : ℕ) (s : Store) (r : Triple) where
  pub triples-to : (q : Quad) → q ∈ s.quads → q.graph ≡ g → triple_of s.terms q ≡ some r → r ∈ triples_of g s
  unfolding triples_of
  triples-to q m e f =
      in-to r s.terms q (keep (of_graph g) s.quads) (keep-of (of_graph g) s.quads q m (subst (λ n. T (eqb q.graph n)) e (eqb_refl q.graph))) f

  pub triples-from : r ∈ triples_of g s → (q : Quad) × (q ∈ s.quads) × (q.graph ≡ g) × (triple_of s.terms q ≡ some r)
  unfolding triples_of
  triples-from m =
      let w = in-from r s.terms (keep (of_graph g) s.quads) m in
      let k = keep_at (of_graph g) s.quads w.0 w.1 in
      (w.0, k.0, eqb→eq w.0.graph g k.1, w.2)

-- where every quad says a triple, the triples are those that they say, in their order
pub all_say : (terms : List Term) (f : Quad → Triple) (qs : List Quad) → ((q : Quad) → q ∈ qs → triple_of terms q ≡ some (f q)) → triples_in terms qs ≡ map f qs
unfolding triples_in
all_say terms f [] h = refl
all_say terms f (q ∷ qs) h =
    in-front terms q qs
    ∙ (ap (λ o. with_triple o (triples_in terms qs)) (h q (Memᴰ.head refl))
    ∙ ap (λ rs. f q ∷ rs) (all_say terms f qs (λ x m. h x (Memᴰ.tail m))))
