-- What the codes stand for, and what a quad that fits says of its numbers.
use Rattle.std.specs.Prelude.{Option, Some, None}
use Rattle.std.specs.Option.{option_eq}
use Prim.Native.Nat.{ℕ, ◌/◌, ◌%◌, ◌^◌, ◌≤◌, ◌<◌}
use native.Mathlib.Omega.{arith}
use mathlib.Core.Path.{◌≡◌, refl, sym, ◌∙◌, ap}
use mathlib.Core.Bool.{Bool, true, false, cond, ◌&&◌, true≢false}
use lib.Dec.{eqb, leb, ltb}
use borrow.Author.Tests.{eq-eqb, ne_eqb, lt-ltb, le-ltb, eqb-true, leb-true}
use Rattle.definitions.specs.Evaluate.{Quad}
use Rattle.keys.specs.Keys.{place_limit, quad_of}
use Rattle.keys.proofs.Rise.{and_left, and_right}
use Rattle.scan.specs.Scan.{fixed, sought, free, agrees, pick, candidate, fits}
use Rattle.scan.specs.Codes.{sought_code, property_shift, subject_shift, graph_shift, place_at, places_at, GivenBy, given_at, place_number}
use Rattle.scan.specs.declared.Four.{Four}

module _ (n : ℕ) where
  pub at-sought : n ≡ sought_code → place_at n ≡ sought
  unfolding place_at
  at-sought e = rw (eq-eqb n sought_code e) refl

  pub at-fixed : n < sought_code → place_at n ≡ fixed n
  unfolding place_at
  at-fixed h = rw (ne_eqb n sought_code (λ e. omega arith), lt-ltb n sought_code h) refl

  pub at-free : (n ≡ sought_code → ⊥) → sought_code ≤ n → place_at n ≡ free
  unfolding place_at
  at-free d h = rw (ne_eqb n sought_code d, le-ltb n sought_code h) refl

  -- what is not sought leaves the other number
  pub pick_other : (x d : ℕ) → (n ≡ sought_code → ⊥) → d ≡ pick (place_at n) x d
  unfolding place_at
  pick_other x d e = rw (ne_eqb n sought_code e) (go (ltb n sought_code))
    where
      go : (b : Bool) → d ≡ pick (cond b (fixed n) free) x d
      go true = refl
      go false = refl

-- ── a quad that fits ────────────────────────────────────────────────────────────────────────

-- a fixed place has its number
held : (code c x : ℕ) → agrees (place_at code) c x ≡ true → code < sought_code → x ≡ code
held code c x e h = eqb-true x code (rw (at-fixed code h) at e)

pub record Fit (codes : Four) (lo : ℕ) (q : Quad) : Type 0 where
  pub floor : lo ≤ candidate (places_at codes) lo q
  pub graph : codes.graph < sought_code → q.graph ≡ codes.graph
  pub subject : codes.subject < sought_code → q.subject ≡ codes.subject
  pub property : codes.property < sought_code → q.property ≡ codes.property
  pub object : codes.object < sought_code → q.object ≡ codes.object

pub fit : (codes : Four) (lo : ℕ) (q : Quad) → fits (places_at codes) lo q ≡ true → Fit codes lo q
unfolding fits
fit codes lo q e =
    let c = candidate (places_at codes) lo q in
    let a = leb lo c in
    let g = agrees (place_at codes.graph) c q.graph in
    let s = agrees (place_at codes.subject) c q.subject in
    let p = agrees (place_at codes.property) c q.property in
    let o = agrees (place_at codes.object) c q.object in
    let e₁ = and_right a (g && (s && (p && o))) e in
    let e₂ = and_right g (s && (p && o)) e₁ in
    let e₃ = and_right s (p && o) e₂ in
    record {
      floor = leb-true lo c (and_left a (g && (s && (p && o))) e);
      graph = held codes.graph c q.graph (and_left g (s && (p && o)) e₁);
      subject = held codes.subject c q.subject (and_left s (p && o) e₂);
      property = held codes.property c q.property (and_left p o e₃);
      object = held codes.object c q.object (and_right p o e₃);
    }

-- what a quad gives, by the first place that is sought
module _ (codes : Four) (lo : ℕ) (q : Quad) where
  pub gives-graph : codes.graph ≡ sought_code → q.graph ≡ candidate (places_at codes) lo q
  unfolding candidate
  gives-graph e = rw (at-sought codes.graph e) refl

  module _ (g : codes.graph ≡ sought_code → ⊥) where
    pub gives-subject : codes.subject ≡ sought_code → q.subject ≡ candidate (places_at codes) lo q
    unfolding candidate
    gives-subject e = rw (at-sought codes.subject e) (pick_other codes.graph _ _ g)

    module _ (s : codes.subject ≡ sought_code → ⊥) where
      pub gives-property : codes.property ≡ sought_code → q.property ≡ candidate (places_at codes) lo q
      unfolding candidate
      gives-property e = rw (at-sought codes.property e) (pick_other codes.subject _ _ s ∙ pick_other codes.graph _ _ g)

      module _ (p : codes.property ≡ sought_code → ⊥) where
        pub gives-object : codes.object ≡ sought_code → q.object ≡ candidate (places_at codes) lo q
        unfolding candidate
        gives-object e =
            rw (at-sought codes.object e)
            (pick_other codes.property _ _ p ∙ (pick_other codes.subject _ _ s ∙ pick_other codes.graph _ _ g))

        pub gives-floor : (codes.object ≡ sought_code → ⊥) → lo ≡ candidate (places_at codes) lo q
        unfolding candidate
        gives-floor o =
            pick_other codes.object q.object lo o
            ∙ (pick_other codes.property _ _ p ∙ (pick_other codes.subject _ _ s ∙ pick_other codes.graph _ _ g))

-- ── the same of keys ────────────────────────────────────────────────────────────────────────

module _ (codes : Four) where
  pub from-graph : codes.graph ≡ sought_code → GivenBy codes (Some graph_shift)
  unfolding given_at place_number quad_of
  from-graph e lo k h = omega (arith, gives-graph codes lo (quad_of k) e)

  module _ (g : codes.graph ≡ sought_code → ⊥) where
    pub from-subject : codes.subject ≡ sought_code → GivenBy codes (Some subject_shift)
    unfolding given_at place_number quad_of
    from-subject e lo k h = gives-subject codes lo (quad_of k) g e

    module _ (s : codes.subject ≡ sought_code → ⊥) where
      pub from-property : codes.property ≡ sought_code → GivenBy codes (Some property_shift)
      unfolding given_at place_number quad_of
      from-property e lo k h = gives-property codes lo (quad_of k) g s e

      module _ (p : codes.property ≡ sought_code → ⊥) where
        pub from-object : codes.object ≡ sought_code → GivenBy codes (Some 0)
        unfolding given_at place_number quad_of
        from-object e lo k h = omega (arith, gives-object codes lo (quad_of k) g s p e)

        pub from-none : (codes.object ≡ sought_code → ⊥) → GivenBy codes None
        unfolding given_at
        from-none o lo k h = gives-floor codes lo (quad_of k) g s p o

-- where the place sought stands last in a key
pub gives-last : (lo k : ℕ) → given_at (Some 0) lo k ≡ k / 2 ^ 0 % place_limit
unfolding given_at place_number
gives-last lo k = refl

pub is-last : (given : Option ℕ) → true ≡ option_eq eqb given (Some 0) → given ≡ Some 0
is-last (Some n) e = ap Some (eqb-true n 0 (sym e))
is-last None e = absurd (true≢false e)
