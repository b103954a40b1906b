-- Laws of language ranges: what a loop over the bytes of range and tag has still to do.
use Prim.Native.Nat.{ℕ, ◌+◌, ◌≤◌, ◌<◌}
use mathlib.Core.Bool.{Bool, true, false, cond, not, ◌&&◌, ◌||◌}
use mathlib.Core.List.{List, [], ◌∷◌}
use mathlib.Core.Logic.{◌⊎◌, inl, inr, ⊎_elim}
use mathlib.Core.Option.{some}
use mathlib.Core.Path.{◌≡◌, refl, sym, ap, ap₂, ◌∙◌, subst}
use native.Mathlib.Omega.{arith}
use lib.Dec.{T, eqb}
use lib.ListN.{length, get_or-eq_default}
use borrow.Author.Tests.{eq-eqb, ne_eqb, eqb-true, eqb-false}
use Rattle.definitions.specs.Limits.{language_range_width}
use Rattle.definitions.specs.Lists.{every, some?, is_empty}
use Rattle.definitions.specs.Bytes.{byte, unfilled, same_bytes, provided}
use Rattle.definitions.specs.Terms.{tag_byte, small_letter, hyphen, field_text}
use Rattle.definitions.specs.Text.{LanguageRange, any_tag, beginning, language_range_of, range_of_text, matches, without_star, goes_on, star}
use Rattle.laws.proofs.Tests.{and_left, and_right, true_is}
use Rattle.laws.proofs.Options.{some_is, provided-inv, onward-inv}
use Rattle.laws.proofs.Equality.{same_bytes_lem}
use Rattle.laws.proofs.Bytes.{byte-within}
use Rattle.matching.specs.Ranges.{ends_at}
use Rattle.matching.proofs.FieldLaws.{rest, rest_out, rest_end, rest_more, rest-cases, first-is, field-text}
use Rattle.matching.proofs.Booleans.{or-none, and_both}

-- ── a `-*` at the end ───────────────────────────────────────────────────────────────────────

-- a star that stands first stays, and is no byte of a tag
star-stays : (t : List ℕ) → T (every tag_byte (without_star (star ∷ t))) → ⊥
unfolding without_star
star-stays [] h = h
star-stays (b ∷ t) h = h

dropped : (t : List ℕ) → T (every tag_byte (without_star (hyphen ∷ star ∷ t))) → without_star (hyphen ∷ star ∷ t) ≡ []
unfolding without_star
dropped [] h = refl
dropped (b ∷ t) h = absurd (star-stays (b ∷ t) (and_right (tag_byte hyphen) (every tag_byte (without_star (star ∷ b ∷ t))) h))

kept-one : (a : ℕ) → without_star (a ∷ []) ≡ a ∷ without_star []
unfolding without_star
kept-one a = refl

kept_more : (a b : ℕ) (t : List ℕ) → (eqb a hyphen && eqb b star) ≡ false → without_star (a ∷ b ∷ t) ≡ a ∷ without_star (b ∷ t)
unfolding without_star
kept_more a b t e = go (eqb a hyphen) (eqb b star) e
  where
    go : (p q : Bool) → (p && q) ≡ false → cond (p && (q && is_empty t)) [] (a ∷ without_star (b ∷ t)) ≡ a ∷ without_star (b ∷ t)
    go true true h = let z : ◌≡◌ {A = ℕ} 0 1 = cc in absurd (omega arith)
    go true false h = refl
    go false q h = refl

-- ── where a range ends ──────────────────────────────────────────────────────────────────────

module _ (f : List ℕ) (i : ℕ) (here : i < length f) where
  pub ends-zero : byte f i ≡ 0 → true ≡ ends_at f i
  ends-zero e = rw e

  pub ends-other : (byte f i ≡ 0 → ⊥) → (byte f i ≡ hyphen → ⊥) → false ≡ ends_at f i
  ends-other n m = rw (ne_eqb (byte f i) 0 n, ne_eqb (byte f i) hyphen m)

  pub ends_last : (byte f i ≡ 0 → ⊥) → length f ≤ i + 1 → false ≡ ends_at f i
  ends_last n l = rw (ne_eqb (byte f i) 0 n, get_or-eq_default f 0 {n = i + 1} l) (go (eqb (byte f i) hyphen))
    where
      go : (p : Bool) → false ≡ (p && false)
      go true = refl
      go false = refl

  pub ends-hyphen : byte f i ≡ hyphen → eqb (byte f (i + 1)) star ≡ ends_at f i
  ends-hyphen e = rw e

  module _ (fine : T (every tag_byte (without_star (rest f i)))) where
    pub ended : ends_at f i ≡ true → without_star (rest f i) ≡ []
    unfolding without_star
    ended e = go (eqb (byte f i) 0) refl
      where
        starred : byte f i ≡ hyphen → byte f (i + 1) ≡ star → rest f i ≡ hyphen ∷ star ∷ rest f (i + 1 + 1)
        starred p q =
            rest_more f i here (λ z. omega (arith, p, z))
            ∙ (rw (rest_more f (i + 1) (byte-within f (i + 1) (λ z. omega (arith, q, z))) (λ z. omega (arith, q, z))) (ap₂ (λ a b. a ∷ b ∷ rest f (i + 1 + 1)) p q))

        go : (p : Bool) → eqb (byte f i) 0 ≡ p → without_star (rest f i) ≡ []
        go true h = rw (rest_end f i here (eqb-true (byte f i) 0 h))
        go false h =
            let b = and_both (eqb (byte f i) hyphen) (eqb (byte f (i + 1)) star) (rw h at e) in
            let r = starred (eqb-true (byte f i) hyphen b.0) (eqb-true (byte f (i + 1)) star b.1) in
            rw r (dropped (rest f (i + 1 + 1)) (rw r at fine))

    pub not-ended : ends_at f i ≡ false → without_star (rest f i) ≡ byte f i ∷ without_star (rest f (i + 1))
    not-ended e =
        let n = or-none (eqb (byte f i) 0) (eqb (byte f i) hyphen && eqb (byte f (i + 1)) star) e in
        let r = rest_more f i here (eqb-false (byte f i) 0 n.0) in
        rw r (⊎_elim (λ z. rw z (kept-one (byte f i))) (λ m. rw m (kept_more (byte f i) (byte f (i + 1)) (rest f (i + 1 + 1)) n.1)) (rest-cases f (i + 1)))

-- ── range and tag, from a place on ──────────────────────────────────────────────────────────

pub record Along (f g : List ℕ) (i : ℕ) : Type 0 where
  pub same : goes_on (without_star (unfilled f)) (unfilled g) ≡ goes_on (without_star (rest f i)) (rest g i)
  pub fine : T (every tag_byte (without_star (rest f i)))
  pub within : i ≤ length f

pub along-start : (f g : List ℕ) → T (every tag_byte (without_star (unfilled f))) → Along f g 0
along-start f g h = record { same = refl; fine = h; within = omega arith }

module _ (f g : List ℕ) (i : ℕ) (o : Along f g i) where
  pub along-out : length f ≤ i → length g ≤ i → true ≡ goes_on (without_star (unfilled f)) (unfilled g)
  unfolding goes_on without_star
  along-out h k = sym (o.same ∙ rw (rest_out f i h, rest_out g i k))

  module _ (h : i < length f) (k : i < length g) where
    pub along-end : (r : Bool) → r ≡ ends_at f i → r ≡ true → (eqb (byte g i) 0 || eqb (byte g i) hyphen) ≡ goes_on (without_star (unfilled f)) (unfilled g)
    unfolding goes_on
    along-end r e t = sym (o.same ∙ rw (ended f i h o.fine (sym e ∙ t)) (go (eqb (byte g i) 0) refl))
      where
        go : (p : Bool) → eqb (byte g i) 0 ≡ p → goes_on [] (rest g i) ≡ (p || eqb (byte g i) hyphen)
        go true z = rw (rest_end g i k (eqb-true (byte g i) 0 z))
        go false z = rw (rest_more g i k (eqb-false (byte g i) 0 z))

    module _ (r : Bool) (e : r ≡ ends_at f i) (t : r ≡ false) where
      -- the range goes on with a byte that is no zero
      nonzero : byte f i ≡ 0 → ⊥
      nonzero z = eqb-false (byte f i) 0 (or-none (eqb (byte f i) 0) (eqb (byte f i) hyphen && eqb (byte f (i + 1)) star) (sym e ∙ t)).0 z

      pub along-other : (byte f i ≡ byte g i → ⊥) → false ≡ goes_on (without_star (unfilled f)) (unfilled g)
      unfolding goes_on
      along-other n = sym (o.same ∙ rw (not-ended f i h o.fine (sym e ∙ t)) (go (eqb (byte g i) 0) refl))
        where
          go : (p : Bool) → eqb (byte g i) 0 ≡ p → goes_on (byte f i ∷ without_star (rest f (i + 1))) (rest g i) ≡ false
          go true z = rw (rest_end g i k (eqb-true (byte g i) 0 z))
          go false z = rw (rest_more g i k (eqb-false (byte g i) 0 z), ne_eqb (byte f i) (byte g i) n)

      pub along-more : byte f i ≡ byte g i → Along f g (i + 1)
      unfolding goes_on
      along-more q =
          let step = not-ended f i h o.fine (sym e ∙ t) in
          record {
            same = o.same ∙ rw (step, rest_more g i k (λ z. nonzero (q ∙ z)), eq-eqb (byte f i) (byte g i) q);
            fine = and_right (tag_byte (byte f i)) (every tag_byte (without_star (rest f (i + 1)))) (rw step at o.fine);
            within = omega arith;
          }

-- ── the range in a field ────────────────────────────────────────────────────────────────────

-- `*` alone, or the beginning of a tag
data Ranged (f : List ℕ) (q : LanguageRange) : Type 0 where
  all_of : unfilled f ≡ star ∷ [] → q ≡ any_tag → Ranged f q
  begins : T (every tag_byte (without_star (unfilled f))) → q ≡ beginning (without_star (unfilled f)) → Ranged f q

ranged-text : (t : List ℕ) (q : LanguageRange) → range_of_text t ≡ some q → ((t ≡ star ∷ []) × (q ≡ any_tag)) ⊎ (T (every tag_byte (without_star t)) × (q ≡ beginning (without_star t)))
unfolding range_of_text
ranged-text t q e = go (same_bytes t (star ∷ [])) refl e
  where
    u : List ℕ
    u = without_star t

    go : (p : Bool) → same_bytes t (star ∷ []) ≡ p → cond p (some any_tag) (provided (every tag_byte u && some? small_letter u) (some (beginning u))) ≡ some q
        → ((t ≡ star ∷ []) × (q ≡ any_tag)) ⊎ (T (every tag_byte u) × (q ≡ beginning u))
    go true h c = inl (same_bytes_lem t (star ∷ []) (true_is (same_bytes t (star ∷ [])) h), sym (some_is c))
    go false h c =
        let w = provided-inv (every tag_byte u && some? small_letter u) (some (beginning u)) c in
        inr (and_left (every tag_byte u) (some? small_letter u) w.0, sym (some_is w.1))

ranged : (f : List ℕ) (q : LanguageRange) → language_range_of f ≡ some q → Ranged f q
unfolding language_range_of
ranged f q e =
    let o = onward-inv (field_text (λ b. tag_byte b || eqb b star) language_range_width f) range_of_text e in
    let same = field-text (λ b. tag_byte b || eqb b star) language_range_width f o.1 in
    ⊎_elim (λ h. all_of h.0 h.1) (λ h. begins h.0 h.1) (ranged-text (unfilled f) q (rw same o.2))

-- a field whose first byte is a zero holds the empty text, and no other field does
first-zero : (g : List ℕ) → eqb (byte g 0) 0 ≡ is_empty (unfilled g)
unfolding unfilled
first-zero [] = refl
first-zero (b ∷ g) = go (eqb b 0)
  where
    go : (p : Bool) → p ≡ is_empty {A = ℕ} (elim p as (λ c. List ℕ) [ true ↦ [] | false ↦ b ∷ unfilled g ])
    go true = refl
    go false = refl

module _ (f : List ℕ) where
  star-first : byte f 0 ≡ star → T (every tag_byte (without_star (unfilled f))) → ⊥
  star-first e h =
      let n : byte f 0 ≡ 0 → ⊥ = λ z. omega (arith, e, z) in
      star-stays (rest f 1) (subst (λ t. T (every tag_byte (without_star t))) (rest_more f 0 (byte-within f 0 n) n ∙ rw e) h)

  pub accepts-tagged : (g : List ℕ) → byte f 0 ≡ star → (q : LanguageRange) → language_range_of f ≡ some q → not (eqb (byte g 0) 0) ≡ matches q (unfilled g)
  unfolding matches
  accepts-tagged g e q h = go (ranged f q h)
    where
      go : Ranged f q → not (eqb (byte g 0) 0) ≡ matches q (unfilled g)
      go (all_of a b) = rw b (ap not (first-zero g))
      go (begins a b) = absurd (star-first e a)

  module _ (n : byte f 0 ≡ star → ⊥) where
    pub accepts-beginning : (g : List ℕ) (r : Bool) → (T (every tag_byte (without_star (unfilled f))) → r ≡ goes_on (without_star (unfilled f)) g) → (q : LanguageRange)
        → language_range_of f ≡ some q → r ≡ matches q g
    unfolding matches
    accepts-beginning g r e q h = go (ranged f q h)
      where
        go : Ranged f q → r ≡ matches q g
        go (all_of a b) = absurd (n (first-is f star [] a))
        go (begins a b) = rw b (e a)
