-- The order of strings under any alphabet: of two different strings exactly one is less than the other. Only the last proof looks into the built-in table.
use Prim.Native.Nat.{ℕ, ◌-◌, ◌≤◌, ◌<◌}
use native.Mathlib.Omega.{arith}
use mathlib.Core.Path.{◌≡◌, refl, sym, ◌∙◌, ap, ap₂, subst, subst⁻¹}
use mathlib.Core.Logic.{◌⊎◌, inl, inr, ⊎_elim}
use mathlib.Core.List.{List, [], ◌∷◌}
use mathlib.Core.Bool.{Bool, true, false, not, ◌&&◌, or-false}
use lib.Dec.{T, eqb, leb, ltb, leb→le, eqb→eq, ltb→lt, T_not, not_T}
use lib.ListN.{length, get_or}
use borrow.Author.Tests.{eq-eqb, ne_eqb, lt-ltb, le-ltb}
use Rattle.definitions.specs.Lists.{every}
use Rattle.definitions.specs.Bytes.{same_bytes}
use Rattle.definitions.specs.Terms.{text_byte}
use Rattle.definitions.specs.Values.{Tagged, rank_in, before, string_before}
use Rattle.laws.proofs.Tests.{and_left, and_right, or_cases, or_left, decide, is_true, is_false, true_is}
use Rattle.laws.proofs.Ranges.{split}
use Rattle.laws.proofs.Equality.{same_bytes_lem, bytes-refl}
use Rattle.definitions.specs.Limits.{ranks_width}
use Rattle.definitions.specs.Alphabet.{first_byte, occurs, below, is_alphabet, built_in}
use Rattle.theorems.specs.Alphabets.{TextBytes, Alphabets}
use Rattle.laws.proofs.Occurs.{occurs-twice, all_small, once-total, alphabet-once}

-- ── bytes ───────────────────────────────────────────────────────────────────────────────────

-- a byte from 20 to 7E has an entry
entry : (b : ℕ) → T (text_byte b) → (first_byte ≤ b) × (b - first_byte < ranks_width)
entry b h =
    let low = leb→le 0x20 b (and_left (leb 0x20 b) (leb b 0x7E) h) in
    let high = leb→le b 0x7E (and_right (leb 0x20 b) (leb b 0x7E) h) in
    (low, omega arith)

module _ (ranks : List ℕ) (wide : length ranks ≡ ranks_width) (good : is_alphabet ranks ≡ true) where
  -- no rank stands twice
  entries-differ : (i j : ℕ) → i < j → j < ranks_width → get_or ranks i 0 ≡ get_or ranks j 0 → ⊥
  entries-differ i j l h e =
      let once = alphabet-once ranks good in
      let small = all_small ranks_width ranks (once-total ranks_width ranks once ∙ sym wide) j (omega arith) in
      omega (arith, occurs-twice ranks i j l (omega arith) e, once (get_or ranks j 0) small)

  -- two bytes from 20 to 7E of the same rank are the same byte
  same_rank : (a b : ℕ) → T (text_byte a) → T (text_byte b) → rank_in ranks a ≡ rank_in ranks b → a ≡ b
  unfolding rank_in
  same_rank a b h k e = go (split a b) (split b a)
    where
      go : (a ≤ b) ⊎ (b < a) → (b ≤ a) ⊎ (a < b) → a ≡ b
      go (inl l) (inl m) = omega arith
      go (inl l) (inr m) = absurd (entries-differ (a - first_byte) (b - first_byte) (omega (arith, (entry a h).0)) (entry b k).1 e)
      go (inr l) m = absurd (entries-differ (b - first_byte) (a - first_byte) (omega (arith, (entry b k).0)) (entry a h).1 (sym e))

-- ── lists of bytes ──────────────────────────────────────────────────────────────────────────

module _ (rank : ℕ → ℕ) where
  module _ (x y : ℕ) (s t : List ℕ) where
    before-less : rank x < rank y → before rank (x ∷ s) (y ∷ t) ≡ true
    unfolding before
    before-less h = rw (lt-ltb (rank x) (rank y) h) refl

    before-equal : rank x ≡ rank y → before rank (x ∷ s) (y ∷ t) ≡ before rank s t
    unfolding before
    before-equal e = rw (le-ltb (rank x) (rank y) (omega arith), eq-eqb (rank x) (rank y) e) refl

    before_more : rank y < rank x → before rank (x ∷ s) (y ∷ t) ≡ false
    unfolding before
    before_more h = rw (le-ltb (rank x) (rank y) (omega arith), ne_eqb (rank x) (rank y) (λ e. omega arith)) refl

    -- by the ranks of the first bytes, or by the rest
    before-cases : T (before rank (x ∷ s) (y ∷ t)) → (rank x < rank y) ⊎ ((rank x ≡ rank y) × T (before rank s t))
    unfolding before
    before-cases h =
        ⊎_elim
        (λ l. inl (ltb→lt (rank x) (rank y) l))
        (λ k. inr (eqb→eq (rank x) (rank y) (and_left (eqb (rank x) (rank y)) (before rank s t) k), and_right (eqb (rank x) (rank y)) (before rank s t) k))
        (or_cases (ltb (rank x) (rank y)) (eqb (rank x) (rank y) && before rank s t) h)

  before-itself : (s : List ℕ) → before rank s s ≡ false
  unfolding before
  before-itself [] = refl
  before-itself (x ∷ s) = before-equal x x s s refl ∙ before-itself s

  before_on : (s t u : List ℕ) → T (before rank s t) → T (before rank t u) → T (before rank s u)
  unfolding before
  before_on [] [] u h k = absurd h
  before_on [] (y ∷ t) [] h k = absurd k
  before_on [] (y ∷ t) (z ∷ u) h k = tt
  before_on (x ∷ s) [] u h k = absurd h
  before_on (x ∷ s) (y ∷ t) [] h k = absurd k
  before_on (x ∷ s) (y ∷ t) (z ∷ u) h k = go (before-cases x y s t h) (before-cases y z t u k) (before_on s t u)
    where
      less : rank x < rank z → T (before rank (x ∷ s) (z ∷ u))
      less l = true_is (before rank (x ∷ s) (z ∷ u)) (before-less x z s u l)

      go : (rank x < rank y) ⊎ ((rank x ≡ rank y) × T (before rank s t)) → (rank y < rank z) ⊎ ((rank y ≡ rank z) × T (before rank t u))
          → (T (before rank s t) → T (before rank t u) → T (before rank s u)) → T (before rank (x ∷ s) (z ∷ u))
      go (inl l) (inl m) r = less (omega arith)
      go (inl l) (inr m) r = less (omega (arith, m.0))
      go (inr l) (inl m) r = less (omega (arith, l.0))
      go (inr l) (inr m) r = subst⁻¹ T (before-equal x z s u (l.0 ∙ m.0)) (r l.1 m.1)

  -- where the rank tells the bytes apart, exactly one of two different lists comes before the other
  module _ (ok : ℕ → Bool) (apart : (x y : ℕ) → T (ok x) → T (ok y) → rank x ≡ rank y → x ≡ y) where
    before-one : (s t : List ℕ) → T (every ok s) → T (every ok t) → (s ≡ t → ⊥) → before rank s t ≡ not (before rank t s)
    unfolding before
    before-one [] [] p q n = absurd (n refl)
    before-one [] (y ∷ t) p q n = refl
    before-one (x ∷ s) [] p q n = refl
    before-one (x ∷ s) (y ∷ t) p q n = go (split (rank x) (rank y)) (split (rank y) (rank x)) (before-one s t (and_right (ok x) (every ok s) p) (and_right (ok y) (every ok t) q))
      where
        go : (rank x ≤ rank y) ⊎ (rank y < rank x) → (rank y ≤ rank x) ⊎ (rank x < rank y) → ((s ≡ t → ⊥) → before rank s t ≡ not (before rank t s))
            → before rank (x ∷ s) (y ∷ t) ≡ not (before rank (y ∷ t) (x ∷ s))
        go (inr l) m r = before_more x y s t l ∙ sym (ap not (before-less y x t s l))
        go (inl l) (inr m) r = before-less x y s t m ∙ sym (ap not (before_more y x t s m))
        go (inl l) (inl m) r =
            let e : rank x ≡ rank y = omega arith in
            let same = apart x y (and_left (ok x) (every ok s) p) (and_left (ok y) (every ok t) q) e in
            before-equal x y s t e ∙ (r (λ f. n (ap₂ {C = List ℕ} ◌∷◌ same f)) ∙ sym (ap not (before-equal y x t s (sym e))))

-- ── strings ─────────────────────────────────────────────────────────────────────────────────

module _ (ranks : List ℕ) where
  -- of two texts, or of two tags
  abbrev first : List ℕ → List ℕ → Bool
  first s t = before (rank_in ranks) s t

  -- by text, then tag
  abbrev Less : Tagged → Tagged → Type 0
  Less a b = T (first a.text b.text) ⊎ ((a.text ≡ b.text) × T (first a.tag b.tag))

  module _ (a b : Tagged) where
    by-tag : a.text ≡ b.text → string_before ranks a b ≡ first a.tag b.tag
    unfolding string_before
    by-tag e = rw (e, before-itself (rank_in ranks) b.text, is_true (same_bytes b.text b.text) (bytes-refl b.text)) refl

    by-text : (a.text ≡ b.text → ⊥) → string_before ranks a b ≡ first a.text b.text
    unfolding string_before
    by-text n = rw differ (or-false (first a.text b.text))
      where
        differ : same_bytes a.text b.text ≡ false
        differ = is_false (same_bytes a.text b.text) (not_T (same_bytes a.text b.text) (λ h. n (same_bytes_lem a.text b.text h)))

    less-cases : T (string_before ranks a b) → Less a b
    unfolding string_before
    less-cases h =
        let texts = same_bytes a.text b.text in
        let tags = first a.tag b.tag in
        ⊎_elim inl (λ k. inr (same_bytes_lem a.text b.text (and_left texts tags k), and_right texts tags k)) (or_cases (first a.text b.text) (texts && tags) h)

    less-of : Less a b → T (string_before ranks a b)
    unfolding string_before
    less-of (inl h) = or_left (first a.text b.text) (same_bytes a.text b.text && first a.tag b.tag) h
    less-of (inr h) = subst⁻¹ T (by-tag h.0) h.1

  not_itself_lem : (a : Tagged) → string_before ranks a a ≡ false
  not_itself_lem a = by-tag a a refl ∙ before-itself (rank_in ranks) a.tag

  transitive : (a b c : Tagged) → T (string_before ranks a b) → T (string_before ranks b c) → T (string_before ranks a c)
  transitive a b c h k = less-of a c (go (less-cases a b h) (less-cases b c k))
    where
      go : Less a b → Less b c → Less a c
      go (inl l) (inl m) = inl (before_on (rank_in ranks) a.text b.text c.text l m)
      go (inl l) (inr m) = inl (subst (λ t. T (first a.text t)) m.0 l)
      go (inr l) (inl m) = inl (subst⁻¹ (λ t. T (first t c.text)) l.0 m)
      go (inr l) (inr m) = inr (l.0 ∙ m.0, before_on (rank_in ranks) a.tag b.tag c.tag l.1 m.1)

module _ (ranks : List ℕ) (wide : length ranks ≡ ranks_width) (good : is_alphabet ranks ≡ true) where
  differ-one : (s t : List ℕ) → T (every text_byte s) → T (every text_byte t) → (s ≡ t → ⊥) → before (rank_in ranks) s t ≡ not (before (rank_in ranks) t s)
  differ-one = before-one (rank_in ranks) text_byte (same_rank ranks wide good)

  exactly-one : (a b : Tagged) → TextBytes a → TextBytes b → (a ≡ b → ⊥) → string_before ranks a b ≡ not (string_before ranks b a)
  exactly-one a b p q n = differ (decide (same_bytes a.text b.text))
    where
      differ : T (same_bytes a.text b.text) ⊎ T (not (same_bytes a.text b.text)) → string_before ranks a b ≡ not (string_before ranks b a)
      differ (inl h) =
          let e = same_bytes_lem a.text b.text h in
          by-tag ranks a b e
          ∙ (differ-one a.tag b.tag p.0 q.0 (λ g. n (λ i. record { tag = g i; text = e i }))
          ∙ sym (ap not (by-tag ranks b a (sym e))))
      differ (inr h) =
          let m : a.text ≡ b.text → ⊥ = λ e. T_not (same_bytes a.text b.text) h (subst (λ t. T (same_bytes a.text t)) e (bytes-refl a.text)) in
          by-text ranks a b m ∙ (differ-one a.text b.text p.1 q.1 m ∙ sym (ap not (by-text ranks b a (λ e. m (sym e)))))

pub alphabets : Alphabets
unfolding built_in is_alphabet occurs below
alphabets =
    record {
      every_club = λ ranks wide good.
          let is = is_true (is_alphabet ranks) good in
          record { exactly_one = exactly-one ranks wide is; not_itself = not_itself_lem ranks; transitive = transitive ranks };
      built_in_width = refl;
      built_in_alphabet = tt;
    }
