-- The order of texts, byte by byte.
use Prim.Native.Nat.{ℕ, suc, ◌-◌, ◌≤◌, ◌<◌}
use mathlib.Core.Bool.{Bool, true, false, ◌&&◌, ◌||◌, or-false}
use mathlib.Core.List.{List, [], ◌∷◌}
use mathlib.Core.Path.{◌≡◌, refl, sym, ap, ap₂, ◌∙◌}
use native.Mathlib.Omega.{arith}
use lib.Dec.{T, eqb, leb, ltb, leb→le, eqb→eq}
use lib.ListN.{length}
use borrow.Author.Tests.{eq-eqb, ne_eqb, lt-ltb, le-ltb, ltb-true, ltb-false, eqb-true, eqb-false}
use Rattle.definitions.specs.Lists.{every}
use Rattle.definitions.specs.Bytes.{unfilled, same_bytes}
use Rattle.definitions.specs.Terms.{text_byte}
use Rattle.definitions.specs.Values.{before, rank_in}
use Rattle.laws.specs.Lists.{up_from}
use Rattle.laws.proofs.Tests.{and_left, and_right}
use Rattle.laws.proofs.Ranges.{every_in}
use Rattle.matching.proofs.FieldLaws.{unfilled-end, unfilled-more}

-- a byte from 20 to 7E has its place in a table of 95
pub place : (b : ℕ) → T (text_byte b) → (0x20 ≤ b) × (b - 0x20 < 95)
place b h = let low = leb→le 0x20 b (and_left (leb 0x20 b) (leb b 0x7E) h) in let high = leb→le b 0x7E (and_right (leb 0x20 b) (leb b 0x7E) h) in (low, omega arith)

-- the rests of two lists of one length
length-zero : (s : List ℕ) → length s ≡ 0 → s ≡ []
length-zero [] h = refl
length-zero (x ∷ s) h = absurd (omega arith)

tails : {xs ys s t : List ℕ} {x y : ℕ} → (xs ≡ x ∷ s) × (ys ≡ y ∷ t) → length xs ≡ length ys → length s ≡ length t
tails {xs} {ys} {s} {t} {x} {y} e h = let p : length xs ≡ suc (length s) = ap length e.0 in let q : length ys ≡ suc (length t) = ap length e.1 in omega arith

-- ── before ──────────────────────────────────────────────────────────────────────────────────

module _ (rank : ℕ → ℕ) where
  before-end : (s : List ℕ) → before rank s [] ≡ false
  unfolding before
  before-end [] = refl
  before-end (a ∷ s) = refl

  before-other : (x y : ℕ) (s t : List ℕ) → (rank x ≡ rank y → ⊥) → before rank (x ∷ s) (y ∷ t) ≡ ltb (rank x) (rank y)
  unfolding before
  before-other x y s t n = rw (ne_eqb (rank x) (rank y) n) (or-false (ltb (rank x) (rank y)))

  before-equal : (x y : ℕ) (s t : List ℕ) → rank x ≡ rank y → before rank (x ∷ s) (y ∷ t) ≡ before rank s t
  unfolding before
  before-equal x y s t e = rw (le-ltb (rank x) (rank y) (omega arith), eq-eqb (rank x) (rank y) e)

  -- what is known of the bytes still to come, where those before them have equal ranks
  pub record Ordered (a b xs ys : List ℕ) : Type 0 where
    pub same : before rank (unfilled a) (unfilled b) ≡ before rank (unfilled xs) (unfilled ys)
    pub left : T (every text_byte (unfilled xs))
    pub right : T (every text_byte (unfilled ys))
    pub lengths : length xs ≡ length ys

  pub order-start : {a b xs ys : List ℕ} → xs ≡ a → ys ≡ b → T (every text_byte (unfilled a)) → T (every text_byte (unfilled b)) → length a ≡ length b → Ordered a b xs ys
  order-start e f p q l = rw (e, f) (record { same = refl; left = p; right = q; lengths = l })

  module _ {a b xs ys : List ℕ} (o : Ordered a b xs ys) where
    pub order-out : length xs ≡ 0 → false ≡ before rank (unfilled a) (unfilled b)
    unfolding before unfilled
    order-out h = sym (o.same ∙ rw (length-zero xs h, length-zero ys (sym o.lengths ∙ h)))

    module _ {x y : ℕ} {s t : List ℕ} (e : (xs ≡ x ∷ s) × (ys ≡ y ∷ t)) where
      from-here : before rank (unfilled a) (unfilled b) ≡ before rank (unfilled (x ∷ s)) (unfilled (y ∷ t))
      from-here = o.same ∙ ap₂ (λ v w. before rank (unfilled v) (unfilled w)) e.0 e.1

      pub order-end : y ≡ 0 → false ≡ before rank (unfilled a) (unfilled b)
      order-end z = sym (from-here ∙ rw (unfilled-end y t z) (before-end (unfilled (x ∷ s))))

      module _ (ny : y ≡ 0 → ⊥) where
        pub order-first : x ≡ 0 → true ≡ before rank (unfilled a) (unfilled b)
        unfolding before
        order-first z = sym (from-here ∙ rw (unfilled-end x s z, unfilled-more y t ny))

        right-passes : T (text_byte y && every text_byte (unfilled t))
        right-passes = rw (e.1, unfilled-more y t ny) at o.right

        pub right-byte : T (text_byte y)
        right-byte = and_left (text_byte y) (every text_byte (unfilled t)) right-passes

        module _ (nx : x ≡ 0 → ⊥) where
          left-passes : T (text_byte x && every text_byte (unfilled s))
          left-passes = rw (e.0, unfilled-more x s nx) at o.left

          pub left-byte : T (text_byte x)
          left-byte = and_left (text_byte x) (every text_byte (unfilled s)) left-passes

          both-more : before rank (unfilled a) (unfilled b) ≡ before rank (x ∷ unfilled s) (y ∷ unfilled t)
          both-more = from-here ∙ rw (unfilled-more x s nx, unfilled-more y t ny)

          pub order_other : (p q : ℕ) → p ≡ rank x → q ≡ rank y → (p ≡ q → ⊥) → ltb p q ≡ before rank (unfilled a) (unfilled b)
          order_other p q ep eq n = sym (both-more ∙ (before-other x y (unfilled s) (unfilled t) (λ r. n (ep ∙ (r ∙ sym eq))) ∙ sym (ap₂ ltb ep eq)))

          pub order-more : (p q : ℕ) → p ≡ rank x → q ≡ rank y → p ≡ q → Ordered a b s t
          order-more p q ep eq r =
              record {
                same = both-more ∙ before-equal x y (unfilled s) (unfilled t) (sym ep ∙ (r ∙ eq));
                left = and_right (text_byte x) (every text_byte (unfilled s)) left-passes;
                right = and_right (text_byte y) (every text_byte (unfilled t)) right-passes;
                lengths = tails e o.lengths;
              }

-- ── the same text ───────────────────────────────────────────────────────────────────────────

-- what is known of the bytes still to come, where those before them are equal
pub record Same (a b xs ys : List ℕ) : Type 0 where
  pub same : same_bytes (unfilled a) (unfilled b) ≡ same_bytes (unfilled xs) (unfilled ys)
  pub lengths : length xs ≡ length ys

pub same-start : {a b xs ys : List ℕ} → xs ≡ a → ys ≡ b → length a ≡ length b → Same a b xs ys
same-start e f l = rw (e, f) (record { same = refl; lengths = l })

module _ {a b xs ys : List ℕ} (o : Same a b xs ys) where
  pub same-out : length xs ≡ 0 → true ≡ same_bytes (unfilled a) (unfilled b)
  unfolding unfilled
  same-out h = sym (o.same ∙ rw (length-zero xs h, length-zero ys (sym o.lengths ∙ h)))

  module _ {x y : ℕ} {s t : List ℕ} (e : (xs ≡ x ∷ s) × (ys ≡ y ∷ t)) where
    same-here : same_bytes (unfilled a) (unfilled b) ≡ same_bytes (unfilled (x ∷ s)) (unfilled (y ∷ t))
    same-here = o.same ∙ ap₂ (λ v w. same_bytes (unfilled v) (unfilled w)) e.0 e.1

    pub same-end : x ≡ y → x ≡ 0 → true ≡ same_bytes (unfilled a) (unfilled b)
    same-end r z = sym (same-here ∙ rw (unfilled-end x s z, unfilled-end y t (sym r ∙ z)))

    pub same-more : x ≡ y → (x ≡ 0 → ⊥) → Same a b s t
    same-more r n = record { same = same-here ∙ rw (unfilled-more x s n, unfilled-more y t (λ z. n (r ∙ z)), eq-eqb x y r); lengths = tails e o.lengths }

    pub same-other : (x ≡ y → ⊥) → false ≡ same_bytes (unfilled a) (unfilled b)
    same-other n = sym (same-here ∙ go (eqb x 0) (eqb y 0) refl refl)
      where
        go : (p q : Bool) → eqb x 0 ≡ p → eqb y 0 ≡ q → same_bytes (unfilled (x ∷ s)) (unfilled (y ∷ t)) ≡ false
        go true true e f = absurd (n (eqb-true x 0 e ∙ sym (eqb-true y 0 f)))
        go true false e f = rw (unfilled-end x s (eqb-true x 0 e), unfilled-more y t (eqb-false y 0 f))
        go false true e f = rw (unfilled-more x s (eqb-false x 0 e), unfilled-end y t (eqb-true y 0 f))
        go false false e f = rw (unfilled-more x s (eqb-false x 0 e), unfilled-more y t (eqb-false y 0 f), ne_eqb x y n)

-- ── by bytes ────────────────────────────────────────────────────────────────────────────────

-- ranks that are in the same order give the same order
module _ (ok : ℕ → Bool) (r q : ℕ → ℕ)
    (lt : (x y : ℕ) → T (ok x) → T (ok y) → ltb (r x) (r y) ≡ ltb (q x) (q y))
    (eq : (x y : ℕ) → T (ok x) → T (ok y) → eqb (r x) (r y) ≡ eqb (q x) (q y)) where
  before-alike : (s t : List ℕ) → T (every ok s) → T (every ok t) → before r s t ≡ before q s t
  unfolding before
  before-alike [] [] h k = refl
  before-alike [] (y ∷ t) h k = refl
  before-alike (x ∷ s) [] h k = refl
  before-alike (x ∷ s) (y ∷ t) h k =
      let px = and_left (ok x) (every ok s) h in
      let py = and_left (ok y) (every ok t) k in
      let rest = before-alike s t (and_right (ok x) (every ok s) h) (and_right (ok y) (every ok t) k) in
      λ i. lt x y px py i || (eq x y px py i && rest i)

-- in the table 0, 1, .. 94 a byte's rank is its distance from the blank
by_place : (b : ℕ) → T (text_byte b) → rank_in (up_from 0 95) b ≡ b - 0x20
unfolding rank_in up_from
by_place b h =
    let p = place b h in
    eqb→eq (rank_in (up_from 0 95) b) (b - 0x20) (every_in (λ x. eqb (rank_in (up_from 0 95) x) (x - 0x20)) 0x20 95 tt b p.0 (omega arith))

lt-shift : (x y n : ℕ) → n ≤ x → n ≤ y → ltb (x - n) (y - n) ≡ ltb x y
lt-shift x y n h k = go (ltb x y) refl
  where
    go : (t : Bool) → ltb x y ≡ t → ltb (x - n) (y - n) ≡ t
    go true e = let l = ltb-true x y e in lt-ltb (x - n) (y - n) (omega arith)
    go false e = let l = ltb-false x y e in le-ltb (x - n) (y - n) (omega arith)

eq-shift : (x y n : ℕ) → n ≤ x → n ≤ y → eqb (x - n) (y - n) ≡ eqb x y
eq-shift x y n h k = go (eqb x y) refl
  where
    go : (t : Bool) → eqb x y ≡ t → eqb (x - n) (y - n) ≡ t
    go true e = let l = eqb-true x y e in eq-eqb (x - n) (y - n) (omega arith)
    go false e = ne_eqb (x - n) (y - n) (λ l. eqb-false x y e (omega arith))

pub by_bytes : (s t : List ℕ) → T (every text_byte s) → T (every text_byte t) → before (rank_in (up_from 0 95)) s t ≡ before (λ n. n) s t
by_bytes s t h k =
    before-alike text_byte (rank_in (up_from 0 95)) (λ n. n)
    (λ x y p q. ap₂ ltb (by_place x p) (by_place y q) ∙ lt-shift x y 0x20 (place x p).0 (place y q).0)
    (λ x y p q. ap₂ eqb (by_place x p) (by_place y q) ∙ eq-shift x y 0x20 (place x p).0 (place y q).0)
    s t h k
