-- What holds of keys, said of quads: their order, their test, the quads of a table.
use Prim.Native.Nat.{ℕ, zero, suc, ◌+◌, ◌≤◌, ◌<◌}
use native.Mathlib.Omega.{arith}
use mathlib.Core.Path.{◌≡◌, refl, sym, ◌∙◌, ap}
use mathlib.Core.List.{List, [], ◌∷◌}
use mathlib.Core.Bool.{Bool, true, false, ◌&&◌, true≢false}
use lib.Dec.{eqb, ltb}
use lib.ListN.{length, get_or, take}
use Rattle.std.proofs.lemmas.List.{length-take-le, get_or-take}
use borrow.Author.Tests.{eq-eqb, ne_eqb}
use Rattle.definitions.specs.Evaluate.{Quad, same_quad}
use Rattle.definitions.specs.Machine.{in_order}
use Rattle.laws.specs.Lists.{All}
use Rattle.laws.specs.Quads.{Small}
use Rattle.laws.proofs.Tests.{true_is, is_true}
use Rattle.laws.proofs.Equality.{same-quad, quad-refl}
use Rattle.keys.specs.Keys.{key_limit, key_of, quad_of, keys_from, rising, rows_from, keys_of}
use Rattle.keys.proofs.Order.{parts, whole, small, same_key, order}

-- the test of two keys is that of their quads
pub same_test : (q r : Quad) → Small q → Small r → eqb (key_of q) (key_of r) ≡ same_quad q r
same_test q r h k = go (same_quad q r) refl
  where
    go : (b : Bool) → same_quad q r ≡ b → eqb (key_of q) (key_of r) ≡ b
    go true e = eq-eqb (key_of q) (key_of r) (ap key_of (same-quad q r (true_is (same_quad q r) e)))
    go false e =
        ne_eqb (key_of q) (key_of r) (λ d. true≢false (sym (is_true (same_quad q q) (quad-refl q)) ∙ (ap (same_quad q) (same_key q r h k d) ∙ e)))

-- quads are in order where their keys rise
pub order-rises : (qs : List Quad) → All Small qs → in_order qs ≡ rising (keys_of qs)
unfolding in_order rising keys_of
order-rises [] h = refl
order-rises (q ∷ []) h = refl
order-rises (q ∷ (r ∷ rs)) h =
    ap (λ b. b && in_order (r ∷ rs)) (sym (order q r h.0 h.1.0))
    ∙ ap (λ b. ltb (key_of q) (key_of r) && b) (order-rises (r ∷ rs) h.1)

-- the quads of a table are those of its keys
module _ (f : List ℕ) where
  table-keys : (n i : ℕ) → keys_of (rows_from n f i) ≡ keys_from n f i
  unfolding keys_of rows_from keys_from
  table-keys zero i = refl
  table-keys (suc n) i = λ t. whole (get_or f i 0) t ∷ table-keys n (i + 1) t

  module _ (fit : (j : ℕ) → get_or f j 0 < key_limit) where
    table-small : (n i : ℕ) → All Small (rows_from n f i)
    unfolding rows_from
    table-small zero i = tt
    table-small (suc n) i = (small (get_or f i 0) (fit i), table-small n (i + 1))

    -- the test that a store is in order
    pub table-order : (n : ℕ) → in_order (rows_from n f 0) ≡ rising (keys_from n f 0)
    table-order n = order-rises (rows_from n f 0) (table-small n 0) ∙ ap rising (table-keys n 0)

  -- keys that are those of quads
  pub rows_are : (n i : ℕ) (qs : List Quad) → All Small qs → keys_from n f i ≡ keys_of qs → rows_from n f i ≡ qs
  unfolding keys_from rows_from keys_of
  rows_are zero i [] s e = refl
  rows_are zero i (q ∷ qs) s e = let z : ◌≡◌ {A = ℕ} 0 1 = cc in absurd (omega arith)
  rows_are (suc n) i [] s e = let z : ◌≡◌ {A = ℕ} 0 1 = cc in absurd (omega arith)
  rows_are (suc n) i (q ∷ qs) s e =
      let a : get_or f i 0 ≡ key_of q = cc in
      let b : keys_from n f (i + 1) ≡ keys_of qs = cc in
      λ t. (ap quad_of a ∙ parts q s.0) t ∷ rows_are n (i + 1) qs s.1 b t

-- ── the first n as a list of their own ──────────────────────────────────────────────────────

rows-same : (f g : List ℕ) (m i : ℕ) → ((j : ℕ) → i ≤ j → j < i + m → get_or g j 0 ≡ get_or f j 0) → rows_from m g i ≡ rows_from m f i
unfolding rows_from
rows-same f g zero i h = refl
rows-same f g (suc m) i h =
    let a : get_or g i 0 ≡ get_or f i 0 = h i (omega arith) (omega arith) in
    let b : rows_from m g (i + 1) ≡ rows_from m f (i + 1) = rows-same f g m (i + 1) (λ j k l. h j (omega arith) (omega arith)) in
    rw (a, b) refl

pub rows-front : (f : List ℕ) (n : ℕ) → n ≤ length f → rows_from (length (take n f)) (take n f) 0 ≡ rows_from n f 0
rows-front f n h = rw (length-take-le n f h) (rows-same f (take n f) n 0 (λ j a b. get_or-take n f j 0 (omega arith)))
