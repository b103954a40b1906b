-- The keys of other graphs: those before and after the graph's stretch.
use Prim.Native.Nat.{ℕ, zero, suc, ◌+◌, ◌-◌, ◌*◌, ◌/◌, ◌≤◌, ◌<◌}
use native.Mathlib.Omega.{arith}
use mathlib.Core.Path.{◌≡◌, refl, sym, ◌∙◌, ap}
use mathlib.Core.List.{List, [], ◌∷◌, ◌++◌, append-nil}
use lib.ListN.{length, get_or, set}
use lib.Seq.{get_or-set_other}
use borrow.Author.Tests.{eq-eqb, ne_eqb}
use Rattle.keys.specs.Keys.{graph_weight, keys_from, Splits}
use Rattle.keys.proofs.Rise.{keys-same, ordered}
use Rattle.ordering.specs.Sets.{others}
use Rattle.key_merging.proofs.Union.{cut, cut_all, written}

module _ (g : ℕ) (f : List ℕ) where
  kept : (a r i : ℕ) → ((j : ℕ) → i ≤ j → j < i + a → get_or f j 0 / graph_weight ≡ g → ⊥)
      → others g (keys_from (a + r) f i) ≡ keys_from a f i ++ others g (keys_from r f (i + a))
  unfolding others keys_from
  kept zero r i h =
      let e : i + 0 ≡ i = omega arith in
      let z : 0 + r ≡ r = omega arith in
      rw (e, z) refl
  kept (suc a) r i h =
      let e : i + suc a ≡ i + 1 + a = omega arith in
      let z : suc a + r ≡ suc (a + r) = omega arith in
      rw (e, z, ne_eqb (get_or f i 0 / graph_weight) g (h i (omega arith) (omega arith)))
      (ap (λ ks. get_or f i 0 ∷ ks) (kept a r (i + 1) (λ j k l. h j (omega arith) (omega arith))))

  dropped : (a r i : ℕ) → ((j : ℕ) → i ≤ j → j < i + a → get_or f j 0 / graph_weight ≡ g)
      → others g (keys_from (a + r) f i) ≡ others g (keys_from r f (i + a))
  unfolding others keys_from
  dropped zero r i h =
      let e : i + 0 ≡ i = omega arith in
      let z : 0 + r ≡ r = omega arith in
      rw (e, z) refl
  dropped (suc a) r i h =
      let e : i + suc a ≡ i + 1 + a = omega arith in
      let z : suc a + r ≡ suc (a + r) = omega arith in
      rw (e, z, eq-eqb (get_or f i 0 / graph_weight) g (h i (omega arith) (omega arith)))
      (dropped a r (i + 1) (λ j k l. h j (omega arith) (omega arith)))

  none_left : others g [] ≡ []
  unfolding others
  none_left = refl

  -- what stands before the stretch, and after it
  pub around : (n from to : ℕ) → Splits f n (g * graph_weight) from → Splits f n (g * graph_weight + (graph_weight - 1) + 1) to
      → others g (keys_from n f 0) ≡ keys_from from f 0 ++ keys_from (n - to) f to
  unfolding keys_from
  around n from to a b =
      let o : from ≤ to = ordered f n (g * graph_weight) (g * graph_weight + (graph_weight - 1)) from to a b (omega arith) in
      let w = b.within in
      let e₁ : n ≡ from + (n - from) = omega arith in
      let e₂ : n - from ≡ to - from + (n - to) = omega arith in
      let e₃ : n - to ≡ n - to + 0 = omega arith in
      let z₁ : 0 + from ≡ from = omega arith in
      let z₂ : from + (to - from) ≡ to = omega arith in
      ap (λ m. others g (keys_from m f 0)) e₁
      ∙ (kept from (n - from) 0 (λ j k l t. omega (arith, a.below j (omega arith)))
      ∙ ap (λ ks. keys_from from f 0 ++ ks)
      ((λ i. others g (keys_from (e₂ i) f (z₁ i)))
      ∙ (dropped (to - from) (n - to) from (λ j k l. omega (arith, a.above j k (omega arith), before j (omega arith)))
      ∙ ((λ i. others g (keys_from (e₃ i) f (z₂ i)))
      ∙ (kept (n - to) 0 to (λ j k l t. omega (arith, b.above j k (omega arith)))
      ∙ (ap (λ ks. keys_from (n - to) f to ++ ks) none_left ∙ append-nil (keys_from (n - to) f to)))))))
    where
      before : (j : ℕ) → j < to → get_or f j 0 < g * graph_weight + (graph_weight - 1) + 1
      before j h = b.below j h

-- ── the move ────────────────────────────────────────────────────────────────────────────────

module _ (whole f : List ℕ) (n k i : ℕ) (so_far : whole ≡ keys_from k f 0 ++ keys_from (n - i) f i) where
  pub down : k ≤ i → i < n → n ≤ length f
      → whole ≡ keys_from (k + 1) (set f k (get_or f i 0)) 0 ++ keys_from (n - (i + 1)) (set f k (get_or f i 0)) (i + 1)
  down h l m =
      written whole f k (get_or f i 0) (keys_from (n - i) f i) (keys_from (n - (i + 1)) f (i + 1)) (omega arith) so_far (cut f n i l)
      ∙ ap (λ ks. keys_from (k + 1) (set f k (get_or f i 0)) 0 ++ ks)
      (sym (keys-same f (set f k (get_or f i 0)) (n - (i + 1)) (i + 1) (i + 1) (λ j q. get_or-set_other f k (i + 1 + j) (get_or f i 0) 0 (λ e. omega arith))))

  pub all-down : n ≤ i → keys_from k f 0 ≡ whole
  all-down h = sym (so_far ∙ (ap (λ ks. keys_from k f 0 ++ ks) (cut_all f n i h) ∙ append-nil (keys_from k f 0)))
