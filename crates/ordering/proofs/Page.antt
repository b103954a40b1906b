-- A page put in: the graph's keys out, the page's in, and the keys rise.
use Prim.Native.Nat.{ℕ, ◌/◌, ◌≤◌}
use mathlib.Core.Path.{◌≡◌, sym, ◌∙◌, ap}
use native.Mathlib.Omega.{arith}
use mathlib.Core.List.{List, [], ◌∷◌, ◌++◌}
use lib.ListN.{length, take}
use Rattle.std.proofs.lemmas.List.{take-append-le}
use mathlib.Core.Bool.{Bool, true, false, cond}
use lib.Dec.{eqb}
use Rattle.keys.specs.Keys.{graph_weight, keys_from, rising}
use Rattle.keys.proofs.Rise.{keys-front}
use Rattle.key_merging.specs.Inserted.{insert_all}
use Rattle.ordering.specs.Sets.{others}
use Rattle.key_merging.proofs.Union.{Above}
use Rattle.key_sorting.proofs.Same.{tail-rises, rest-above, cons-rises, all-rises}
use Rattle.key_sorting.proofs.Halves.{sorted_rises, sorted-first, copied}

module _ (g : ℕ) where
  others-above : (x : ℕ) (ks : List ℕ) → Above x ks → Above x (others g ks)
  unfolding others
  others-above x [] a = tt
  others-above x (k ∷ ks) a = go (eqb (k / graph_weight) g) (others-above x ks a.1)
    where
      go : (b : Bool) → Above x (others g ks) → Above x (cond b (others g ks) (k ∷ others g ks))
      go true i = i
      go false i = (a.0, i)

  pub others-rise : (ks : List ℕ) → rising ks ≡ true → rising (others g ks) ≡ true
  unfolding others
  others-rise [] r = r
  others-rise (k ∷ ks) r = go (eqb (k / graph_weight) g) (others-rise ks (tail-rises k ks r))
    where
      go : (b : Bool) → rising (others g ks) ≡ true → rising (cond b (others g ks) (k ∷ others g ks)) ≡ true
      go true i = i
      go false i = cons-rises k (others g ks) (others-above k ks (rest-above k ks r)) i

  page-in : (xs ks new kept merged : List ℕ) → rising ks ≡ true → new ≡ insert_all xs [] → kept ≡ others g ks → merged ≡ insert_all new kept
      → merged ≡ insert_all xs (others g ks)
  page-in xs ks new kept merged r a b c = c ∙ ((λ i. insert_all (a i) (b i)) ∙ sorted-first xs (others g ks) (others-rise ks r))

  -- what the slices hold: keys as they were and without the graph's, fresh as it was and sorted
  module _ (keys : List ℕ) (n : ℕ) (inside : n ≤ length keys) (r : rising (keys_from n keys 0) ≡ true) where
    pub front-rises : rising (take n keys) ≡ true
    front-rises = sym (ap rising (keys-front keys n inside)) ∙ r

    module _ (left rest : List ℕ) (kept : ℕ) (size : length left ≡ length (take n keys)) (l : kept ≤ length (take n keys))
        (dropped : keys_from kept left 0 ≡ others g (take n keys)) where
      kept-is : take kept (left ++ rest) ≡ others g (take n keys)
      kept-is = take-append-le kept left rest (omega arith) ∙ (sym (keys-front left kept (omega arith)) ∙ dropped)

      pub kept-rises : rising (take kept (left ++ rest)) ≡ true
      kept-rises = ap rising kept-is ∙ others-rise (take n keys) front-rises

      pub taken : (fresh sorted : List ℕ) (new : ℕ) → new ≤ length sorted → keys_from new sorted 0 ≡ insert_all fresh []
          → (count : ℕ) (w copy more : List ℕ) → count ≤ length w → copy ≡ take count w
          → keys_from count w 0 ≡ insert_all (take new sorted) (take kept (left ++ rest))
          → keys_from count (copy ++ more) 0 ≡ insert_all fresh (others g (keys_from n keys 0))
      taken fresh sorted new m order count w copy more k same merged =
          copied count w copy more k same
          ∙ (page-in fresh (take n keys) (take new sorted) (take kept (left ++ rest)) (keys_from count w 0) front-rises
          (sym (keys-front sorted new m) ∙ order) kept-is merged
          ∙ ap (λ ks. insert_all fresh (others g ks)) (sym (keys-front keys n inside)))

  pub page-rises : (keys : List ℕ) (n : ℕ) → rising (keys_from n keys 0) ≡ true → (fresh after : List ℕ)
      → after ≡ insert_all fresh (others g (keys_from n keys 0)) → rising after ≡ true
  page-rises keys n r fresh after e = ap rising e ∙ all-rises fresh (others g (keys_from n keys 0)) (others-rise (keys_from n keys 0) r)

pub new-rises : (fresh sorted : List ℕ) (new : ℕ) → new ≤ length sorted → keys_from new sorted 0 ≡ insert_all fresh [] → rising (take new sorted) ≡ true
new-rises fresh sorted new m e = ap rising (sym (keys-front sorted new m) ∙ e) ∙ sorted_rises fresh
