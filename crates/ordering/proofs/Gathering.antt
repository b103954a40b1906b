-- The quads of a page gathered as keys: those of the other graphs with each key put in.
use Prim.Native.Nat.{ℕ, zero, suc, ◌+◌, ◌/◌, ◌<◌}
use native.Mathlib.Omega.{arith}
use mathlib.Core.Path.{◌≡◌, refl, sym, ◌∙◌, ap}
use mathlib.Core.List.{List, [], ◌∷◌}
use mathlib.Core.Bool.{Bool, true, false, cond, not}
use lib.Dec.{eqb}
use lib.ListN.{length, set}
use Rattle.definitions.specs.Evaluate.{Quad, same_quad}
use Rattle.definitions.specs.Machine.{quad_before, with_quad, in_order, of_graph}
use Rattle.laws.specs.Lists.{All}
use Rattle.laws.specs.Quads.{Small}
use Rattle.laws.proofs.Tests.{is_true, true_is}
use Rattle.laws.proofs.All.{all_keep}
use Rattle.laws.proofs.QuadOrder.{in-order-keep, with-quad-all}
use Rattle.keys.specs.Keys.{graph_weight, key_of, keys_from, rows_from, rising, keys_of}
use Rattle.keys.proofs.Order.{order}
use Rattle.keys.proofs.Rise.{snoc}
use Rattle.keys.proofs.Quads.{same_test, order-rises, rows_are}
use Rattle.key_merging.specs.Inserted.{inserted, insert_all}
use Rattle.ordering.specs.Sets.{others, apart, Gathered}
use Rattle.key_sorting.proofs.Halves.{put_last}

-- ── key by key ──────────────────────────────────────────────────────────────────────────────

-- a quad put in is its key put in
put-keys : (q : Quad) (qs : List Quad) → Small q → All Small qs → keys_of (with_quad q qs) ≡ inserted (key_of q) (keys_of qs)
unfolding keys_of with_quad inserted
put-keys q [] h k = refl
put-keys q (r ∷ rs) h k =
    rw (order q r h k.0, same_test q r h k.0) (go (quad_before q r) (same_quad q r) (put-keys q rs h k.1))
  where
    go : (a b : Bool) → keys_of (with_quad q rs) ≡ inserted (key_of q) (keys_of rs)
        → keys_of (cond a (q ∷ (r ∷ rs)) (cond b (r ∷ rs) (r ∷ with_quad q rs)))
        ≡ cond a (key_of q ∷ (key_of r ∷ keys_of rs)) (cond b (key_of r ∷ keys_of rs) (key_of r ∷ inserted (key_of q) (keys_of rs)))
    go true b e = refl
    go false true e = refl
    go false false e = ap (λ ks. key_of r ∷ ks) e

module _ (base : List Quad) (fresh : List ℕ) where
  pub gathered_none : in_order base ≡ true → All Small base → Gathered base fresh 0 base
  unfolding insert_all keys_from
  gathered_none o s = record { order = o; small = s; all_small = s; keys = refl }

  module _ (m : ℕ) (qs : List Quad) (g : Gathered base fresh m qs) where
    pub gathered-one : (q : Quad) (x : ℕ) → Small q → x ≡ key_of q → m < length fresh → Gathered base (set fresh m x) (m + 1) (with_quad q qs)
    gathered-one q x s e l =
        let r : rising (keys_of base) ≡ true = sym (order-rises base g.small) ∙ g.order in
        record {
          order = g.order;
          small = g.small;
          all_small = with-quad-all Small q qs g.all_small s;
          keys =
              put-keys q qs s g.all_small
              ∙ ((λ i. inserted (sym e i) (g.keys i))
              ∙ (sym (put_last (keys_from m fresh 0) x (keys_of base) r) ∙ ap (λ ks. insert_all ks (keys_of base)) (sym (snoc fresh m x l))));
        }

-- ── the quads of other graphs ───────────────────────────────────────────────────────────────

weighs : (q : Quad) → Small q → key_of q / graph_weight ≡ q.graph
unfolding key_of
weighs q s = omega arith

module _ (g : ℕ) where
  others-keys : (qs : List Quad) → All Small qs → keys_of (apart g qs) ≡ others g (keys_of qs)
  unfolding keys_of others
  others-keys [] s = refl
  others-keys (q ∷ qs) s = rw (weighs q s.0) (go (eqb q.graph g) (others-keys qs s.1))
    where
      go : (b : Bool) → keys_of (apart g qs) ≡ others g (keys_of qs)
          → keys_of (cond (not b) (q ∷ apart g qs) (apart g qs)) ≡ cond b (others g (keys_of qs)) (key_of q ∷ others g (keys_of qs))
      go true e = e
      go false e = ap (λ ks. key_of q ∷ ks) e

  pub apart-small : (qs : List Quad) → All Small qs → All Small (apart g qs)
  apart-small qs s = all_keep Small (λ q. not (of_graph g q)) qs s

  pub apart-order : (qs : List Quad) → in_order qs ≡ true → in_order (apart g qs) ≡ true
  apart-order qs o = is_true (in_order (apart g qs)) (in-order-keep (λ q. not (of_graph g q)) qs (true_is (in_order qs) o))

-- ── the end of a page ───────────────────────────────────────────────────────────────────────

keys-count : (qs : List Quad) → length (keys_of qs) ≡ length qs
unfolding keys_of
keys-count [] = refl
keys-count (q ∷ qs) = ap suc (keys-count qs)

from-count : (n : ℕ) (f : List ℕ) (i : ℕ) → length (keys_from n f i) ≡ n
unfolding keys_from
from-count zero f i = refl
from-count (suc n) f i = ap suc (from-count n f (i + 1))

-- what the page leaves, in keys and in quads
module _ (g : ℕ) (old : List Quad) (kept fresh keys : List ℕ) (n m r : ℕ) (qs : List Quad) (s : All Small old) (held : keys_from n kept 0 ≡ keys_of old)
    (gathered : Gathered (apart g old) fresh m qs) (done : keys_from r keys 0 ≡ insert_all (keys_from m fresh 0) (others g (keys_from n kept 0))) where
  page-keys : keys_from r keys 0 ≡ keys_of qs
  page-keys = done ∙ (ap (λ ks. insert_all (keys_from m fresh 0) ks) (ap (others g) held ∙ sym (others-keys g old s)) ∙ sym gathered.keys)

  pub page-count : r ≡ length qs
  page-count = sym (from-count r keys 0) ∙ (ap length page-keys ∙ keys-count qs)

  pub page-rows : rows_from r keys 0 ≡ qs
  page-rows = rows_are keys r 0 qs gathered.all_small page-keys
