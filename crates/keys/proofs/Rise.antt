-- Rising keys: sorted and distinct; how many are below a number.
use Prim.Native.Nat.{ℕ, zero, suc, ◌+◌, ◌-◌, ◌≤◌, ◌<◌}
use native.Mathlib.Omega.{arith}
use mathlib.Core.Path.{◌≡◌, refl, sym, ◌∙◌, ap}
use mathlib.Core.List.{List, [], ◌∷◌, ◌++◌}
use mathlib.Core.Bool.{Bool, true, false, ◌&&◌}
use lib.Dec.{ltb}
use lib.ListN.{length, get_or, set, take, drop}
use lib.Seq.{get_or-set_same, get_or-set_other}
use borrow.Author.Tests.{lt-ltb, le-ltb, ltb-true, ltb-false}
use Rattle.std.proofs.Common.{drop-cons}
use Rattle.std.proofs.lemmas.List.{take_all, length-take-le, get_or-take, get_or_default}
use Rattle.std.specs.List.{IsAllAdjacentAnswer}
use Rattle.std.specs.List.Sorted.{IsPartitionPoint, IsPartitionedBy}
use Rattle.keys.specs.Keys.{keys_from, rising, count_below, Splits}

-- ── a stretch of keys ───────────────────────────────────────────────────────────────────────

pub keys-split : (f : List ℕ) (a b i : ℕ) → keys_from (a + b) f i ≡ keys_from a f i ++ keys_from b f (i + a)
unfolding keys_from
keys-split f zero b i =
    let e : i + 0 ≡ i = omega arith in
    let z : 0 + b ≡ b = omega arith in
    rw (e, z) refl
keys-split f (suc a) b i =
    let e : i + suc a ≡ i + 1 + a = omega arith in
    let z : suc a + b ≡ suc (a + b) = omega arith in
    rw (e, z, keys-split f a b (i + 1)) refl

-- keys that are equal one by one
pub keys-same : (f g : List ℕ) (m i j : ℕ) → ((k : ℕ) → k < m → get_or g (j + k) 0 ≡ get_or f (i + k) 0) → keys_from m g j ≡ keys_from m f i
unfolding keys_from
keys-same f g zero i j h = refl
keys-same f g (suc m) i j h =
    let a : i + 0 ≡ i = omega arith in
    let b : j + 0 ≡ j = omega arith in
    let e : get_or g j 0 ≡ get_or f i 0 = rw (a, b) at (h 0 (omega arith)) in
    let r : keys_from m g (j + 1) ≡ keys_from m f (i + 1) = keys-same f g m (i + 1) (j + 1) (λ k l.
    let c : i + 1 + k ≡ i + suc k = omega arith in
    let d : j + 1 + k ≡ j + suc k = omega arith in
    rw (c, d) (h (suc k) (omega arith))) in
    rw (e, r) refl

-- one more key at the end
pub snoc : (g : List ℕ) (k x : ℕ) → k < length g → keys_from (k + 1) (set g k x) 0 ≡ keys_from k g 0 ++ (x ∷ [])
unfolding keys_from
snoc g k x h =
    let z : 0 + k ≡ k = omega arith in
    keys-split (set g k x) k 1 0
    ∙ ((λ t. keys_from k (set g k x) 0 ++ (get_or (set g k x) (z t) 0 ∷ []))
    ∙ (λ t. same t ++ (get_or-set_same g k x 0 h t ∷ [])))
  where
    same : keys_from k (set g k x) 0 ≡ keys_from k g 0
    same = keys-same g (set g k x) k 0 0 (λ q l. let z : 0 + q ≡ q = omega arith in rw z (get_or-set_other g k q x 0 (λ e. omega arith)))

-- ── sorted and distinct ─────────────────────────────────────────────────────────────────────

pub and_left : (a b : Bool) → a && b ≡ true → a ≡ true
and_left true b e = refl
and_left false b e = e

pub and_right : (a b : Bool) → a && b ≡ true → b ≡ true
and_right true b e = e
and_right false b e = let z : ◌≡◌ {A = ℕ} 0 1 = cc in absurd (omega arith)

module _ (f : List ℕ) where
  next : (m i : ℕ) → rising (keys_from m f i) ≡ true → (j : ℕ) → i ≤ j → j + 1 < i + m → get_or f j 0 < get_or f (j + 1) 0
  unfolding rising keys_from
  next zero i r j a b = absurd (omega arith)
  next (suc zero) i r j a b = absurd (omega arith)
  next (suc (suc m)) i r j a b =
      go (ltb i j) refl (next (suc m) (i + 1) (and_right (ltb (get_or f i 0) (get_or f (i + 1) 0)) _ r) j)
    where
      go : (s : Bool) → ltb i j ≡ s → (i + 1 ≤ j → j + 1 < i + 1 + suc m → get_or f j 0 < get_or f (j + 1) 0) → get_or f j 0 < get_or f (j + 1) 0
      go true e ih = ih (omega (arith, ltb-true i j e)) (omega arith)
      go false e ih =
          let z : i ≡ j = omega (arith, ltb-false i j e) in
          let l : get_or f i 0 < get_or f (i + 1) 0 = ltb-true _ _ (and_left (ltb (get_or f i 0) (get_or f (i + 1) 0)) _ r) in
          rw z at l

  module _ (n : ℕ) (r : rising (keys_from n f 0) ≡ true) where
    far : (d i : ℕ) → i + suc d < n → get_or f i 0 < get_or f (i + suc d) 0
    far zero i h = next n 0 r i (omega arith) (omega arith)
    far (suc d) i h =
        let e : i + suc d + 1 ≡ i + suc (suc d) = omega arith in
        let l : get_or f (i + suc d) 0 < get_or f (i + suc (suc d)) 0 = rw e at (next n 0 r (i + suc d) (omega arith) (omega arith)) in
        omega (arith, far d i (omega arith))

    -- a later key is larger: keys are sorted, and all different
    pub later : (i j : ℕ) → i < j → j < n → get_or f i 0 < get_or f j 0
    later i j h l =
        let e : i + suc (j - (i + 1)) ≡ j = omega arith in
        let k : i + suc (j - (i + 1)) < n = omega arith in
        rw e at (far (j - (i + 1)) i k)

    pub from_on : (i j : ℕ) → i ≤ j → j < n → get_or f i 0 ≤ get_or f j 0
    from_on i j h l = go (ltb i j) refl
      where
        go : (s : Bool) → ltb i j ≡ s → get_or f i 0 ≤ get_or f j 0
        go true e = omega (arith, later i j (ltb-true i j e) l)
        go false e = let z : i ≡ j = omega (arith, ltb-false i j e) in rw z (omega arith)

  module _ (x : ℕ) where
    count : (m i r : ℕ) → r ≤ m → ((j : ℕ) → i ≤ j → j < i + r → get_or f j 0 < x) → ((j : ℕ) → i + r ≤ j → j < i + m → x ≤ get_or f j 0)
        → r ≡ count_below x (keys_from m f i)
    unfolding keys_from count_below
    count zero i r h b a = omega arith
    count (suc m) i zero h b a =
        rw (le-ltb (get_or f i 0) x (a i (omega arith) (omega arith)))
        (count m (i + 1) zero (omega arith) (λ j k l. absurd (omega arith)) (λ j k l. a j (omega arith) (omega arith)))
    count (suc m) i (suc r) h b a =
        rw (lt-ltb (get_or f i 0) x (b i (omega arith) (omega arith)))
        (ap suc (count m (i + 1) r (omega arith) (λ j k l. b j (omega arith) (omega arith)) (λ j k l. a j (omega arith) (omega arith))))

    counted : (n r : ℕ) → Splits f n x r → r ≡ count_below x (keys_from n f 0)
    counted n r s = count n 0 r s.within (λ j k l. s.below j (omega arith)) (λ j k l. s.above j (omega arith) (omega arith))

    -- all are below
    pub all-below : (n : ℕ) → ((j : ℕ) → get_or f j 0 < x) → (n ≡ count_below x (keys_from n f 0)) × Splits f n x n
    all-below n b =
        let s : Splits f n x n = record { within = omega arith; below = λ j h. b j; above = λ j h k. absurd (omega arith) } in
        (counted n n s, s)

-- a stretch starts before its end
pub ordered : (f : List ℕ) (n low top from to : ℕ) → Splits f n low from → Splits f n (top + 1) to → low ≤ top → from ≤ to
ordered f n low top from to a b h = go (ltb to from) refl
  where
    go : (s : Bool) → ltb to from ≡ s → from ≤ to
    go true e =
        let l = ltb-true to from e in
        absurd (omega (arith, a.within, a.below to l, b.above to (omega arith) (omega (arith, a.within))))
    go false e = ltb-false to from e

-- ── the test over neighbours ────────────────────────────────────────────────────────────────

rises : (f : List ℕ) → ((k d : ℕ) → k + 1 < length f → true ≡ ltb (get_or f k d) (get_or f (k + 1) d)) → true ≡ rising f
unfolding rising
rises [] h = refl
rises (x ∷ []) h = refl
rises (x ∷ (y ∷ ys)) h =
    rw (sym (h 0 0 (omega arith))) (rises (y ∷ ys) (λ k d l. let e : suc k + 1 ≡ suc (k + 1) = omega arith in rw e at (h (suc k) d (omega arith))))

falls : (k : ℕ) (f : List ℕ) → k + 1 < length f → ((d : ℕ) → false ≡ ltb (get_or f k d) (get_or f (k + 1) d)) → false ≡ rising f
unfolding rising
falls k [] l h = absurd (omega arith)
falls k (x ∷ []) l h = absurd (omega arith)
falls zero (x ∷ (y ∷ ys)) l h = rw (sym (h 0)) refl
falls (suc k) (x ∷ (y ∷ ys)) l h = rw (sym (falls k (y ∷ ys) (omega arith) (λ d. let e : suc k + 1 ≡ suc (k + 1) = omega arith in rw e at (h d)))) (never (ltb x y))
  where
    never : (b : Bool) → false ≡ b && false
    never true = refl
    never false = refl

-- what `is_sorted_by` answers
pub rising_is : (f : List ℕ) (r : Bool) → IsAllAdjacentAnswer (λ x y b. b ≡ ltb x y) f r → r ≡ rising f
rising_is f true h = rises f h
rising_is f false h = falls h.0 f h.1 h.2

-- ── the first n as a list of their own ──────────────────────────────────────────────────────

pub keys-take : (f : List ℕ) (n i : ℕ) → i + n ≤ length f → keys_from n f i ≡ take n (drop i f)
unfolding keys_from
keys-take f zero i h = refl
keys-take f (suc n) i h = rw (drop-cons f i 0 (omega arith)) (let e : i + 1 ≡ suc i = omega arith in rw e (ap (λ ks. get_or f i 0 ∷ ks) (keys-take f n (suc i) (omega arith))))

pub keys-front : (f : List ℕ) (n : ℕ) → n ≤ length f → keys_from n f 0 ≡ take n f
keys-front f n h = keys-take f n 0 (omega arith)

pub keys-all : (f : List ℕ) → keys_from (length f) f 0 ≡ f
keys-all f = keys-front f (length f) (omega arith) ∙ take_all (length f) f (omega arith)

-- what `partition_point` answers
pub split_at : (f : List ℕ) (n x r : ℕ) → n ≤ length f → r ≤ length (take n f)
    → IsPartitionPoint (λ y. ltb y x ≡ true) (λ y. ltb y x ≡ false) (take n f) r → Splits f n x r
split_at f n x r h w p =
    let l = length-take-le n f h in
    record {
      within = omega arith;
      below = λ j k. ltb-true (get_or f j 0) x (rw (get_or-take n f j 0 (omega arith)) at (p.0 j 0 (omega arith) k));
      above = λ j k m. ltb-false (get_or f j 0) x (rw (get_or-take n f j 0 m) at (p.1 j 0 k (omega arith)));
    }

-- no key below x comes after one that is not
pub parted : (f : List ℕ) (n x : ℕ) → n ≤ length f → rising (keys_from n f 0) ≡ true → IsPartitionedBy (λ y. ltb y x) (take n f)
parted f n x h r i j d a b e =
    let l = length-take-le n f h in
    let k : j < n = omega arith in
    let at_j : get_or (take n f) j d ≡ get_or f j 0 = get_or-take n f j d k ∙ get_or_default f j d 0 (omega arith) in
    let at_i : get_or (take n f) i d ≡ get_or f i 0 = get_or-take n f i d (omega arith) ∙ get_or_default f i d 0 (omega arith) in
    lt-ltb _ x (omega (arith, at_i, at_j, ltb-true _ x e, from_on f n r i j a k))

pub lower_is : (f : List ℕ) (n x r : ℕ) (part : List ℕ) → part ≡ take n f → n ≤ length f → rising (keys_from n f 0) ≡ true → r ≤ length part
    → (IsPartitionedBy (λ y. ltb y x) part → IsPartitionPoint (λ y. ltb y x ≡ true) (λ y. ltb y x ≡ false) part r)
    → (r ≡ count_below x (keys_from n f 0)) × Splits f n x r
lower_is f n x r part e h up w p =
    let s : Splits f n x r = split_at f n x r h (rw e at w) ((rw e at p) (parted f n x h up)) in
    (counted f x n r s, s)
