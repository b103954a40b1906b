-- The laws of the union-find: the roots after a merge, and the values that are one on each class.
use mathlib.Core.Path.{◌≡◌, refl, ap, ap₂, sym, ◌∙◌, subst}
use mathlib.Core.Logic.{◌⊎◌, inl, inr}
use Prim.Native.Nat.{ℕ, zero, suc, ◌+◌, ◌≤◌, ◌<◌, min, max}
use native.Mathlib.Decide.{ℕ_discrete}
use native.Mathlib.Omega.{arith}
use mathlib.Core.List.{List}
use mathlib.Core.Bool.{cond}
use lib.Dec.{eqb}
use lib.ListN.{get_or, length, set, length-set}
use lib.Seq.{ext_get_or, get_or-set_same, get_or-set_other}
use borrow.Author.Tests.{eq-eqb, ne_eqb}
use Rattle.laws.proofs.Lists.{get_d-inside}
use Rattle.laws.proofs.Ranges.{split}
use Rattle.facts.specs.UnionFind.{parent, Forest, climb, root_in, merge_in}
use Rattle.laws.specs.Lists.{up_from}

-- ── the root of a number ────────────────────────────────────────────────────────────────────

module _ (ps : List ℕ) where
  climb-stop : (k n : ℕ) → parent ps n ≡ n → climb ps k n ≡ n
  unfolding climb
  climb-stop zero n e = refl
  climb-stop (suc k) n e = rw (eq-eqb (parent ps n) n e, climb)

  climb-step : (k n : ℕ) → (parent ps n ≡ n → ⊥) → climb ps (suc k) n ≡ climb ps k (parent ps n)
  unfolding climb
  climb-step k n d = rw (ne_eqb (parent ps n) n d, climb)

module _ (ps : List ℕ) (falls : (n : ℕ) → parent ps n ≤ n) where
  -- n steps are enough
  climb-enough : (j k n : ℕ) → n ≤ j → n ≤ k → climb ps j n ≡ climb ps k n
  climb-enough zero k n p q = let e : parent ps n ≡ n = omega (arith, falls n) in climb-stop ps zero n e ∙ sym (climb-stop ps k n e)
  climb-enough (suc j) zero n p q = let e : parent ps n ≡ n = omega (arith, falls n) in climb-stop ps (suc j) n e ∙ sym (climb-stop ps zero n e)
  climb-enough (suc j) (suc k) n p q = go (climb-enough j k (parent ps n)) (ℕ_discrete (parent ps n) n)
    where
      go : (parent ps n ≤ j → parent ps n ≤ k → climb ps j (parent ps n) ≡ climb ps k (parent ps n))
          → Dec (parent ps n ≡ n) → climb ps (suc j) n ≡ climb ps (suc k) n
      go rest (yes e) = climb-stop ps (suc j) n e ∙ sym (climb-stop ps (suc k) n e)
      go rest (no d) =
          let h = falls n in
          climb-step ps j n d ∙ rest (omega (arith, d)) (omega (arith, d)) ∙ sym (climb-step ps k n d)

  -- induction up the parents
  climbing : (P : ℕ → Type 0) → ((n : ℕ) → parent ps n ≡ n → P n) → ((n : ℕ) → P (parent ps n) → P n) → (k n : ℕ) → n ≤ k → P n
  climbing P stop step zero n h = stop n (omega (arith, falls n))
  climbing P stop step (suc k) n h = go (climbing P stop step k (parent ps n)) (ℕ_discrete (parent ps n) n)
    where
      go : (parent ps n ≤ k → P (parent ps n)) → Dec (parent ps n ≡ n) → P n
      go rest (yes e) = stop n e
      go rest (no d) = step n (rest (omega (arith, d, falls n)))

  pub root-stop : (n : ℕ) → parent ps n ≡ n → root_in ps n ≡ n
  unfolding root_in
  root-stop n e = climb-stop ps n n e

  pub root-parent : (n : ℕ) → root_in ps (parent ps n) ≡ root_in ps n
  unfolding root_in
  root-parent n = go n (ℕ_discrete (parent ps n) n)
    where
      go : (n : ℕ) → Dec (parent ps n ≡ n) → climb ps (parent ps n) (parent ps n) ≡ climb ps n n
      go n (yes e) = ap (λ m. climb ps m m) e
      go zero (no d) = absurd (omega (arith, d, falls 0))
      go (suc n) (no d) =
          climb-enough (parent ps (suc n)) n (parent ps (suc n)) (omega arith) (omega (arith, d, falls (suc n))) ∙ sym (climb-step ps n (suc n) d)

  -- the root is the one function that is at rest on roots and the same up the parents
  root-unique : (f : ℕ → ℕ) → ((n : ℕ) → parent ps n ≡ n → f n ≡ n) → ((n : ℕ) → f (parent ps n) ≡ f n) → (n : ℕ) → root_in ps n ≡ f n
  root-unique f stop step n =
      climbing (λ n. root_in ps n ≡ f n) (λ n e. root-stop n e ∙ sym (stop n e)) (λ n h. sym (root-parent n) ∙ h ∙ step n) n n (omega arith)

  pub root_below : (n : ℕ) → root_in ps n ≤ n
  root_below n =
      climbing (λ n. root_in ps n ≤ n) (λ n e. omega (arith, root-stop n e)) (λ n h. omega (arith, root-parent n, falls n)) n n (omega arith)

  root-is-root : (n : ℕ) → parent ps (root_in ps n) ≡ root_in ps n
  root-is-root n =
      climbing (λ n. parent ps (root_in ps n) ≡ root_in ps n)
      (λ n e. subst (λ r. parent ps r ≡ r) (sym (root-stop n e)) e)
      (λ n h. subst (λ r. parent ps r ≡ r) (root-parent n) h) n n (omega arith)

-- ── the roots after a merge ─────────────────────────────────────────────────────────────────

-- what holds of two numbers holds of the greater and of the lesser
max-min : (P : ℕ → Type 0) (p q : ℕ) → P p → P q → P (max p q) × P (min p q)
max-min P p q hp hq = go (split p q)
  where
    go : (p ≤ q) ⊎ (q < p) → P (max p q) × P (min p q)
    go (inl l) = (subst P (let e : q ≡ max p q = omega arith in e) hq, subst P (let e : p ≡ min p q = omega arith in e) hp)
    go (inr l) = (subst P (let e : p ≡ max p q = omega arith in e) hp, subst P (let e : q ≡ min p q = omega arith in e) hq)

-- the greater of two roots becomes the lesser
abbrev redirect : ℕ → ℕ → ℕ → ℕ
redirect p q r = cond (eqb r (max p q)) (min p q) r

module _ (p q : ℕ) where
  redirect-high : (r : ℕ) → r ≡ max p q → redirect p q r ≡ min p q
  redirect-high r e = rw (eq-eqb r (max p q) e)

  redirect-other : (r : ℕ) → (r ≡ max p q → ⊥) → redirect p q r ≡ r
  redirect-other r d = rw (ne_eqb r (max p q) d)

  -- both become the lesser
  redirect-low : (r : ℕ) → (r ≡ p) ⊎ (r ≡ q) → redirect p q r ≡ min p q
  redirect-low r h = go (ℕ_discrete r (max p q)) h
    where
      go : Dec (r ≡ max p q) → (r ≡ p) ⊎ (r ≡ q) → redirect p q r ≡ min p q
      go (yes e) h = redirect-high r e
      go (no d) (inl h) = redirect-other r d ∙ omega (arith, d)
      go (no d) (inr h) = redirect-other r d ∙ omega (arith, d)

  redirect-value : (v : ℕ → ℕ) → v p ≡ v q → (r : ℕ) → v (redirect p q r) ≡ v r
  redirect-value v e r = go (ℕ_discrete r (max p q))
    where
      go : Dec (r ≡ max p q) → v (redirect p q r) ≡ v r
      go (yes h) = let m = max-min (λ z. v z ≡ v p) p q refl (sym e) in ap v (redirect-high r h) ∙ m.1 ∙ sym m.0 ∙ ap v (sym h)
      go (no d) = ap v (redirect-other r d)

module _ (ps : List ℕ) (falls : (n : ℕ) → parent ps n ≤ n) (a b : ℕ) (la : a < length ps) (lb : b < length ps) where
  abbrev high : ℕ
  high = max (root_in ps a) (root_in ps b)

  abbrev low : ℕ
  low = min (root_in ps a) (root_in ps b)

  abbrev moved : ℕ → ℕ
  moved n = redirect (root_in ps a) (root_in ps b) n

  -- what holds of both roots
  of-roots : (P : ℕ → Type 0) → P (root_in ps a) → P (root_in ps b) → P high × P low
  of-roots P = max-min P (root_in ps a) (root_in ps b)

  at_rest : (parent ps high ≡ high) × (parent ps low ≡ low)
  at_rest = of-roots (λ n. parent ps n ≡ n) (root-is-root ps falls a) (root-is-root ps falls b)

  parent-high : parent (merge_in ps a b) high ≡ low
  unfolding merge_in
  parent-high =
      get_or-set_same ps high low high
      (of-roots (λ n. n < length ps) (omega (arith, root_below ps falls a)) (omega (arith, root_below ps falls b))).0

  parent-other : (n : ℕ) → (n ≡ high → ⊥) → parent (merge_in ps a b) n ≡ parent ps n
  unfolding merge_in
  parent-other n d = get_or-set_other ps high n low n d

  merge-falls : (n : ℕ) → parent (merge_in ps a b) n ≤ n
  merge-falls n = go (ℕ_discrete n high)
    where
      go : Dec (n ≡ high) → parent (merge_in ps a b) n ≤ n
      go (yes e) = subst (λ z. parent (merge_in ps a b) z ≤ z) (sym e) (omega (arith, parent-high))
      go (no d) = omega (arith, parent-other n d, falls n)

  merge-stop : (n : ℕ) → parent (merge_in ps a b) n ≡ n → moved (root_in ps n) ≡ n
  merge-stop n h = go (ℕ_discrete n high)
    where
      go : Dec (n ≡ high) → moved (root_in ps n) ≡ n
      go (yes e) =
          ap moved (root-stop ps falls n (subst (λ z. parent ps z ≡ z) (sym e) at_rest.0))
          ∙ redirect-high (root_in ps a) (root_in ps b) n e
          ∙ sym (ap (parent (merge_in ps a b)) e ∙ parent-high) ∙ h
      go (no d) = ap moved (root-stop ps falls n (sym (parent-other n d) ∙ h)) ∙ redirect-other (root_in ps a) (root_in ps b) n d

  both-low : (moved (root_in ps a) ≡ low) × (moved (root_in ps b) ≡ low)
  both-low = (redirect-low (root_in ps a) (root_in ps b) (root_in ps a) (inl refl), redirect-low (root_in ps a) (root_in ps b) (root_in ps b) (inr refl))

  moved-low : moved low ≡ low
  moved-low = (of-roots (λ n. moved n ≡ low) both-low.0 both-low.1).1

  merge_step : (n : ℕ) → moved (root_in ps (parent (merge_in ps a b) n)) ≡ moved (root_in ps n)
  merge_step n = go (ℕ_discrete n high)
    where
      go : Dec (n ≡ high) → moved (root_in ps (parent (merge_in ps a b) n)) ≡ moved (root_in ps n)
      go (yes e) =
          ap (λ m. moved (root_in ps m)) (ap (parent (merge_in ps a b)) e ∙ parent-high)
          ∙ ap moved (root-stop ps falls low at_rest.1) ∙ moved-low
          ∙ sym (ap moved (ap (root_in ps) e ∙ root-stop ps falls high at_rest.0) ∙ redirect-high (root_in ps a) (root_in ps b) high refl)
      go (no d) = ap moved (ap (root_in ps) (parent-other n d) ∙ root-parent ps falls n)

  merge-root : (n : ℕ) → root_in (merge_in ps a b) n ≡ moved (root_in ps n)
  merge-root n = root-unique (merge_in ps a b) merge-falls (λ n. moved (root_in ps n)) merge-stop merge_step n

-- ── what a forest of so many numbers keeps ──────────────────────────────────────────────────

-- a value that is one on each class
abbrev pub Respects : (ℕ → ℕ) → List ℕ → Type 0
Respects v ps = (n : ℕ) → v (root_in ps n) ≡ v n

module _ {size : ℕ} {ps : List ℕ} (forest : Forest size ps) where
  pub root-root : (n : ℕ) → root_in ps (root_in ps n) ≡ root_in ps n
  root-root n = root-stop ps forest.falls (root_in ps n) (root-is-root ps forest.falls n)

  pub root-zero : root_in ps 0 ≡ 0
  root-zero = omega (arith, root_below ps forest.falls 0)

  module _ {a b : ℕ} (la : a < size) (lb : b < size) where
    abbrev ina : a < length ps
    ina = let e = forest.sized in omega arith

    abbrev inb : b < length ps
    inb = let e = forest.sized in omega arith

    pub merge-forest : Forest size (merge_in ps a b)
    merge-forest = record { falls = merge-falls ps forest.falls a b ina inb; sized = lengths }
      where
        lengths : length (merge_in ps a b) ≡ size
        lengths = unfold merge_in in length-set ps (max (root_in ps a) (root_in ps b)) (min (root_in ps a) (root_in ps b)) ∙ forest.sized

    root-after : (n : ℕ) → root_in (merge_in ps a b) n ≡ redirect (root_in ps a) (root_in ps b) (root_in ps n)
    root-after = merge-root ps forest.falls a b ina inb

    pub merge_keeps : (m n : ℕ) → root_in ps m ≡ root_in ps n → root_in (merge_in ps a b) m ≡ root_in (merge_in ps a b) n
    merge_keeps m n e = root-after m ∙ ap (redirect (root_in ps a) (root_in ps b)) e ∙ sym (root-after n)

    pub merge-joins : root_in (merge_in ps a b) a ≡ root_in (merge_in ps a b) b
    merge-joins = let r = both-low ps forest.falls a b ina inb in root-after a ∙ r.0 ∙ sym (root-after b ∙ r.1)

    pub respects-merge : (v : ℕ → ℕ) → Respects v ps → v a ≡ v b → Respects v (merge_in ps a b)
    respects-merge v r e n = ap v (root-after n) ∙ redirect-value (root_in ps a) (root_in ps b) v (r a ∙ e ∙ sym (r b)) (root_in ps n) ∙ r n

    pub respects-before : (v : ℕ → ℕ) → Respects v (merge_in ps a b) → Respects v ps
    respects-before v r n = sym (r (root_in ps n)) ∙ ap v (merge_keeps (root_in ps n) n (root-root n)) ∙ r n

    pub respects-joined : (v : ℕ → ℕ) → Respects v (merge_in ps a b) → v a ≡ v b
    respects-joined v r = sym (r a) ∙ ap v merge-joins ∙ r b

-- ── each number alone ───────────────────────────────────────────────────────────────────────

length_up : (k n : ℕ) → length (up_from k n) ≡ n
unfolding up_from
length_up k zero = refl
length_up k (suc n) = ap suc (length_up (suc k) n)

parent_up : (k n i d : ℕ) → k + i ≡ d → get_or (up_from k n) i d ≡ d
unfolding up_from
parent_up k zero i d e = refl
parent_up k (suc n) zero d e = omega arith
parent_up k (suc n) (suc i) d e = parent_up (suc k) n i d (omega arith)

pub up_is : (n : ℕ) (l : List ℕ) → length l ≡ n → ((k : ℕ) → k < n → get_or l k 0 ≡ k) → l ≡ up_from 0 n
up_is n l e h =
    ext_get_or 0 l (up_from 0 n) (e ∙ sym (length_up 0 n))
    (λ k s. h k (omega arith) ∙ sym (get_d-inside (up_from 0 n) k 0 k (omega (arith, length_up 0 n)) ∙ parent_up 0 n k k (omega arith)))

pub up-forest : (n : ℕ) → Forest n (up_from 0 n)
up-forest n = record { falls = λ m. omega (arith, parent_up 0 n m m (omega arith)); sized = length_up 0 n }

pub up_root : (n m : ℕ) → root_in (up_from 0 n) m ≡ m
up_root n m = root-stop (up_from 0 n) (up-forest n).falls m (parent_up 0 n m m (omega arith))

-- ── for the code ────────────────────────────────────────────────────────────────────────────

pub read-parent : (ps : List ℕ) (n : ℕ) → n < length ps → get_or ps n 0 ≡ parent ps n
read-parent ps n l = get_d-inside ps n 0 n l

-- a merge, by which root is the lesser
module _ (ps : List ℕ) (a b p q : ℕ) (ep : p ≡ root_in ps a) (eq : q ≡ root_in ps b) where
  pub merge-up : p ≤ q → set ps q p ≡ merge_in ps a b
  unfolding merge_in
  merge-up h =
      let k : q ≡ max (root_in ps a) (root_in ps b) = omega arith in
      let l : p ≡ min (root_in ps a) (root_in ps b) = omega arith in
      ap₂ (set ps) k l

  pub merge-down : q ≤ p → set ps p q ≡ merge_in ps a b
  unfolding merge_in
  merge-down h =
      let k : p ≡ max (root_in ps a) (root_in ps b) = omega arith in
      let l : q ≡ min (root_in ps a) (root_in ps b) = omega arith in
      ap₂ (set ps) k l
