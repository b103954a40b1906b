-- Terms of a type by the codes of their least types: the code's loop is the model's.
use Prim.Native.Nat.{ℕ, zero, suc, ◌+◌, ◌-◌, ◌≤◌, ◌<◌}
use native.Mathlib.Omega.{arith}
use native.Mathlib.Numerals.{add-one}
use mathlib.Core.Path.{◌≡◌, refl, sym, ◌∙◌, ap, ap₂}
use mathlib.Core.List.{List}
use mathlib.Core.Bool.{Bool, true, false, cond, ◌&&◌, ◌||◌, true≢false}
use mathlib.Core.Option.{some}
use lib.Dec.{eqb, leb, ltb}
use lib.ListN.{length, get_or, get_elem?}
use borrow.Author.Tests.{ne_eqb, lt-ltb, le-ltb, ltb-true, ltb-false}
use Rattle.definitions.specs.Types.{Ty, type_of_code}
use Rattle.definitions.specs.Terms.{Term, Schema, sort_of}
use Rattle.definitions.specs.Sound.{number_has}
use Rattle.laws.proofs.Tests.{by-test}
use Rattle.laws.specs.Sorts.{least}
use Rattle.laws.proofs.Sorts.{has-least}
use Rattle.laws.proofs.Bindings.{there-is}
use Rattle.codes.specs.TypeCodes.{code_leq}
use Rattle.codes.proofs.CodeLaws.{code-leq}
use Rattle.search.specs.declared.Under.{Under}
use Rattle.search.specs.Finding.{skip, skip_types, is_under, types_block, any_under, skip_under}

-- ── the codes below a type's ────────────────────────────────────────────────────────────────

module _ (least : ℕ) where
  abbrev tests : (a b c d : Bool) → Bool
  tests a b c d = a || ((b && eqb least 5) || ((c && leb 9 least) || (d && eqb least 11)))

  swap : (a b c d : Bool) → a || ((eqb least 5 && b) || ((leb 9 least && c) || (eqb least 11 && d))) ≡ tests a b c d
  swap a b c d = rw (and-swap (eqb least 5) b, and-swap (leb 9 least) c, and-swap (eqb least 11) d) refl
    where
      and-swap : (x y : Bool) → x && y ≡ y && x
      and-swap true true = refl
      and-swap true false = refl
      and-swap false true = refl
      and-swap false false = refl

  twice : (a c : Bool) → a || (a || c) ≡ a || (c || false)
  twice true c = refl
  twice false true = refl
  twice false false = refl

  or-false : (a : Bool) → a ≡ a || false
  or-false true = refl
  or-false false = refl

  module _ (ty other : ℕ) where
    abbrev Right : Type 0
    Right = is_under (record { own = ty; other = other; ranges = eqb ty 1 }) least ≡ code_leq least ty

    pub under-decimal : ty ≡ 3 → other ≡ 5 → Right
    unfolding is_under
    under-decimal e f = rw (e, f) (sym (swap (eqb least 3) true false false))

    pub under-range : ty ≡ 13 → other ≡ 11 → Right
    unfolding is_under
    under-range e f = rw (e, f) (ap (λ b. eqb least 13 || b) (sym (or-false (eqb least 11))) ∙ sym (swap (eqb least 13) false false true))

    pub under-other : (ty ≡ 3 → ⊥) → (ty ≡ 13 → ⊥) → other ≡ ty → Right
    unfolding is_under
    under-other b c f =
        rw (f, ne_eqb ty 3 b, ne_eqb ty 13 c) (twice (eqb least ty) (eqb ty 1 && leb 9 least) ∙ sym (swap (eqb least ty) false (eqb ty 1) false))

-- ── the loop ────────────────────────────────────────────────────────────────────────────────

pub skip-low : (leasts : List ℕ) (ty n i : ℕ) → i ≤ skip_types leasts ty n i
unfolding skip_types
skip-low leasts ty zero i = omega arith
skip-low leasts ty (suc n) i =
    by-test (λ x. i ≤ x) (code_leq (get_or leasts i 0) ty) i (skip_types leasts ty n (i + 1)) (λ t. omega arith) (λ t. omega (arith, skip-low leasts ty n (i + 1)))

-- by the codes below a type's, worked out before
pub skip_by : (leasts : List ℕ) (ty : ℕ) (u : Under) → ((least : ℕ) → is_under u least ≡ code_leq least ty) → (n i : ℕ) → skip_under leasts u n i ≡ skip_types leasts ty n i
unfolding skip_under skip_types
skip_by leasts ty u e zero i = refl
skip_by leasts ty u e (suc n) i = rw (e (get_or leasts i 0), skip_by leasts ty u e n (i + 1)) refl

-- where there is none left
module _ (leasts : List ℕ) (ty count i : ℕ) where
  pub skip-none : count ≤ i → i ≡ skip_types leasts ty (count - i) i
  unfolding skip_types
  skip-none h = let e : count - i ≡ 0 = omega arith in rw e refl

-- `whole` is what the loop gives from where it began
module _ (leasts : List ℕ) (u : Under) (count i whole : ℕ) (so_far : whole ≡ skip_under leasts u (count - i) i) where
  opened : i < count → whole ≡ cond (is_under u (get_or leasts i 0)) i (skip_under leasts u (count - (i + 1)) (i + 1))
  unfolding skip_under
  opened h = let e : count - i ≡ suc (count - (i + 1)) = omega arith in so_far ∙ rw e refl

  pub skip-ends : count ≤ i → i ≡ whole
  unfolding skip_under
  skip-ends h = let e : count - i ≡ 0 = omega arith in sym (so_far ∙ rw e refl)

  module _ (h : i < count) {t : Bool} (et : t ≡ is_under u (get_or leasts i 0)) where
    pub skip-here : t ≡ true → i ≡ whole
    skip-here e = sym (opened h ∙ rw (sym et ∙ e) refl)

    pub skip-on : t ≡ false → whole ≡ skip_under leasts u (count - (i + 1)) (i + 1)
    skip-on e = opened h ∙ rw (sym et ∙ e) refl

-- ── a block of them ─────────────────────────────────────────────────────────────────────────

module _ (leasts : List ℕ) (u : Under) where
  pub any_none : (from : ℕ) → false ≡ any_under leasts u from 0
  unfolding any_under
  any_none from = refl

  pub any-more : (from i : ℕ) (found : Bool) → found ≡ any_under leasts u from i → {t : Bool} → t ≡ is_under u (get_or leasts (from + i) 0)
      → found || t ≡ any_under leasts u from (i + 1)
  unfolding any_under
  any-more from i found e et = rw add-one (ap₂ (λ (a b : Bool). a || b) e et)

  pub any-all : (from i n : ℕ) (found : Bool) → found ≡ any_under leasts u from i → i ≤ n → n ≤ i → found ≡ any_under leasts u from n
  any-all from i n found e a b = let z : i ≡ n = omega arith in e ∙ ap (any_under leasts u from) z

  none-there : (from n : ℕ) → any_under leasts u from n ≡ false → (j : ℕ) → j < n → is_under u (get_or leasts (from + j) 0) ≡ false
  unfolding any_under
  none-there from zero e j h = absurd (omega arith)
  none-there from (suc n) e j h = go (any_under leasts u from n) (none-there from n) e (ltb j n) refl
    where
      go : (a : Bool) → (a ≡ false → (j : ℕ) → j < n → is_under u (get_or leasts (from + j) 0) ≡ false) → a || is_under u (get_or leasts (from + n) 0) ≡ false
          → (b : Bool) → ltb j n ≡ b → is_under u (get_or leasts (from + j) 0) ≡ false
      go true p q b r = absurd (true≢false q)
      go false p q true r = p refl j (ltb-true j n r)
      go false p q false r = let z : j ≡ n = omega (arith, ltb-false j n r) in rw z q

  over : (n m i : ℕ) → ((j : ℕ) → j < n → is_under u (get_or leasts (i + j) 0) ≡ false) → skip_under leasts u (n + m) i ≡ skip_under leasts u m (i + n)
  unfolding skip_under
  over zero m i h =
      let a : 0 + m ≡ m = omega arith in
      let b : i + 0 ≡ i = omega arith in
      rw (a, b) refl
  over (suc n) m i h =
      let a : suc n + m ≡ suc (n + m) = omega arith in
      let b : i + suc n ≡ i + 1 + n = omega arith in
      let c : i + 0 ≡ i = omega arith in
      let first : is_under u (get_or leasts i 0) ≡ false = rw c at (h 0 (omega arith)) in
      rw (a, b, first) (over n m (i + 1) (λ j k. let d : i + 1 + j ≡ i + suc j = omega arith in rw d (h (suc j) (omega arith))))

  -- the first n of them, and the others
  parted : (n m i : ℕ) → skip_under leasts u (n + m) i ≡ cond (ltb (skip_under leasts u n i) (i + n)) (skip_under leasts u n i) (skip_under leasts u m (i + n))
  unfolding skip_under
  parted zero m i =
      let a : 0 + m ≡ m = omega arith in
      let b : i + 0 ≡ i = omega arith in
      rw (a, b, le-ltb i i (omega arith)) refl
  parted (suc n) m i =
      let a : suc n + m ≡ suc (n + m) = omega arith in
      let b : i + suc n ≡ i + 1 + n = omega arith in
      rw (a, b) (go (is_under u (get_or leasts i 0)) (parted n m (i + 1)))
    where
      go : (t : Bool) → skip_under leasts u (n + m) (i + 1)
          ≡ cond (ltb (skip_under leasts u n (i + 1)) (i + 1 + n)) (skip_under leasts u n (i + 1)) (skip_under leasts u m (i + 1 + n))
          → cond t i (skip_under leasts u (n + m) (i + 1))
          ≡ cond (ltb (cond t i (skip_under leasts u n (i + 1))) (i + 1 + n)) (cond t i (skip_under leasts u n (i + 1))) (skip_under leasts u m (i + 1 + n))
      go true e = rw (lt-ltb i (i + 1 + n) (omega arith)) refl
      go false e = e

  module _ (from near count : ℕ) (a : from ≤ near) (b : near ≤ count) (r : ℕ) (e : r ≡ skip_under leasts u (near - from) from) where
    both : skip_under leasts u (count - from) from ≡ cond (ltb r near) r (skip_under leasts u (count - near) near)
    both =
        let z : count - from ≡ near - from + (count - near) = omega arith in
        let y : from + (near - from) ≡ near = omega arith in
        ap (λ n. skip_under leasts u n from) z ∙ (parted (near - from) (count - near) from ∙ rw (y, sym e) refl)

    pub near-one : r < near → r ≡ skip_under leasts u (count - from) from
    near-one h = sym (both ∙ rw (lt-ltb r near h) refl)

    pub none-near : near ≤ r → skip_under leasts u (count - from) from ≡ skip_under leasts u (count - near) near
    none-near h = both ∙ rw (le-ltb r near h) refl

  pub skip_block : (count i whole : ℕ) → whole ≡ skip_under leasts u (count - i) i → types_block ≤ count - i → {t : Bool} → t ≡ any_under leasts u i types_block → t ≡ false
      → whole ≡ skip_under leasts u (count - (i + types_block)) (i + types_block)
  skip_block count i whole so_far h et e =
      let z : count - i ≡ types_block + (count - (i + types_block)) = omega arith in
      so_far ∙ (ap (λ n. skip_under leasts u n i) z ∙ over types_block (count - (i + types_block)) i (none-there i types_block (sym et ∙ e)))

module _ (S : Schema) (terms : List Term) (leasts : List ℕ)
    (each : (i : ℕ) (t : Term) → get_elem? terms i ≡ some t → type_of_code (get_or leasts i 0) ≡ some (least (sort_of S t)))
    (ty : ℕ) (τ : Ty) (is : type_of_code ty ≡ some τ) where
  pub has_code : (i : ℕ) → i < length terms → code_leq (get_or leasts i 0) ty ≡ number_has S terms i τ
  has_code i h =
      let t = there-is terms i h in
      code-leq (get_or leasts i 0) ty (least (sort_of S t.0)) τ (each i t.0 t.1) is ∙ (sym (has-least (sort_of S t.0) τ) ∙ rw t.1 refl)

  -- the model's skip
  pub skip_is : (n i : ℕ) → i + n ≤ length terms → skip_types leasts ty n i ≡ skip S τ terms n i
  unfolding skip_types skip
  skip_is zero i h = refl
  skip_is (suc n) i h = rw (has_code i (omega arith), skip_is n (i + 1) (omega arith), add-one) refl
