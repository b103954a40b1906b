-- Filling the table from the script's end: what stands after an offset does not hang on what stands at it.
use Prim.Native.Nat.{ℕ, zero, suc, ◌+◌, ◌-◌, ◌≤◌, ◌<◌}
use native.Mathlib.Omega.{arith}
use mathlib.Core.List.{List}
use mathlib.Core.Logic.{⊎_elim}
use mathlib.Core.Path.{◌≡◌, refl, sym, ap, subst, ◌∙◌}
use lib.Seq.{get_or-set_same, get_or-set_other}
use lib.ListN.{length, get_or, set}
use borrow.Author.Tests.{lt-ltb, le-ltb}
use Rattle.definitions.specs.Limits.{pattern_width}
use Rattle.definitions.specs.Bytes.{byte}
use Rattle.laws.specs.Ends.{extent_of, after_in, after_all, end_at, Ended}
use Rattle.laws.proofs.Ranges.{split}
use Rattle.ends.proofs.ExtentLaws.{widths}

-- every number from lo on lies further on, and not far past the end
abbrev pub Onward : (ends : List ℕ) (n lo : ℕ) → Type 0
Onward ends n lo = (x : ℕ) → lo ≤ x → x < n → (x < get_or ends x 0) × (get_or ends x 0 ≤ n + pattern_width)

-- from lo on two tables are the same
abbrev pub SameFrom : (lo n : ℕ) (ends others : List ℕ) → Type 0
SameFrom lo n ends others = (x : ℕ) → lo ≤ x → x < n → get_or ends x 0 ≡ get_or others x 0

module _ (ends : List ℕ) (n lo : ℕ) (onward : Onward ends n lo) where
  after-bounds : (x : ℕ) → lo ≤ x → x ≤ n + pattern_width → (x ≤ after_in ends n x) × (after_in ends n x ≤ n + pattern_width)
  unfolding after_in
  after-bounds x l h =
      ⊎_elim (λ o. rw (le-ltb x n o) (omega arith, h)) (λ i. let b = onward x l i in rw (lt-ltb x n i) (omega (arith, b.0), b.1)) (split n x)

  pub all-bounds : (k from : ℕ) → lo ≤ from → from ≤ n + pattern_width → (from ≤ after_all (after_in ends n) k from) × (after_all (after_in ends n) k from ≤ n + pattern_width)
  unfolding after_all
  all-bounds zero from l h = (omega arith, h)
  all-bounds (suc k) from l h =
      let b = after-bounds from l h in
      let c = all-bounds k (after_in ends n from) (omega (arith, b.0)) b.1 in
      (omega (arith, b.0, c.0), c.1)

  module _ (others : List ℕ) (same : SameFrom lo n ends others) where
    after_same : (x : ℕ) → lo ≤ x → after_in ends n x ≡ after_in others n x
    unfolding after_in
    after_same x l = ⊎_elim (λ o. rw (le-ltb x n o) refl) (λ i. rw (lt-ltb x n i) (same x l i)) (split n x)

    all_same : (k from : ℕ) → lo ≤ from → from ≤ n + pattern_width → after_all (after_in ends n) k from ≡ after_all (after_in others n) k from
    unfolding after_all
    all_same zero from l h = refl
    all_same (suc k) from l h =
        let b = after-bounds from l h in
        all_same k (after_in ends n from) (omega (arith, b.0)) b.1 ∙ ap (after_all (after_in others n) k) (after_same from l)

-- one record of those that are left, and none
pub all-on : (after : ℕ → ℕ) (k j from next : ℕ) → k ≡ suc j → next ≡ after from → after_all after k from ≡ after_all after j next
unfolding after_all
all-on after k j from next h e = ap (λ i. after_all after i from) h ∙ ap (after_all after j) (sym e)

pub all-off : (after : ℕ → ℕ) (k from : ℕ) → k ≡ 0 → after_all after k from ≡ from
unfolding after_all
all-off after k from e = rw e refl

-- ── one turn ────────────────────────────────────────────────────────────────────────────────

-- the numbers from an offset on are right
pub record Filled (s ends : List ℕ) (from : ℕ) : Type 0 where
  pub onward : Onward ends (length s) from
  pub right : (x : ℕ) → from ≤ x → x < length s → get_or ends x 0 ≡ end_at s ends x

pub none_filled : (s ends : List ℕ) → Filled s ends (length s)
none_filled s ends = record { onward = λ x l h. absurd (omega arith); right = λ x l h. absurd (omega arith) }

pub all-filled : (s ends : List ℕ) (at : ℕ) → at ≡ 0 → Filled s ends at → Ended s ends
all-filled s ends at e f x l = f.right x (omega arith) l

module _ (s ends : List ℕ) (at : ℕ) (here : at < length s) (filled : Filled s ends (suc at)) where
  pub end-bounds : (at < end_at s ends at) × (end_at s ends at ≤ length s + pattern_width)
  unfolding end_at
  end-bounds =
      let k = byte s at in
      let w = widths k in
      let b = all-bounds ends (length s) (suc at) filled.onward (extent_of k).children (at + (extent_of k).width) (omega (arith, w.0)) (omega (arith, w.1)) in
      (omega (arith, w.0, b.0), b.1)

  module _ (others : List ℕ) (same : SameFrom (suc at) (length s) ends others) (put : get_or others at 0 ≡ end_at s ends at) where
    end_same : (x : ℕ) → at ≤ x → x < length s → end_at s ends x ≡ end_at s others x
    unfolding end_at
    end_same x l h =
        let k = byte s x in
        let w = widths k in
        all_same ends (length s) (suc at) filled.onward others same (extent_of k).children (x + (extent_of k).width) (omega (arith, w.0)) (omega (arith, w.1))

    pub one-filled : Filled s others at
    one-filled = record {
      onward = λ x l h. ⊎_elim (λ m. rw (sym (same x m h)) (filled.onward x m h)) (λ m. rw (e x l m, put) end-bounds) (split (suc at) x);
      right = λ x l h. ⊎_elim
          (λ m. sym (same x m h) ∙ (filled.right x m h ∙ end_same x l h))
          (λ m. rw (e x l m) (put ∙ end_same at (omega arith) here))
          (split (suc at) x);
    }
      where
        e : (x : ℕ) → at ≤ x → x < suc at → x ≡ at
        e x l m = omega arith

-- the same as the loop has it: at counts down
module _ (s ends : List ℕ) (at : ℕ) (some : 0 < at) (within : at ≤ length s) (filled : Filled s ends at) where
  before : Filled s ends (suc (at - 1))
  before = let h : at ≡ suc (at - 1) = omega arith in subst (Filled s ends) h filled

  pub turn-bounds : end_at s ends (at - 1) ≤ length s + pattern_width
  turn-bounds = (end-bounds s ends (at - 1) (omega arith) before).1

  pub turn : (v : ℕ) → length s ≤ length ends → v ≡ end_at s ends (at - 1) → Filled s (set ends (at - 1) v) (at - 1)
  turn v room e =
      one-filled s ends (at - 1) (omega arith) before (set ends (at - 1) v)
      (λ x l h. sym (get_or-set_other ends (at - 1) x v 0 (λ i. omega (arith, i)))) (get_or-set_same ends (at - 1) v 0 (omega arith) ∙ e)
