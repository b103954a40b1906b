-- The pairs of a block: what is left to check from each of them on.
use Prim.Native.Nat.{ℕ, zero, suc, ◌+◌, ◌-◌, ◌≤◌, ◌<◌}
use mathlib.Core.Bool.{Bool, true, false, not, ◌&&◌, and-true}
use mathlib.Core.List.{List, ◌∷◌}
use mathlib.Core.Option.{Option, none, some}
use mathlib.Core.Path.{◌≡◌, refl, sym, ap, ◌∙◌}
use mathlib.Core.Logic.{⊎_elim}
use native.Mathlib.Omega.{arith}
use lib.Dec.{T, eqb, ltb}
use borrow.Author.Tests.{lt-ltb, le-ltb}
use Rattle.definitions.specs.Limits.{variable_limit, pair_limit}
use Rattle.definitions.specs.Bytes.{byte, onward}
use Rattle.definitions.specs.Tree.{Binder}
use Rattle.definitions.specs.Types.{Ty, type_rows, type_of_code}
use Rattle.definitions.specs.Reading.{written_of, binder_at, binders_at}
use Rattle.laws.proofs.Tests.{is_true, is_false}
use Rattle.laws.proofs.Ranges.{every_from, every_in, split}
use Rattle.laws.proofs.Reading.{row-above}
use Rattle.laws.specs.ReadAnswers.{is_some}
use Rattle.reader.specs.Pairs.{pair_ok}
use Rattle.laws.proofs.ReadBounds.{binders-bounded}
use Rattle.laws.proofs.ReadAnswers.{onward-is, only_if, absent}

-- ── written types ───────────────────────────────────────────────────────────────────────────

-- a code that lies in a range of good ones, or of bad ones
pub written-yes : (lo n code : ℕ) → T (every_from (λ k. is_some (written_of k)) lo n) → lo ≤ code → code < lo + n → true ≡ is_some (written_of code)
written-yes lo n code t from below = sym (is_true (is_some (written_of code)) (every_in (λ k. is_some (written_of k)) lo n t code from below))

pub written-no : (lo n code : ℕ) → T (every_from (λ k. not (is_some (written_of k))) lo n) → lo ≤ code → code < lo + n → false ≡ is_some (written_of code)
written-no lo n code t from below = sym (is_false (is_some (written_of code)) (every_in (λ k. not (is_some (written_of k))) lo n t code from below))

pub written-above : (code : ℕ) → 14 ≤ code → false ≡ is_some (written_of code)
unfolding written_of onward
written-above zero h = absurd (omega arith)
written-above (suc n) h = let e : type_of_code (suc n) ≡ none = row-above type_rows none 14 (suc n) h tt in rw e

-- ── pairs ───────────────────────────────────────────────────────────────────────────────────

binder-is : (s : List ℕ) (at : ℕ) → is_some (binder_at s at) ≡ pair_ok true (byte s at) (byte s (at + 1))
unfolding binder_at pair_ok
binder-is s at =
    let make : Option Ty → Option Binder = λ w. some (record { variable = byte s at; written = w }) in
    only_if (ltb (byte s at) variable_limit) (onward (written_of (byte s (at + 1))) make)
    ∙ ap (λ (t : Bool). ltb (byte s at) variable_limit && t) (onward-is (written_of (byte s (at + 1))) make true (λ w. refl) ∙ and-true (is_some (written_of (byte s (at + 1)))))

used_pair : (left count : ℕ) (s : List ℕ) (at : ℕ)
    → is_some (binders_at (suc left) (suc count) s at) ≡ (pair_ok true (byte s at) (byte s (at + 1)) && is_some (binders_at left count s (at + 2)))
unfolding binders_at
used_pair left count s at =
    let rest = binders_at left count s (at + 2) in
    onward-is (binder_at s at) (λ b. onward rest (λ bs. some (b ∷ bs))) (is_some rest) (λ b. onward-is rest (λ bs. some (b ∷ bs)) true (λ bs. refl) ∙ and-true (is_some rest))
    ∙ ap (λ (t : Bool). t && is_some rest) (binder-is s at)

unused-pair : (left : ℕ) (s : List ℕ) (at : ℕ)
    → is_some (binders_at (suc left) zero s at) ≡ (pair_ok false (byte s at) (byte s (at + 1)) && is_some (binders_at left zero s (at + 2)))
unfolding binders_at pair_ok
unused-pair left s at = only_if (eqb (byte s at) 0 && eqb (byte s (at + 1)) 0) (binders_at left zero s (at + 2))

-- the pairs from the k-th on, and one of them apart
module _ (s : List ℕ) (count k next : ℕ) where
  abbrev pub pairs_from : Bool
  pairs_from = is_some (binders_at (pair_limit - k) (count - k) s next)

  pub pair-next : k < pair_limit → pairs_from ≡ (pair_ok (ltb k count) (byte s next) (byte s (next + 1)) && is_some (binders_at (pair_limit - (k + 1)) (count - (k + 1)) s (next + 2)))
  pair-next h =
      let l : pair_limit - k ≡ suc (pair_limit - (k + 1)) = omega arith in
      ⊎_elim
      (λ u. let z : count - k ≡ 0 = omega arith in let z' : count - (k + 1) ≡ 0 = omega arith in rw (le-ltb k count u, l, z, z') (unused-pair (pair_limit - (k + 1)) s next))
      (λ u. let n : count - k ≡ suc (count - (k + 1)) = omega arith in rw (lt-ltb k count u, l, n) (used_pair (pair_limit - (k + 1)) (count - (k + 1)) s next))
      (split count k)

  module _ (h : k < pair_limit) where
    pub pair-bad : pair_ok (ltb k count) (byte s next) (byte s (next + 1)) ≡ false → pairs_from ≡ false
    pair-bad e = pair-next h ∙ ap (λ (t : Bool). t && is_some (binders_at (pair_limit - (k + 1)) (count - (k + 1)) s (next + 2))) e

    pub pair_turn : pair_ok (ltb k count) (byte s next) (byte s (next + 1)) ≡ true → pairs_from ≡ is_some (binders_at (pair_limit - (k + 1)) (count - (k + 1)) s (next + 2))
    pair_turn e = pair-next h ∙ ap (λ (t : Bool). t && is_some (binders_at (pair_limit - (k + 1)) (count - (k + 1)) s (next + 2))) e

  pub pairs-done : pair_limit ≤ k → count ≤ pair_limit → pairs_from ≡ true
  unfolding binders_at
  pairs-done h l = let a : pair_limit - k ≡ 0 = omega arith in let b : count - k ≡ 0 = omega arith in rw (a, b)

pub pairs-many : (s : List ℕ) (count at : ℕ) → pair_limit < count → is_some (binders_at pair_limit count s at) ≡ false
pairs-many s count at h = absent (binders_at pair_limit count s at) (λ bs e. let b = binders-bounded 0 pair_limit count s at bs e in omega (arith, b.2))
