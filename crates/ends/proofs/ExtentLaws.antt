-- The extents of kinds as the code has them: four widths that are not 1, and a digit for each number of children.
use Prim.Native.Nat.{ℕ, ◌-◌, ◌+◌, ◌≤◌, ◌<◌}
use native.Mathlib.Omega.{arith}
use mathlib.Core.Bool.{◌&&◌}
use mathlib.Core.List.{List}
use mathlib.Core.Path.{◌≡◌, refl, sym, ap}
use lib.Dec.{T, eqb, eqb→eq, leb, leb→le, ltb, ltb→lt}
use lib.ListN.{get_or}
use Rattle.definitions.specs.Limits.{pattern_width, language_range_width}
use Rattle.definitions.specs.Ascii.{ascii}
use Rattle.laws.specs.Ends.{extent, extents, extent_of}
use Rattle.laws.proofs.Tests.{and_left, and_right}
use Rattle.laws.proofs.Ranges.{every_in}
use Rattle.laws.proofs.Reading.{row-all, row-keys}

-- ── widths ──────────────────────────────────────────────────────────────────────────────────

-- the width of a kind that is told
pub width_is : {k j : ℕ} → k ≡ j → (extent_of j).width ≡ (extent_of k).width
width_is e = sym (ap (λ (x : ℕ). (extent_of x).width) e)

-- none of the four
abbrev pub NoBody : ℕ → Type 0
NoBody k = (k ≡ 0x31 → ⊥) × (k ≡ 0x32 → ⊥) × (k ≡ 0x55 → ⊥) × (k ≡ 0x56 → ⊥)

pub other_width : (k : ℕ) → NoBody k → 1 ≡ (extent_of k).width
unfolding extent_of
other_width k =
    row-keys (λ j x. NoBody j → 1 ≡ x.width) k extents (extent 1 0)
    (variable, (constant, (one, (one, (one, (one, (one, (one, (one, (one, (one, (one, (pattern, (range, (one, (one, (one, (one, (one, (one, (one, tt)))))))))))))))))))))
    one
  where
    one : {j : ℕ} → NoBody j → ◌≡◌ {A = ℕ} 1 1
    one n = refl

    variable : NoBody 0x31 → ◌≡◌ {A = ℕ} 1 2
    variable n = absurd (n.0 refl)

    constant : NoBody 0x32 → ◌≡◌ {A = ℕ} 1 3
    constant n = absurd (n.1 refl)

    pattern : NoBody 0x55 → 1 ≡ 1 + pattern_width
    pattern n = absurd (n.2 refl)

    range : NoBody 0x56 → 1 ≡ 1 + language_range_width
    range n = absurd (n.3 refl)

-- every record has a byte, and before its children none has more than a pattern
pub widths : (k : ℕ) → (1 ≤ (extent_of k).width) × ((extent_of k).width ≤ 1 + pattern_width)
unfolding extent_of
widths k =
    let x = (extent_of k).width in
    let h : T (leb 1 x && leb x (1 + pattern_width)) = row-all (λ y. T (leb 1 y.width && leb y.width (1 + pattern_width))) k extents (extent 1 0)
    (tt, (tt, (tt, (tt, (tt, (tt, (tt, (tt, (tt, (tt, (tt, (tt, (tt, (tt, (tt, (tt, (tt, (tt, (tt, (tt, (tt, tt))))))))))))))))))))) tt in
    (leb→le 1 x (and_left (leb 1 x) (leb x (1 + pattern_width)) h), leb→le x (1 + pattern_width) (and_right (leb 1 x) (leb x (1 + pattern_width)) h))

-- ── children ────────────────────────────────────────────────────────────────────────────────

-- of each kind below and above those that the digits are for
pub none-below : (k : ℕ) → k < 0x40 → 0 ≡ (extent_of k).children
unfolding extent_of
none-below k h = sym (eqb→eq (extent_of k).children 0 (every_in (λ j. eqb (extent_of j).children 0) 0 0x40 tt k (omega arith) h))

pub none-above : (k : ℕ) → 0x66 ≤ k → k < 256 → 0 ≡ (extent_of k).children
unfolding extent_of
none-above k h l = sym (eqb→eq (extent_of k).children 0 (every_in (λ j. eqb (extent_of j).children 0) 0x66 154 tt k h l))

abbrev pub digits : List ℕ
digits = ascii "00112200000000000022111220000000042210"

pub digit-children : (k : ℕ) → 0x40 ≤ k → k < 0x66 → get_or digits (k - 0x40) 0 - 0x30 ≡ (extent_of k).children
unfolding extent_of ascii
digit-children k from below =
    eqb→eq (get_or digits (k - 0x40) 0 - 0x30) (extent_of k).children
    (every_in (λ j. eqb (get_or digits (j - 0x40) 0 - 0x30) (extent_of j).children) 0x40 38 tt k from below)

pub is_digit_lem : (k : ℕ) → 0x40 ≤ k → k < 0x66 → (0x30 ≤ get_or digits (k - 0x40) 0) × (get_or digits (k - 0x40) 0 < 256)
unfolding ascii
is_digit_lem k from below =
    let d = get_or digits (k - 0x40) 0 in
    let h = every_in (λ j. leb 0x30 (get_or digits (j - 0x40) 0) && ltb (get_or digits (j - 0x40) 0) 256) 0x40 38 tt k from below in
    (leb→le 0x30 d (and_left (leb 0x30 d) (ltb d 256) h), ltb→lt d 256 (and_right (leb 0x30 d) (ltb d 256) h))
