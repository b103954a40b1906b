-- Laws of numbers in bytes: eight bytes, two's complement, a range test on the unsigned number, bytes that are all zero.
use Prim.Native.Nat.{ℕ, zero, suc, ◌+◌, ◌-◌, ◌*◌, ◌^◌, ◌<◌, ◌≤◌}
use mathlib.Core.Bool.{Bool, true, false, ◌&&◌, and-true}
use mathlib.Core.List.{List}
use mathlib.Core.Path.{◌≡◌, refl, sym, ap, ap₂, ◌∙◌}
use native.Mathlib.Numerals.{add-one}
use native.Mathlib.Omega.{arith}
use lib.Dec.{eqb, ltb, leb, leb-suc-suc}
use lib.IntN.{pos, negsuc}
use lib.ListN.{length, drop, drop_of_length-le}
use lib.Seq.{drop-cons, take_all}
use borrow.Author.Tests.{lt-ltb, le-ltb, eq-eqb, ne_eqb}
use mir.Syntax.{w64}
use mir.Val.{to_z}
use mir.Facts.{to_z_pos, to_z-neg}
use mathlib.Core.Logic.{⊎_elim}
use Rattle.laws.proofs.Ranges.{split}
use Rattle.definitions.specs.Limits.{number_width}
use Rattle.definitions.specs.Bytes.{byte, part, little, signed, all_zero}
use Rattle.definitions.specs.Terms.{within_limits}
use Rattle.std.specs.Prelude.{Some, None}
use Rattle.std.specs.declared.option.Option as Answer
use Rattle.fields.specs.Answers.{code_if}

-- ── eight bytes ─────────────────────────────────────────────────────────────────────────────

-- one more byte of a part
part-more : (s : List ℕ) (at n : ℕ) → at < length s → little (part s at (suc n)) ≡ byte s at + 256 * little (part s (suc at) n)
unfolding little
part-more s at n h = rw (drop-cons s at 0 h)

pub eight : (r : List ℕ) → length r ≡ number_width
    → byte r 0 + byte r 1 * 256 + byte r 2 * 65536 + byte r 3 * 16777216 + byte r 4 * 4294967296
    + byte r 5 * 1099511627776 + byte r 6 * 281474976710656 + byte r 7 * 72057594037927936 ≡ little r
eight r l =
    let whole : part r 0 8 ≡ r = take_all 8 r (omega arith) in
    let last : little (part r 8 0) ≡ 0 = unfold little in refl in
    omega (
      arith,
      ap little whole,
      part-more r 0 7 (omega arith),
      part-more r 1 6 (omega arith),
      part-more r 2 5 (omega arith),
      part-more r 3 4 (omega arith),
      part-more r 4 3 (omega arith),
      part-more r 5 2 (omega arith),
      part-more r 6 1 (omega arith),
      part-more r 7 0 (omega arith),
    )

-- ── two's complement ────────────────────────────────────────────────────────────────────────

low_signed : (v : ℕ) → v < 2 ^ 63 → signed v ≡ pos v
unfolding signed
low_signed v h = rw (lt-ltb v (2 ^ 63) h)

high-signed : (v : ℕ) → 2 ^ 63 ≤ v → signed v ≡ negsuc (2 ^ 64 - suc v)
unfolding signed
high-signed v h = rw (le-ltb v (2 ^ 63) h)

module _ (v : ℕ) where
  pub signed_is : v < 2 ^ 64 → to_z w64 v ≡ signed v
  signed_is l = ⊎_elim high_value low_value (split (2 ^ 63) v)
    where
      low_value : v < 2 ^ 63 → to_z w64 v ≡ signed v
      low_value h = to_z_pos w64 h ∙ sym (low_signed v h)

      high_value : 2 ^ 63 ≤ v → to_z w64 v ≡ signed v
      high_value h =
          let k : 2 ^ 64 - suc v < 2 ^ 63 = omega arith in
          let e : v ≡ 2 ^ 64 - suc (2 ^ 64 - suc v) = omega arith in
          ap (to_z w64) e ∙ to_z-neg w64 (2 ^ 64 - suc v) k ∙ sym (high-signed v h)

  module _ (h : 2 ^ 63 ≤ v) (l : v < 2 ^ 64) where
    -- the limits, tested on the unsigned number
    pub high-within : (low high : ℕ) → 0 < low → ltb (2 ^ 64 - 1 - v) low ≡ within_limits low high (signed v)
    unfolding within_limits
    high-within low high p = rw (high-signed v h) (go low p)
      where
        go : (low : ℕ) → 0 < low → ltb (2 ^ 64 - 1 - v) low ≡ within_limits low high (negsuc (2 ^ 64 - suc v))
        go zero p = absurd (omega arith)
        go (suc low) p =
            let e : 2 ^ 64 - 1 - v ≡ 2 ^ 64 - suc v = omega arith in
            rw (e, and-true, leb-suc-suc)

  pub low-within : (low high : ℕ) → 0 < low → v < 2 ^ 63 → leb v high ≡ within_limits low high (signed v)
  unfolding within_limits
  low-within low high p h = rw (low_signed v h) (go low p)
    where
      go : (low : ℕ) → 0 < low → leb v high ≡ within_limits low high (pos v)
      go zero p = absurd (omega arith)
      go (suc low) p = refl

-- ── bytes that are all zero ─────────────────────────────────────────────────────────────────

zero_test : (b : ℕ) → eqb b 0 ≡ eqb 0 b
zero_test zero = refl
zero_test (suc b) = ne_eqb (suc b) 0 (λ e. omega arith) ∙ sym (ne_eqb 0 (suc b) (λ e. omega arith))

-- what was looked at is zero, and so is the rest, where all is
module _ (s : List ℕ) (i : ℕ) where
  pub zero-next : (z : Bool) → i < length s → z && all_zero (drop i s) ≡ all_zero s → (z && eqb (byte s i) 0) && all_zero (drop (i + 1) s) ≡ all_zero s
  zero-next false h far = far
  zero-next true h far = ap₂ ◌&&◌ (zero_test (byte s i)) (ap (λ (n : ℕ). all_zero (drop n s)) (add-one i)) ∙ (rw (drop-cons s i 0 h) at far)

  pub zero-end : (z : Bool) → length s ≤ i → z && all_zero (drop i s) ≡ all_zero s → z ≡ all_zero s
  zero-end false h far = far
  zero-end true h far = sym (rw (drop_of_length-le s {i = i} h)) ∙ far

-- ── a code, none for 0 ──────────────────────────────────────────────────────────────────────

module _ (k : ℕ) where
  pub code-some : 0 < k → Some k ≡ code_if k
  unfolding code_if
  code-some h = rw (ne_eqb k 0 (λ e. omega arith))

  pub code-none : k ≡ 0 → None ≡ code_if k
  unfolding code_if
  code-none e = rw (eq-eqb k 0 e)

  module _ {r : Answer.Option ℕ} (e : r ≡ code_if k) where
    pub code-is : {c : ℕ} → r ≡ Some c → (c ≡ k) × (0 < k)
    code-is {c} q = ⊎_elim low high (split k 0)
      where
        low : k ≤ 0 → (c ≡ k) × (0 < k)
        low l = let x = code-none (omega arith) in absurd (let z : ◌≡◌ {A = ℕ} 0 1 = cc in omega arith)

        high : 0 < k → (c ≡ k) × (0 < k)
        high l = let x = code-some l in let z : c ≡ k = cc in (z, l)

    pub code-not : r ≡ None → k ≡ 0
    code-not q = ⊎_elim (λ l. omega arith) high (split k 0)
      where
        high : 0 < k → k ≡ 0
        high l = let x = code-some l in absurd (let z : ◌≡◌ {A = ℕ} 0 1 = cc in omega arith)
