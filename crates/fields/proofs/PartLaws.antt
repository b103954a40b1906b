-- Laws of parts of a slice, as the code hands them on.
use Prim.Native.Nat.{ℕ, zero, suc, ◌+◌, ◌-◌, ◌≤◌}
use mathlib.Core.List.{List}
use mathlib.Core.Path.{◌≡◌, ap, ◌∙◌}
use native.Mathlib.Nat.{suc-sub-suc, sub-zero}
use native.Mathlib.Omega.{arith}
use lib.ListN.{length, drop, replicate, length-drop}
use lib.Seq.{take_all}
use Rattle.definitions.specs.Bytes.{part}
use Rattle.laws.proofs.Bytes.{part_length}

-- `&s[at..]`
pub rest_part : (s : List ℕ) (at : ℕ) → part s at (length s - at) ≡ drop at s
rest_part s at = take_all (length s - at) (drop at s) (omega (arith, length-drop at s))

-- `&s[at..at + n]`
pub some-part : (s : List ℕ) (at n : ℕ) → part s at (at + n - at) ≡ part s at n
some-part s at n = let e : at + n - at ≡ n = omega arith in rw e

pub part-long : (s : List ℕ) (at n : ℕ) → at + n ≤ length s → length (part s at (at + n - at)) ≡ n
part-long s at n h = ap length (some-part s at n) ∙ part_length s at n h

-- what is left of zeros
pub drop-replicate : (n k : ℕ) → drop {A = ℕ} n (replicate k 0) ≡ replicate (k - n) 0
drop-replicate zero k = rw sub-zero
drop-replicate (suc n) zero = let e : 0 - suc n ≡ 0 = omega arith in rw e
drop-replicate (suc n) (suc k) = drop-replicate n k ∙ rw suc-sub-suc
