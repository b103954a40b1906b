-- The parts of the joined input, cut at their ends or at the end of the input.
use Prim.Native.Nat.{ℕ, zero, suc, ◌-◌, ◌≤◌, min}
use native.Mathlib.Omega.{arith}
use mathlib.Core.Path.{◌≡◌, refl, sym, ap, ◌∙◌}
use mathlib.Core.Logic.{⊎_elim}
use mathlib.Core.List.{List, [], ◌∷◌}
use lib.ListN.{length, take, drop, length-drop}
use lib.Seq.{take_all, take-nil}
use Rattle.laws.proofs.Ranges.{split}
use Rattle.type_lines.proofs.Texts.{drop-out}

drop-take : (a b : ℕ) (s : List ℕ) → drop a (take b s) ≡ take (b - a) (drop a s)
drop-take zero b s = let e : b ≡ b - 0 = omega arith in ap (λ (n : ℕ). take n s) e
drop-take (suc a) b [] = ap (drop (suc a)) (take-nil b) ∙ sym (take-nil (b - suc a))
drop-take (suc a) zero (x ∷ s) = let e : 0 ≡ 0 - suc a = omega arith in ap (λ (n : ℕ). take n (drop a s)) e
drop-take (suc a) (suc b) (x ∷ s) =
    let e : b - a ≡ suc b - suc a = omega arith in
    drop-take a b s ∙ ap (λ (n : ℕ). take n (drop a s)) e

module _ (s : List ℕ) where
  take_min : (n : ℕ) → take (min n (length s)) s ≡ take n s
  take_min n =
      ⊎_elim
      (λ l. let e : min n (length s) ≡ length s = omega arith in
      ap (λ (k : ℕ). take k s) e ∙ (take_all (length s) s (omega arith) ∙ sym (take_all n s l)))
      (λ l. let e : min n (length s) ≡ n = omega arith in ap (λ (k : ℕ). take k s) e)
      (split (length s) n)

  drop_min : (n : ℕ) → drop (min n (length s)) s ≡ drop n s
  drop_min n =
      ⊎_elim
      (λ l. let e : min n (length s) ≡ length s = omega arith in
      ap (λ (k : ℕ). drop k s) e ∙ (drop-out s (length s) (omega arith) ∙ sym (drop-out s n l)))
      (λ l. let e : min n (length s) ≡ n = omega arith in ap (λ (k : ℕ). drop k s) e)
      (split (length s) n)

  -- the first part ends at `first`, the second at `second`
  module _ {a b : ℕ} (first second : ℕ) (cut : a ≡ min first (length s)) (end : b ≡ min second (length s)) where
    pub first_part : take (a - 0) (drop 0 s) ≡ take first s
    first_part = let e : a - 0 ≡ min first (length s) = omega arith in ap (λ (n : ℕ). take n s) e ∙ take_min first

    pub second-part : take (b - a) (drop a s) ≡ drop first (take second s)
    second-part =
        let e : b - a ≡ b - first = omega arith in
        ap (λ (n : ℕ). take n (drop a s)) e
        ∙ (ap (λ (n : ℕ). take (b - first) (drop n s)) cut
        ∙ (ap (take (b - first)) (drop_min first)
        ∙ (sym (drop-take first b s)
        ∙ (ap (λ (n : ℕ). drop first (take n s)) end ∙ ap (drop first) (take_min second)))))

    pub last-part : take (length s - b) (drop b s) ≡ drop second s
    last-part =
        take_all (length s - b) (drop b s) (omega (arith, length-drop b s))
        ∙ (ap (λ (n : ℕ). drop n s) end ∙ drop_min second)
