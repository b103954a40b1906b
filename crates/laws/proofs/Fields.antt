-- The text of a field, byte by byte: bytes that pass a test, then zeros.
use Prim.Native.Nat.{ℕ}
use mathlib.Core.Bool.{Bool, true, false, cond, ◌&&◌, and-true, and-false}
use mathlib.Core.List.{List, [], ◌∷◌}
use mathlib.Core.Option.{some}
use mathlib.Core.Path.{◌≡◌, refl, sym, ap, ◌∙◌}
use mathlib.Core.Logic.{◌⊎◌, inl, inr, ⊎_elim}
use native.Mathlib.Nat.{sub-zero, suc-sub-suc}
use native.Mathlib.Omega.{arith}
use lib.Dec.{eqb}
use lib.ListN.{length, replicate}
use borrow.Author.Tests.{eqb-true, eq-eqb}
use Rattle.definitions.specs.Lists.{every, is_empty}
use Rattle.definitions.specs.Bytes.{same_bytes, all_zero, filled, unfilled, provided}
use Rattle.definitions.specs.Terms.{field_text}

-- a number is another, or a test says that it is not
pub same? : (b k : ℕ) → (b ≡ k) ⊎ (eqb b k ≡ false)
same? b k = go (eqb b k) refl
  where
    go : (t : Bool) → eqb b k ≡ t → (b ≡ k) ⊎ (eqb b k ≡ false)
    go true e = inl (eqb-true b k e)
    go false e = inr e

pub by-same : {P : Type 0} (b k : ℕ) → (b ≡ k → P) → (eqb b k ≡ false → P) → P
by-same b k f g = ⊎_elim f g (same? b k)

-- bytes that pass a test up to the first zero, and zeros from there on
unfoldable pub filled_by : (ℕ → Bool) → List ℕ → Bool
filled_by ok [] = true
filled_by ok (b ∷ bs) = cond (eqb b 0) (all_zero bs) (ok b && filled_by ok bs)

module _ (ok : ℕ → Bool) where
  pub filled_zero : (bs : List ℕ) → filled_by ok (0 ∷ bs) ≡ all_zero bs
  unfolding filled_by
  filled_zero bs = refl

  pub filled-byte : (b : ℕ) (bs : List ℕ) → eqb b 0 ≡ false → filled_by ok (b ∷ bs) ≡ (ok b && filled_by ok bs)
  unfolding filled_by
  filled-byte b bs e = rw e

pub unfilled-byte : (b : ℕ) (bs : List ℕ) → eqb b 0 ≡ false → unfilled (b ∷ bs) ≡ b ∷ unfilled bs
unfolding unfilled
unfilled-byte b bs e = rw (e, unfilled)

-- a field with no text is all zero
pub no_text : (ok : ℕ → Bool) (bs : List ℕ) → (filled_by ok bs && is_empty (unfilled bs)) ≡ all_zero bs
unfolding filled_by unfilled
no_text ok [] = refl
no_text ok (b ∷ bs) =
    ⊎_elim
    (λ e. rw e (and-true (all_zero bs)))
    (λ e. rw (unfilled-byte b bs e) (and-false (filled_by ok (b ∷ bs)) ∙ sym (other e)))
    (same? b 0)
  where
    other : eqb b 0 ≡ false → all_zero (b ∷ bs) ≡ false
    other e = go (eqb 0 b) refl
      where
        go : (t : Bool) → eqb 0 b ≡ t → (t && all_zero bs) ≡ false
        go true h = absurd (let z : true ≡ false = sym (eq-eqb b 0 (sym (eqb-true 0 b h))) ∙ e in let w : ◌≡◌ {A = ℕ} 0 1 = cc in omega arith)
        go false h = refl

zeros-same : (bs : List ℕ) → same_bytes (replicate (length bs) 0) bs ≡ all_zero bs
zeros-same [] = refl
zeros-same (b ∷ bs) = ap (λ t. eqb 0 b && t) (zeros-same bs)

regroup : (a b c : Bool) → ((a && b) && c) ≡ (a && (b && c))
regroup true b c = refl
regroup false b c = refl

whole : (ok : ℕ → Bool) (field : List ℕ) → (every ok (unfilled field) && same_bytes (filled (length field) (unfilled field)) field) ≡ filled_by ok field
unfolding filled_by unfilled filled
whole ok [] = refl
whole ok (b ∷ bs) =
    ⊎_elim
    (λ e. rw e (rw sub-zero (zeros-same bs)))
    (λ e. rw (unfilled-byte b bs e, e, suc-sub-suc, eq-eqb b b refl) (regroup (ok b) (every ok (unfilled bs)) (same_bytes (filled (length bs) (unfilled bs)) bs) ∙ ap (λ t. ok b && t) (whole ok bs)))
    (same? b 0)

pub field-text : (ok : ℕ → Bool) (width : ℕ) (field : List ℕ) → length field ≡ width → field_text ok width field ≡ provided (filled_by ok field) (some (unfilled field))
unfolding field_text
field-text ok width field e = rw (← e, whole ok field)
