-- Laws of fields: a text and then zeros, byte by byte.
use Prim.Native.Nat.{ℕ, suc, ◌+◌, ◌<◌, ◌≤◌}
use mathlib.Core.Bool.{Bool, true, false, cond, not, ◌&&◌, ◌||◌, and-true, and-false, or-true, or-false}
use mathlib.Core.List.{List, [], ◌∷◌}
use mathlib.Core.Option.{some}
use mathlib.Core.Path.{◌≡◌, refl, sym, ap, ◌∙◌, fun_ext}
use native.Mathlib.Numerals.{add-one}
use native.Mathlib.Omega.{arith}
use lib.Dec.{leb, eqb}
use lib.ListN.{length, drop, drop_of_length-le}
use lib.Seq.{drop-cons}
use borrow.Author.Tests.{ne_eqb, eq-eqb, le-leb, eqb-true}
use Rattle.definitions.specs.Limits.{text_width}
use Rattle.definitions.specs.Lists.{every}
use Rattle.definitions.specs.Bytes.{byte, same_bytes, all_zero, filled, unfilled, provided, onward}
use Rattle.definitions.specs.Terms.{between, field_text, uri_text, uri_byte, text_byte, tag_byte}
use Rattle.laws.proofs.Fields.{filled_by, field-text}
use Rattle.laws.proofs.TestEquations.{eqb_swap}
use Rattle.laws.specs.ReadAnswers.{is_some}
use Rattle.fields.specs.Answers.{range_or}
use Rattle.laws.proofs.ReadAnswers.{provided-is}

-- ── a text and then zeros, byte by byte ─────────────────────────────────────────────────────

-- what is left of a field after a byte: only zeros after a zero
unfoldable pub filled_after : (ok : ℕ → Bool) → (before : ℕ) → List ℕ → Bool
filled_after ok before s = cond (eqb before 0) (all_zero s) (filled_by ok s)

one_more : (ok : ℕ → Bool) (before b : ℕ) (bs : List ℕ)
    → filled_after ok before (b ∷ bs) ≡ ((eqb b 0 || (not (eqb before 0) && ok b)) && filled_after ok b bs)
unfolding filled_by filled_after
one_more ok before b bs = rw (eqb_swap 0 b) (go (eqb before 0) (eqb b 0))
  where
    go : (z t : Bool) → cond z (t && all_zero bs) (cond t (all_zero bs) (ok b && filled_by ok bs)) ≡ ((t || (not z && ok b)) && cond t (all_zero bs) (filled_by ok bs))
    go true true = refl
    go true false = refl
    go false true = refl
    go false false = refl

no_more : (ok : ℕ → Bool) (before : ℕ) → filled_after ok before [] ≡ true
unfolding filled_by filled_after
no_more ok before = go (eqb before 0)
  where
    go : (z : Bool) → cond z true true ≡ true
    go true = refl
    go false = refl

-- what was looked at is good, and so is the rest, where all is
module _ (ok : ℕ → Bool) (s : List ℕ) where
  pub field-start : is_some (field_text ok (length s) s) ≡ (true && filled_after ok 1 s)
  unfolding filled_after
  field-start = ap is_some (field-text ok (length s) s refl) ∙ provided-is (filled_by ok s) (unfilled s)

  module _ (before i : ℕ) where
    pub field_next : (good : Bool) → i < length s → is_some (field_text ok (length s) s) ≡ (good && filled_after ok before (drop i s)) → {r : Bool} → r ≡ ok (byte s i)
        → is_some (field_text ok (length s) s) ≡ ((good && (eqb (byte s i) 0 || (not (eqb before 0) && r))) && filled_after ok (byte s i) (drop (i + 1) s))
    field_next false h far e = far
    field_next true h far e = far ∙ rw (drop-cons s i 0 h, add-one i, e) (one_more ok before (byte s i) (drop (suc i) s))

    pub field_end : (good : Bool) → length s ≤ i → is_some (field_text ok (length s) s) ≡ (good && filled_after ok before (drop i s)) → good ≡ is_some (field_text ok (length s) s)
    field_end good h far = sym (far ∙ rw (drop_of_length-le s {i = i} h, no_more ok before) (and-true good))

-- ── the tests of bytes ──────────────────────────────────────────────────────────────────────

-- the end of the range is no other byte
range-end : (low high : ℕ) → low ≤ high → range_or low high high ≡ between low high
unfolding range_or
range-end low high l = fun_ext (λ b. go b (eqb b high) refl)
  where
    go : (b : ℕ) (t : Bool) → eqb b high ≡ t → (between low high b || t) ≡ between low high b
    go b true e = let q = eqb-true b high e in rw (or-true, le-leb low b (omega arith), le-leb b high (omega arith))
    go b false e = or-false (between low high b)

pub uri-bytes : range_or 0x21 0x7E 0x7E ≡ uri_byte
uri-bytes = range-end 0x21 0x7E (omega arith)

pub text-bytes : range_or 0x20 0x7E 0x7E ≡ text_byte
text-bytes = range-end 0x20 0x7E (omega arith)

pub tag-bytes : range_or 0x61 0x7A 0x2D ≡ tag_byte
unfolding range_or
tag-bytes = refl

-- ── a field of a width ──────────────────────────────────────────────────────────────────────

pub field-of-width : (s : List ℕ) (width : ℕ) (ok also : ℕ → Bool) {r : Bool} → length s ≡ width → also ≡ ok
    → r ≡ is_some (field_text also (length s) s) → r ≡ is_some (field_text ok width s)
field-of-width s width ok also l q e = rw (q, l) at e

-- a URI's text is not empty
uri-tests : (s : List ℕ) → is_some (uri_text s) ≡ (is_some (field_text uri_byte text_width s) && leb 1 (length (unfilled s)))
unfolding uri_text field_text
uri-tests s = go (every uri_byte (unfilled s) && same_bytes (filled text_width (unfilled s)) s)
  where
    go : (b : Bool) → is_some (onward (provided b (some (unfilled s))) (λ text. provided (leb 1 (length text)) (some text)))
        ≡ (is_some (provided b (some (unfilled s))) && leb 1 (length (unfilled s)))
    go true = unfold onward provided in provided-is (leb 1 (length (unfilled s))) (unfilled s)
    go false = unfold onward provided in refl

pub uri-empty : (s : List ℕ) → byte s 0 ≡ 0 → is_some (uri_text s) ≡ false
unfolding unfilled
uri-empty [] e = uri-tests [] ∙ and-false (is_some (field_text uri_byte text_width []))
uri-empty (b ∷ s) e = uri-tests (b ∷ s) ∙ rw (eq-eqb b 0 e, unfilled) (and-false (is_some (field_text uri_byte text_width (b ∷ s))))

pub uri-some : (s : List ℕ) → (byte s 0 ≡ 0 → ⊥) → is_some (field_text uri_byte text_width s) ≡ is_some (uri_text s)
unfolding unfilled
uri-some [] n = absurd (n refl)
uri-some (b ∷ s) n =
    let some_left : leb 1 (length (unfilled (b ∷ s))) ≡ true = rw (ne_eqb b 0 n, unfilled) (le-leb 1 (suc (length (unfilled s))) (omega arith)) in
    sym (uri-tests (b ∷ s) ∙ rw some_left (and-true (is_some (field_text uri_byte text_width (b ∷ s)))))
