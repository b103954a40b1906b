-- Laws of a field's text, read from an offset on.
use Prim.Native.Nat.{ℕ, zero, suc, ◌+◌, ◌≤◌, ◌<◌}
use mathlib.Core.Bool.{Bool, true, false, ◌&&◌}
use mathlib.Core.List.{List, [], ◌∷◌}
use mathlib.Core.Option.{some}
use mathlib.Core.Path.{◌≡◌, refl, ap, ◌∙◌}
use native.Mathlib.Numerals.{add-one}
use mathlib.Core.Logic.{◌⊎◌, inl, inr, ⊎_elim}
use native.Mathlib.Omega.{arith}
use lib.Dec.{T, eqb, leb, leb→le, le→leb, eqb→eq}
use lib.ListN.{length, drop, drop_of_length-le}
use lib.Seq.{drop-cons}
use borrow.Author.Tests.{eq-eqb, ne_eqb, eqb-true, eqb-false}
use Rattle.definitions.specs.Lists.{every}
use Rattle.definitions.specs.Bytes.{byte, unfilled, filled, same_bytes}
use Rattle.definitions.specs.Terms.{field_text, between, text_byte, tag_byte, small_letter, hyphen}
use Rattle.laws.proofs.Ranges.{split}
use Rattle.laws.proofs.Options.{some_is, provided-inv}
use Rattle.laws.proofs.Tests.{and_left, and_right, and_make, or_cases}

-- the text from an offset on
abbrev pub rest : List ℕ → ℕ → List ℕ
rest s i = unfilled (drop i s)

-- a field from its first byte on
pub unfilled-end : (b : ℕ) (s : List ℕ) → b ≡ 0 → unfilled (b ∷ s) ≡ []
unfolding unfilled
unfilled-end b s e = rw (eq-eqb b 0 e, unfilled)

pub unfilled-more : (b : ℕ) (s : List ℕ) → (b ≡ 0 → ⊥) → unfilled (b ∷ s) ≡ b ∷ unfilled s
unfolding unfilled
unfilled-more b s n = rw (ne_eqb b 0 n, unfilled)

module _ (s : List ℕ) (i : ℕ) where
  pub rest_out : length s ≤ i → rest s i ≡ []
  unfolding unfilled
  rest_out h = ap unfilled (drop_of_length-le s h)

  pub rest_end : i < length s → byte s i ≡ 0 → rest s i ≡ []
  rest_end h e = ap unfilled (drop-cons s i 0 h) ∙ unfilled-end (byte s i) (drop (suc i) s) e

  pub rest_more : i < length s → (byte s i ≡ 0 → ⊥) → rest s i ≡ byte s i ∷ rest s (i + 1)
  rest_more h n = ap unfilled (drop-cons s i 0 h) ∙ (unfilled-more (byte s i) (drop (suc i) s) n ∙ rw (add-one i))

  -- at the end, or a byte and what follows it
  pub rest-cases : (rest s i ≡ []) ⊎ (rest s i ≡ byte s i ∷ rest s (i + 1))
  rest-cases = ⊎_elim (λ l. inl (rest_out l)) (λ l. go l (eqb (byte s i) 0) refl) (split (length s) i)
    where
      go : i < length s → (t : Bool) → eqb (byte s i) 0 ≡ t → (rest s i ≡ []) ⊎ (rest s i ≡ byte s i ∷ rest s (i + 1))
      go l true e = inl (rest_end l (eqb-true (byte s i) 0 e))
      go l false e = inr (rest_more l (eqb-false (byte s i) 0 e))

  -- a byte that passes, and those after it
  module _ (ok : ℕ → Bool) (h : i < length s) (n : byte s i ≡ 0 → ⊥) (t : T (every ok (rest s i))) where
    passes : T (ok (byte s i) && every ok (rest s (i + 1)))
    passes = rw (rest_more h n) at t

    pub byte-passes : T (ok (byte s i))
    byte-passes = and_left (ok (byte s i)) (every ok (rest s (i + 1))) passes

    pub rest-passes : T (every ok (rest s (i + 1)))
    rest-passes = and_right (ok (byte s i)) (every ok (rest s (i + 1))) passes

-- the first byte of a text
pub first-is : (f : List ℕ) (a : ℕ) (t : List ℕ) → unfilled f ≡ a ∷ t → byte f 0 ≡ a
first-is f a t e = ⊎_elim (λ z. let w : ◌≡◌ {A = ℕ} 0 1 = cc in absurd (omega arith)) (λ m. cc) (rest-cases f 0)

-- the text of a field that holds one
pub field-text : (ok : ℕ → Bool) (width : ℕ) (f : List ℕ) {t : List ℕ} → field_text ok width f ≡ some t → unfilled f ≡ t
unfolding field_text
field-text ok width f e = some_is (provided-inv (every ok (unfilled f) && same_bytes (filled width (unfilled f)) f) (some (unfilled f)) e).1

-- ── a text's length ─────────────────────────────────────────────────────────────────────────

-- a text is no longer than its field
pub text-fits : (s : List ℕ) → length (unfilled s) ≤ length s
unfolding unfilled
text-fits [] = omega arith
text-fits (b ∷ s) = go (eqb b 0) (text-fits s)
  where
    go : (t : Bool) → length (unfilled s) ≤ length s → length {A = ℕ} (elim t as (λ c. List ℕ) [ true ↦ [] | false ↦ b ∷ unfilled s ]) ≤ suc (length s)
    go true h = omega arith
    go false h = omega arith

-- no byte of a text is zero
pub text-byte : (s : List ℕ) (i : ℕ) → i < length (unfilled s) → byte s i ≡ 0 → ⊥
unfolding unfilled
text-byte [] i h e = omega arith
text-byte (b ∷ s) i h e = go (eqb b 0) refl i h e (text-byte s)
  where
    go : (t : Bool) → eqb b 0 ≡ t → (i : ℕ) → i < length {A = ℕ} (elim t as (λ c. List ℕ) [ true ↦ [] | false ↦ b ∷ unfilled s ]) → byte (b ∷ s) i ≡ 0
        → ((i : ℕ) → i < length (unfilled s) → byte s i ≡ 0 → ⊥) → ⊥
    go true z i h e ih = omega arith
    go false z zero h e ih = eqb-false b 0 z e
    go false z (suc i) h e ih = ih i (omega arith) e

-- after it there is no text
pub text-end : (s : List ℕ) → rest s (length (unfilled s)) ≡ []
unfolding unfilled
text-end [] = refl
text-end (b ∷ s) = go (eqb b 0) refl (text-end s)
  where
    go : (t : Bool) → eqb b 0 ≡ t → rest s (length (unfilled s)) ≡ [] → rest (b ∷ s) (length {A = ℕ} (elim t as (λ c. List ℕ) [ true ↦ [] | false ↦ b ∷ unfilled s ])) ≡ []
    go true z ih = unfilled-end b s (eqb-true b 0 z)
    go false z ih = ih

-- a loop that counts a text's bytes
pub counted-end : (s : List ℕ) (i : ℕ) → length (unfilled s) ≡ i + length (rest s i) → rest s i ≡ [] → i ≡ length (unfilled s)
counted-end s i e z = let k : length (rest s i) ≡ 0 = ap length z in omega arith

pub counted-more : (s : List ℕ) (i : ℕ) → length (unfilled s) ≡ i + length (rest s i) → i < length s → (byte s i ≡ 0 → ⊥) → length (unfilled s) ≡ i + 1 + length (rest s (i + 1))
counted-more s i e h n = let k : length (rest s i) ≡ suc (length (rest s (i + 1))) = ap length (rest_more s i h n) in omega arith

-- ── kinds of bytes ──────────────────────────────────────────────────────────────────────────

pub every-wider : (p q : ℕ → Bool) → ((b : ℕ) → T (p b) → T (q b)) → (s : List ℕ) → T (every p s) → T (every q s)
every-wider p q f [] h = tt
every-wider p q f (b ∷ s) h = and_make (q b) (every q s) (f b (and_left (p b) (every p s) h)) (every-wider p q f s (and_right (p b) (every p s) h))

pub between-wider : (low high l h b : ℕ) → l ≤ low → high ≤ h → T (between low high b) → T (between l h b)
between-wider low high l h b lo hi t =
    let x = leb→le low b (and_left (leb low b) (leb b high) t) in
    let y = leb→le b high (and_right (leb low b) (leb b high) t) in
    and_make (leb l b) (leb b h) (le→leb l b (omega arith)) (le→leb b h (omega arith))

-- a tag's bytes are bytes of a text
pub tag-text : (b : ℕ) → T (tag_byte b) → T (text_byte b)
tag-text b h = go (or_cases (small_letter b) (eqb b hyphen) h)
  where
    go : T (small_letter b) ⊎ T (eqb b hyphen) → T (text_byte b)
    go (inl t) = between-wider 0x61 0x7A 0x20 0x7E b (omega arith) (omega arith) t
    go (inr t) = rw (eqb→eq b hyphen t) tt
