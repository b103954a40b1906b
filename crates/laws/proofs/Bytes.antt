-- Laws of bytes: little endian numbers, two's complement, fields filled with zeros; each there and back.
use Prim.Native.Nat.{ℕ, zero, suc, ◌+◌, ◌*◌, ◌-◌, ◌/◌, ◌%◌, ◌^◌, ◌≤◌, ◌<◌}
use mathlib.Core.Bool.{Bool, true, not, ◌&&◌}
use mathlib.Core.List.{List, [], ◌∷◌, ◌++◌}
use mathlib.Core.Option.{some}
use mathlib.Core.Path.{◌≡◌, refl, sym, ap, ap₂, subst, ◌∙◌}
use mathlib.Core.Logic.{⊎_elim}
use native.Mathlib.Omega.{arith}
use native.Mathlib.Nat.{pow-suc, div-lt_iff_lt-mul, mod-add-div}
use lib.Dec.{T, T_not, eqb, leb, leb→le, eqb→eq}
use lib.IntN.{ℤ, pos, negsuc, nat_abs, neg_ℤ}
use lib.Signed.{mag, le_z}
use lib.ListN.{length, take, drop, replicate, length-append, length-replicate, length-take, length-drop, get_or-eq_default}
use lib.Seq.{get_or-drop, get_or-take}
use borrow.Author.Tests.{lt-ltb, le-ltb, ne_eqb}
use Rattle.definitions.specs.Lists.{every}
use Rattle.definitions.specs.Bytes.{same_bytes, byte, part, word, little, little_bytes, signed, unsigned, all_zero, filled, unfilled}
use Rattle.definitions.specs.Terms.{Text, field_text, within_limits}
use Rattle.laws.proofs.Tests.{and_left, and_right, and_make}
use Rattle.laws.proofs.Ranges.{split}
use Rattle.laws.proofs.Options.{some_is, provided-inv, provided-holds}
use Rattle.laws.proofs.Equality.{same_bytes_lem, bytes-refl}

-- ── lists of bytes ──────────────────────────────────────────────────────────────────────────

pub part_length : (s : List ℕ) (at n : ℕ) → at + n ≤ length s → length (part s at n) ≡ n
part_length s at n h = simp (length-take, length-drop) (omega arith)

-- each is below 256 (past the end it is 0)
abbrev pub AreBytes : List ℕ → Type 0
AreBytes s = (i : ℕ) → byte s i < 256

-- a byte, or a 2-byte number, counted from an offset
pub byte-from : (s : List ℕ) (at k : ℕ) → byte s (at + k) ≡ byte (drop at s) k
byte-from s at k = sym (get_or-drop at s k 0)

pub word-from : (s : List ℕ) (at k : ℕ) → word s (at + k) ≡ word (drop at s) k
word-from s at k = let e : at + k + 1 ≡ at + (k + 1) = omega arith in rw (e, byte-from s at k, byte-from s at (k + 1))

pub drop-bytes : (s : List ℕ) (at : ℕ) → AreBytes s → AreBytes (drop at s)
drop-bytes s at h i = rw (← byte-from s at i) (h (at + i))

pub take-bytes : (s : List ℕ) (n : ℕ) → AreBytes s → AreBytes (take n s)
take-bytes s n h i =
    ⊎_elim
    (λ l. rw (get_or-eq_default (take n s) 0 {n = i} (omega (arith, length-take n s))) (omega arith))
    (λ l. rw (get_or-take n s i 0 l) (h i))
    (split n i)

pub part_bytes : (s : List ℕ) (at n : ℕ) → AreBytes s → AreBytes (part s at n)
part_bytes s at n h = take-bytes (drop at s) n (drop-bytes s at h)

-- a byte that is no zero lies within the bytes
pub byte-within : (s : List ℕ) (i : ℕ) → (byte s i ≡ 0 → ⊥) → i < length s
byte-within s i n = ⊎_elim (λ l. absurd (n (get_or-eq_default s 0 {n = i} l))) (λ l. l) (split (length s) i)

-- ── little endian numbers ───────────────────────────────────────────────────────────────────

pub little-length : (width n : ℕ) → length (little_bytes width n) ≡ width
unfolding little_bytes
little-length zero n = refl
little-length (suc width) n = ap suc (little-length width (n / 256))

pub little-bytes : (width n : ℕ) → AreBytes (little_bytes width n)
unfolding little_bytes
little-bytes zero n i = omega arith
little-bytes (suc width) n zero = omega arith
little-bytes (suc width) n (suc i) = little-bytes width (n / 256) i

-- a number that fits, written and read
pub little-of : (width n : ℕ) → n < 256 ^ width → little (little_bytes width n) ≡ n
unfolding little little_bytes
little-of zero n h = omega arith
little-of (suc width) n h =
    let h' : n < 256 ^ width * 256 = rw pow-suc at h in
    let q : n / 256 < 256 ^ width = (div-lt_iff_lt-mul {k = 256} (omega arith)).1 h' in
    ap (λ (m : ℕ). n % 256 + 256 * m) (little-of width (n / 256) q) ∙ mod-add-div n 256

-- bytes, read and written
pub bytes_of : (s : List ℕ) → AreBytes s → little_bytes (length s) (little s) ≡ s
unfolding little little_bytes
bytes_of [] h = refl
bytes_of (b ∷ s) h =
    let l : b < 256 = h 0 in
    let e₀ : (b + 256 * little s) % 256 ≡ b = omega arith in
    let e₁ : (b + 256 * little s) / 256 ≡ little s = omega arith in
    rw (e₀, e₁) (ap (λ t. b ∷ t) (bytes_of s (λ i. h (suc i))))

pub little-small : (s : List ℕ) → AreBytes s → little s < 256 ^ length s
unfolding little
little-small [] h = omega arith
little-small (b ∷ s) h =
    let l : b < 256 = h 0 in
    let r = little-small s (λ i. h (suc i)) in
    rw pow-suc (omega arith)

-- ── two's complement ────────────────────────────────────────────────────────────────────────

pub unsigned_small : (n : ℤ) → mag n < 2 ^ 63 → unsigned n < 2 ^ 64
unfolding unsigned
unsigned_small (pos n) h = omega arith
unsigned_small (negsuc n) h = omega arith

pub signed-unsigned : (n : ℤ) → mag n < 2 ^ 63 → signed (unsigned n) ≡ n
unfolding signed unsigned
signed-unsigned (pos n) h = rw (lt-ltb n (2 ^ 63) h)
signed-unsigned (negsuc n) h = rw (le-ltb (2 ^ 64 - suc n) (2 ^ 63) (omega arith)) (ap negsuc (omega arith))

pub unsigned_signed : (n : ℕ) → n < 2 ^ 64 → unsigned (signed n) ≡ n
unfolding signed unsigned
unsigned_signed n h =
    ⊎_elim
    (λ l. rw (le-ltb n (2 ^ 63) l) (omega arith))
    (λ l. rw (lt-ltb n (2 ^ 63) l))
    (split (2 ^ 63) n)

-- the limits of the kinds lie within 8 bytes
pub within-limits : (low high : ℕ) (n : ℤ) → low < 2 ^ 63 → high < 2 ^ 63 → T (within_limits low high n) → mag n < 2 ^ 63
unfolding within_limits
within-limits low high (pos n) l k h = let u = leb→le n high (and_right (le_z (neg_ℤ (pos low)) (pos n)) (leb n high) h) in omega arith
within-limits zero high (negsuc n) l k h = absurd h
within-limits (suc low) high (negsuc n) l k h = let u = leb→le n low (and_left (leb n low) true h) in omega arith

-- a number within limits that are the same on both sides
pub at_most : (limit : ℕ) (n : ℤ) → T (within_limits limit limit n) → nat_abs n ≤ limit
unfolding within_limits
at_most limit (pos n) h = leb→le n limit (and_right (le_z (neg_ℤ (pos limit)) (pos n)) (leb n limit) h)
at_most zero (negsuc n) h = absurd h
at_most (suc limit) (negsuc n) h = let u = leb→le n limit (and_left (leb n limit) true h) in omega arith

-- ── fields filled with zeros ────────────────────────────────────────────────────────────────

pub all-zero : (n : ℕ) → T (all_zero (replicate n 0))
all-zero zero = tt
all-zero (suc n) = all-zero n

pub zeros : (s : List ℕ) → T (all_zero s) → s ≡ replicate (length s) 0
zeros [] h = refl
zeros (b ∷ s) h = ap₂ ◌∷◌ (sym (eqb→eq 0 b (and_left (eqb 0 b) (all_zero s) h))) (zeros s (and_right (eqb 0 b) (all_zero s) h))

pub filled-length : (width : ℕ) (text : List ℕ) → length text ≤ width → length (filled width text) ≡ width
unfolding filled
filled-length width text h =
    let e = length-append text (replicate (width - length text) 0) in
    let z = length-replicate {A = ℕ} (width - length text) 0 in
    omega arith

text-within : (width : ℕ) (text : List ℕ) → length text ≤ length (filled width text)
unfolding filled
text-within width text = omega (arith, length-append text (replicate (width - length text) 0))

-- no byte of a text is zero
abbrev pub NoZero : (ℕ → Bool) → Type 0
NoZero ok = (b : ℕ) → T (ok b) → b ≡ 0 → ⊥

pub no_zero : (ok : ℕ → Bool) → T (not (ok 0)) → NoZero ok
no_zero ok t b h e = T_not (ok 0) t (subst (λ (k : ℕ). T (ok k)) e h)

unfilled-zeros : (n : ℕ) → unfilled (replicate n 0) ≡ []
unfolding unfilled
unfilled-zeros zero = refl
unfilled-zeros (suc n) = refl

unfilled-text : (ok : ℕ → Bool) → NoZero ok → (text : List ℕ) (n : ℕ) → T (every ok text) → unfilled (text ++ replicate n 0) ≡ text
unfolding unfilled
unfilled-text ok nz [] n h = unfilled-zeros n
unfilled-text ok nz (b ∷ text) n h =
    rw (ne_eqb b 0 (nz b (and_left (ok b) (every ok text) h)), unfilled) (ap (λ t. b ∷ t) (unfilled-text ok nz text n (and_right (ok b) (every ok text) h)))

-- a text, filled and unfilled
pub unfilled-of : (ok : ℕ → Bool) → NoZero ok → (width : ℕ) (text : List ℕ) → T (every ok text) → unfilled (filled width text) ≡ text
unfolding filled
unfilled-of ok nz width text h = unfilled-text ok nz text (width - length text) h

-- a field's text, written and read
pub field_of : (ok : ℕ → Bool) → NoZero ok → (width : ℕ) (text : Text) → T (every ok text) → field_text ok width (filled width text) ≡ some text
unfolding field_text
field_of ok nz width text h =
    rw (unfilled-of ok nz width text h)
    (provided-holds (every ok text && same_bytes (filled width text) (filled width text))
    (and_make (every ok text) (same_bytes (filled width text) (filled width text)) h (bytes-refl (filled width text))) refl)

-- and read and written; it is no longer than its field
pub record FieldOf (ok : ℕ → Bool) (width : ℕ) (field : List ℕ) (text : Text) : Type 0 where
  pub good : T (every ok text)
  pub whole : filled width text ≡ field
  pub fits : length field ≤ width → length text ≤ width

pub field-inv : (ok : ℕ → Bool) (width : ℕ) (field : List ℕ) (text : Text) → field_text ok width field ≡ some text → FieldOf ok width field text
unfolding field_text
field-inv ok width field text e =
    let u = unfilled field in
    let p = provided-inv (every ok u && same_bytes (filled width u) field) (some u) e in
    let w = same_bytes_lem (filled width u) field (and_right (every ok u) (same_bytes (filled width u) field) p.0) in
    subst (FieldOf ok width field) (some_is p.1)
    (record { good = and_left (every ok u) (same_bytes (filled width u) field) p.0; whole = w; fits = λ h. omega (arith, text-within width u, ap length w) })
