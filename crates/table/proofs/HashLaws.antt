-- Laws of hashes: the loop that makes one, a hash among others, hashes made one after the other, and the hashes of a table.
use Prim.Native.Nat.{ℕ, zero, suc, ◌+◌, ◌-◌, ◌*◌, ◌%◌, ◌≤◌, ◌<◌}
use native.Mathlib.Numerals.{add-one}
use native.Mathlib.Omega.{arith}
use native.Mathlib.Nat.{mul-le-mul}
use mathlib.Core.Bool.{Bool, ◌||◌, or_assoc, or-false}
use mathlib.Core.List.{List, ◌++◌}
use mathlib.Core.Path.{◌≡◌, refl, sym, ap, ◌∙◌}
use lib.Dec.{eqb}
use lib.ListN.{length, get_or, set, take, drop, length-drop, take-append-drop, drop_of_length-le}
use lib.Seq.{drop-cons, drop-append-le, take-append-le, take_at, drop_at, length-take-le, get_or-set_same, get_or-set_other}
use borrow.Author.Count.{below_more}
use Rattle.definitions.specs.Limits.{slot_width, term_limit, term_table_width}
use Rattle.definitions.specs.Lists.{some?}
use Rattle.definitions.specs.Bytes.{byte, word, part}
use Rattle.table.specs.Hashes.{slot_words, hash_sum, hash_of, slot_at, HashesOf, Hashed}
use Rattle.table.specs.Table.{slot_set}
use Rattle.fields.proofs.PartLaws.{some-part}
use Rattle.laws.proofs.TestEquations.{eqb_swap}

-- ── a hash ──────────────────────────────────────────────────────────────────────────────────

-- the sum of the words before an offset, and how many are left
pub record Hashing (s : List ℕ) (at sum : ℕ) : Type 0 where
  pub left : ℕ
  pub place : at + 2 * left ≡ 2 * slot_words
  pub whole : sum + hash_sum left at s ≡ hash_sum slot_words 0 s
  pub low : sum ≤ 65535 * (2 * slot_words) * at

pub hash-start : (s : List ℕ) → Hashing s 0 0
hash-start s = record { left = slot_words; place = refl; whole = omega arith; low = omega arith }

-- a word as often as that
pub times-low : (w at : ℕ) → w < 65536 → at < 2 * slot_words → w * (at + 1) ≤ 65535 * (2 * slot_words)
times-low w at h k = mul-le-mul {n₁ = w} {m₁ = at + 1} {n₂ = 65535} {m₂ = 2 * slot_words} (omega arith) (omega arith)

module _ (s : List ℕ) (at sum : ℕ) (i : Hashing s at sum) where
  pub hash-next : at < 2 * slot_words → (w : ℕ) → w < 65536 → w ≡ word s at → Hashing s (at + 2) (sum + w * (at + 1))
  hash-next h w l e = go i.left i.place i.whole
    where
      go : (k : ℕ) → at + 2 * k ≡ 2 * slot_words → sum + hash_sum k at s ≡ hash_sum slot_words 0 s → Hashing s (at + 2) (sum + w * (at + 1))
      go zero p q = absurd (omega arith)
      go (suc k) p q =
          let here : hash_sum (suc k) at s ≡ w * (at + 1) + hash_sum k (at + 2) s = unfold hash_sum in λ t. sym e t * (at + 1) + hash_sum k (at + 2) s in
          record { left = k; place = omega arith; whole = omega (arith, here, q); low = omega (arith, times-low w at l h, i.low) }

  pub hash-end : 2 * slot_words ≤ at → {x : ℕ} → x ≡ byte s (2 * slot_words) → (sum + x * slot_width) % 65521 ≡ hash_of s
  unfolding hash_of
  hash-end h {x} e = go i.left i.place i.whole
    where
      go : (k : ℕ) → at + 2 * k ≡ 2 * slot_words → sum + hash_sum k at s ≡ hash_sum slot_words 0 s → (sum + x * slot_width) % 65521 ≡ hash_of s
      go zero p q =
          let none : hash_sum zero at s ≡ 0 = unfold hash_sum in refl in
          let all : sum ≡ hash_sum slot_words 0 s = omega (arith, none, q) in
          λ t. (all t + e t * slot_width) % 65521
      go (suc k) p q = absurd (omega arith)

-- ── a hash among others ─────────────────────────────────────────────────────────────────────

module _ (hashes : List ℕ) (m i : ℕ) (seen : Bool) (far : some? (eqb m) hashes ≡ (seen || some? (eqb m) (drop i hashes))) where
  pub seen_next : i < length hashes → some? (eqb m) hashes ≡ (seen || eqb (get_or hashes i 0) m || some? (eqb m) (drop (i + 1) hashes))
  seen_next h =
      far ∙ ap (λ b. seen || b) (rw (drop-cons hashes i 0 h, add-one i, eqb_swap (get_or hashes i 0) m))
      ∙ sym (or_assoc seen (eqb (get_or hashes i 0) m) (some? (eqb m) (drop (i + 1) hashes)))

  pub seen_end : length hashes ≤ i → seen ≡ some? (eqb m) hashes
  seen_end h = sym (far ∙ rw (drop_of_length-le hashes {i = i} h) (or-false seen))

-- ── hashes made one after the other ─────────────────────────────────────────────────────────

module _ (hash : ℕ → ℕ) (hashes : List ℕ) where
  pub none-hashed : HashesOf hash 0 hashes
  none-hashed i h = absurd (omega arith)

  pub one-hashed : (i x : ℕ) → i < length hashes → HashesOf hash i hashes → x ≡ hash i → HashesOf hash (i + 1) (set hashes i x)
  one-hashed i x h w e =
      below_more (λ j. get_or (set hashes i x) j 0 ≡ hash j) i (λ j l. get_or-set_other hashes i j x 0 (λ q. omega arith) ∙ w j l) (get_or-set_same hashes i x 0 h ∙ e)

  pub all-hashed : (n i : ℕ) → n ≤ i → HashesOf hash i hashes → HashesOf hash n hashes
  all-hashed n i h w j l = w j (omega arith)

-- ── the hashes of a table ───────────────────────────────────────────────────────────────────

-- the next slot, as the code hands it on
pub one-slot : (table hashes : List ℕ) (i x : ℕ) → i < length hashes → Hashed table i hashes
    → x ≡ hash_of (part table (i * slot_width) (i * slot_width + slot_width - i * slot_width)) → Hashed table (i + 1) (set hashes i x)
one-slot table hashes i x h w e = one-hashed (λ j. hash_of (slot_at table j)) hashes i x h w (e ∙ ap hash_of (some-part table (i * slot_width) slot_width))

-- a part does not see what comes after it
pub part-front : (xs ys : List ℕ) (at n : ℕ) → at + n ≤ length xs → part (xs ++ ys) at n ≡ part xs at n
part-front xs ys at n h =
    ap (take n) (drop-append-le at xs ys (omega arith)) ∙ take-append-le n (drop at xs) ys (omega (arith, length-drop at xs))

module _ (table slot : List ℕ) (n : ℕ) (l : n < term_limit) (h : length table ≡ term_table_width) where
  front : List ℕ
  front = take (n * slot_width) table

  front_length : length front ≡ n * slot_width
  unfolding front
  front_length = length-take-le (n * slot_width) table (omega arith)

  put-before : (j : ℕ) → j < n → slot_at (slot_set table n slot) j ≡ slot_at table j
  unfolding slot_set front
  put-before j k =
      let fits : j * slot_width + slot_width ≤ length front = omega (arith, front_length) in
      part-front front (slot ++ drop slot_width (drop (n * slot_width) table)) (j * slot_width) slot_width fits
      ∙ sym (part-front front (drop (n * slot_width) table) (j * slot_width) slot_width fits)
      ∙ ap (λ s. part s (j * slot_width) slot_width) (take-append-drop (n * slot_width) table)

  put-here : length slot ≡ slot_width → slot_at (slot_set table n slot) n ≡ slot
  unfolding slot_set front
  put-here k =
      let rest : List ℕ = drop slot_width (drop (n * slot_width) table) in
      ap (take slot_width) (drop_at front (slot ++ rest) (n * slot_width) front_length) ∙ take_at slot rest slot_width k

  -- a slot is written, and its hash
  pub put-hashed : length slot ≡ slot_width → (hashes : List ℕ) → length hashes ≡ term_limit → Hashed table n hashes
      → {after : List ℕ} → after ≡ slot_set table n slot → {x : ℕ} → x ≡ hash_of slot → Hashed after (n + 1) (set hashes n x)
  put-hashed k hashes m w {after} e {x} q =
      rw e
      (one-hashed (λ j. hash_of (slot_at (slot_set table n slot) j)) hashes n x (omega arith) (λ j t. w j t ∙ ap hash_of (sym (put-before j t))) (q ∙ ap hash_of (sym (put-here k))))
