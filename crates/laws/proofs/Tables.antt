-- The term table and the quad table: terms and quads, written and read, and tables, read and written.
use Prim.Native.Nat.{ℕ, zero, suc, ◌+◌, ◌*◌, ◌-◌, ◌/◌, ◌%◌, ◌≤◌, ◌<◌}
use mathlib.Core.Bool.{Bool, true, false, ◌&&◌}
use mathlib.Core.List.{List, [], ◌∷◌, ◌++◌, append_assoc}
use mathlib.Core.Option.{Option, some}
use mathlib.Core.Path.{◌≡◌, refl, sym, ap, ap₂, subst, ◌∙◌}
use native.Mathlib.Omega.{arith}
use native.Mathlib.Numerals.{add-one}
use lib.Dec.{T, leb, eqb, leb→le, le→leb}
use lib.ListN.{length, take, drop, replicate, length-append, length-take, length-drop, length-replicate, take-append-drop, drop_of_length-le}
use lib.Seq.{take_at, drop_at, drop-drop, drop-cons}
use Rattle.definitions.specs.Limits.{slot_width, quad_width, term_limit, quad_limit, term_table_width, quad_table_width}
use Rattle.definitions.specs.Bytes.{byte, word, part, little_bytes, all_zero, filled, provided, onward}
use Rattle.definitions.specs.Terms.{Term, datatype, slot_of}
use Rattle.definitions.specs.Evaluate.{Quad}
use Rattle.definitions.specs.Saved.{slots, term_table, slot_term, terms_from, terms_in, quad_bytes, quad_table, quad_at, quads_from, quads_in}
use Rattle.laws.proofs.Tests.{and_left, and_right, and_make, is_true}
use Rattle.laws.proofs.Options.{some_is, onward-inv, provided-holds, provided-inv}
use Rattle.laws.specs.Lists.{All}
use Rattle.laws.proofs.Bytes.{AreBytes, byte-from, word-from, drop-bytes, part_bytes, all-zero, zeros, filled-length}
use Rattle.laws.specs.Valid.{Valid}
use Rattle.laws.proofs.Slots.{kind-not-zero, slot-length, slot-of, slot-inv}
use Rattle.laws.specs.Quads.{place_limit, Small}

-- the first byte from an offset on
first_byte : (s : List ℕ) (at : ℕ) → byte s at ≡ byte (drop at s) 0
first_byte s at = let e : at + 0 ≡ at = omega arith in sym (ap (byte s) e) ∙ byte-from s at 0

-- ── the term table ──────────────────────────────────────────────────────────────────────────

pub slots_length : (ts : List Term) → All Valid ts → length (slots ts) ≡ length ts * slot_width
unfolding slots
slots_length [] v = refl
slots_length (t ∷ ts) v = omega (arith, length-append (slot_of t) (slots ts), slot-length t v.0, slots_length ts v.1)

pub term-table-length : (ts : List Term) → All Valid ts → length ts ≤ term_limit → length (term_table ts) ≡ term_table_width
unfolding term_table
term-table-length ts v l = filled-length term_table_width (slots ts) (omega (arith, slots_length ts v))

-- one more slot
module _ (left : ℕ) (table : List ℕ) (at : ℕ) where
  none_more : T (eqb (byte table at) 0) → T (all_zero (drop at table)) → terms_from (suc left) table at ≡ some []
  unfolding terms_from provided
  none_more f z = rw (is_true (eqb (byte table at) 0) f, is_true (all_zero (drop at table)) z, terms_from)

  one_more : eqb (byte table at) 0 ≡ false → (t : Term) (ts : List Term) → slot_term (part table at slot_width) ≡ some t
      → terms_from left table (at + slot_width) ≡ some ts → terms_from (suc left) table at ≡ some (t ∷ ts)
  unfolding terms_from onward
  one_more f t ts e k = rw (f, e, k, terms_from)

-- terms, written and read: from an offset on there are their slots and zeros
terms-from : (ts : List Term) (left at zeroes : ℕ) (table : List ℕ) → All Valid ts → length ts ≤ left → drop at table ≡ slots ts ++ replicate zeroes 0
    → terms_from left table at ≡ some ts
unfolding slots
terms-from [] zero at zeroes table v l e = unfold terms_from in refl
terms-from [] (suc left) at zeroes table v l e =
    let z : T (all_zero (drop at table)) = rw e (all-zero zeroes) in
    none_more left table at (first-zero zeroes (first_byte table at ∙ ap (λ s. byte s 0) e)) z
  where
    first-zero : (n : ℕ) {b : ℕ} → b ≡ byte (replicate n 0) 0 → T (eqb b 0)
    first-zero zero e = rw e tt
    first-zero (suc n) e = rw e tt
terms-from (t ∷ ts) zero at zeroes table v l e = absurd (omega arith)
terms-from (t ∷ ts) (suc left) at zeroes table v l e =
    let rest = slots ts ++ replicate zeroes 0 in
    let size = slot-length t v.0 in
    let front : drop at table ≡ slot_of t ++ rest = e ∙ append_assoc (slot_of t) (slots ts) (replicate zeroes 0) in
    let slot : part table at slot_width ≡ slot_of t = ap (take slot_width) front ∙ take_at (slot_of t) rest slot_width size in
    let after : drop (at + slot_width) table ≡ rest = sym (drop-drop slot_width at table) ∙ ap (drop slot_width) front ∙ drop_at (slot_of t) rest slot_width size in
    one_more left table at (rw (first_byte table at, front) (first_kind t rest)) t ts (ap slot_term slot ∙ slot-of t v.0)
    (terms-from ts left (at + slot_width) zeroes table v.1 (omega arith) after)
  where
    first_kind : (t : Term) (rest : List ℕ) → eqb (byte (slot_of t ++ rest) 0) 0 ≡ false
    first_kind t rest = unfold slot_of filled in kind-not-zero (datatype t)

pub terms-of : (ts : List Term) → All Valid ts → length ts ≤ term_limit → terms_in (term_table ts) ≡ some ts
unfolding terms_in term_table filled
terms-of ts v l = terms-from ts term_limit 0 (term_table_width - length (slots ts)) (term_table ts) v l refl

-- a table, read and written: from an offset on there are the slots of valid terms and zeros
pub record TermsAt (left : ℕ) (table : List ℕ) (at : ℕ) (ts : List Term) : Type 0 where
  pub valid : All Valid ts
  pub few : length ts ≤ left
  pub zeroes : ℕ
  pub bytes : drop at table ≡ slots ts ++ replicate zeroes 0

module _ (table : List ℕ) (h : AreBytes table) where
  no-slots : (left at : ℕ) → T (all_zero (drop at table)) → TermsAt left table at []
  unfolding slots
  no-slots left at z = record { valid = tt; few = omega arith; zeroes = length (drop at table); bytes = zeros (drop at table) z }

  one-slot : (left at : ℕ) (t : Term) (ts : List Term) → length table ≡ at + suc left * slot_width
      → slot_term (part table at slot_width) ≡ some t → TermsAt left table (at + slot_width) ts → TermsAt (suc left) table at (t ∷ ts)
  unfolding slots
  one-slot left at t ts l e r =
      let slot = part table at slot_width in
      let rest = drop slot_width (drop at table) in
      let zeroes : List ℕ = replicate r.zeroes 0 in
      let size : length slot ≡ slot_width = omega (arith, length-take slot_width (drop at table), length-drop at table) in
      let s = slot-inv slot t size (part_bytes table at slot_width h) e in
      let after : rest ≡ slots ts ++ zeroes = drop-drop slot_width at table ∙ r.bytes in
      let whole : drop at table ≡ slot_of t ++ (slots ts ++ zeroes) = sym (take-append-drop slot_width (drop at table)) ∙ ap₂ ◌++◌ (sym s.0) after in
      record { valid = (s.1, r.valid); few = omega arith; zeroes = r.zeroes; bytes = whole ∙ sym (append_assoc (slot_of t) (slots ts) zeroes) }

  terms-from-inv : (left at : ℕ) (ts : List Term) → length table ≡ at + left * slot_width → terms_from left table at ≡ some ts → TermsAt left table at ts
  unfolding terms_from
  terms-from-inv zero at ts l e =
      subst (TermsAt zero table at) (some_is e) (no-slots zero at (rw (drop_of_length-le table {i = at} (omega arith)) tt))
  terms-from-inv (suc left) at ts l e = go (eqb (byte table at) 0) (λ at ts l e. terms-from-inv left at ts l e) e
    where
      go : (b : Bool) → ((at : ℕ) (ts : List Term) → length table ≡ at + left * slot_width → terms_from left table at ≡ some ts → TermsAt left table at ts)
          → (elim b as (λ c. Option (List Term)) [
            | true ↦ provided (all_zero (drop at table)) (some [])
            | false ↦ onward (slot_term (part table at slot_width)) (λ t. onward (terms_from left table (at + slot_width)) (λ ts. some (t ∷ ts)))
          ]) ≡ some ts → TermsAt (suc left) table at ts
      go true rest e =
          let p = provided-inv (all_zero (drop at table)) (some []) e in
          subst (TermsAt (suc left) table at) (some_is p.1) (no-slots (suc left) at p.0)
      go false rest e =
          let t = onward-inv (slot_term (part table at slot_width)) (λ t. onward (terms_from left table (at + slot_width)) (λ ts. some (t ∷ ts))) e in
          let r = onward-inv (terms_from left table (at + slot_width)) (λ ts. some (t.0 ∷ ts)) t.2 in
          subst (TermsAt (suc left) table at) (some_is r.2) (one-slot left at t.0 r.0 l t.1 (rest (at + slot_width) r.0 (omega arith) r.1))

  module _ (l : length table ≡ term_table_width) (ts : List Term) (e : terms_in table ≡ some ts) where
    terms-at : TermsAt term_limit table 0 ts
    unfolding terms_in
    terms-at = terms-from-inv term_limit 0 ts l e

    pub terms-in-valid : All Valid ts
    terms-in-valid = terms-at.valid

    pub terms-in-table : table ≡ term_table ts
    unfolding term_table filled
    terms-in-table =
        let x = terms-at in
        let total = ap length x.bytes ∙ length-append (slots ts) (replicate x.zeroes 0) in
        let n : x.zeroes ≡ term_table_width - length (slots ts) = omega (arith, total, l, length-replicate {A = ℕ} x.zeroes 0) in
        x.bytes ∙ ap (λ (n : ℕ). slots ts ++ replicate n 0) n

-- ── the quad table ──────────────────────────────────────────────────────────────────────────

pub quads-length : (qs : List Quad) → length (quad_bytes qs) ≡ quad_width * length qs
unfolding quad_bytes little_bytes
quads-length [] = refl
quads-length (q ∷ qs) = omega (arith, quads-length qs)

pub quad-table-length : (qs : List Quad) → length qs ≤ quad_limit → length (quad_table qs) ≡ quad_table_width
unfolding quad_table
quad-table-length qs l = filled-length quad_table_width (quad_bytes qs) (omega (arith, quads-length qs))

-- a quad, counted from an offset
quad-from : (table : List ℕ) (at : ℕ) → quad_at table at ≡ quad_at (drop at table) 0
quad-from table at =
    let e : at + 0 ≡ at = omega arith in
    let g : word table at ≡ word (drop at table) 0 = sym (ap (word table) e) ∙ word-from table at 0 in
    λ i. record { graph = g i; subject = word-from table at 2 i; property = word-from table at 4 i; object = word-from table at 6 i }

-- a 2-byte number, written and read
word_of : (n : ℕ) → n < place_limit → n % 256 + 256 * (n / 256 % 256) ≡ n
word_of n h = omega arith

quad-of : (q : Quad) (qs : List Quad) (rest : List ℕ) → Small q → quad_at (quad_bytes (q ∷ qs) ++ rest) 0 ≡ q
unfolding quad_bytes little_bytes
quad-of q qs rest h =
    λ i. record {
      graph = word_of q.graph h.graph i;
      subject = word_of q.subject h.subject i;
      property = word_of q.property h.property i;
      object = word_of q.object h.object i;
    }

-- the quads after the first
rest_of : (q : Quad) (qs : List Quad) (rest : List ℕ) → drop quad_width (quad_bytes (q ∷ qs) ++ rest) ≡ quad_bytes qs ++ rest
unfolding quad_bytes little_bytes
rest_of q qs rest = refl

-- quads, written and read
quads-from : (qs : List Quad) (at : ℕ) (table rest : List ℕ) → All Small qs → drop at table ≡ quad_bytes qs ++ rest → quads_from (length qs) table at ≡ qs
unfolding quads_from
quads-from [] at table rest h e = refl
quads-from (q ∷ qs) at table rest h e =
    let first : quad_at table at ≡ q = quad-from table at ∙ ap (λ s. quad_at s 0) e ∙ quad-of q qs rest h.0 in
    let after : drop (at + quad_width) table ≡ quad_bytes qs ++ rest = sym (drop-drop quad_width at table) ∙ ap (drop quad_width) e ∙ rest_of q qs rest in
    ap₂ ◌∷◌ first (quads-from qs (at + quad_width) table rest h.1 after)

pub quads-of : (qs : List Quad) → All Small qs → length qs ≤ quad_limit → quads_in (length qs) (quad_table qs) ≡ some qs
unfolding quads_in quad_table filled
quads-of qs h l =
    let n = quad_table_width - length (quad_bytes qs) in
    let end = quad_width * length qs in
    let fits = leb (length qs) quad_limit in
    let after : drop end (quad_table qs) ≡ replicate n 0 = drop_at (quad_bytes qs) (replicate n 0) end (quads-length qs) in
    let z : T (all_zero (drop end (quad_table qs))) = rw after (all-zero n) in
    provided-holds (fits && all_zero (drop end (quad_table qs))) (and_make fits (all_zero (drop end (quad_table qs))) (le→leb (length qs) quad_limit l) z)
    (ap some (quads-from qs 0 (quad_table qs) (replicate n 0) h refl))

-- two bytes, read and written
two_bytes : (s : List ℕ) → AreBytes s → (k : ℕ) → suc k < length s → drop k s ≡ little_bytes 2 (word s k) ++ drop (suc (suc k)) s
unfolding little_bytes
two_bytes s h k l =
    let b₀ = h k in
    let b₁ = h (k + 1) in
    let e₀ : word s k % 256 ≡ byte s k = omega arith in
    let q : word s k / 256 ≡ byte s (k + 1) = omega arith in
    let e₁ : word s k / 256 % 256 ≡ byte s (suc k) = rw (← add-one k, q) (omega arith) in
    rw (e₀, e₁) (drop-cons s k 0 (omega arith) ∙ ap (λ t. byte s k ∷ t) (drop-cons s (suc k) 0 l))

-- a quad's eight bytes, in front of others
eight-bytes : (s : List ℕ) → AreBytes s → quad_width ≤ length s → (qs : List Quad) (rest : List ℕ) → drop quad_width s ≡ quad_bytes qs ++ rest
    → s ≡ quad_bytes (quad_at s 0 ∷ qs) ++ rest
unfolding quad_bytes little_bytes
eight-bytes s h l qs rest e =
    let front : ℕ → List ℕ → List ℕ = λ k t. little_bytes 2 (word s k) ++ t in
    two_bytes s h 0 (omega arith)
    ∙ (ap (front 0) (two_bytes s h 2 (omega arith))
    ∙ (ap (λ t. front 0 (front 2 t)) (two_bytes s h 4 (omega arith))
    ∙ (ap (λ t. front 0 (front 2 (front 4 t))) (two_bytes s h 6 (omega arith))
    ∙ ap (λ t. front 0 (front 2 (front 4 (front 6 t)))) e)))

word_small : (s : List ℕ) → AreBytes s → (k : ℕ) → word s k < place_limit
word_small s h k = let b₀ = h k in let b₁ = h (k + 1) in omega arith

pub quad-small : (s : List ℕ) → AreBytes s → (at : ℕ) → Small (quad_at s at)
quad-small s h at =
    record {
      graph = word_small s h at;
      subject = word_small s h (at + 2);
      property = word_small s h (at + 4);
      object = word_small s h (at + 6);
    }

-- a table, read and written: from an offset on there are the quads and what comes after them
pub record QuadsAt (count : ℕ) (table : List ℕ) (at : ℕ) (qs : List Quad) : Type 0 where
  pub small : All Small qs
  pub count-is : length qs ≡ count
  pub bytes : drop at table ≡ quad_bytes qs ++ drop (at + quad_width * count) table

module _ (table : List ℕ) (h : AreBytes table) where
  quads-from-inv : (count at : ℕ) → at + quad_width * count ≤ length table → QuadsAt count table at (quads_from count table at)
  unfolding quads_from quad_bytes
  quads-from-inv zero at l =
      let end : at ≡ at + quad_width * 0 = omega arith in
      record { small = tt; count-is = refl; bytes = ap (λ (n : ℕ). drop n table) end }
  quads-from-inv (suc count) at l =
      let r = quads-from-inv count (at + quad_width) (omega arith) in
      let qs = quads_from count table (at + quad_width) in
      let s = drop at table in
      let end : at + quad_width + quad_width * count ≡ at + quad_width * suc count = omega arith in
      let rest : drop quad_width s ≡ quad_bytes qs ++ drop (at + quad_width * suc count) table = drop-drop quad_width at table ∙ rw end at r.bytes in
      let whole = eight-bytes s (drop-bytes table at h) (omega (arith, length-drop at table)) qs (drop (at + quad_width * suc count) table) rest in
      record {
        small = (quad-small table h at, r.small);
        count-is = ap suc r.count-is;
        bytes = whole ∙ ap (λ q. quad_bytes (q ∷ qs) ++ drop (at + quad_width * suc count) table) (sym (quad-from table at));
      }

  module _ (l : length table ≡ quad_table_width) (count : ℕ) (qs : List Quad) (e : quads_in count table ≡ some qs) where
    tests : (T (leb count quad_limit) × T (all_zero (drop (quad_width * count) table))) × (quads_from count table 0 ≡ qs)
    unfolding quads_in
    tests =
        let fits = leb count quad_limit in
        let z = all_zero (drop (quad_width * count) table) in
        let p = provided-inv (fits && z) (some (quads_from count table 0)) e in
        ((and_left fits z p.0, and_right fits z p.0), some_is p.1)

    pub quads-in-few : count ≤ quad_limit
    quads-in-few = leb→le count quad_limit tests.0.0

    quads-at : QuadsAt count table 0 qs
    quads-at = subst (QuadsAt count table 0) tests.1 (quads-from-inv count 0 (omega (arith, quads-in-few)))

    pub quads-in-count : length qs ≡ count
    quads-in-count = quads-at.count-is

    pub quads-in-table : table ≡ quad_table qs
    unfolding quad_table filled
    quads-in-table =
        let rest = drop (0 + quad_width * count) table in
        let at : quad_width * count ≡ 0 + quad_width * count = omega arith in
        let z : T (all_zero rest) = subst (λ (n : ℕ). T (all_zero (drop n table))) at tests.0.1 in
        let n : length rest ≡ quad_table_width - length (quad_bytes qs) =
        omega (arith, length-drop (0 + quad_width * count) table, quads-length qs, quads-in-count) in
        quads-at.bytes ∙ ap (λ s. quad_bytes qs ++ s) (zeros rest z ∙ ap (λ (n : ℕ). replicate n 0) n)
