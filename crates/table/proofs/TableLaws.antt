-- Laws of the term table: its slots, the number of a term, slots that are all different, a slot written.
use Rattle.std.specs.Prelude.{Some, None}
use Rattle.std.specs.Bool.{then_some}
use Rattle.std.specs.declared.option.Option as Answer
use Prim.Native.Nat.{ℕ, zero, suc, ◌+◌, ◌-◌, ◌*◌, ◌<◌, ◌≤◌}
use mathlib.Core.Bool.{Bool, true, false, true≢false, not, ◌&&◌, ◌||◌, and-false}
use mathlib.Core.List.{List, [], ◌∷◌, ◌++◌}
use mathlib.Core.Option.{Option, none, some}
use mathlib.Core.Path.{◌≡◌, refl, sym, ap, ap₂, ◌∙◌}
use native.Mathlib.Numerals.{add-one}
use native.Mathlib.Omega.{arith}
use lib.Dec.{ltb, leb-suc-suc}
use lib.ListN.{length, get_or, take, drop, replicate, get_elem?, length-take, length-drop, drop_of_length-le, take-append-drop}
use lib.Seq.{get_or-take, get_or-drop}
use borrow.Author.Tests.{eq-eqb, ne_eqb, lt-ltb, le-ltb, not-true, not-false}
use borrow.Rule.Slice.PartMut.{put_mid}
use Rattle.definitions.specs.Limits.{slot_width, term_limit, term_table_width}
use Rattle.definitions.specs.Lists.{some?, distinct}
use Rattle.definitions.specs.Bytes.{byte, part, all_zero, filled, provided, onward}
use Rattle.definitions.specs.Terms.{Term, slot_of, read_term, same_term}
use Rattle.definitions.specs.Machine.{numbered}
use Rattle.definitions.specs.Saved.{slot_term, terms_from, terms_in}
use Rattle.laws.proofs.Options.{some_is}
use Rattle.laws.proofs.Bytes.{AreBytes, part_bytes, part_length}
use Rattle.laws.proofs.Equality.{same-term, term-refl}
use Rattle.laws.proofs.Slots.{slot-inv}
use Rattle.laws.proofs.SlotAt.{terms-few, slot_at}
use Rattle.laws.proofs.RecordsAt.{term-forward}
use Rattle.laws.specs.ReadAnswers.{is_some, next_of}
use Rattle.fields.specs.Answers.{count_of, distinct_in}
use Rattle.table.specs.Table.{HoldsTerms, Begun, GoodSlot, number_from, number_in, slot_set}
use Rattle.laws.proofs.ReadAnswers.{is_none, is-some, provided-is, next-lost, next-got}
use Rattle.fields.proofs.PartLaws.{rest_part, some-part, drop-replicate}
use Rattle.table.proofs.CountLaws.{count_from, count-zero, counted-some, none_of}
use Rattle.table.proofs.HashLaws.{part-front}
use Rattle.fields.proofs.SameLaws.{Compared, test-is}

-- ── a slot ──────────────────────────────────────────────────────────────────────────────────

module _ (slot : List ℕ) {r : Answer.Option ℕ} (e : r ≡ next_of (read_term slot 0)) where
  pub slot-bad : r ≡ None → false ≡ is_some (slot_term slot)
  unfolding slot_term onward
  slot-bad m = rw (next-lost (read_term slot 0) (sym e ∙ m))

  module _ {n : ℕ} (m : r ≡ Some n) where
    read : (t : Term) × (read_term slot 0 ≡ some (t, n))
    read = next-got (read_term slot 0) (sym e ∙ m)

    pub slot-fits : n ≤ length slot
    slot-fits = (term-forward slot 0 read.0 n read.1).1

    pub slot_is : {z : Bool} → z ≡ all_zero (part slot n (length slot - n)) → z ≡ is_some (slot_term slot)
    unfolding slot_term onward
    slot_is q = q ∙ ap all_zero (rest_part slot n) ∙ sym (rw read.1 (provided-is (all_zero (drop n slot)) read.0))

-- two slots
pub same-slot-terms : (a b : List ℕ) (x y : Term) {r : Bool} → AreBytes a → AreBytes b → length a ≡ slot_width → length b ≡ slot_width
    → slot_term a ≡ some x → slot_term b ≡ some y → Compared a b r → r ≡ same_term x y
same-slot-terms a b x y {r} ha hb la lb e f c =
    test-is r (same_term x y) (λ t. rw (some_is (sym e ∙ ap slot_term (c.0 t) ∙ f)) (term-refl y))
    (λ t. c.1 (sym (slot-inv a x la ha e).0 ∙ ap slot_of (same-term x y t) ∙ (slot-inv b y lb hb f).0))

-- ── how many terms ──────────────────────────────────────────────────────────────────────────

module _ (table : List ℕ) (n at : ℕ) where
  pub from_end : term_limit ≤ n → count_from {A = Term} n (terms_from (term_limit - n) table at) ≡ Some n
  unfolding terms_from count_from
  from_end h = let z : term_limit - n ≡ 0 = omega arith in rw z (ap Some (omega arith))

  module _ (h : n < term_limit) where
    one_left : term_limit - n ≡ suc (term_limit - (n + 1))
    one_left = omega arith

    module _ (e : byte table at ≡ 0) {z : Bool} (f : z ≡ all_zero (part table at (length table - at))) where
      zero_test : all_zero (drop at table) ≡ z
      zero_test = sym (f ∙ ap all_zero (rest_part table at))

      from-zeros : z ≡ true → count_from {A = Term} n (terms_from (term_limit - n) table at) ≡ Some n
      unfolding terms_from provided count_from
      from-zeros q = rw (one_left, eq-eqb (byte table at) 0 e, terms_from, zero_test ∙ q) (ap Some (omega arith))

      from-rubbish : z ≡ false → count_from {A = Term} n (terms_from (term_limit - n) table at) ≡ None
      unfolding terms_from provided count_from
      from-rubbish q = rw (one_left, eq-eqb (byte table at) 0 e, terms_from, zero_test ∙ q)

      pub from-zero : count_from {A = Term} n (terms_from (term_limit - n) table at) ≡ then_some z n
      from-zero = go z refl
        where
          go : (t : Bool) → z ≡ t → count_from {A = Term} n (terms_from (term_limit - n) table at) ≡ then_some t n
          go true q = from-zeros q
          go false q = from-rubbish q

    module _ (k : byte table at ≡ 0 → ⊥) {r : Bool} (f : r ≡ is_some (slot_term (part table at (at + slot_width - at)))) where
      slot-test : is_some (slot_term (part table at slot_width)) ≡ r
      slot-test = sym (rw (some-part table at slot_width) at f)

      pub from-bad : not r ≡ true → count_from {A = Term} n (terms_from (term_limit - n) table at) ≡ None
      unfolding terms_from onward count_from
      from-bad q = rw (one_left, ne_eqb (byte table at) 0 k, terms_from, is_none (slot_term (part table at slot_width)) (slot-test ∙ not-true r q))

      pub from_next : not r ≡ false → count_from {A = Term} n (terms_from (term_limit - n) table at) ≡ count_from (n + 1) (terms_from (term_limit - (n + 1)) table (at + slot_width))
      unfolding terms_from onward count_from
      from_next q =
          let t = is-some (slot_term (part table at slot_width)) (slot-test ∙ not-false r q) in
          rw (one_left, ne_eqb (byte table at) 0 k, terms_from, t.1) (go t.0 (terms_from (term_limit - (n + 1)) table (at + slot_width)))
        where
          go : (t : Term) (o : Option (List Term)) → count_from n (onward o (λ ts. some (t ∷ ts))) ≡ count_from (n + 1) o
          go t none = refl
          go t (some ts) = ap Some (omega arith)

-- a slot that begins with zero holds none
none_at_zero : (slot : List ℕ) → byte slot 0 ≡ 0 → is_some (slot_term slot) ≡ false
unfolding slot_term read_term onward
none_at_zero slot e = rw e refl

module _ (table : List ℕ) where
  -- those of the first slots, and those after
  pub begun-count : (n : ℕ) → Begun table n → count_of (terms_in table) ≡ count_from n (terms_from (term_limit - n) table (n * slot_width))
  unfolding terms_in
  begun-count zero h = count-zero (terms_in table)
  begun-count (suc n) h =
      let at = n * slot_width in
      let good : true ≡ is_some (slot_term (part table at (at + slot_width - at))) = rw (some-part table at slot_width) (sym (h.each n (omega arith))) in
      let there : byte table at ≡ 0 → ⊥ = λ z. true≢false (sym (h.each n (omega arith)) ∙ none_at_zero (part table at slot_width) (front table at ∙ z)) in
      let next : count_from n (terms_from (term_limit - n) table at) ≡ count_from (n + 1) (terms_from (term_limit - (n + 1)) table (at + slot_width))
      = from_next table n at (omega (arith, h.few)) there {r = true} good refl in
      let more : at + slot_width ≡ suc n * slot_width = omega arith in
      begun-count n (record { width = h.width; few = omega (arith, h.few); each = λ i l. h.each i (omega arith) }) ∙ next
      ∙ ap₂ (λ (m k : ℕ). count_from m (terms_from (term_limit - m) table k)) (add-one n) more
    where
      front : (s : List ℕ) (at : ℕ) → byte (part s at slot_width) 0 ≡ byte s at
      front s at = get_or-take slot_width (drop at s) 0 0 (omega arith) ∙ get_or-drop at s 0 0 ∙ ap (λ (k : ℕ). get_or s k 0) (omega arith)

-- ── the number of a term ────────────────────────────────────────────────────────────────────

counted-length : {A : Type 0} (xs : List A) {n : ℕ} → count_of (some xs) ≡ Some n → length xs ≡ n
unfolding count_of
counted-length xs e = cc

-- the elements from one within a list on
from_one : {A : Type 0} (xs : List A) (i : ℕ) → i < length xs → (x : A) × (get_elem? xs i ≡ some x) × (drop i xs ≡ x ∷ drop (suc i) xs)
from_one [] i h = absurd (omega arith)
from_one (x ∷ xs) zero h = (x, refl, refl)
from_one (x ∷ xs) (suc i) h = let r = from_one xs i (omega arith) in (r.0, r.1, r.2)

module _ (table : List ℕ) (n : ℕ) (h : HoldsTerms table n) where
  pub terms : (ts : List Term) × (terms_in table ≡ some ts)
  terms = is-some (terms_in table) (counted-some (terms_in table) h.count)

  pub terms-length : length terms.0 ≡ n
  terms-length = counted-length terms.0 (sym (ap count_of terms.1) ∙ h.count)

  pub holds-few : n ≤ term_limit
  holds-few = omega (arith, terms-length, terms-few table terms.0 terms.1)

  module _ (i : ℕ) (l : i < n) where
    pub slot-there : (t : Term) × (slot_term (part table (i * slot_width) slot_width) ≡ some t) × (drop i terms.0 ≡ t ∷ drop (i + 1) terms.0)
    slot-there =
        let r = from_one terms.0 i (omega (arith, terms-length)) in
        (r.0, slot_at table terms.0 terms.1 i r.0 r.1, r.2 ∙ ap (λ (k : ℕ). r.0 ∷ drop k terms.0) (sym (add-one i)))

    pub slot-width : length (part table (i * slot_width) slot_width) ≡ slot_width
    slot-width = part_length table (i * slot_width) slot_width (omega (arith, h.width, holds-few))

    pub slot-holds : GoodSlot (part table (i * slot_width) slot_width)
    slot-holds = record { width = slot-width; good = rw slot-there.1 }

    -- as the code hands it on
    pub slot-good : GoodSlot (part table (i * slot_width) (i * slot_width + slot_width - i * slot_width))
    slot-good = rw (some-part table (i * slot_width) slot_width) slot-holds

-- a table that begins with the slots of another holds terms there
module _ (other table : List ℕ) (n : ℕ) (h : HoldsTerms other n) (w : length table ≡ term_table_width) where
  front_of : (s : List ℕ) → length s ≡ term_table_width → (i : ℕ) → i < n
      → part s (i * slot_width) slot_width ≡ part (take (n * slot_width) s) (i * slot_width) slot_width
  front_of s l i k =
      let m = n * slot_width in
      sym (ap (λ (b : List ℕ). part b (i * slot_width) slot_width) (take-append-drop m s))
      ∙ part-front (take m s) (drop m s) (i * slot_width) slot_width (omega (arith, length-take m s, holds-few other n h))

  pub begun-as : take (n * slot_width) other ≡ take (n * slot_width) table → Begun table n
  begun-as e =
      record {
        width = w;
        few = holds-few other n h;
        each = λ i l. ap (λ (b : List ℕ). is_some (slot_term b))
            (front_of table w i l ∙ ap (λ (b : List ℕ). part b (i * slot_width) slot_width) (sym e) ∙ sym (front_of other h.width i l))
            ∙ ap is_some (slot-there other n h i l).1;
      }

number-first : (t x : Term) (xs : List Term) → same_term t x ≡ true → (numbered t (x ∷ xs)).number ≡ 0
unfolding numbered
number-first t x xs e = rw (e, numbered)

number-later : (t x : Term) (xs : List Term) → same_term t x ≡ false → (numbered t (x ∷ xs)).number ≡ suc (numbered t xs).number
unfolding numbered
number-later t x xs e = rw (e, numbered)

-- a number below the number of terms is one of a term that is there
number-some : (t : Term) (xs : List Term) → some? (same_term t) xs ≡ ltb (numbered t xs).number (length xs)
unfolding numbered
number-some t [] = refl
number-some t (x ∷ xs) = go (same_term t x) refl (number-some t xs)
  where
    go : (b : Bool) → same_term t x ≡ b → some? (same_term t) xs ≡ ltb (numbered t xs).number (length xs)
        → (b || some? (same_term t) xs) ≡ ltb (numbered t (x ∷ xs)).number (suc (length xs))
    go true e rest = sym (lt-ltb (numbered t (x ∷ xs)).number (suc (length xs)) (omega (arith, number-first t x xs e)))
    go false e rest = rest ∙ sym (rw (number-later t x xs e) (leb-suc-suc (suc (numbered t xs).number) (length xs)))

module _ (table slot : List ℕ) (n : ℕ) (h : HoldsTerms table n) (g : GoodSlot slot) where
  slot-term : (t : Term) × (slot_term slot ≡ some t)
  slot-term = is-some (slot_term slot) g.good

  ts : List Term
  ts = (terms table n h).0

  number_is : (i : ℕ) → number_from i (slot_term slot) (terms_in table) ≡ i + (numbered slot-term.0 (drop i ts)).number
  unfolding number_from ts
  number_is i = ap₂ (number_from i) slot-term.1 (terms table n h).1

  pub number-end : (i : ℕ) → i ≤ n → n ≤ i → n ≡ number_from i (slot_term slot) (terms_in table)
  unfolding numbered ts
  number-end i l k =
      let e : drop i ts ≡ [] = drop_of_length-le ts {i = i} (omega (arith, terms-length table n h)) in
      sym (number_is i ∙ rw e (omega arith))

  pub number-start : number_from 0 (slot_term slot) (terms_in table) ≡ number_in (slot_term slot) (terms_in table)
  unfolding number_in ts
  number-start = number_is 0 ∙ omega (arith, sym (ap₂ number_in slot-term.1 (terms table n h).1))

  module _ (a : AreBytes table) (b : AreBytes slot) (i : ℕ) (l : i < n) {r : Bool}
      (c : Compared slot (part table (i * slot_width) (i * slot_width + slot_width - i * slot_width)) r) where
    same : r ≡ same_term slot-term.0 (slot-there table n h i l).0
    same =
        let d : Compared slot (part table (i * slot_width) slot_width) r = rw (some-part table (i * slot_width) slot_width) at c in
        same-slot-terms slot (part table (i * slot_width) slot_width) slot-term.0 (slot-there table n h i l).0 b (part_bytes table (i * slot_width) slot_width a)
        g.width (slot-width table n h i l) slot-term.1 (slot-there table n h i l).1 d

    pub number-here : r ≡ true → i ≡ number_from i (slot_term slot) (terms_in table)
    unfolding ts
    number-here q =
        let e = number-first slot-term.0 (slot-there table n h i l).0 (drop (i + 1) ts) (sym same ∙ q) in
        sym (number_is i ∙ rw (slot-there table n h i l).2 (omega (arith, e)))

    pub number-next : r ≡ false → number_from i (slot_term slot) (terms_in table) ≡ number_from (i + 1) (slot_term slot) (terms_in table)
    unfolding ts
    number-next q =
        let e = number-later slot-term.0 (slot-there table n h i l).0 (drop (i + 1) ts) (sym same ∙ q) in
        number_is i ∙ rw (slot-there table n h i l).2 (omega (arith, e)) ∙ sym (number_is (i + 1))

-- ── slots that are all different ────────────────────────────────────────────────────────────

-- those from a number on
unfoldable pub distinct_from : ℕ → Option (List Term) → Bool
distinct_from i none = false
distinct_from i (some ts) = distinct same_term (drop i ts)

pub distinct-zero : (o : Option (List Term)) → distinct_in same_term o ≡ distinct_from 0 o
unfolding distinct_in distinct_from
distinct-zero none = refl
distinct-zero (some ts) = refl

module _ (table : List ℕ) (n : ℕ) (h : HoldsTerms table n) (i : ℕ) where
  pub slots_end : n ≤ i → distinct_from i (terms_in table) ≡ true
  unfolding distinct_from
  slots_end l =
      ap (distinct_from i) (terms table n h).1
      ∙ ap (distinct same_term) (drop_of_length-le (terms table n h).0 {i = i} (omega (arith, terms-length table n h)))

  module _ (l : i < n) {f : ℕ} (e : f ≡ number_from (i + 1) (slot_term (part table (i * slot_width) slot_width)) (terms_in table)) where
    t : Term
    t = (slot-there table n h i l).0

    rest : List Term
    rest = drop (i + 1) (terms table n h).0

    found : f ≡ i + 1 + (numbered t rest).number
    unfolding number_from t rest
    found = e ∙ ap₂ (number_from (i + 1)) (slot-there table n h i l).1 (terms table n h).1

    rest-length : length rest ≡ n - (i + 1)
    unfolding rest
    rest-length = omega (arith, length-drop (i + 1) (terms table n h).0, terms-length table n h)

    from-here : distinct_from i (terms_in table) ≡ (not (ltb (numbered t rest).number (length rest)) && distinct_from (i + 1) (terms_in table))
    unfolding distinct_from t rest
    from-here =
        ap (distinct_from i) (terms table n h).1
        ∙ rw ((slot-there table n h i l).2, none_of (same_term t) rest, number-some t rest)
        (ap (λ b. not (ltb (numbered t rest).number (length rest)) && b) (sym (ap (distinct_from (i + 1)) (terms table n h).1)))

    pub slots-again : f < n → distinct_from i (terms_in table) ≡ false
    slots-again k = from-here ∙ rw (lt-ltb (numbered t rest).number (length rest) (omega (arith, found, rest-length)))

    slots-later : distinct_from (i + 1) (terms_in table) ≡ false → distinct_from i (terms_in table) ≡ false
    slots-later k = from-here ∙ rw k (and-false (not (ltb (numbered t rest).number (length rest))))

    pub slots_next : n ≤ f → distinct_from i (terms_in table) ≡ distinct_from (i + 1) (terms_in table)
    slots_next k = from-here ∙ rw (le-ltb (numbered t rest).number (length rest) (omega (arith, found, rest-length)))

-- two that are the same among those from a number on are two among all
pub slots_twice : (table : List ℕ) (n : ℕ) (h : HoldsTerms table n) (i : ℕ) → i ≤ n → distinct_from i (terms_in table) ≡ false → distinct_in same_term (terms_in table) ≡ false
slots_twice table n h zero l e = distinct-zero (terms_in table) ∙ e
slots_twice table n h (suc i) l e =
    slots_twice table n h i (omega arith) (slots-later table n h i (omega arith) refl (ap (λ (k : ℕ). distinct_from k (terms_in table)) (add-one i) ∙ e))

-- ── a slot written ──────────────────────────────────────────────────────────────────────────

pub slot-made : (k : ℕ) (b y : List ℕ) → y ≡ b → k ∷ (y ++ drop (1 + length b - 1) (replicate (slot_width - 1) 0)) ≡ filled slot_width (k ∷ b)
unfolding filled
slot-made k b y e =
    let n : 1 + length b - 1 ≡ length b = omega arith in
    let left : slot_width - 1 - length b ≡ slot_width - suc (length b) = omega arith in
    ap (λ s. k ∷ s) (ap₂ ◌++◌ e (ap (λ (n : ℕ). drop n (replicate (slot_width - 1) 0)) n ∙ drop-replicate (length b) (slot_width - 1) ∙ ap (λ (n : ℕ). replicate n 0) left))

pub slot-stored : (t r y : List ℕ) (n : ℕ) → y ≡ r → put_mid (n * slot_width) (n * slot_width + slot_width - n * slot_width) t y ≡ slot_set t n r
unfolding slot_set
slot-stored t r y n e =
    let k : n * slot_width + slot_width - n * slot_width ≡ slot_width = omega arith in
    rw (k, e)
