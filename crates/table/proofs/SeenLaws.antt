-- Laws of hashes seen, from the last slot to the first: a hash whose place is not flagged is none of them.
use Prim.Native.Nat.{ℕ, ◌+◌, ◌-◌, ◌*◌, ◌%◌, ◌≤◌, ◌<◌}
use native.Mathlib.Decide.{ℕ_discrete}
use native.Mathlib.Omega.{arith}
use mathlib.Core.Bool.{Bool, true, false}
use mathlib.Core.List.{List}
use mathlib.Core.Path.{◌≡◌, refl, sym, ap, ◌∙◌, subst}
use lib.Dec.{T}
use lib.ListN.{length, get_or, set, replicate, length-replicate, length-set}
use lib.Seq.{get_or-set_same, get_or-set_other}
use Rattle.definitions.specs.Limits.{slot_width, term_limit}
use Rattle.definitions.specs.Terms.{same_term}
use Rattle.definitions.specs.Saved.{slot_term, terms_in}
use Rattle.laws.specs.Lists.{flag}
use Rattle.laws.proofs.Bytes.{AreBytes, part_bytes}
use Rattle.laws.proofs.Tests.{is_true, true_is}
use Rattle.fields.specs.Answers.{distinct_in}
use Rattle.table.specs.Hashes.{slot_at, Hashed}
use Rattle.table.specs.Table.{HoldsTerms, number_from}
use Rattle.table.proofs.TableLaws.{slot-holds, distinct_from, distinct-zero, slots_end, slots_next}
use Rattle.table.proofs.FindLaws.{number-none}

-- how many places there are
abbrev pub seen_places : ℕ
seen_places = 2039

-- the terms from a number on are all different, and the places of their hashes are flagged
pub record Apart (table hashes : List ℕ) (n i : ℕ) (seen : List Bool) : Type 0 where
  pub few : i ≤ n
  pub places : length seen ≡ seen_places
  pub apart : distinct_from i (terms_in table) ≡ true
  pub each : (j : ℕ) → i ≤ j → j < n → T (flag seen (get_or hashes j 0 % seen_places))

-- a flag that stands stays
flag-stays : (flags : List Bool) (k i : ℕ) → k < length flags → T (flag flags i) → T (flag (set flags k true) i)
flag-stays flags k i inside t = go (ℕ_discrete i k)
  where
    go : Dec (i ≡ k) → T (flag (set flags k true) i)
    go (yes e) = true_is _ (ap (flag (set flags k true)) e ∙ get_or-set_same flags k true false inside)
    go (no d) = subst T (sym (get_or-set_other flags k i true false d)) t

module _ (table : List ℕ) (n : ℕ) (h : HoldsTerms table n) (hashes : List ℕ) where
  pub apart-start : Apart table hashes n n (replicate seen_places false)
  apart-start = record { few = omega arith; places = length-replicate seen_places false; apart = slots_end table n h n (omega arith); each = λ j l k. absurd (omega arith) }

  module _ (i : ℕ) (seen : List Bool) (p : Apart table hashes n i seen) where
    pub apart-end : i ≤ 0 → true ≡ distinct_in same_term (terms_in table)
    apart-end l = let e : i ≡ 0 = omega arith in sym (distinct-zero (terms_in table) ∙ ap (λ (k : ℕ). distinct_from k (terms_in table)) (sym e) ∙ p.apart)

    module _ (l : 0 < i) where
      back : i - 1 + 1 ≡ i
      back = omega arith

      -- the number of the slot before them among them, by its hash or by a search
      module _ (x : ℕ) (here : x ≡ get_or hashes (i - 1) 0) where
        pub apart_next : n ≤ number_from (i - 1 + 1) (slot_term (slot_at table (i - 1))) (terms_in table) → Apart table hashes n (i - 1) (set seen (x % seen_places) true)
        apart_next k =
            record {
              few = omega (arith, p.few);
              places = length-set seen (x % seen_places) true ∙ p.places;
              apart = slots_next table n h (i - 1) (omega (arith, p.few)) refl k ∙ ap (λ (m : ℕ). distinct_from m (terms_in table)) back ∙ p.apart;
              each = λ j a b. go j b (ℕ_discrete j (i - 1)) a;
            }
          where
            inside : x % seen_places < length seen
            inside = omega (arith, p.places)

            go : (j : ℕ) → j < n → Dec (j ≡ i - 1) → i - 1 ≤ j → T (flag (set seen (x % seen_places) true) (get_or hashes j 0 % seen_places))
            go j b (yes q) a =
                let same : get_or hashes j 0 ≡ x = ap (λ (m : ℕ). get_or hashes m 0) q ∙ sym here in
                true_is _ (ap (λ (m : ℕ). flag (set seen (x % seen_places) true) (m % seen_places)) same ∙ get_or-set_same seen (x % seen_places) true false inside)
            go j b (no d) a = flag-stays seen (x % seen_places) (get_or hashes j 0 % seen_places) inside (p.each j (omega arith) b)

        pub not_seen : AreBytes table → length hashes ≡ term_limit → Hashed table n hashes → flag seen (x % seen_places) ≡ false
            → n ≡ number_from (i - 1 + 1) (slot_term (slot_at table (i - 1))) (terms_in table)
        not_seen a long w q =
            let k : i - 1 < n = omega (arith, p.few) in
            number-none table (slot_at table (i - 1)) n h (slot-holds table n h (i - 1) k) a (part_bytes table ((i - 1) * slot_width) slot_width a) hashes long w x (here ∙ w (i - 1) k)
            (n - (i - 1 + 1)) (i - 1 + 1) (omega arith)
            (λ j m o e. true_is false (sym q ∙ ap (λ (y : ℕ). flag seen (y % seen_places)) (sym e) ∙ is_true _ (p.each j (omega arith) o)))
