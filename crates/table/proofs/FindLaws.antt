-- Laws of a slot looked for in a table: by its hash first.
use Prim.Native.Nat.{ℕ, zero, suc, ◌+◌, ◌-◌, ◌*◌, ◌≤◌, ◌<◌}
use native.Mathlib.Omega.{arith}
use mathlib.Core.Bool.{Bool, true, false}
use mathlib.Core.List.{List}
use mathlib.Core.Path.{◌≡◌, refl, sym, ap, ◌∙◌, subst}
use native.Mathlib.Decide.{ℕ_discrete}
use Rattle.std.specs.Prelude.{Some, None}
use Rattle.std.specs.declared.option.Option as Answer
use lib.ListN.{length, get_or, take}
use lib.Seq.{get_or-take, length-take-le}
use Rattle.definitions.specs.Limits.{slot_width, term_limit}
use Rattle.definitions.specs.Bytes.{part, same_bytes}
use Rattle.definitions.specs.Saved.{slot_term, terms_in}
use Rattle.laws.proofs.Tests.{true_is}
use Rattle.laws.proofs.Bytes.{AreBytes}
use Rattle.table.specs.Hashes.{hash_of, below, slot_at, Hashed, NoneWith, FirstWith}
use Rattle.table.specs.Table.{HoldsTerms, GoodSlot, number_from}
use Rattle.fields.proofs.PartLaws.{some-part}
use Rattle.table.proofs.PlaceLaws.{below-some, below-none, carried}
use Rattle.fields.proofs.SameLaws.{Compared, compared}
use Rattle.table.proofs.TableLaws.{holds-few, number-end, number-here, number-next}

module _ (table slot : List ℕ) (n : ℕ) (h : HoldsTerms table n) (g : GoodSlot slot) (a : AreBytes table) (b : AreBytes slot)
    (hashes : List ℕ) (long : length hashes ≡ term_limit) (w : Hashed table n hashes) (m : ℕ) (e : m ≡ hash_of slot) where
  hashes-differ : (i : ℕ) → i < n → (get_or hashes i 0 ≡ m → ⊥) → Compared slot (part table (i * slot_width) (i * slot_width + slot_width - i * slot_width)) false
  hashes-differ i l d =
      (λ t. absurd (true_is false t), λ q. absurd (d (w i l ∙ ap hash_of (sym (q ∙ some-part table (i * slot_width) slot_width)) ∙ sym e)))

  number-skip : (i : ℕ) → i < n → (get_or hashes i 0 ≡ m → ⊥) → number_from i (slot_term slot) (terms_in table) ≡ number_from (i + 1) (slot_term slot) (terms_in table)
  number-skip i l d = number-next table slot n h g a b i l (hashes-differ i l d) refl

  -- none of those from a number on has its hash
  pub number-none : (k i : ℕ) → i + k ≡ n → ((j : ℕ) → i ≤ j → j < n → get_or hashes j 0 ≡ m → ⊥) → n ≡ number_from i (slot_term slot) (terms_in table)
  number-none zero i s d = number-end table slot n h g i (omega arith) (omega arith)
  number-none (suc k) i s d =
      number-none k (i + 1) (omega arith) (λ j l. d j (omega arith)) ∙ sym (number-skip i (omega arith) (d i (omega arith) (omega arith)))

  -- what the code finds, where its test compares the slots' bytes
  module _ (Test : ℕ → Bool → Type 0)
      (same : (i : ℕ) → i < n → (t : Bool) → Test i t → t ≡ same_bytes slot (part table (i * slot_width) (i * slot_width + slot_width - i * slot_width)))
      (from : ℕ) (f : from ≤ n) where
    over : (k : ℕ) → from + k ≤ n → NoneWith Test (take n hashes) m from (from + k)
        → number_from from (slot_term slot) (terms_in table) ≡ number_from (from + k) (slot_term slot) (terms_in table)
    over k l d =
        carried (λ i. number_from from (slot_term slot) (terms_in table) ≡ number_from i (slot_term slot) (terms_in table)) from k
        (λ j o u p. p ∙ one j (omega arith) (ℕ_discrete (get_or (take n hashes) j 0) m) (λ q. d j o u q)) refl
      where
        one : (j : ℕ) → j < n → Dec (get_or (take n hashes) j 0 ≡ m) → (get_or (take n hashes) j 0 ≡ m → Test j false)
            → number_from j (slot_term slot) (terms_in table) ≡ number_from (j + 1) (slot_term slot) (terms_in table)
        one j l (yes q) d = number-next table slot n h g a b j l (compared _ _ _ (same j l false (d q))) refl
        one j l (no q) d = number-skip j l (λ r. q (get_or-take n hashes j 0 l ∙ r))

    few : length (take n hashes) ≡ n
    few = length-take-le n hashes (omega (arith, holds-few table n h))

    at_found : (i : ℕ) → i ≤ n → from ≤ i → NoneWith Test (take n hashes) m from i → {k : ℕ} → k ≡ number_from i (slot_term slot) (terms_in table)
        → number_from from (slot_term slot) (terms_in table) ≡ k
    at_found i l o d q =
        let k : from + (i - from) ≡ i = omega arith in
        over (i - from) (omega arith) (subst (λ (j : ℕ). NoneWith Test (take n hashes) m from j) (sym k) d)
        ∙ ap (λ (j : ℕ). number_from j (slot_term slot) (terms_in table)) k ∙ sym q

    found_is : {r : Answer.Option ℕ} → FirstWith Test (take n hashes) m from r → (s : Answer.Option ℕ) → r ≡ s → s ≡ below n (number_from from (slot_term slot) (terms_in table))
    found_is x (Some i) e =
        let o = x.some i e in
        let l : i < n = omega (arith, o.1, few) in
        sym (ap (below n) (at_found i (omega arith) o.0 o.4 (number-here table slot n h g a b i l (compared _ _ _ (same i l true o.3)) refl)) ∙ below-some n i l)
    found_is x None e =
        sym (ap (below n) (at_found n (omega arith) f (subst (λ (j : ℕ). NoneWith Test (take n hashes) m from j) few (x.none e)) (number-end table slot n h g n (omega arith) (omega arith)))
        ∙ below-none n n (omega arith))

  pub number_found : {Test : ℕ → Bool → Type 0} {from : ℕ} {r : Answer.Option ℕ} → FirstWith Test (take n hashes) m from r → from ≤ n
      → ((i : ℕ) → i < n → (t : Bool) → Test i t → t ≡ same_bytes slot (part table (i * slot_width) (i * slot_width + slot_width - i * slot_width)))
      → r ≡ below n (number_from from (slot_term slot) (terms_in table))
  number_found {Test} {from} {r} x f same = found_is Test same from f x r refl

-- a slot among those after it, as the code hands it on
pub slot-hash : (table hashes : List ℕ) (n i : ℕ) → Hashed table n hashes → i < n
    → get_or hashes i 0 ≡ hash_of (part table (i * slot_width) (i * slot_width + slot_width - i * slot_width))
slot-hash table hashes n i w l = w i l ∙ ap hash_of (sym (some-part table (i * slot_width) slot_width))

pub slot-after : (table : List ℕ) (n i : ℕ) {f : Answer.Option ℕ}
    → f ≡ below n (number_from (i + 1) (slot_term (part table (i * slot_width) (i * slot_width + slot_width - i * slot_width))) (terms_in table))
    → f ≡ below n (number_from (i + 1) (slot_term (slot_at table i)) (terms_in table))
slot-after table n i e = rw (some-part table (i * slot_width) slot_width) at e
