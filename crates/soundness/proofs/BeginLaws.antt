-- A table begins with the terms of another where it begins with their slots.
use Prim.Native.Nat.{ℕ, ◌+◌, ◌-◌, ◌*◌, ◌≤◌, ◌<◌}
use native.Mathlib.Omega.{arith}
use mathlib.Core.Path.{◌≡◌, refl, sym, ap, ap₂, ◌∙◌}
use mathlib.Core.List.{List, [], ◌∷◌, ◌++◌}
use mathlib.Core.Bool.{Bool, true, false, not, ◌&&◌}
use mathlib.Core.Option.{Option}
use lib.Dec.{T}
use lib.ListN.{length, take, drop, replicate}
use lib.Seq.{take_all, take_at, drop_at, take-append-le, take-length, take-append-add}
use borrow.Author.Tests.{not-true, not-false}
use Rattle.definitions.specs.Limits.{slot_width, term_table_width}
use Rattle.definitions.specs.Bytes.{filled}
use Rattle.definitions.specs.Terms.{Term, slot_of, same_term}
use Rattle.definitions.specs.Saved.{slots, term_table, terms_in}
use Rattle.definitions.specs.Sound.{begins_with}
use Rattle.definitions.specs.Lists.{distinct}
use Rattle.laws.proofs.Tests.{and_left, and_right, and_make, true_is}
use Rattle.laws.specs.Lists.{All}
use Rattle.laws.proofs.Bytes.{AreBytes}
use Rattle.laws.specs.Valid.{Valid}
use Rattle.laws.proofs.Equality.{same-term, term-refl}
use Rattle.laws.proofs.Slots.{slot-length, slot-one}
use Rattle.laws.proofs.Tables.{slots_length, terms-in-valid, terms-in-table}
use Rattle.fields.specs.Answers.{distinct_in}
use Rattle.table.specs.Table.{HoldsTerms}
use Rattle.fields.proofs.SameLaws.{Compared, test-is}
use Rattle.table.proofs.TableLaws.{terms, terms-length}
use Rattle.soundness.specs.Store.{begins_in, terms_sound}

-- a list with fewer terms does not
pub too_few : (ks ts : List Term) → length ts < length ks → false ≡ begins_with ks ts
unfolding begins_with
too_few [] ts h = absurd (omega arith)
too_few (k ∷ ks) [] h = refl
too_few (k ∷ ks) (t ∷ ts) h = go (same_term k t) (too_few ks ts (omega arith))
  where
    go : (b : Bool) → false ≡ begins_with ks ts → false ≡ b && begins_with ks ts
    go true e = e
    go false e = refl

-- the slots of the first terms
slots-front : (k t : Term) (ks ts : List Term) → Valid t
    → take (length (k ∷ ks) * slot_width) (slots (t ∷ ts)) ≡ slot_of t ++ take (length ks * slot_width) (slots ts)
unfolding slots
slots-front k t ks ts v =
    let n : length (k ∷ ks) * slot_width ≡ length (slot_of t) + length ks * slot_width = omega (arith, slot-length t v) in
    ap (λ (m : ℕ). take m (slot_of t ++ slots ts)) n ∙ take-append-add (slot_of t) (slots ts) (length ks * slot_width)

slots-begin : (ks ts : List Term) → All Valid ks → All Valid ts → length ks ≤ length ts → slots ks ≡ take (length ks * slot_width) (slots ts) → T (begins_with ks ts)
unfolding slots begins_with
slots-begin [] ts vk vt h e = tt
slots-begin (k ∷ ks) [] vk vt h e = absurd (omega arith)
slots-begin (k ∷ ks) (t ∷ ts) vk vt h e =
    let rest = take (length ks * slot_width) (slots ts) in
    let whole : slot_of k ++ slots ks ≡ slot_of t ++ rest = e ∙ slots-front k t ks ts vt.0 in
    let lk = slot-length k vk.0 in
    let lt = slot-length t vt.0 in
    let here : slot_of k ≡ slot_of t = sym (take_at (slot_of k) (slots ks) slot_width lk) ∙ ap (take slot_width) whole ∙ take_at (slot_of t) rest slot_width lt in
    let after : slots ks ≡ rest = sym (drop_at (slot_of k) (slots ks) slot_width lk) ∙ ap (drop slot_width) whole ∙ drop_at (slot_of t) rest slot_width lt in
    let same : T (same_term k t) = rw (slot-one k t vk.0 vt.0 here) (term-refl t) in
    and_make (same_term k t) (begins_with ks ts) same (slots-begin ks ts vk.1 vt.1 (omega arith) after)

begin-slots : (ks ts : List Term) → All Valid ts → T (begins_with ks ts) → slots ks ≡ take (length ks * slot_width) (slots ts)
unfolding slots begins_with
begin-slots [] ts vt h = refl
begin-slots (k ∷ ks) [] vt h = absurd h
begin-slots (k ∷ ks) (t ∷ ts) vt h =
    let same = same-term k t (and_left (same_term k t) (begins_with ks ts) h) in
    ap₂ ◌++◌ (ap slot_of same) (begin-slots ks ts vt.1 (and_right (same_term k t) (begins_with ks ts) h)) ∙ sym (slots-front k t ks ts vt.0)

-- two tables, compared as far as the first one's terms go
module _ (loading table : List ℕ) (loaded count : ℕ) (hl : HoldsTerms loading loaded) (ht : HoldsTerms table count) where
  ks : List Term
  ks = (terms loading loaded hl).0

  ts : List Term
  ts = (terms table count ht).0

  begins-is : begins_in (terms_in loading) (terms_in table) ≡ begins_with ks ts
  unfolding begins_in ks ts
  begins-is = ap₂ begins_in (terms loading loaded hl).1 (terms table count ht).1

  pub fewer : count < loaded → false ≡ begins_in (terms_in loading) (terms_in table)
  unfolding ks ts
  fewer h = too_few ks ts (omega (arith, terms-length loading loaded hl, terms-length table count ht)) ∙ sym begins-is

  module _ (al : AreBytes loading) (at : AreBytes table) (h : loaded ≤ count) where
    sizes : length ks ≤ length ts
    unfolding ks ts
    sizes = omega (arith, terms-length loading loaded hl, terms-length table count ht)

    valid-loaded : All Valid ks
    unfolding ks
    valid-loaded = terms-in-valid loading al hl.width ks (terms loading loaded hl).1

    valid-terms : All Valid ts
    unfolding ts
    valid-terms = terms-in-valid table at ht.width ts (terms table count ht).1

    -- the bytes before an offset within the slots
    front : (bytes : List ℕ) (us : List Term) (n : ℕ) → bytes ≡ term_table us → n ≤ length (slots us) → take n bytes ≡ take n (slots us)
    unfolding term_table filled
    front bytes us n e l = ap (take n) e ∙ take-append-le n (slots us) (replicate (term_table_width - length (slots us)) 0) l

    first-loaded : take (loaded * slot_width) loading ≡ slots ks
    unfolding ks
    first-loaded =
        let size : loaded * slot_width ≡ length (slots ks) = omega (arith, slots_length ks valid-loaded, terms-length loading loaded hl) in
        front loading ks (loaded * slot_width) (terms-in-table loading al hl.width ks (terms loading loaded hl).1) (omega arith)
        ∙ ap (λ (n : ℕ). take n (slots ks)) size ∙ take-length (slots ks)

    first-terms : take (loaded * slot_width) table ≡ take (length ks * slot_width) (slots ts)
    unfolding ks ts
    first-terms =
        let size : loaded ≡ length ks = sym (terms-length loading loaded hl) in
        front table ts (loaded * slot_width) (terms-in-table table at ht.width ts (terms table count ht).1) (omega (arith, slots_length ts valid-terms, sizes))
        ∙ ap (λ (n : ℕ). take (n * slot_width) (slots ts)) size

    pub begins : {r : Bool} → Compared (take (loaded * slot_width) loading) (take (loaded * slot_width) table) r → r ≡ begins_in (terms_in loading) (terms_in table)
    begins {r} c =
        test-is r (begins_with ks ts)
        (λ t. slots-begin ks ts valid-loaded valid-terms sizes (sym first-loaded ∙ c.0 t ∙ first-terms))
        (λ t. c.1 (first-loaded ∙ begin-slots ks ts valid-terms t ∙ sym first-terms))
        ∙ sym begins-is

-- ── both tests ──────────────────────────────────────────────────────────────────────────────

module _ (ks ts : Option (List Term)) {a : Bool} (ea : a ≡ begins_in ks ts) where
  pub begins-not : not a ≡ true → false ≡ terms_sound ks ts
  unfolding terms_sound
  begins-not t = rw (sym ea ∙ not-true a t)

  pub terms-sound : not a ≡ false → {r : Bool} → r ≡ distinct_in same_term ts → r ≡ terms_sound ks ts
  unfolding terms_sound
  terms-sound t e = e ∙ rw (sym ea ∙ not-false a t)

-- ── no term has joined ──────────────────────────────────────────────────────────────────────

pub begins-take : (ks ts : List Term) → T (begins_with ks ts) → take (length ks) ts ≡ ks
unfolding begins_with
begins-take [] ts h = refl
begins-take (k ∷ ks) [] h = absurd h
begins-take (k ∷ ks) (t ∷ ts) h =
    ap₂ ◌∷◌ (sym (same-term k t (and_left (same_term k t) (begins_with ks ts) h))) (begins-take ks ts (and_right (same_term k t) (begins_with ks ts) h))

module _ (loading table : List ℕ) (loaded count : ℕ) (hl : HoldsTerms loading loaded) (ht : HoldsTerms table count) where
  pub none-joined : distinct_in same_term (terms_in loading) ≡ true → (a : Bool) → a ≡ begins_in (terms_in loading) (terms_in table) → not a ≡ false → count ≡ loaded
      → true ≡ terms_sound (terms_in loading) (terms_in table)
  unfolding terms_sound begins_in distinct_in
  none-joined d a ea t e =
      let ks = terms loading loaded hl in
      let ts = terms table count ht in
      let b : begins_with ks.0 ts.0 ≡ true = rw (ks.1, ts.1) at (sym ea ∙ not-false a t) in
      let all = take_all (length ks.0) ts.0 (omega (arith, terms-length loading loaded hl, terms-length table count ht, e)) in
      let same : ks.0 ≡ ts.0 = sym (begins-take ks.0 ts.0 (true_is (begins_with ks.0 ts.0) b)) ∙ all in
      let apart : distinct same_term ks.0 ≡ true = rw ks.1 at d in
      rw (ks.1, ts.1) (sym (ap₂ ◌&&◌ b (ap (distinct same_term) (sym same) ∙ apart)))
