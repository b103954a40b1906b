-- Sums, differences and distances of values: what the code makes is what the definitions give.
use Prim.Native.Nat.{ℕ, zero, suc, ◌≤◌}
use lib.ListN.{replicate}
use mir.Syntax.{w64}
use mir.Val.{SFits, to_z, of_z}
use mir.Facts.{to_z-of_z}
use mathlib.Core.Bool.{Bool, true, false, cond, ◌&&◌}
use mathlib.Core.Option.{Option, none, some}
use mathlib.Core.Path.{◌≡◌, refl, sym, ap, ap₂, ◌∙◌, subst}
use native.Mathlib.Omega.{arith}
use lib.Dec.{T, eqb, leb, le→leb, leb→le}
use lib.IntN.{ℤ, pos, negsuc, nat_abs, neg_ℤ, ◌*ℤ◌}
use lib.Signed.{le_z}
use borrow.Author.Tests.{eq-eqb, ne_eqb, eqb-true}
use Rattle.definitions.specs.Limits.{text_width, tag_width, integer_limit, decimal_limit, seconds_before, seconds_after}
use Rattle.definitions.specs.Bytes.{provided, filled, unfilled}
use Rattle.definitions.specs.Terms.{within_limits, is_integer, is_decimal, is_date_time, tag_byte, text_byte}
use Rattle.definitions.specs.Outcome.{Outcome, ok, fault, ◌>>=◌, arithmetic_on_no_number}
use Rattle.definitions.specs.Values.{Value as Meant, whole, millionths, number_in, million, widened, lifted, lifted₂, combine, absolute}
use Rattle.laws.proofs.NoFault.{ok-is, no-fault}
use Rattle.laws.proofs.Tests.{and_make, and_left, and_right}
use Rattle.laws.proofs.Options.{some_is, some-not-none, provided-holds}
use Rattle.laws.proofs.Bytes.{at_most}
use Rattle.values.specs.declared.Value.{Value}
use Rattle.values.specs.Meaning.{meaning, where?, number_of, Field, Good, Gives}
use Rattle.values.specs.Means.{Holds}
use Rattle.values.specs.NumberKinds.{held, numbered, in_kind, common_kind, counted_in}
use Rattle.values.proofs.SignedLaws.{mag-abs, abs-scaled}
use Rattle.values.proofs.KindLaws.{View, view, as-integer, as-decimal, as-date_time, as-string, as-uri}

-- ── limits ──────────────────────────────────────────────────────────────────────────────────

pub in-limit : (limit : ℕ) (n : ℤ) → nat_abs n ≤ limit → T (within_limits limit limit n)
unfolding within_limits
in-limit limit (pos n) h = and_make (le_z (neg_ℤ (pos limit)) (pos n)) (leb n limit) (low limit) (le→leb n limit h)
  where
    low : (limit : ℕ) → T (le_z (neg_ℤ (pos limit)) (pos n))
    low zero = le→leb 0 n (omega arith)
    low (suc k) = tt
in-limit zero (negsuc n) h = absurd (omega arith)
in-limit (suc limit) (negsuc n) h = and_make (leb n limit) true (le→leb n limit (omega arith)) tt

pub integer-decimal : (n : ℤ) → T (is_integer n) → T (is_decimal n)
integer-decimal n h = in-limit decimal_limit n (omega (arith, at_most integer_limit n h))

pub scaled-decimal : (n : ℤ) → T (is_integer n) → T (is_decimal (n *ℤ pos million))
scaled-decimal n h = in-limit decimal_limit (n *ℤ pos million) (omega (arith, abs-scaled n, at_most integer_limit n h))

-- an i64's number
pub plain : (n : ℤ) → T (is_decimal n) → to_z w64 (of_z w64 n) ≡ n
plain n h = to_z-of_z {w = w64} {z = n} (record { sfits = omega (arith, mag-abs n, at_most decimal_limit n h) })

-- ── a number of a kind, or no value ─────────────────────────────────────────────────────────

module _ (k : ℕ) (n : ℤ) (p : Bool) (fits : SFits w64 n) where
  pub numeric-yes : p ≡ true → numbered k p (to_z w64 (of_z w64 n)) ≡ held k (where? p n)
  unfolding held
  numeric-yes e = rw (e, to_z-of_z fits)

  pub numeric-no : p ≡ false → numbered k p (pos 0) ≡ held k (where? p n)
  unfolding held
  numeric-no e = rw e

  module _ (r : Value) (is : r ≡ held k (where? p (to_z w64 (of_z w64 n)))) where
    pub limited-integer : k ≡ 5 → p ≡ is_integer (to_z w64 (of_z w64 n)) → r ≡ held k (where? (in_kind k n) n)
    limited-integer e t = is ∙ rw (t, to_z-of_z fits, e)

    pub limited-decimal : (k ≡ 5 → ⊥) → p ≡ is_decimal (to_z w64 (of_z w64 n)) → r ≡ held k (where? (in_kind k n) n)
    limited-decimal e t = is ∙ rw (t, to_z-of_z fits, ne_eqb k 5 e)

pub held-integer : (o : Option ℤ) → meaning (held 5 o) ≡ Meant.integer o
unfolding meaning held
held-integer none = refl
held-integer (some n) = refl

pub held-decimal : (o : Option ℤ) → meaning (held 3 o) ≡ Meant.decimal o
unfolding meaning held
held-decimal none = refl
held-decimal (some n) = refl

kind-decimal : (k : ℕ) (n : ℤ) → T (in_kind k n) → T (is_decimal n)
kind-decimal k n h = go (eqb k 5) h
  where
    go : (t : Bool) → T (cond t (is_integer n) (is_decimal n)) → T (is_decimal n)
    go true h = integer-decimal n h
    go false h = h

kind-integer : (k : ℕ) (n : ℤ) → T (in_kind k n) → k ≡ 5 → T (is_integer n)
kind-integer k n h e = subst (λ (t : Bool). T (cond t (is_integer n) (is_decimal n))) (eq-eqb k 5 e) h

-- a field of zeros
pub zero-tag : Field tag_byte tag_width (replicate tag_width 0)
unfolding unfilled filled
zero-tag = record { size = refl; bytes = tt; whole = refl }

pub zero-text : Field text_byte text_width (replicate text_width 0)
unfolding unfilled filled
zero-text = record { size = refl; bytes = tt; whole = refl }

pub held-good : (k : ℕ) (o : Option ℤ) → (k ≡ 4 → ⊥) → ((n : ℤ) → o ≡ some n → T (in_kind k n)) → Good (held k o)
unfolding held within_limits
held-good k none ne f = record { number = tt; integer = λ e. tt; date_time = λ e. tt; tag = zero-tag; text = zero-text }
held-good k (some n) ne f =
    record { number = kind-decimal k n (f n refl); integer = kind-integer k n (f n refl); date_time = λ e. absurd (ne e); tag = zero-tag; text = zero-text }

provided-where : (t : Bool) (n : ℤ) → provided t (some n) ≡ where? t n
unfolding provided
provided-where true n = refl
provided-where false n = refl

pub where-inv : (b : Bool) (n m : ℤ) → where? b n ≡ some m → T b × (n ≡ m)
where-inv true n m e = (tt, some_is e)
where-inv false n m e = absurd (some-not-none e refl)

-- ── how a number counts in a result ─────────────────────────────────────────────────────────

-- a value's number counts within the limits of a decimal
counted-decimal : (v : Value) (k : ℕ) → Good v → T (is_decimal (counted_in v.kind k v.number))
counted-decimal v k g = go (eqb v.kind 5) (eqb k 3) refl
  where
    go : (t u : Bool) → eqb v.kind 5 ≡ t → T (is_decimal (cond (t && u) (v.number *ℤ pos million) v.number))
    go true true e = scaled-decimal v.number (g.integer (eqb-true v.kind 5 e))
    go true false e = g.number
    go false u e = g.number

abbrev pub Counted : Value → ℕ → ℤ → Type 0
Counted v k r = (r ≡ counted_in v.kind k v.number) × T (is_decimal r)

counted_is : (v : Value) (k : ℕ) (r : ℤ) → Good v → r ≡ counted_in v.kind k v.number → Counted v k r
counted_is v k r g e = (e, rw e (counted-decimal v k g))

module _ (v : Value) (k : ℕ) (g : Good v) where
  pub counted-scaled : (r : ℤ) → SFits w64 r → v.kind ≡ 5 → k ≡ 3 → r ≡ to_z w64 (of_z w64 v.number) *ℤ pos million → Counted v k (to_z w64 (of_z w64 r))
  counted-scaled r f e₅ e₃ e = rw (to_z-of_z f) (counted_is v k r g (e ∙ rw (plain v.number g.number, e₅, e₃)))

  pub counted-integer : v.kind ≡ 5 → (k ≡ 3 → ⊥) → Counted v k (to_z w64 (of_z w64 v.number))
  counted-integer e₅ n₃ = rw (plain v.number g.number) (counted_is v k v.number g (rw (e₅, ne_eqb k 3 n₃)))

  pub counted-other : (v.kind ≡ 5 → ⊥) → Counted v k (to_z w64 (of_z w64 v.number))
  counted-other n₅ = rw (plain v.number g.number) (counted_is v k v.number g (rw (ne_eqb v.kind 5 n₅)))

-- ── what arithmetic sees in a value ─────────────────────────────────────────────────────────

sees-whole : (v : Value) {o : Option ℤ} → meaning v ≡ Meant.integer o → number_in (meaning v) ≡ ok (whole o)
unfolding number_in
sees-whole v e = rw e

sees-millionths : (v : Value) {o : Option ℤ} → meaning v ≡ Meant.decimal o → number_in (meaning v) ≡ ok (millionths o)
unfolding number_in
sees-millionths v e = rw e

abbrev no_number : Meant → Type 0
no_number m = number_in m ≡ fault arithmetic_on_no_number

data Seen (v : Value) : Type 0 where
  as-whole : v.kind ≡ 5 → number_in (meaning v) ≡ ok (whole (number_of v)) → Seen v
  as-millionths : v.kind ≡ 3 → number_in (meaning v) ≡ ok (millionths (number_of v)) → Seen v
  as_none : no_number (meaning v) → Seen v

see : (v : Value) → View v → Seen v
unfolding number_in
see v (as-integer k m) = as-whole k (sees-whole v m)
see v (as-decimal k m) = as-millionths k (sees-millionths v m)
see v (as-date_time k m) = as_none (rw m)
see v (as-string k m) = as_none (rw m)
see v (as-uri a b c d m) = as_none (rw m)

-- ── two numbers, or one, in an operation ────────────────────────────────────────────────────

pub widened-where : (p : Bool) (n : ℤ) → widened (where? p n) ≡ where? p (n *ℤ pos million)
widened-where true n = refl
widened-where false n = refl

counts : Value → ℕ → Option ℤ
counts v k = where? v.present (counted_in v.kind k v.number)

-- no kind of a result is a date_time
no-date : (a b : ℕ) → common_kind a b ≡ 4 → ⊥
no-date a b e = go (eqb a 5 && eqb b 5) e
  where
    go : (t : Bool) → ◌≡◌ {A = ℕ} (cond t 5 3) 4 → ⊥
    go true e = omega arith
    go false e = omega arith

module _ (f : ℤ → ℤ → ℤ) where
  abbrev pub both : Meant → Meant → Outcome Meant
  both a b = number_in a >>= (λ m. number_in b >>= (λ n. ok (combine f m n)))

  joined : (a b : Value) → Seen a → Seen b → (u : Meant) → both (meaning a) (meaning b) ≡ ok u
      → meaning (held (common_kind a.kind b.kind)
      (lifted₂ (in_kind (common_kind a.kind b.kind)) f (counts a (common_kind a.kind b.kind)) (counts b (common_kind a.kind b.kind)))) ≡ u
  unfolding counts ◌>>=◌
  joined a b (as-whole k x) (as-whole l y) u e = rw (k, l) (held-integer _ ∙ ok-is (rw (x, y) at e))
  joined a b (as-whole k x) (as-millionths l y) u e = rw (k, l, ← widened-where a.present a.number) (held-decimal _ ∙ ok-is (rw (x, y) at e))
  joined a b (as-millionths k x) (as-whole l y) u e = rw (k, l, ← widened-where b.present b.number) (held-decimal _ ∙ ok-is (rw (x, y) at e))
  joined a b (as-millionths k x) (as-millionths l y) u e = rw (k, l) (held-decimal _ ∙ ok-is (rw (x, y) at e))
  joined a b (as-whole k x) (as_none y) u e = absurd (no-fault (rw (x, y) at e))
  joined a b (as-millionths k x) (as_none y) u e = absurd (no-fault (rw (x, y) at e))
  joined a b (as_none x) s u e = absurd (no-fault (rw x at e))

  module _ (a b : Value) (k : ℕ) (is : k ≡ common_kind a.kind b.kind) (r : Value) where
    -- what is left to show of a result: its number, and that it is within its kind's limits
    result : (o : Option ℤ) → r ≡ held k o → ((n : ℤ) → o ≡ some n → T (in_kind k n)) → o ≡ lifted₂ (in_kind k) f (counts a k) (counts b k)
        → Gives r (both (meaning a) (meaning b))
    result o e good same =
        record {
          good = rw e (held-good k o (λ d. no-date a.kind b.kind (sym is ∙ d)) good);
          is = λ u h. ap meaning e ∙ (ap (λ p. meaning (held k p)) same ∙ rw is (joined a b (see a (view a)) (see b (view b)) u h));
        }

    pub no_result : (x : ℤ) → (a.present && b.present) ≡ false → r ≡ held k (where? false x) → Gives r (both (meaning a) (meaning b))
    unfolding counts lifted₂
    no_result x absent e = result none e (λ n h. absurd (some-not-none h refl)) (sym (go a.present b.present _ _ absent))
      where
        go : (p q : Bool) (x y : ℤ) → (p && q) ≡ false → lifted₂ (in_kind k) f (where? p x) (where? q y) ≡ none
        go true true x y h = let z : ◌≡◌ {A = ℕ} 0 1 = cc in absurd (omega arith)
        go true false x y h = refl
        go false q x y h = refl

    pub some_result : (x y z : ℤ) → (a.present && b.present) ≡ true → x ≡ counted_in a.kind k a.number → y ≡ counted_in b.kind k b.number
        → z ≡ f x y → r ≡ held k (where? (in_kind k z) z) → Gives r (both (meaning a) (meaning b))
    unfolding counts lifted₂
    some_result x y z there ex ey ez e = result (where? (in_kind k z) z) e (λ n h. limit n (where-inv (in_kind k z) z n h))
        (ap (λ m. where? (in_kind k m) m) (ez ∙ ap₂ f ex ey) ∙ sym (go a.present b.present _ _ there))
      where
        limit : (n : ℤ) → T (in_kind k z) × (z ≡ n) → T (in_kind k n)
        limit n h = subst (λ m. T (in_kind k m)) h.1 h.0

        go : (p q : Bool) (x y : ℤ) → (p && q) ≡ true → lifted₂ (in_kind k) f (where? p x) (where? q y) ≡ where? (in_kind k (f x y)) (f x y)
        go true true x y h = provided-where (in_kind k (f x y)) (f x y)
        go true false x y h = let z : ◌≡◌ {A = ℕ} 0 1 = cc in absurd (omega arith)
        go false q x y h = let z : ◌≡◌ {A = ℕ} 0 1 = cc in absurd (omega arith)

    -- the same from what the calls say
    pub made : (x y z : ℤ) → (a.present && b.present) ≡ true → Counted a k x → Counted b k y → SFits w64 z → z ≡ f (to_z w64 (of_z w64 x)) (to_z w64 (of_z w64 y))
        → r ≡ held k (where? (in_kind k (to_z w64 (of_z w64 z))) (to_z w64 (of_z w64 z))) → Gives r (both (meaning a) (meaning b))
    made x y z there cx cy fits ez e =
        some_result x y z there cx.0 cy.0 (ez ∙ ap₂ f (plain x cx.1) (plain y cy.1)) (e ∙ rw (to_z-of_z fits))

-- ── the distance from 0 ─────────────────────────────────────────────────────────────────────

module _ (a : Value) (g : Good a) (k : ℕ) (is : k ≡ common_kind a.kind a.kind) where
  far : ℤ
  far = pos (nat_abs a.number)

  far-kind : T (in_kind k far)
  unfolding far
  far-kind = go (eqb a.kind 5) refl
    where
      go : (t : Bool) → eqb a.kind 5 ≡ t → T (in_kind k far)
      go true e =
          let h = at_most integer_limit a.number (g.integer (eqb-true a.kind 5 e)) in
          rw (is, e) (in-limit integer_limit far h)
      go false e =
          let h = at_most decimal_limit a.number g.number in
          rw (is, e) (in-limit decimal_limit far h)

  farther : (p : Bool) → lifted (in_kind k) (λ n. pos (nat_abs n)) (where? p a.number) ≡ where? p far
  unfolding lifted far
  farther true = provided-holds (in_kind k far) far-kind refl
  farther false = refl

  far-is : pos (nat_abs (to_z w64 (of_z w64 a.number))) ≡ far
  unfolding far
  far-is = ap (λ n. pos (nat_abs n)) (plain a.number g.number)

  limit : (n : ℤ) (p : Bool) → where? p far ≡ some n → T (in_kind k n)
  limit n p e = let h = where-inv p far n e in subst (λ m. T (in_kind k m)) h.1 far-kind

  alone : Seen a → (u : Meant) → absolute (meaning a) ≡ ok u → meaning (held k (where? a.present far)) ≡ u
  unfolding absolute ◌>>=◌
  alone (as-whole e x) u h = ap (λ o. meaning (held k o)) (sym (farther a.present)) ∙ rw (is, e) (held-integer _ ∙ ok-is (rw x at h))
  alone (as-millionths e x) u h = ap (λ o. meaning (held k o)) (sym (farther a.present)) ∙ rw (is, e) (held-decimal _ ∙ ok-is (rw x at h))
  alone (as_none x) u h = absurd (no-fault (rw x at h))

  pub abs-result : (r : Value) (d : ℤ) → SFits w64 d → d ≡ pos (nat_abs (to_z w64 (of_z w64 a.number))) → r ≡ held k (where? a.present (to_z w64 (of_z w64 d))) → Gives r (absolute (meaning a))
  abs-result r d f e h =
      let same : r ≡ held k (where? a.present far) = h ∙ ap (λ m. held k (where? a.present m)) (to_z-of_z f ∙ (e ∙ far-is)) in
      record {
        good = rw same (held-good k (where? a.present far) (λ q. no-date a.kind a.kind (sym is ∙ q)) (λ n w. limit n a.present w));
        is = λ u w. ap meaning same ∙ alone (see a (view a)) u w;
      }

-- ── a date_time ──────────────────────────────────────────────────────────────────────────────

within_both : (low high k : ℕ) (n : ℤ) → low ≤ k → high ≤ k → T (within_limits low high n) → nat_abs n ≤ k
unfolding within_limits
within_both low high k (pos n) l h t = let u = leb→le n high (and_right (le_z (neg_ℤ (pos low)) (pos n)) (leb n high) t) in omega arith
within_both zero high k (negsuc n) l h t = absurd t
within_both (suc low) high k (negsuc n) l h t = let u = leb→le n low (and_left (leb n low) true t) in omega arith

pub date_time-decimal : (n : ℤ) → T (is_date_time n) → T (is_decimal n)
date_time-decimal n h = in-limit decimal_limit n (within_both seconds_before seconds_after decimal_limit n (omega arith) (omega arith) h)

pub time-holds : (n : ℤ) → T (is_date_time n) → Holds (numbered 4 true (to_z w64 (of_z w64 n))) (Meant.date_time n)
unfolding meaning
time-holds n h =
    rw (plain n (date_time-decimal n h))
    (record {
      good = record { number = date_time-decimal n h; integer = λ e. absurd (omega arith); date_time = λ e. h; tag = zero-tag; text = zero-text };
      is = refl;
    })
