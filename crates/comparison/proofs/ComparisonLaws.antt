-- Equal and less: what the code compares is what the definitions pair.
use mathlib.Core.Bool.{Bool, true, false, ◌&&◌}
use mathlib.Core.Option.{Option}
use Prim.Native.Nat.{ℕ}
use mathlib.Core.List.{List}
use mathlib.Core.Path.{◌≡◌, refl, ap, ap₂, ◌∙◌}
use mathlib.Core.Logic.{◌⊎◌, inl, inr}
use native.Mathlib.Omega.{arith}
use lib.Dec.{T}
use lib.IntN.{ℤ}
use lib.Signed.{lt_z}
use mir.Syntax.{w64}
use mir.Val.{to_z, of_z}
use Rattle.definitions.specs.Lists.{every}
use Rattle.definitions.specs.Bytes.{unfilled, same_bytes}
use Rattle.definitions.specs.Terms.{text_byte, tag_byte, same_number}
use Rattle.definitions.specs.Outcome.{ok, fault, ◌>>=◌, nothing_in_common}
use Rattle.definitions.specs.Truth.{truth_of}
use Rattle.definitions.specs.declared.Truth.{Truth}
use Rattle.truth.specs.Told.{told_of}
use Rattle.definitions.specs.Values.{Pair, uris, strings, numbers, date_times, paired, present, widened, same_tagged, string_before, equal_pair, less_pair, before}
use Rattle.values.specs.declared.Value.{Value}
use Rattle.values.specs.Meaning.{meaning, where?, number_of, string_of, tagged_of, Field, Good, Tells, compared}
use Rattle.values.specs.NumberKinds.{counted_in}
use Rattle.laws.proofs.NoFault.{ok-is, no-fault}
use Rattle.matching.proofs.FieldLaws.{every-wider, tag-text}
use Rattle.values.proofs.ArithmeticLaws.{Counted, plain, widened-where}
use Rattle.values.proofs.KindLaws.{View, view, as-integer, as-decimal, as-date_time, as-string, as-uri}

-- a tag has bytes that a text may have
pub tag-texts : {width : ℕ} {field : List ℕ} → Field tag_byte width field → T (every text_byte (unfilled field))
tag-texts {field = field} f = every-wider tag_byte text_byte tag-text (unfilled field) f.bytes

-- ── which values have a datatype in common ──────────────────────────────────────────────────

-- a value's number in millionths
abbrev in_millionths : Value → Option ℤ
in_millionths v = where? v.present (counted_in v.kind 3 v.number)

data Paired (a b : Value) : Type 0 where
  as-uris : (a.kind ≡ 5 → ⊥) → (a.kind ≡ 3 → ⊥) → (a.kind ≡ 4 → ⊥) → (a.kind ≡ 2 → ⊥) → paired (meaning a) (meaning b) ≡ ok (uris (unfilled a.text) (unfilled b.text)) → Paired a b
  as-strings : a.kind ≡ 2 → paired (meaning a) (meaning b) ≡ ok (strings (tagged_of a) (tagged_of b)) → Paired a b
  as-numbers : (a.kind ≡ 3) ⊎ (a.kind ≡ 5) → paired (meaning a) (meaning b) ≡ ok (numbers (in_millionths a) (in_millionths b)) → Paired a b
  as-date_times : a.kind ≡ 4 → paired (meaning a) (meaning b) ≡ ok (date_times a.number b.number) → Paired a b
  as-nothing : paired (meaning a) (meaning b) ≡ fault nothing_in_common → Paired a b

-- how an integer and a decimal count
whole-counts : (v : Value) → v.kind ≡ 5 → widened (number_of v) ≡ in_millionths v
whole-counts v e = widened-where v.present v.number ∙ rw e

decimal-counts : (v : Value) → v.kind ≡ 3 → number_of v ≡ in_millionths v
decimal-counts v e = rw e

pairs : (a b : Value) → View a → View b → Paired a b
unfolding paired
pairs a b (as-uri n₅ n₃ n₄ n₂ m) (as-uri k₅ k₃ k₄ k₂ l) = as-uris n₅ n₃ n₄ n₂ (rw (m, l))
pairs a b (as-uri n₅ n₃ n₄ n₂ m) (as-integer k l) = as-nothing (rw (m, l))
pairs a b (as-uri n₅ n₃ n₄ n₂ m) (as-decimal k l) = as-nothing (rw (m, l))
pairs a b (as-uri n₅ n₃ n₄ n₂ m) (as-date_time k l) = as-nothing (rw (m, l))
pairs a b (as-uri n₅ n₃ n₄ n₂ m) (as-string k l) = as-nothing (rw (m, l))
pairs a b (as-string k m) (as-string j l) = as-strings k (rw (m, l))
pairs a b (as-string k m) (as-uri k₅ k₃ k₄ k₂ l) = as-nothing (rw (m, l))
pairs a b (as-string k m) (as-integer j l) = as-nothing (rw (m, l))
pairs a b (as-string k m) (as-decimal j l) = as-nothing (rw (m, l))
pairs a b (as-string k m) (as-date_time j l) = as-nothing (rw (m, l))
pairs a b (as-integer k m) (as-integer j l) = as-numbers (inr k) (rw (m, l) (ap₂ (λ x y. ok (numbers x y)) (whole-counts a k) (whole-counts b j)))
pairs a b (as-integer k m) (as-decimal j l) = as-numbers (inr k) (rw (m, l) (ap₂ (λ x y. ok (numbers x y)) (whole-counts a k) (decimal-counts b j)))
pairs a b (as-integer k m) (as-uri k₅ k₃ k₄ k₂ l) = as-nothing (rw (m, l))
pairs a b (as-integer k m) (as-string j l) = as-nothing (rw (m, l))
pairs a b (as-integer k m) (as-date_time j l) = as-nothing (rw (m, l))
pairs a b (as-decimal k m) (as-integer j l) = as-numbers (inl k) (rw (m, l) (ap₂ (λ x y. ok (numbers x y)) (decimal-counts a k) (whole-counts b j)))
pairs a b (as-decimal k m) (as-decimal j l) = as-numbers (inl k) (rw (m, l) (ap₂ (λ x y. ok (numbers x y)) (decimal-counts a k) (decimal-counts b j)))
pairs a b (as-decimal k m) (as-uri k₅ k₃ k₄ k₂ l) = as-nothing (rw (m, l))
pairs a b (as-decimal k m) (as-string j l) = as-nothing (rw (m, l))
pairs a b (as-decimal k m) (as-date_time j l) = as-nothing (rw (m, l))
pairs a b (as-date_time k m) (as-date_time j l) = as-date_times k (rw (m, l))
pairs a b (as-date_time k m) (as-uri k₅ k₃ k₄ k₂ l) = as-nothing (rw (m, l))
pairs a b (as-date_time k m) (as-integer j l) = as-nothing (rw (m, l))
pairs a b (as-date_time k m) (as-decimal j l) = as-nothing (rw (m, l))
pairs a b (as-date_time k m) (as-string j l) = as-nothing (rw (m, l))

-- ── a test of the pair ──────────────────────────────────────────────────────────────────────

module _ (test : Pair → Truth) (a b : Value) (r : Truth) where
  tells : (p : Pair) → paired (meaning a) (meaning b) ≡ ok p → r ≡ test p → Tells r (compared test (meaning a) (meaning b))
  unfolding compared ◌>>=◌
  tells p e h t c = h ∙ ok-is (rw e at c)

  no-telling : paired (meaning a) (meaning b) ≡ fault nothing_in_common → Tells r (compared test (meaning a) (meaning b))
  unfolding compared ◌>>=◌
  no-telling e t c = absurd (no-fault (rw e at c))

  uris-told : Paired a b → (a.kind ≡ 5 → ⊥) → (a.kind ≡ 3 → ⊥) → (a.kind ≡ 4 → ⊥) → (a.kind ≡ 2 → ⊥)
      → r ≡ test (uris (unfilled a.text) (unfilled b.text)) → Tells r (compared test (meaning a) (meaning b))
  uris-told (as-uris n₅ n₃ n₄ n₂ e) m₅ m₃ m₄ m₂ h = tells (uris (unfilled a.text) (unfilled b.text)) e h
  uris-told (as-strings k e) m₅ m₃ m₄ m₂ h = absurd (m₂ k)
  uris-told (as-numbers (inl k) e) m₅ m₃ m₄ m₂ h = absurd (m₃ k)
  uris-told (as-numbers (inr k) e) m₅ m₃ m₄ m₂ h = absurd (m₅ k)
  uris-told (as-date_times k e) m₅ m₃ m₄ m₂ h = absurd (m₄ k)
  uris-told (as-nothing e) m₅ m₃ m₄ m₂ h = no-telling e

  strings-told : Paired a b → a.kind ≡ 2 → r ≡ test (strings (tagged_of a) (tagged_of b)) → Tells r (compared test (meaning a) (meaning b))
  strings-told (as-uris n₅ n₃ n₄ n₂ e) k h = absurd (n₂ k)
  strings-told (as-strings j e) k h = tells (strings (tagged_of a) (tagged_of b)) e h
  strings-told (as-numbers (inl j) e) k h = absurd (omega arith)
  strings-told (as-numbers (inr j) e) k h = absurd (omega arith)
  strings-told (as-date_times j e) k h = absurd (omega arith)
  strings-told (as-nothing e) k h = no-telling e

  numbers-told : Paired a b → (a.kind ≡ 3) ⊎ (a.kind ≡ 5) → r ≡ test (numbers (in_millionths a) (in_millionths b)) → Tells r (compared test (meaning a) (meaning b))
  numbers-told (as-uris n₅ n₃ n₄ n₂ e) (inl k) h = absurd (n₃ k)
  numbers-told (as-uris n₅ n₃ n₄ n₂ e) (inr k) h = absurd (n₅ k)
  numbers-told (as-strings j e) (inl k) h = absurd (omega arith)
  numbers-told (as-strings j e) (inr k) h = absurd (omega arith)
  numbers-told (as-numbers j e) k h = tells (numbers (in_millionths a) (in_millionths b)) e h
  numbers-told (as-date_times j e) (inl k) h = absurd (omega arith)
  numbers-told (as-date_times j e) (inr k) h = absurd (omega arith)
  numbers-told (as-nothing e) k h = no-telling e

  date_times-told : Paired a b → a.kind ≡ 4 → r ≡ test (date_times a.number b.number) → Tells r (compared test (meaning a) (meaning b))
  date_times-told (as-uris n₅ n₃ n₄ n₂ e) k h = absurd (n₄ k)
  date_times-told (as-strings j e) k h = absurd (omega arith)
  date_times-told (as-numbers (inl j) e) k h = absurd (omega arith)
  date_times-told (as-numbers (inr j) e) k h = absurd (omega arith)
  date_times-told (as-date_times j e) k h = tells (date_times a.number b.number) e h
  date_times-told (as-nothing e) k h = no-telling e

-- a comparison that holds no value is unknown
present-where : {A : Type 0} (f : A → A → Bool) (p q : Bool) (x y : A) → told_of (p && q) (f x y) ≡ present f (where? p x) (where? q y)
unfolding present
present-where f true true x y = refl
present-where f true false x y = refl
present-where f false q x y = refl

-- ── equal and less ──────────────────────────────────────────────────────────────────────────

module _ (a b : Value) (t : Bool) {r : Truth} where
  -- of two values that may be no value
  module _ (told : r ≡ told_of (a.present && b.present) t) where
    pub equal-strings : a.kind ≡ 2 → t ≡ (same_bytes (unfilled a.tag) (unfilled b.tag) && same_bytes (unfilled a.text) (unfilled b.text))
        → Tells r (compared equal_pair (meaning a) (meaning b))
    unfolding equal_pair same_tagged
    equal-strings k e =
        strings-told equal_pair a b r (pairs a b (view a) (view b)) k
        (told ∙ rw e (present-where same_tagged a.present b.present (string_of a) (string_of b)))

    pub less-strings : (ranks : List ℕ) → a.kind ≡ 2 → t ≡ string_before ranks (string_of a) (string_of b) → Tells r (compared (less_pair ranks) (meaning a) (meaning b))
    unfolding less_pair
    less-strings ranks k e =
        strings-told (less_pair ranks) a b r (pairs a b (view a) (view b)) k
        (told ∙ rw e (present-where (string_before ranks) a.present b.present (string_of a) (string_of b)))

    module _ (k : (a.kind ≡ 3) ⊎ (a.kind ≡ 5)) (x y : ℤ) (cx : Counted a 3 x) (cy : Counted b 3 y) where
      counted-test : (f : ℤ → ℤ → Bool) → t ≡ f (to_z w64 (of_z w64 x)) (to_z w64 (of_z w64 y)) → r ≡ present f (in_millionths a) (in_millionths b)
      counted-test f e =
          told ∙ (ap (told_of (a.present && b.present)) (e ∙ ap₂ f (plain x cx.1 ∙ cx.0) (plain y cy.1 ∙ cy.0))
          ∙ present-where f a.present b.present (counted_in a.kind 3 a.number) (counted_in b.kind 3 b.number))

      pub equal-numbers : t ≡ same_number (to_z w64 (of_z w64 x)) (to_z w64 (of_z w64 y)) → Tells r (compared equal_pair (meaning a) (meaning b))
      unfolding equal_pair
      equal-numbers e = numbers-told equal_pair a b r (pairs a b (view a) (view b)) k (counted-test same_number e)

      pub less-numbers : (ranks : List ℕ) → t ≡ lt_z (to_z w64 (of_z w64 x)) (to_z w64 (of_z w64 y)) → Tells r (compared (less_pair ranks) (meaning a) (meaning b))
      unfolding less_pair
      less-numbers ranks e = numbers-told (less_pair ranks) a b r (pairs a b (view a) (view b)) k (counted-test lt_z e)

  -- of two that are always there
  module _ (told : r ≡ truth_of t) where
    module _ (g : Good a) (h : Good b) (k : a.kind ≡ 4) where
      counted-seconds : (f : ℤ → ℤ → Bool) → t ≡ f (to_z w64 (of_z w64 a.number)) (to_z w64 (of_z w64 b.number)) → r ≡ truth_of (f a.number b.number)
      counted-seconds f e = told ∙ ap truth_of (e ∙ ap₂ f (plain a.number g.number) (plain b.number h.number))

      pub equal-date_times : t ≡ same_number (to_z w64 (of_z w64 a.number)) (to_z w64 (of_z w64 b.number)) → Tells r (compared equal_pair (meaning a) (meaning b))
      unfolding equal_pair
      equal-date_times e = date_times-told equal_pair a b r (pairs a b (view a) (view b)) k (counted-seconds same_number e)

      pub less-date_times : (ranks : List ℕ) → t ≡ lt_z (to_z w64 (of_z w64 a.number)) (to_z w64 (of_z w64 b.number)) → Tells r (compared (less_pair ranks) (meaning a) (meaning b))
      unfolding less_pair
      less-date_times ranks e = date_times-told (less_pair ranks) a b r (pairs a b (view a) (view b)) k (counted-seconds lt_z e)

    module _ (n₅ : a.kind ≡ 5 → ⊥) (n₃ : a.kind ≡ 3 → ⊥) (n₄ : a.kind ≡ 4 → ⊥) (n₂ : a.kind ≡ 2 → ⊥) where
      pub equal-uris : t ≡ same_bytes (unfilled a.text) (unfilled b.text) → Tells r (compared equal_pair (meaning a) (meaning b))
      unfolding equal_pair
      equal-uris e = uris-told equal_pair a b r (pairs a b (view a) (view b)) n₅ n₃ n₄ n₂ (told ∙ ap truth_of e)

      pub less-uris : (ranks : List ℕ) → t ≡ before (λ n. n) (unfilled a.text) (unfilled b.text) → Tells r (compared (less_pair ranks) (meaning a) (meaning b))
      unfolding less_pair
      less-uris ranks e = uris-told (less_pair ranks) a b r (pairs a b (view a) (view b)) n₅ n₃ n₄ n₂ (told ∙ ap truth_of e)
