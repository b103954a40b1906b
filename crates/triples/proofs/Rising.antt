-- A rising list is told by its members; `risingOnce` is the rising list of any list's members, and `sort` gives it where they are distinct.
use Prim.Native.Nat.{ℕ}
use mathlib.Core.Path.{◌≡◌, refl, ap, sym, ◌∙◌, subst}
use mathlib.Core.List.Memᴰ
use mathlib.Core.List.{List, [], ◌∷◌}
use mathlib.Core.Bool.{true, false, not}
use mathlib.Core.Logic.{◌⊎◌, inl, inr, ⊎_elim}
use lib.Dec.{T, T_not}
use Rattle.definitions.specs.Bytes.{same_bytes}
use Rattle.definitions.specs.Publish.{bytes_before, with_record, rising_once}
use Rattle.laws.specs.Lists.{◌∈◌}
use Rattle.laws.proofs.Tests.{is_false, by-test}
use Rattle.laws.proofs.Equality.{same_bytes_lem, bytes-refl}
use Rattle.triples.specs.Sorting.{insert, sort}
use Rattle.triples.specs.Bytewise.{byte_le}
use Rattle.triples.proofs.Merging.{either, clash, insert-here, insert-on}
use Rattle.triples.proofs.Bytewise.{byte-ordered, le-anti, before-le}

abbrev Record : Type 0
Record = List ℕ

-- strictly before
abbrev pub Before : List ℕ → List ℕ → Type 0
Before x y = (byte_le x y ≡ true) × (byte_le y x ≡ false)

-- each record is strictly before all later ones
abbrev pub Rises : List (List ℕ) → Type 0
Rises [] = Unit
Rises (x ∷ xs) = ((z : List ℕ) → z ∈ xs → Before x z) × Rises xs

-- the same members
abbrev pub Same : {A : Type 0} → List A → List A → Type 0
Same {A} xs ys = ((z : A) → z ∈ xs → z ∈ ys) × ((z : A) → z ∈ ys → z ∈ xs)

pub never-self : {R : Type 0} (x z : List ℕ) → z ≡ x → Before x z → R
never-self x z e b = clash (byte_le x x) (subst (λ w. byte_le x w ≡ true) e b.0) (subst (λ w. byte_le w x ≡ false) e b.1)

-- ── rising lists ────────────────────────────────────────────────────────────────────────────

same_head : (x y : Record) (xs ys : List Record) → Rises (x ∷ xs) → Rises (y ∷ ys) → x ∈ (y ∷ ys) → y ∈ (x ∷ xs) → x ≡ y
same_head x y xs ys r s m n =
    ⊎_elim (λ e. e) (λ m'. ⊎_elim (λ e. sym e) (λ n'. clash (byte_le x y) (r.0 y n').0 (s.0 x m').1) (Memᴰ.cases_cons n)) (Memᴰ.cases_cons m)

same-tail : (x y : Record) (xs ys : List Record) → x ≡ y → Rises (x ∷ xs) → ((z : Record) → z ∈ (x ∷ xs) → z ∈ (y ∷ ys)) → (z : Record) → z ∈ xs → z ∈ ys
same-tail x y xs ys e r f z m =
    ⊎_elim (λ q. never-self x z (q ∙ sym e) (r.0 z m)) (λ n. n) (Memᴰ.cases_cons (f z (Memᴰ.tail m)))

-- two rising lists with the same members are equal
rises-unique : (xs ys : List Record) → Rises xs → Rises ys → Same xs ys → xs ≡ ys
rises-unique [] [] r s m = refl
rises-unique [] (y ∷ ys) r s m = absurd (Memᴰ.not-nil (m.1 y (Memᴰ.head refl)))
rises-unique (x ∷ xs) [] r s m = absurd (Memᴰ.not-nil (m.0 x (Memᴰ.head refl)))
rises-unique (x ∷ xs) (y ∷ ys) r s m =
    let e : x ≡ y = same_head x y xs ys r s (m.0 x (Memᴰ.head refl)) (m.1 y (Memᴰ.head refl)) in
    ap (λ z. z ∷ xs) e ∙ ap (λ l. y ∷ l) (rises-unique xs ys r.1 s.1 (same-tail x y xs ys e r m.0, same-tail y x ys xs (sym e) s m.1))

-- ── a record put in its place ───────────────────────────────────────────────────────────────

module _ (x y : Record) where
  first : T (bytes_before x y) → Before x y
  first t =
      let f : byte_le y x ≡ false = is_false (byte_le y x) (subst T (before-le x y) t) in
      (byte-ordered.total y x f, f)

  later : T (not (bytes_before x y)) → T (not (same_bytes x y)) → Before y x
  later t u =
      let yes : byte_le y x ≡ true = either (byte_le y x) (λ p. p) (λ p. absurd (T_not (bytes_before x y) t (subst T (sym (before-le x y ∙ ap not p)) tt))) in
      (yes, either (byte_le x y) (λ p. absurd (T_not (same_bytes x y) u (subst (λ z. T (same_bytes x z)) (le-anti x y p yes) (bytes-refl x)))) (λ p. p))

  with_cases : (P : List Record → Type 0) (ys : List Record) → (Before x y → P (x ∷ (y ∷ ys))) → (x ≡ y → P (y ∷ ys)) → (Before y x → P (y ∷ with_record x ys))
      → P (with_record x (y ∷ ys))
  unfolding with_record
  with_cases P ys f g h =
      by-test P (bytes_before x y) (x ∷ (y ∷ ys)) _ (λ t. f (first t))
      (λ t. by-test P (same_bytes x y) (y ∷ ys) (y ∷ with_record x ys) (λ u. g (same_bytes_lem x y u)) (λ u. h (later t u)))

with-from : (x z : Record) (l : List Record) → z ∈ with_record x l → (z ≡ x) ⊎ (z ∈ l)
with-from x z [] = unfold with_record in λ m. Memᴰ.cases_cons m
with-from x z (y ∷ ys) =
    with_cases x y (λ l. z ∈ l → (z ≡ x) ⊎ (z ∈ (y ∷ ys))) ys (λ b m. Memᴰ.cases_cons m) (λ e m. inr m)
    (λ b m. ⊎_elim (λ e. inr (Memᴰ.head e)) (λ n. ⊎_elim (λ e. inl e) (λ k. inr (Memᴰ.tail k)) (with-from x z ys n)) (Memᴰ.cases_cons m))

with-new : (x : Record) (l : List Record) → x ∈ with_record x l
with-new x [] = unfold with_record in Memᴰ.head refl
with-new x (y ∷ ys) = with_cases x y (λ l. x ∈ l) ys (λ b. Memᴰ.head refl) (λ e. Memᴰ.head e) (λ b. Memᴰ.tail (with-new x ys))

with-old : (x z : Record) (l : List Record) → z ∈ l → z ∈ with_record x l
with-old x z [] m = absurd (Memᴰ.not-nil m)
with-old x z (y ∷ ys) m =
    with_cases x y (λ l. z ∈ l) ys (λ b. Memᴰ.tail m) (λ e. m)
    (λ b. ⊎_elim (λ e. Memᴰ.head e) (λ n. Memᴰ.tail (with-old x z ys n)) (Memᴰ.cases_cons m))

before-chain : (x y z : Record) → Before x y → Before y z → Before x z
before-chain x y z p q =
    (byte-ordered.chain x y z p.0 q.0, either (byte_le z x) (λ h. clash (byte_le y x) (byte-ordered.chain y z x q.0 h) p.1) (λ h. h))

with-rises : (x : Record) (l : List Record) → Rises l → Rises (with_record x l)
with-rises x [] r = unfold with_record in ((λ z m. absurd (Memᴰ.not-nil m)), tt)
with-rises x (y ∷ ys) r =
    with_cases x y Rises ys
    (λ b. ((λ z m. ⊎_elim (λ e. subst (Before x) (sym e) b) (λ n. before-chain x y z b (r.0 z n)) (Memᴰ.cases_cons m)), r))
    (λ e. r)
    (λ b. ((λ z m. ⊎_elim (λ e. subst (Before y) (sym e) b) (λ n. r.0 z n) (with-from x z ys m)), with-rises x ys r.1))

-- ── the rising list of a list's members ─────────────────────────────────────────────────────

pub rising-rises : (xs : List (List ℕ)) → Rises (rising_once xs)
unfolding rising_once
rising-rises [] = tt
rising-rises (x ∷ xs) = with-rises x (rising_once xs) (rising-rises xs)

pub rising-from : (xs : List (List ℕ)) (z : List ℕ) → z ∈ rising_once xs → z ∈ xs
unfolding rising_once
rising-from [] z m = m
rising-from (x ∷ xs) z m = ⊎_elim (λ e. Memᴰ.head e) (λ n. Memᴰ.tail (rising-from xs z n)) (with-from x z (rising_once xs) m)

pub rising-to : (xs : List (List ℕ)) (z : List ℕ) → z ∈ xs → z ∈ rising_once xs
unfolding rising_once
rising-to [] z m = m
rising-to (x ∷ xs) z m =
    ⊎_elim (λ e. Memᴰ.cast e (with-new x (rising_once xs))) (λ n. with-old x z (rising_once xs) (rising-to xs z n)) (Memᴰ.cases_cons m)

-- two lists with the same members have the same rising list
pub rising-same : (xs ys : List (List ℕ)) → Same xs ys → rising_once xs ≡ rising_once ys
rising-same xs ys m =
    rises-unique (rising_once xs) (rising_once ys) (rising-rises xs) (rising-rises ys)
    ((λ z n. rising-to ys z (m.0 z (rising-from xs z n))), (λ z n. rising-to xs z (m.1 z (rising-from ys z n))))

-- no record occurs again
abbrev pub Apart : List (List ℕ) → Type 0
Apart [] = Unit
Apart (x ∷ xs) = (x ∈ xs → ⊥) × Apart xs

with-is : (x : Record) (l : List Record) → (x ∈ l → ⊥) → with_record x l ≡ insert byte_le x l
with-is x [] h = unfold with_record insert in refl
with-is x (y ∷ ys) h =
    with_cases x y (λ l. l ≡ insert byte_le x (y ∷ ys)) ys
    (λ b. sym (insert-here byte_le x y ys b.0))
    (λ e. absurd (h (Memᴰ.head e)))
    (λ b. ap (λ l. y ∷ l) (with-is x ys (λ m. h (Memᴰ.tail m))) ∙ sym (insert-on byte_le x y ys b.1))

-- of distinct records the sorted list is the rising one
pub sort-rising : (xs : List (List ℕ)) → Apart xs → sort byte_le xs ≡ rising_once xs
unfolding sort rising_once
sort-rising [] d = refl
sort-rising (x ∷ xs) d = ap (insert byte_le x) (sort-rising xs d.1) ∙ sym (with-is x (rising_once xs) (λ m. d.0 (rising-from xs x m)))
