-- What is suggested is the lowest: no type of a lower code does, and none at a lower variable.
use Prim.Native.Nat.{ℕ, ◌<◌}
use native.Mathlib.Omega.{arith}
use mathlib.Core.Path.{◌≡◌, refl, sym, ap, subst, ◌∙◌}
use mathlib.Core.Logic.{◌⊎◌, ⊎_elim}
use mathlib.Core.List.{List, [], ◌∷◌}
use mathlib.Core.Bool.{Bool, true, false, ◌&&◌, ◌||◌}
use mathlib.Core.Option.{Option, none, some}
use lib.Dec.{T, eqb, ltb, eqb→eq, ltb→lt}
use lib.ListN.{get_or}
use borrow.Author.Tests.{eq-eqb}
use Rattle.definitions.specs.Lists.{every, some?, find, is_in}
use Rattle.definitions.specs.Types.{Ty, type_code, same_type, all_types}
use Rattle.definitions.specs.Typing.{Written, unbound, is_open}
use Rattle.definitions.specs.Suggest.{Suggestion, lowest_type, lowest_in}
use Rattle.laws.proofs.Tests.{and_left, and_right, or_cases, or_left, or_right, true_is, not_both, false_is}
use Rattle.laws.proofs.Order.{by_type, same-type}
use Rattle.laws.proofs.Options.{some_is, some-not-none}

-- ── the first of a list whose keys rise ─────────────────────────────────────────────────────

module _ {A : Type 0} (key : A → ℕ) (p : A → Bool) where
  abbrev rising : List A → Bool
  rising [] = true
  rising (a ∷ xs) = every (λ b. ltb (key a) (key b)) xs && rising xs

  abbrev among : A → List A → Bool
  among b xs = some? (λ a. eqb (key b) (key a)) xs

  find-passes : (xs : List A) {a : A} → find p xs ≡ some a → T (p a)
  unfolding find
  find-passes [] e = absurd (some-not-none e refl)
  find-passes (b ∷ xs) {a} e = go (p b) refl (find-passes xs) e
    where
      go : (t : Bool) → p b ≡ t → (find p xs ≡ some a → T (p a)) → (elim t as (λ c. Option A) [ true ↦ some b | false ↦ find p xs ]) ≡ some a → T (p a)
      go true q later e = subst (λ (c : A). T (p c)) (some_is e) (true_is (p b) q)
      go false q later e = later e

  module _ (apart : (a b : A) → T (eqb (key a) (key b)) → a ≡ b) where
    find-lowest : (xs : List A) → T (rising xs) → (a : A) → find p xs ≡ some a → (b : A) → T (among b xs) → key b < key a → T (p b) → ⊥
    unfolding find
    find-lowest [] r a e b m l h = m
    find-lowest (c ∷ xs) r a e b m l h = go (p c) refl (find-lowest xs (and_right above (rising xs) r)) e
      where
        above : Bool
        above = every (λ b. ltb (key c) (key b)) xs

        later-above : (bs : List A) → T (every (λ b. ltb (key c) (key b)) bs) → T (among b bs) → key c < key b
        later-above [] t k = absurd k
        later-above (d ∷ bs) t k =
            ⊎_elim (λ q. subst (λ (n : ℕ). key c < n) (sym (eqb→eq (key b) (key d) q)) (ltb→lt (key c) (key d) (and_left (ltb (key c) (key d)) _ t)))
            (later-above bs (and_right (ltb (key c) (key d)) (every (λ b. ltb (key c) (key b)) bs) t))
            (or_cases (eqb (key b) (key d)) (among b bs) k)

        go : (t : Bool) → p c ≡ t → ((a : A) → find p xs ≡ some a → (b : A) → T (among b xs) → key b < key a → T (p b) → ⊥)
            → (elim t as (λ c. Option A) [ true ↦ some c | false ↦ find p xs ]) ≡ some a → ⊥
        go true q later e =
            let same : key c ≡ key a = ap key (some_is e) in
            ⊎_elim (λ k. omega (arith, eqb→eq (key b) (key c) k, same, l))
            (λ k. omega (arith, later-above xs (and_left above (rising xs) r) k, same, l))
            (or_cases (eqb (key b) (key c)) (among b xs) m)
        go false q later e =
            ⊎_elim (λ k. not_both (p c) (subst (λ (d : A). T (p d)) (apart b c k) h) (false_is (p c) q)) (λ k. later a e b k l h)
            (or_cases (eqb (key b) (key c)) (among b xs) m)

    find-nothing : (xs : List A) → find p xs ≡ none → (b : A) → T (among b xs) → T (p b) → ⊥
    unfolding find
    find-nothing [] e b m h = m
    find-nothing (c ∷ xs) e b m h = go (p c) refl (find-nothing xs) e
      where
        go : (t : Bool) → p c ≡ t → (find p xs ≡ none → (b : A) → T (among b xs) → T (p b) → ⊥)
            → ◌≡◌ {A = Option A} (elim t as (λ c. Option A) [ true ↦ some c | false ↦ find p xs ]) none → ⊥
        go true q later e = some-not-none refl e
        go false q later e =
            ⊎_elim (λ k. not_both (p c) (subst (λ (d : A). T (p d)) (apart b c k) h) (false_is (p c) q)) (λ k. later e b k h)
            (or_cases (eqb (key b) (key c)) (among b xs) m)

-- ── the lowest type at a variable ───────────────────────────────────────────────────────────

every-type : (τ : Ty) → T (some? (same_type τ) all_types)
every-type = by_type (λ τ. some? (same_type τ) all_types) tt

module _ (ws : List Written) (does : ℕ → Ty → Bool) where
  record LowestAt (x : ℕ) (τ : Ty) : Type 0 where
    undecided : T (is_open (get_or ws x unbound))
    passes : T (does x τ)
    lower : (σ : Ty) → type_code σ < type_code τ → T (does x σ) → ⊥

  type-found : (x : ℕ) (τ : Ty) → lowest_type ws does x ≡ some τ → LowestAt x τ
  unfolding lowest_type
  type-found x τ e = go (is_open (get_or ws x unbound)) refl e
    where
      go : (t : Bool) → is_open (get_or ws x unbound) ≡ t → (elim t as (λ c. Option Ty) [ true ↦ find (does x) all_types | false ↦ none ]) ≡ some τ → LowestAt x τ
      go true q e = record {
        undecided = true_is (is_open (get_or ws x unbound)) q;
        passes = find-passes type_code (does x) all_types e;
        lower = λ σ l. find-lowest type_code (does x) same-type all_types tt τ e σ (every-type σ) l;
      }
      go false q e = absurd (some-not-none e refl)

  type-nothing : (x : ℕ) → lowest_type ws does x ≡ none → T (is_open (get_or ws x unbound)) → (σ : Ty) → T (does x σ) → ⊥
  unfolding lowest_type
  type-nothing x e o σ h = go (is_open (get_or ws x unbound)) refl e
    where
      go : (t : Bool) → is_open (get_or ws x unbound) ≡ t → ◌≡◌ {A = Option Ty} (elim t as (λ c. Option Ty) [ true ↦ find (does x) all_types | false ↦ none ]) none → ⊥
      go true q e = find-nothing type_code (does x) same-type all_types e σ (every-type σ) h
      go false q e = not_both (is_open (get_or ws x unbound)) o (false_is (is_open (get_or ws x unbound)) q)

  -- ── the lowest variable ───────────────────────────────────────────────────────────────────

  pub record LowestOf (xs : List ℕ) (w : Suggestion) : Type 0 where
    pub among-them : T (is_in w.variable xs)
    pub undecided : T (is_open (get_or ws w.variable unbound))
    pub passes : T (does w.variable w.type)
    pub lower : (y : ℕ) (σ : Ty) → T (is_in y xs) → T (is_open (get_or ws y unbound))
        → (y < w.variable) ⊎ ((y ≡ w.variable) × (type_code σ < type_code w.type)) → T (does y σ) → ⊥

  abbrev rising_numbers : List ℕ → Bool
  rising_numbers [] = true
  rising_numbers (x ∷ xs) = every (ltb x) xs && rising_numbers xs

  above-all : (x y : ℕ) (xs : List ℕ) → T (every (ltb x) xs) → T (is_in y xs) → x < y
  above-all x y [] t m = absurd m
  above-all x y (z ∷ xs) t m =
      ⊎_elim (λ q. subst (λ (n : ℕ). x < n) (sym (eqb→eq y z q)) (ltb→lt x z (and_left (ltb x z) (every (ltb x) xs) t)))
      (above-all x y xs (and_right (ltb x z) (every (ltb x) xs) t)) (or_cases (eqb y z) (is_in y xs) m)

  pub lowest-of : (xs : List ℕ) → T (rising_numbers xs) → (w : Suggestion) → lowest_in ws does xs ≡ some w → LowestOf xs w
  unfolding lowest_in
  lowest-of [] r w e = absurd (some-not-none e refl)
  lowest-of (x ∷ xs) r w e = go (lowest_type ws does x) refl (lowest-of xs (and_right (every (ltb x) xs) (rising_numbers xs) r)) e
    where
      first : T (every (ltb x) xs)
      first = and_left (every (ltb x) xs) (rising_numbers xs) r

      here : (τ : Ty) → LowestAt x τ → LowestOf (x ∷ xs) (record { variable = x; type = τ })
      here τ h = record {
        among-them = or_left (eqb x x) (is_in x xs) (true_is (eqb x x) (eq-eqb x x refl));
        undecided = h.undecided;
        passes = h.passes;
        lower = λ y σ m o b k. ⊎_elim
            (λ l. ⊎_elim (λ q. omega (arith, eqb→eq y x q, l)) (λ q. omega (arith, above-all x y xs first q, l)) (or_cases (eqb y x) (is_in y xs) m))
            (λ q. h.lower σ q.1 (subst (λ (n : ℕ). T (does n σ)) q.0 k)) b;
      }

      go : (o : Option Ty) → lowest_type ws does x ≡ o → ((w : Suggestion) → lowest_in ws does xs ≡ some w → LowestOf xs w)
          → (elim o as (λ c. Option Suggestion) [ none ↦ lowest_in ws does xs | some τ ↦ some (record { variable = x; type = τ }) ]) ≡ some w → LowestOf (x ∷ xs) w
      go (some τ) q later e = subst (LowestOf (x ∷ xs)) (some_is e) (here τ (type-found x τ q))
      go none q later e =
          let h = later w e in
          record {
            among-them = or_right (eqb w.variable x) (is_in w.variable xs) h.among-them;
            undecided = h.undecided;
            passes = h.passes;
            lower = λ y σ m o b k. ⊎_elim
                (λ n. type-nothing x q (subst (λ (n : ℕ). T (is_open (get_or ws n unbound))) (eqb→eq y x n) o) σ (subst (λ (n : ℕ). T (does n σ)) (eqb→eq y x n) k))
                (λ n. h.lower y σ n o b k) (or_cases (eqb y x) (is_in y xs) m);
          }

  pub lowest-nothing : (xs : List ℕ) → lowest_in ws does xs ≡ none → (y : ℕ) (σ : Ty) → T (is_in y xs) → T (is_open (get_or ws y unbound)) → T (does y σ) → ⊥
  unfolding lowest_in
  lowest-nothing [] e y σ m o k = m
  lowest-nothing (x ∷ xs) e y σ m o k = go (lowest_type ws does x) refl (lowest-nothing xs) e
    where
      go : (t : Option Ty) → lowest_type ws does x ≡ t
          → (lowest_in ws does xs ≡ none → (y : ℕ) (σ : Ty) → T (is_in y xs) → T (is_open (get_or ws y unbound)) → T (does y σ) → ⊥)
          → ◌≡◌ {A = Option Suggestion} (elim t as (λ c. Option Suggestion) [ none ↦ lowest_in ws does xs | some τ ↦ some (record { variable = x; type = τ }) ]) none → ⊥
      go (some τ) q later e = some-not-none refl e
      go none q later e =
          ⊎_elim
          (λ n. type-nothing x q (subst (λ (n : ℕ). T (is_open (get_or ws n unbound))) (eqb→eq y x n) o) σ (subst (λ (n : ℕ). T (does n σ)) (eqb→eq y x n) k))
          (λ n. later e y σ n o k) (or_cases (eqb y x) (is_in y xs) m)
