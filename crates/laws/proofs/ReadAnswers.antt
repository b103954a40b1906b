-- Laws of what the code answers: whether something is there, by the ways that it is made, and the offset after what was read.
use Prim.Native.Nat.{ℕ}
use mathlib.Core.Bool.{Bool, true, false, cond, ◌&&◌}
use mathlib.Core.Option.{Option, none, some}
use mathlib.Core.Path.{◌≡◌, refl, sym, ap, ◌∙◌}
use native.Mathlib.Omega.{arith}
use Rattle.std.specs.declared.option.Option as Answer
use Rattle.std.specs.Prelude.{Some, None}
use Rattle.definitions.specs.Bytes.{Got, provided, onward}
use Rattle.definitions.specs.Reading.{and_then, one_of, two_of, four_of}
use Rattle.laws.specs.Walks.{Loads}
use Rattle.laws.specs.ReadAnswers.{is_some, next_of, Ends}
use Rattle.laws.proofs.Reading.{two-first, two-rest, four-rest}
use Rattle.laws.proofs.Walking.{not_none}

-- ── whether there is something ──────────────────────────────────────────────────────────────

pub onward-is : {A B : Type 0} (o : Option A) (f : A → Option B) (t : Bool) → ((a : A) → is_some (f a) ≡ t) → is_some (onward o f) ≡ (is_some o && t)
unfolding onward
onward-is none f t h = refl
onward-is (some a) f t h = h a

pub provided-is : {A : Type 0} (t : Bool) (a : A) → is_some (provided t (some a)) ≡ t
unfolding provided
provided-is true a = refl
provided-is false a = refl

pub provided-then : {A B : Type 0} (t : Bool) (a : A) (f : A → Option B) → is_some (onward (provided t (some a)) f) ≡ (t && is_some (f a))
unfolding provided onward
provided-then true a f = refl
provided-then false a f = refl

pub cond-is : {A : Type 0} (t : Bool) (x y : Option A) → is_some (cond t x y) ≡ cond t (is_some x) (is_some y)
cond-is true x y = refl
cond-is false x y = refl

pub elim-is : {A : Type 0} (t : Bool) (x y : Option A) → is_some {A = A} (elim t as (λ c. Option A) [ true ↦ x | false ↦ y ]) ≡ cond t (is_some x) (is_some y)
elim-is true x y = refl
elim-is false x y = refl

pub only_if : {A : Type 0} (t : Bool) (o : Option A) → is_some (provided t o) ≡ (t && is_some o)
unfolding provided
only_if true o = refl
only_if false o = refl

-- nothing is there where its presence would be wrong
pub absent : {A : Type 0} (o : Option A) → ((a : A) → o ≡ some a → ⊥) → is_some o ≡ false
absent none h = refl
absent (some a) h = absurd (h a refl)

pub is-some-map : {A B : Type 0} (o : Option A) (f : A → B) → is_some (onward o (λ a. some (f a))) ≡ is_some o
unfolding onward
is-some-map none f = refl
is-some-map (some a) f = refl

pub is-some-both : {A B C : Type 0} (o : Option A) (p : Option B) (f : A → B → C) → is_some (onward o (λ a. onward p (λ b. some (f a b)))) ≡ (is_some o && is_some p)
unfolding onward
is-some-both none p f = refl
is-some-both (some a) p f = is-some-map p (f a)

pub is_none : {A : Type 0} (o : Option A) → is_some o ≡ false → o ≡ none
is_none none e = refl
is_none (some a) e = absurd (let z : ◌≡◌ {A = ℕ} 0 1 = cc in omega arith)

pub is-some : {A : Type 0} (o : Option A) → is_some o ≡ true → (a : A) × (o ≡ some a)
is-some none e = absurd (let z : ◌≡◌ {A = ℕ} 0 1 = cc in omega arith)
is-some (some a) e = (a, refl)

-- ── the offset after what was read ──────────────────────────────────────────────────────────

module _ {A : Type 0} where
  pub next-lost : (o : Got A) → next_of o ≡ None → o ≡ none
  unfolding next_of
  next-lost none e = refl
  next-lost (some r) e = absurd (let z : ◌≡◌ {A = ℕ} 0 1 = cc in omega arith)

  pub next-got : (o : Got A) {n : ℕ} → next_of o ≡ Some n → (a : A) × (o ≡ some (a, n))
  unfolding next_of
  next-got none e = absurd (let z : ◌≡◌ {A = ℕ} 0 1 = cc in omega arith)
  next-got (some r) {n} e = let q : r.1 ≡ n = cc in (r.0, ap (λ m. some (r.0, m)) q)

pub next_map : {A B : Type 0} (o : Got A) (f : A × ℕ → B) → next_of (onward o (λ r. some (f r, r.1))) ≡ next_of o
unfolding next_of onward
next_map none f = refl
next_map (some r) f = refl

-- ── the offset after what is made of parts ──────────────────────────────────────────────────

one_end : {A B : Type 0} (f : A → B) (o : Got A) → next_of (one_of f o) ≡ next_of o
unfolding one_of and_then next_of
one_end f none = refl
one_end f (some p) = refl

module _ {A : Type 0} {g : Got A} where
  pub none-ends : g ≡ none → None ≡ next_of g
  unfolding next_of
  none-ends h = rw h

  pub leaf-ends : {a : A} {n : ℕ} → g ≡ some (a, n) → Some n ≡ next_of g
  unfolding next_of
  leaf-ends h = rw h

  pub one-ends : {B : Type 0} (f : B → A) (o : Got B) {r : Answer.Option ℕ} → g ≡ one_of f o → r ≡ next_of o → r ≡ next_of g
  one-ends f o h e = e ∙ sym (one_end f o) ∙ ap next_of (sym h)

  module _ {B C : Type 0} (f : B → C → A) (p : ℕ → Got B) (q : ℕ → Got C) (at : ℕ) (h : g ≡ two_of f p q at) {o : Answer.Option ℕ} (e : o ≡ next_of (p at)) where
    pub two_ends : {m : ℕ} {r : Answer.Option ℕ} → o ≡ Some m → r ≡ next_of (q m) → r ≡ next_of g
    two_ends {m} n e₂ =
        let a = next-got (p at) (sym e ∙ n) in
        one-ends (f a.0) (q m) (h ∙ two-rest f p q at a.1) e₂

    pub two-fails : o ≡ None → None ≡ next_of g
    two-fails n = none-ends (h ∙ two-first f p q at (next-lost (p at) (sym e ∙ n)))

  -- four children
  module _ {B : Type 0} (f : B → B → B → B → A) (p : ℕ → Got B) (at : ℕ) (h : g ≡ four_of f p at) {o₁ : Answer.Option ℕ} (e₁ : o₁ ≡ next_of (p at)) where
    pub four-fails : o₁ ≡ None → None ≡ next_of g
    unfolding four_of and_then next_of
    four-fails n = rw (h, next-lost (p at) (sym e₁ ∙ n))

    module _ {m₁ : ℕ} (n₁ : o₁ ≡ Some m₁) {o₂ : Answer.Option ℕ} (e₂ : o₂ ≡ next_of (p m₁)) where
      pub four-fails₂ : o₂ ≡ None → None ≡ next_of g
      unfolding four_of and_then next_of
      four-fails₂ n = rw (h, (next-got (p at) (sym e₁ ∙ n₁)).1, next-lost (p m₁) (sym e₂ ∙ n))

      four-two : {m₂ : ℕ} (n₂ : o₂ ≡ Some m₂) → g ≡ two_of (f (next-got (p at) (sym e₁ ∙ n₁)).0 (next-got (p m₁) (sym e₂ ∙ n₂)).0) p p m₂
      four-two {m₂} n₂ = h ∙ four-rest f p at (next-got (p at) (sym e₁ ∙ n₁)).1 (next-got (p m₁) (sym e₂ ∙ n₂)).1

      -- the last two are as two, once the first two are there
      module _ {m₂ : ℕ} (n₂ : o₂ ≡ Some m₂) {o₃ : Answer.Option ℕ} (e₃ : o₃ ≡ next_of (p m₂)) where
        pub four-fails₃ : o₃ ≡ None → None ≡ next_of g
        four-fails₃ n = two-fails _ p p m₂ (four-two n₂) e₃ n

        pub four-ends : {m₃ : ℕ} {r : Answer.Option ℕ} → o₃ ≡ Some m₃ → r ≡ next_of (p m₃) → r ≡ next_of g
        four-ends n₃ e₄ = two_ends _ p p m₂ (four-two n₂) e₃ n₃ e₄

-- ── what loads ──────────────────────────────────────────────────────────────────────────────

module _ {A : Type 0} (o : Got A) {r : Answer.Option ℕ} (e : r ≡ next_of o) where
  pub never-fails : Loads o → r ≡ None → ⊥
  never-fails l m = not_none l (next-lost o (sym e ∙ m))

  pub ends_next : {n : ℕ} → r ≡ Some n → Ends o n
  ends_next m = let g = next-got o (sym e ∙ m) in record { tree = g.0; read = g.1; holds = tt }
