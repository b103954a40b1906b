-- Laws of walks whose answer is a relation: P holds of the tree that is read.
use Prim.Native.Nat.{ℕ}
use mathlib.Core.Option.{some}
use mathlib.Core.Path.{◌≡◌, sym, ap, subst, ◌∙◌}
use Rattle.definitions.specs.Bytes.{Got}
use Rattle.definitions.specs.Reading.{one_of, two_of, four_of, and_then}
use Rattle.laws.proofs.Reading.{one-some, two-rest, four-rest, two-inv, then-inv, same_read}
use Rattle.laws.specs.Walks.{Loads}
use Rattle.laws.specs.Walks.{Walked}

module _ {A : Type 0} {g : Got A} {P : A → Type 0} where
  pub leaf_walked : {a : A} {n : ℕ} → g ≡ some (a, n) → P a → Walked P g n
  leaf_walked {a} e h = record { tree = a; read = e; holds = h }

  pub walked_more : {Q : A → Type 0} {n : ℕ} → Walked P g n → ((a : A) → P a → Q a) → Walked Q g n
  walked_more x f = record { tree = x.tree; read = x.read; holds = f x.tree x.holds }

module _ {A B : Type 0} {g : Got B} (k : A → B) (o : Got A) (h : g ≡ one_of k o) where
  pub one-walked : {P : A → Type 0} {Q : B → Type 0} {n : ℕ} → Walked P o n → ((a : A) → P a → Q (k a)) → Walked Q g n
  one-walked x f = record { tree = k x.tree; read = h ∙ one-some k x.read; holds = f x.tree x.holds }

module _ {A B C : Type 0} {g : Got C} (k : A → B → C) (p : ℕ → Got A) (q : ℕ → Got B) (at : ℕ) (h : g ≡ two_of k p q at)
    {P : A → Type 0} {m : ℕ} (x : Walked P (p at) m) where
  pub second_walks : Loads g → Loads (q m)
  second_walks l =
      let i = two-inv k p q at (sym h ∙ l.2) in
      (i.2, l.1, ap q (same_read x.read i.3).1 ∙ i.4)

  pub two-walked : {Q : B → Type 0} {R : C → Type 0} {n : ℕ} → Walked Q (q m) n → ((a : A) (b : B) → P a → Q b → R (k a b)) → Walked R g n
  two-walked y f = record {
    tree = k x.tree y.tree;
    read = h ∙ two-rest k p q at x.read ∙ one-some (k x.tree) y.read;
    holds = f x.tree y.tree x.holds y.holds;
  }

-- four children: the last two are as two, once the first two are there
module _ {A B : Type 0} {g : Got B} (k : A → A → A → A → B) (p : ℕ → Got A) (at : ℕ) (h : g ≡ four_of k p at) where
  pub four-first : Loads g → Loads (p at)
  unfolding four_of
  four-first l = let i = then-inv (p at) (λ a n. and_then (p n) (λ b m. two_of (k a b) p p m)) (sym h ∙ l.2) in (i.0, i.1, i.2)

  module _ {P₁ : A → Type 0} {m₁ : ℕ} (x₁ : Walked P₁ (p at) m₁) where
    pub four-second : Loads g → Loads (p m₁)
    unfolding four_of
    four-second l =
        let i = then-inv (p at) (λ a n. and_then (p n) (λ b m. two_of (k a b) p p m)) (sym h ∙ l.2) in
        let j = then-inv (p i.1) (λ b m. two_of (k i.0 b) p p m) i.3 in
        (j.0, j.1, ap p (same_read x₁.read i.2).1 ∙ j.2)

    module _ {P₂ : A → Type 0} {m₂ : ℕ} (x₂ : Walked P₂ (p m₁) m₂) where
      pub four-two : g ≡ two_of (k x₁.tree x₂.tree) p p m₂
      four-two = h ∙ four-rest k p at x₁.read x₂.read

      pub four-walked : {P₃ P₄ : A → Type 0} {Q : B → Type 0} {m₃ n : ℕ} → Walked P₃ (p m₂) m₃ → Walked P₄ (p m₃) n
          → ((a b c d : A) → P₁ a → P₂ b → P₃ c → P₄ d → Q (k a b c d)) → Walked Q g n
      four-walked x₃ x₄ f =
          two-walked (k x₁.tree x₂.tree) p p m₂ four-two x₃ x₄ (λ c d y z. f x₁.tree x₂.tree c d x₁.holds x₂.holds y z)

-- two walks of the same bytes
pub both-walked : {A : Type 0} {g : Got A} {P Q : A → Type 0} {m n : ℕ} → Walked P g m → Walked Q g n → Walked (λ a. P a × Q a) g m
both-walked {A} {g} {P} {Q} x y = record { tree = x.tree; read = x.read; holds = (x.holds, subst Q (same_read y.read x.read).0 y.holds) }

-- the same bytes, read in two ways
module _ {A : Type 0} {g o : Got A} (h : g ≡ o) where
  pub loads-as : Loads g → Loads o
  loads-as l = (l.0, l.1, sym h ∙ l.2)

  pub walked_as : {P : A → Type 0} {n : ℕ} → Walked P o n → Walked P g n
  walked_as x = record { tree = x.tree; read = h ∙ x.read; holds = x.holds }
