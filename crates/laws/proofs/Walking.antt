-- There is something to read: where a node loads, so does its only child, or its first.
use Prim.Native.Nat.{ℕ}
use mathlib.Core.Option.{none}
use mathlib.Core.Path.{◌≡◌, sym, ◌∙◌}
use Rattle.definitions.specs.Bytes.{Got}
use Rattle.definitions.specs.Reading.{one_of, two_of}
use Rattle.laws.proofs.Options.{some-not-none}
use Rattle.laws.proofs.Reading.{one-inv, two-inv}
use Rattle.laws.specs.Walks.{Loads}

pub not_none : {A : Type 0} {o : Got A} → Loads o → o ≡ none → ⊥
not_none l e = some-not-none l.2 e

module _ {A B : Type 0} {g : Got B} (k : A → B) (o : Got A) (h : g ≡ one_of k o) where
  pub only-loads : Loads g → Loads o
  only-loads l = let i = one-inv k o (sym h ∙ l.2) in (i.0, l.1, i.1)

module _ {A B C : Type 0} {g : Got C} (k : A → B → C) (p : ℕ → Got A) (q : ℕ → Got B) (at : ℕ) (h : g ≡ two_of k p q at) where
  pub first-loads : Loads g → Loads (p at)
  first-loads l = let i = two-inv k p q at (sym h ∙ l.2) in (i.0, i.1, i.3)
