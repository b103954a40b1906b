-- Walks over what is read from bytes: that there is something to read, and what a walk answers of it.
use Rattle.std.specs.Prelude.{ℕ, ◌≡◌}
use Rattle.std.proofs.Math.Option.{some}
use Rattle.definitions.specs.Bytes.{Got}

-- there is something to read
abbrev pub Loads : {A : Type 0} → Got A → Type 0
Loads {A} o = (a : A) × (n : ℕ) × (o ≡ some (a, n))

-- n is the offset after the tree
pub record Walked {A : Type 0} (P : A → Type 0) (o : Got A) (n : ℕ) : Type 0 where
  pub tree : A
  pub read : o ≡ some (tree, n)
  pub holds : P tree
