-- Variables bound one after the other.
use Rattle.std.specs.Prelude.{ℕ, ◌+◌, ◌≤◌, Bool, true, false, ◌||◌, List, [], ◌∷◌, ◌≡◌, length, set}
use Rattle.std.proofs.Math.Option.{some}
use Rattle.definitions.specs.Limits.{pair_limit, count_offset, pairs_offset, query_offset}
use Rattle.definitions.specs.Bytes.{byte}
use Rattle.definitions.specs.Tree.{Binder}
use Rattle.definitions.specs.Reading.{binders_at}
use Rattle.laws.specs.Lists.{flag}
use Rattle.scope.specs.declared.scope.Bound.{Bound}

abbrev pub bind_one : ℕ → Bound → Bound
bind_one v b = record { flags = set b.flags v true; twice = b.twice || flag b.flags v }

unfoldable pub bind_all : List ℕ → Bound → Bound
bind_all [] b = b
bind_all (v ∷ vs) b = bind_all vs (bind_one v b)

-- flags, and no variable bound twice
abbrev pub unbound : List Bool → Bound
unbound flags = record { flags = flags; twice = false }

-- a block's pairs read well
pub record PairsAt (s : List ℕ) (at : ℕ) : Type 0 where
  pub room : at + query_offset ≤ length s
  pub pairs : List Binder
  pub read : binders_at pair_limit (byte s (at + count_offset)) s (at + pairs_offset) ≡ some pairs
