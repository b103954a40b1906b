-- The written types that a script's pairs say, by their codes: a byte for each variable, as `written` has them.
use Rattle.std.specs.Prelude.{ℕ, zero, suc, ◌+◌, List, [], ◌∷◌, cond, eqb, get_or, set}
use Rattle.std.proofs.Math.Option.{Option, none, some}
use Rattle.definitions.specs.Bytes.{byte}
use Rattle.definitions.specs.Types.{Ty, type_code}
use Rattle.definitions.specs.Tree.{Binder}
use Rattle.facts.specs.Codes.{unbound_code}

-- the byte of a pair's written type
abbrev pub written_code : Option Ty → ℕ
written_code none = 0
written_code (some τ) = type_code τ

-- what stands already, or else what a pair says
unfoldable pub earlier : (here said : ℕ) → ℕ
earlier here said = cond (eqb here unbound_code) said here

-- a variable's first pair says its type
unfoldable pub pair_noted : (variable code : ℕ) → List ℕ → List ℕ
pair_noted v k codes = set codes v (earlier (get_or codes v 0) k)

-- so many pairs from an offset on
unfoldable pub pairs_noted : (count : ℕ) → List ℕ → ℕ → List ℕ → List ℕ
pairs_noted zero s at codes = codes
pairs_noted (suc count) s at codes = pairs_noted count s (at + 2) (pair_noted (byte s at) (byte s (at + 1)) codes)

-- pairs that were read
unfoldable pub binders_noted : List Binder → List ℕ → List ℕ
binders_noted [] codes = codes
binders_noted (b ∷ bs) codes = binders_noted bs (pair_noted b.variable (written_code b.written) codes)
