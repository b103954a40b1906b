-- Numbers as the code has them: of what is known of a variable, a number below 65,536 is its term's, any other says that it is not known.
use Rattle.std.specs.Prelude.{ℕ, ◌≡◌, List, cond, eqb, ltb, get_or}
use Rattle.std.proofs.Math.Option.{Option, none, some}
use Rattle.definitions.specs.Tree.{Name, var, const, Query}
use Rattle.definitions.specs.Evaluate.{Bindings}
use Rattle.laws.specs.Sound.{QueryBounded}
use Rattle.scan.specs.Codes.{sought_code, free_code}
use Rattle.scan.specs.declared.Four.{Four}

abbrev pub number_at : ℕ → Option ℕ
number_at c = cond (ltb c sought_code) (some c) none

unfoldable pub bindings_of : List ℕ → Bindings
bindings_of known = λ x. number_at (get_or known x free_code)

-- the code of a name, where the variable v is sought
unfoldable pub code_of : (known : List ℕ) → (v : ℕ) → Name → ℕ
code_of known v (var w) = cond (eqb w v) sought_code (cond (ltb (get_or known w free_code) sought_code) (get_or known w free_code) free_code)
code_of known v (const c) = c

-- four codes are those of a pattern's names, where the variable v is sought
abbrev pub Coded : (known : List ℕ) → (v : ℕ) → Four → Query → Type 0
Coded known v codes (Query.pattern g s p o) =
    (codes ≡ record { graph = code_of known v g; subject = code_of known v s; property = code_of known v p; object = code_of known v o })
    × QueryBounded sought_code (Query.pattern g s p o)
Coded known v codes (Query.both q r) = ⊥
Coded known v codes (Query.union q r) = ⊥
Coded known v codes (Query.filter c) = ⊥
Coded known v codes Query.empty = ⊥
