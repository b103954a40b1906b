-- A line by what trying a tuple gives is that of the definition.
use Prim.Native.Nat.{ℕ}
use mathlib.Core.Path.{◌≡◌, refl, sym, ap, ap₂, ◌∙◌}
use mathlib.Core.List.{List, ◌++◌}
use mathlib.Core.Bool.{Bool, true, false}
use Rattle.std.specs.Prelude.{Option as Maybe, None, Some, is_some, IfSome}
use Rattle.definitions.specs.Ascii.{ascii}
use Rattle.definitions.specs.Outcome.{Outcome, ok}
use Rattle.definitions.specs.Values.{natural_text}
use Rattle.definitions.specs.Printer.{line}
use Rattle.search.specs.declared.Tried.{Tried}
use Rattle.tuples.specs.Asking.{outcome_text}
use Rattle.tuple_lines.specs.TriedLine.{truth_text, tried_line}

outcome-text : (b : Bool) → truth_text b ≡ outcome_text (ok b)
outcome-text true = refl
outcome-text false = refl

abbrev line_by : Bool → Outcome Bool → ℕ → List ℕ
line_by fits o n = elim fits [ true ↦ line (outcome_text o ++ natural_text n) | false ↦ line (ascii "bad") ]

pub line-is : (r : Maybe Tried) (fits : Bool) (o : Outcome Bool) (n : ℕ) → is_some r ≡ fits → IfSome r (λ t. (o ≡ ok t.holds) × (t.records ≡ n))
    → tried_line r ≡ line_by fits o n
unfolding tried_line
line-is None fits o n e h = ap (λ (b : Bool). line_by b o n) e
line-is (Some t) fits o n e h =
    ap₂ (λ (t : List ℕ) (m : ℕ). line (t ++ natural_text m)) (outcome-text t.holds ∙ ap outcome_text (sym h.0)) h.1 ∙ ap (λ (b : Bool). line_by b o n) e
