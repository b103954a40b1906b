-- A line by what trying a tuple gives, and that of a refusal.
use Rattle.definitions.specs.Numbers.{refusal_number}
use Rattle.definitions.specs.declared.Refusal.{Refusal}
use Prim.Native.Nat.{ℕ}
use mathlib.Core.Path.{◌≡◌, refl, sym, ap}
use mathlib.Core.List.{[], ◌∷◌, ◌++◌}
use mathlib.Core.Bool.{Bool}
use Rattle.std.specs.Prelude.{Option as Maybe, None, Some}
use Rattle.definitions.specs.Ascii.{ascii}
use Rattle.definitions.specs.Values.{natural_text}
use Rattle.definitions.specs.Printer.{line}
use Rattle.search.specs.declared.Tried.{Tried}
use Rattle.tuple_lines.specs.TriedLine.{truth_text, tried_line}

pub truth-text : (b c : Bool) → b ≡ c → truth_text c ≡ truth_text b
truth-text b c e = ap truth_text (sym e)

pub bad-line : (r : Maybe Tried) → r ≡ None → line (ascii "bad") ≡ tried_line r
unfolding tried_line
bad-line r e = sym (ap tried_line e)

pub good-line : (r : Maybe Tried) (t : Tried) → r ≡ Some t → (truth_text t.holds ++ natural_text t.records) ++ (0x0A ∷ []) ≡ tried_line r
unfolding tried_line line
good-line r t e = sym (ap tried_line e)

pub refused-line : {n : ℕ} (r : Refusal) → n ≡ refusal_number r → (ascii "refused " ++ natural_text n) ++ (0x0A ∷ []) ≡ line (ascii "refused " ++ natural_text (refusal_number r))
unfolding line
refused-line r e = ap (λ (n : ℕ). (ascii "refused " ++ natural_text n) ++ (0x0A ∷ [])) e
