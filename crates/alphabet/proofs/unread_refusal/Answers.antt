-- By whether the ranks are an alphabet.
use mathlib.Core.Path.{refl, sym, ◌∙◌}
use Rattle.alphabet.proofs.unread_refusal.Goals as goal

pub returns-then-is_alphabet : goal.returns-then-is_alphabet
returns-then-is_alphabet c = rw (sym c.is_alphabet.ensures ∙ c.if-is_alphabet.true) refl

pub returns : goal.returns
returns c = rw (sym c.is_alphabet.ensures ∙ c.if-is_alphabet.false) refl
