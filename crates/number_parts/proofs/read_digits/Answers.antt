-- By how many there are.
use native.Mathlib.Omega.{arith}
use mathlib.Core.Path.{ap, ◌∙◌}
use mathlib.Core.Logic.{⊎_elim}
use lib.ListN.{length}
use Rattle.std.specs.Char.{is_ascii_digit}
use Rattle.std.specs.List.{take_while}
use Rattle.number_parts.proofs.PartLaws.{rest-is, none-there, no-digits, many-digits, some-digits}
use Rattle.number_parts.proofs.read_digits.Goals.{then-count-eq0-via-then-count-eq0, then-count-eq0-via-else-count-eq0+then-most-count}
use Rattle.number_parts.proofs.read_digits.Goals as goal

pub returns-in_err-get : goal.returns-in_err-get
returns-in_err-get c =
    c.from_residual.ensures ∙ none-there _ _ _ (⊎_elim (λ l. l) (λ l. absurd (omega arith)) c.in_err-get.ensures.lookup.0)

pub returns-then-count-eq0 : goal.returns-then-count-eq0
returns-then-count-eq0 c =
    let e = c.count_digits-count.ensures ∙ ap (λ s. length (take_while is_ascii_digit s)) (c.in_ok-get.ensures.lookup.0.2 ∙ rest-is c.args.s.now c.args.at) in
    elim c.then-count-eq0.branch [
      | then-count-eq0-via-then-count-eq0 w ↦ no-digits _ _ _ _ e w.if-count-eq0.true
      | then-count-eq0-via-else-count-eq0+then-most-count w ↦ many-digits _ _ _ _ e w.if-count-eq0.false w.if-most-count.true
    ]

pub returns : goal.returns
returns c =
    let e = c.count_digits-count.ensures ∙ ap (λ s. length (take_while is_ascii_digit s)) (c.in_ok-get.ensures.lookup.0.2 ∙ rest-is c.args.s.now c.args.at) in
    some-digits _ _ _ _ e c.if-count-eq0.false c.if-most-count.false
