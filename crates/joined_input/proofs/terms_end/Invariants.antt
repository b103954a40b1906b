use Prim.Native.Nat.{◌+◌, ◌-◌, ◌≤◌}
use lib.ListN.{length}
use Rattle.definitions.specs.Limits.{text_width, tag_width}
use Rattle.definitions.specs.Terms.{of_term_kind}
use Rattle.definitions.specs.Printer.{term_body, terms_end}
use Rattle.joined_input.proofs.EndLaws.{Ends}
use Rattle.joined_input.proofs.terms_end.Given as goal

abbrev pub invariant-loop-at : goal.invariant-loop-at
invariant-loop-at l = (l.at ≤ length l.s + (tag_width + text_width)) × Ends (λ k. term_body (of_term_kind k)) l.s (terms_end l.s) l.at

abbrev pub decreases-loop-at : goal.decreases-loop-at
decreases-loop-at l = length l.s - l.at
