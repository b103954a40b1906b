use mathlib.Core.Path.{◌≡◌}
use Prim.Native.Nat.{◌-◌}
use lib.ListN.{length}
use Rattle.query.specs.Codes.{bindings_of}
use Rattle.search.specs.Finding.{clear, numbers_from}
use Rattle.search.proofs.answer.cleared.Given as goal

abbrev pub invariant-loop-v : goal.invariant-loop-v
invariant-loop-v l =
    (clear (numbers_from l.fn.block.size l.fn.block.vars 0) (bindings_of l.initial.opened)
    ≡ clear (numbers_from (l.fn.block.size - l.v-index) l.fn.block.vars l.v-index) (bindings_of l.opened)) × (length l.opened ≡ 16)
