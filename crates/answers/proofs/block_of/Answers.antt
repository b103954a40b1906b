use Prim.Native.Nat.{ℕ, ◌<◌}
use mathlib.Core.Path.{sym, subst}
use mathlib.Core.List.{List}
use lib.ListN.{get_or}
use Rattle.answers.proofs.AnswerLaws.{block_made}
use Rattle.answers.proofs.block_of.Goals as goal

pub types_of-requires : goal.types_of-requires
types_of-requires c = subst (λ (l : List ℕ). (k : ℕ) → get_or l k 0 < 16) (sym c.pair_numbers-vars.ensures) c.requires.by_index

pub returns : goal.returns
returns c =
    block_made c.args.script.now c.args.at c.args.reported c.args.used _ c.index.ensures _ c.pair_numbers-vars.ensures _ c.types_of.ensures _
    c.wide_numbers.ensures
