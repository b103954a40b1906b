-- `search::answer::cleared` meets its contract. The loop's invariant: the variables from j on are still to clear. Assumes nothing.
use Prim.Native.Nat.{◌<◌}
use native.Mathlib.Omega.{arith}
use borrow.Author.Rules.{rules}
use mathlib.Core.Path.{◌≡◌}
use lib.ListN.{length, length-take}
use lib.Seq.{get_or-take}
use Rattle.definitions.specs.Limits.{pair_limit}
use Rattle.search.proofs.AnswerLaws.{clear-start, clear-turn, clear-ends}
use Rattle.search.proofs.answer.cleared.Goals as goal

pub loop-v-init : goal.loop-v-init
loop-v-init c = (clear-start _ _ _, search rules)

pub loop-v-preserved : goal.loop-v-preserved
loop-v-preserved c =
    let below : c.loop-v.v-index < c.args.block.size = omega (arith, length-take c.args.block.size c.args.block.vars, c.loop-v-test.true) in
    rw (get_or-take c.args.block.size c.args.block.vars c.loop-v.v-index 0 below)
    (clear-turn _ _ _ _ _ c.loop-v.invariant.0 below (omega (arith, c.loop-v.invariant.1, c.requires.by_index c.loop-v.v-index)), search rules)

pub bounds-opened-v : goal.bounds-opened-v
bounds-opened-v c =
    let below : c.loop-v.v-index < c.args.block.size = omega (arith, length-take c.args.block.size c.args.block.vars, c.loop-v-test.true) in
    rw (get_or-take c.args.block.size c.args.block.vars c.loop-v.v-index 0 below) (c.requires.by_index _)

pub returns : goal.returns
returns c =
    let four : length c.args.block.vars ≡ pair_limit = search rules in record {
      result_value = clear-ends _ _ _ _ _ c.loop-v.invariant.0 (omega (arith, length-take c.args.block.size c.args.block.vars, four, c.requires.size_le_pair_limit, c.loop-v-test.false));
      result_len = c.loop-v.invariant.1;
    }
