-- From the first pair to the last, each apart from those after it.
use native.Mathlib.Omega.{arith}
use Prim.Native.Nat.{◌-◌, ◌+◌, ◌*◌}
use mathlib.Core.Path.{◌≡◌, sym, ◌∙◌}
use Rattle.reader.proofs.PairLaws.{pair-bad, pair_turn, pairs-done, pairs-many}
use Rattle.reader.proofs.pairs.pairs_ok.Goals as goal

pub returns-then-used-gt-PAIR_LIMIT : goal.returns-then-used-gt-PAIR_LIMIT
returns-then-used-gt-PAIR_LIMIT c = sym (pairs-many c.args.s.now c.args.count c.args.at c.if-used-gt-PAIR_LIMIT.true)

pub loop-k-init : goal.loop-k-init
loop-k-init c = let e : c.args.count - 0 ≡ c.args.count = omega arith in let f : c.args.at + 0 ≡ c.args.at = omega arith in rw (f, e)

pub returns-then-not-pair_ok : goal.returns-then-not-pair_ok
returns-then-not-pair_ok c =
    sym (c.loop-k.invariant
    ∙ pair-bad c.args.s.now c.args.count c.loop-k.k (c.args.at + 2 * c.loop-k.k) (omega arith) (sym c.pair_ok.ensures ∙ c.if-not-pair_ok.true))

pub loop-k-preserved : goal.loop-k-preserved
loop-k-preserved c =
    let e : c.args.at + 2 * (c.loop-k.k + 1) ≡ c.args.at + 2 * c.loop-k.k + 2 = omega arith in
    rw e (c.loop-k.invariant
    ∙ pair_turn c.args.s.now c.args.count c.loop-k.k (c.args.at + 2 * c.loop-k.k) (omega arith) (sym c.pair_ok.ensures ∙ c.if-not-pair_ok.false))

pub returns : goal.returns
returns c = sym (c.loop-k.invariant ∙ pairs-done c.args.s.now c.args.count c.loop-k.k (c.args.at + 2 * c.loop-k.k) (omega arith) (omega arith))
