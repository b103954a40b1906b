-- The loop: the marks before `i` are written.
use native.Mathlib.Omega.{arith}
use mathlib.Core.Path.{ap, ◌∙◌}
use mathlib.Core.Bool.{false}
use borrow.Author.Rules.{rules}
use lib.ListN.{set}
use Rattle.definitions.specs.Exports.{mark_of}
use Rattle.laws.proofs.Writing.{map_next, map-all}
use Rattle.layout.proofs.writing.write_marks.Goals as goal

pub loop-i-preserved : goal.loop-i-preserved
loop-i-preserved c =
    let e = ap (set c.loop-i.out c.loop-i.i) c.from.ensures in
    (search rules, e ∙ map_next mark_of _ _ _ _ false (omega arith) (omega arith) c.loop-i.invariant.1)

pub returns : goal.returns
returns c =
    map-all mark_of _ c.args.out.now _ c.loop-i.i (omega arith) (omega arith) c.loop-i.invariant.1
