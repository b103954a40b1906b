-- `facts::families::Families::root` climbs from parent to parent. Invariant: `at` has the node's root, and `up` is its parent. The measure is `at`, since parents fall.
-- Assumes nothing.
use mathlib.Core.Path.{refl, ap, sym, ◌∙◌}
use native.Mathlib.Omega.{arith}
use Rattle.facts.specs.UnionFind.{root_in}
use Rattle.facts.proofs.UnionFind.{read-parent, root-stop, root-parent}
use Rattle.facts.proofs.families.Families.root.Goals as goal

pub loop-up-init : goal.loop-up-init
loop-up-init c =
    (c.requires.1, c.wide-up.ensures ∙ read-parent c.args.self.parents c.args.node (omega (arith, c.requires.0.sized)), refl)

pub bounds-self-at-in-loop-up : goal.bounds-self-at-in-loop-up
bounds-self-at-in-loop-up c = omega (arith, c.requires.0.falls c.loop-up.at)

pub loop-up-smaller : goal.loop-up-smaller
loop-up-smaller c = omega (arith, c.requires.0.falls c.loop-up.at)

pub loop-up-preserved : goal.loop-up-preserved
loop-up-preserved c =
    let f = c.requires.0.falls c.loop-up.at in (
      omega arith,
      c.wide-up-in-loop-up.ensures ∙ read-parent c.args.self.parents c.loop-up.up (omega (arith, c.requires.0.sized)),
      ap (root_in c.args.self.parents) c.loop-up.invariant.1 ∙ root-parent c.args.self.parents c.requires.0.falls c.loop-up.at ∙ c.loop-up.invariant.2,
    )

pub returns : goal.returns
returns c =
    sym (root-stop c.args.self.parents c.requires.0.falls c.loop-up.at (omega arith)) ∙ c.loop-up.invariant.2
