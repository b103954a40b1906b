-- `facts::families::Families::merge` sets the greater root's parent to the lesser root. Assumes nothing.
use mathlib.Core.Path.{ap, ◌∙◌}
use native.Mathlib.Omega.{arith}
use lib.ListN.{set}
use Rattle.facts.proofs.UnionFind.{root_below, merge-up, merge-down}
use Rattle.facts.proofs.families.Families.merge.Goals as goal

pub narrow-requires : goal.narrow-requires
narrow-requires c =
    omega (arith, root_below c.args.self.parents c.requires.0.falls c.args.a)

pub bounds-self-q : goal.bounds-self-q
bounds-self-q c =
    omega (arith, root_below c.args.self.parents c.requires.0.falls c.args.b)

pub narrow-requires-else-p-q : goal.narrow-requires-else-p-q
narrow-requires-else-p-q c =
    omega (arith, root_below c.args.self.parents c.requires.0.falls c.args.b)

pub bounds-self-p : goal.bounds-self-p
bounds-self-p c =
    omega (arith, root_below c.args.self.parents c.requires.0.falls c.args.a)

pub returns-then-p-q : goal.returns-then-p-q
returns-then-p-q c =
    ap (set c.args.self.parents c.root-q.result) c.narrow.ensures ∙ merge-up c.args.self.parents c.args.a c.args.b c.root-p.result c.root-q.result c.root-p.ensures c.root-q.ensures (omega arith)

pub returns-else-p-q : goal.returns-else-p-q
returns-else-p-q c =
    ap (set c.args.self.parents c.root-p.result) c.narrow-else-p-q.ensures ∙ merge-down c.args.self.parents c.args.a c.args.b c.root-p.result c.root-q.result c.root-p.ensures c.root-q.ensures (omega arith)
