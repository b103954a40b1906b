-- `typing::walk::type_pattern` meets its contract: four names, one after the other. Assumes nothing.
use native.Mathlib.Omega.{arith}
use mathlib.Core.Path.{refl}
use Rattle.laws.proofs.Productions.{four-at}
use Rattle.facts.proofs.TableLaws.{merged-joined}
use Rattle.facts.proofs.WalkLaws.{pattern-noted, placed-in}
use Rattle.typing.proofs.walk.type_pattern.Goals as goal

pub name_at-g-requires : goal.name_at-g-requires
name_at-g-requires c = record { loads = (four-at c.requires.loads refl).first; written_len = c.requires.written_len }

pub name_at-s-requires : goal.name_at-s-requires
name_at-s-requires c = record { loads = (four-at c.requires.loads refl).second c.name_at-g.ensures; written_len = c.requires.written_len }

pub name_at-p-requires : goal.name_at-p-requires
name_at-p-requires c = record { loads = (four-at c.requires.loads refl).third c.name_at-g.ensures c.name_at-s.ensures; written_len = c.requires.written_len }

pub name_at-o-requires : goal.name_at-o-requires
name_at-o-requires c = record { loads = (four-at c.requires.loads refl).fourth c.name_at-g.ensures c.name_at-s.ensures c.name_at-p.ensures; written_len = c.requires.written_len }

pub merged-requires : goal.merged-requires
merged-requires c = (c.requires.joined, c.node_of-graph.ensures.1, omega arith)

pub merged-requires-2 : goal.merged-requires-2
merged-requires-2 c =
    (merged-joined _ _ _ c.requires.joined c.node_of-graph.ensures.1 (omega arith) c.merged.ensures, c.node_of-subject.ensures.1, omega arith)

pub related-after-requires : goal.related-after-requires
related-after-requires c = (
  merged-joined _ _ _ (merged-joined _ _ _ c.requires.joined c.node_of-graph.ensures.1 (omega arith) c.merged.ensures) c.node_of-subject.ensures.1 (omega arith)
      c.merged-2.ensures,
  placed-in _ _ c.name_at-p.ensures,
  placed-in _ _ c.name_at-o.ensures,
)

pub returns : goal.returns
returns c =
    (four-at c.requires.loads refl).node c.name_at-g.ensures c.name_at-s.ensures c.name_at-p.ensures c.name_at-o.ensures
    (λ g s q o hg hs hq ho. pattern-noted _ _ g s q o c.requires.joined hg c.node_of-graph.ensures c.merged.ensures hs
    c.node_of-subject.ensures c.merged-2.ensures hq ho c.related-after.ensures)
