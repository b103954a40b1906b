use mathlib.Core.Path.{◌≡◌}
use mathlib.Core.Option.{some}
use Prim.Native.Nat.{ℕ, ◌+◌, ◌*◌, ◌-◌, ◌≤◌}
use lib.ListN.{length}
use Rattle.definitions.specs.Limits.{depth_limit}
use Rattle.definitions.specs.Tree.{Query}
use Rattle.definitions.specs.Reading.{read_query}
use Rattle.seeking.specs.Parts.{part_limit, Pending}
use Rattle.seeking.proofs.PartLaws.{Listed}
use Rattle.seeking.proofs.listing.parts_of.Given as goal

abbrev pub invariant-loop-pending : goal.invariant-loop-pending
invariant-loop-pending l =
    (l.count + l.pending ≤ part_limit) × (length l.list ≡ part_limit)
    × ((q : Query) (m : ℕ) → read_query l.view.script.now l.view.context.loaded depth_limit l.at ≡ some (q, m) → Listed l.view.script.now l.view.context.loaded q l.list l.count × Pending l.view.script.now l.view.context.loaded q l.pending l.here)

abbrev pub decreases-loop-pending : goal.decreases-loop-pending
decreases-loop-pending l = 2 * (part_limit - l.count) - l.pending
