use mathlib.Core.Path.{◌≡◌}
use Rattle.definitions.specs.Saved.{zero_item}
use Rattle.store.specs.Canonical.{clean_item}
use Rattle.store.proofs.FillLaws.{made_to}
use Rattle.store.proofs.canonical.clean_items.Given as goal

abbrev pub invariant-loop-i : goal.invariant-loop-i
invariant-loop-i l = l.clean ≡ made_to (clean_item l.script) zero_item l.items 24 l.i
