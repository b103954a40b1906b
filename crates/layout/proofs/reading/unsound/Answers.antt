-- `layout::reading::unsound` meets its contract.
use mathlib.Core.Bool.{false}
use mathlib.Core.Path.{ap}
use Rattle.definitions.specs.declared.SavedRun.{SavedRun}
use Rattle.layout.specs.declared.SavedRead.{SavedRead}
use Rattle.layout.proofs.reading.unsound.Goals as goal

pub returns : goal.returns
returns c =
    let read : SavedRun → SavedRead = λ s. record { ok = false; saved = s } in
    ap read c.bare_run-saved.ensures
