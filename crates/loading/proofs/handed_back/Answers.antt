-- `loading::handed_back` meets its contract.
use Rattle.std.specs.Prelude.{Ok, Err}
use mathlib.Core.Path.{ap, sym, ◌∙◌}
use Rattle.definitions.specs.declared.SavedRun.{SavedRun}
use Rattle.loading.specs.Loaded.{handed_back}
use Rattle.loading.proofs.handed_back.Goals as goal

pub returns-in-Ok : goal.returns-in-Ok
returns-in-Ok c = ap (λ (s : SavedRun). record { answer = Ok tt; saved = s }) c.bare_run.ensures ∙ sym (ap handed_back c.in-Ok.is)

pub returns-in-Err : goal.returns-in-Err
returns-in-Err c = ap (λ (s : SavedRun). record { answer = Err c.in-Err.refusal; saved = s }) c.bare_run-in-Err.ensures ∙ sym (ap handed_back c.in-Err.is)
