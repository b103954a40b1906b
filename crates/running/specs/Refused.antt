-- What a run hands back.
use Rattle.std.specs.Prelude.{Ok, Err}
use Rattle.definitions.specs.Result.{OrRefusal}
use Rattle.definitions.specs.declared.SavedRun.{SavedRun}
use Rattle.definitions.specs.declared.Ran.{Ran}

-- a refused one the saved run that it was lent
abbrev pub handed_back : SavedRun → OrRefusal Ran → Ran
handed_back saved (Ok r) = r
handed_back saved (Err n) = record { answer = Err n; saved = saved }
