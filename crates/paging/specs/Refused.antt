-- What a page call hands back.
use Rattle.std.specs.Prelude.{Ok, Err}
use Rattle.definitions.specs.Result.{OrRefusal}
use Rattle.definitions.specs.declared.SavedRun.{SavedRun}
use Rattle.definitions.specs.declared.Paged.{Paged}

-- a refused one the saved run that it was lent
abbrev pub handed_back : SavedRun → OrRefusal Paged → Paged
handed_back saved (Ok r) = r
handed_back saved (Err n) = record { answer = Err n; saved = saved }
