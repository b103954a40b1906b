-- What a load hands back.
use Rattle.std.specs.Prelude.{ℕ, List, Ok, Err, replicate}
use Rattle.definitions.specs.Limits.{variable_limit}
use Rattle.definitions.specs.Result.{OrRefusal}
use Rattle.definitions.specs.declared.Loaded.{Loaded}
use Rattle.store.specs.Bare.{bare_run}

-- the root alone on the stack: an item at offset 0; or a refusal
abbrev pub handed_back : OrRefusal (List ℕ) → Loaded
handed_back (Ok types) = record { answer = Ok tt; saved = bare_run 1 types }
handed_back (Err n) = record { answer = Err n; saved = bare_run 0 (replicate variable_limit 0) }
