-- What reading a saved run's bytes gives.
use Rattle.std.specs.Prelude.{ℕ, List, map, true, false, eqb}
use Rattle.std.proofs.Math.Option.{Option, none, some}
use Rattle.definitions.specs.Limits.{variable_limit, graph_limit, depth_limit}
use Rattle.definitions.specs.Bytes.{word, part}
use Rattle.definitions.specs.Saved.{no_run}
use Rattle.definitions.specs.Limits.{types_offset, bound_offset, bindings_offset, fetched_offset, items_offset}
use Rattle.definitions.specs.Exports.{words_from, items_from}
use Rattle.definitions.specs.declared.SavedControl.{SavedControl}
use Rattle.definitions.specs.declared.SavedStore.{SavedStore}
use Rattle.definitions.specs.declared.SavedRun.{SavedRun}
use Rattle.layout.specs.declared.SavedRead.{SavedRead}

-- the parts, as `savedFrom` gives them where the bytes are a saved run's
abbrev pub control_in : List ℕ → SavedControl
control_in b =
    record {
      height = word b 0;
      types = part b types_offset variable_limit;
      bound = map (eqb 1) (part b bound_offset variable_limit);
      bindings = words_from variable_limit b bindings_offset;
      items = items_from depth_limit (word b 0) b items_offset;
    }

abbrev pub store_in : List ℕ → SavedStore
store_in b = record { quads = word b 2; graphs = word b 4; fetched = words_from graph_limit b fetched_offset }

-- the saved run, where there is one
abbrev pub read_of : Option SavedRun → SavedRead
read_of none = record { ok = false; saved = no_run }
read_of (some r) = record { ok = true; saved = r }
