-- A saved run in which nothing is bound, fetched or stored.
use Rattle.std.specs.Prelude.{ℕ, false, List, replicate}
use Rattle.definitions.specs.Limits.{variable_limit, graph_limit, depth_limit}
use Rattle.definitions.specs.Saved.{zero_item}
use Rattle.definitions.specs.declared.SavedRun.{SavedRun}

abbrev pub bare_run : (height : ℕ) → (types : List ℕ) → SavedRun
bare_run height types =
    record {
      control = record {
        height = height;
        types = types;
        bound = replicate variable_limit false;
        bindings = replicate variable_limit 0;
        items = replicate depth_limit zero_item;
      };
      store = record { quads = 0; graphs = 0; fetched = replicate graph_limit 0 };
    }
