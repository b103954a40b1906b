-- `store::bare::bare_run` meets its contract.
use mathlib.Core.Bool.{false}
use mathlib.Core.Path.{ap}
use lib.ListN.{replicate}
use Rattle.definitions.specs.Limits.{variable_limit, graph_limit, depth_limit}
use Rattle.definitions.specs.declared.SavedItem.{SavedItem}
use Rattle.definitions.specs.declared.SavedRun.{SavedRun}
use Rattle.store.proofs.bare.bare_run.Goals as goal

pub returns : goal.returns
returns c =
    let filled_with : SavedItem → SavedRun = λ i.
    record {
      control = record {
        height = c.args.height;
        types = c.args.types;
        bound = replicate variable_limit false;
        bindings = replicate variable_limit 0;
        items = replicate depth_limit i;
      };
      store = record { quads = 0; graphs = 0; fetched = replicate graph_limit 0 };
    } in
    ap filled_with c.zero_item-item.ensures
