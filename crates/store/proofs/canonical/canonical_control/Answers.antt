use Rattle.store.proofs.canonical.canonical_control.Goals as goal

pub returns : goal.returns
returns c =
    λ t.
    record {
      height = c.args.control.height;
      types = c.args.control.types;
      bound = c.args.control.bound;
      bindings = c.clean_bindings-bindings.ensures t;
      items = c.clean_items-items.ensures t;
    }
