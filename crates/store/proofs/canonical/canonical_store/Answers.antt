use Rattle.store.proofs.canonical.canonical_store.Goals as goal

pub returns : goal.returns
returns c =
    λ t. record { quads = c.args.store.quads; graphs = c.args.store.graphs; fetched = c.clean_fetched-fetched.ensures t }
