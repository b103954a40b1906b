-- Field by field, from what the calls give.
use Rattle.layout.proofs.reading.read_store.Goals as goal

pub returns : goal.returns
returns c =
    λ k. record { quads = c.number_at.ensures k; graphs = c.number_at-2.ensures k; fetched = c.read_words.ensures k }
