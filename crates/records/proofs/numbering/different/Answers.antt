-- `records::numbering::different` meets its contract.
use mathlib.Core.Path.{ap, ◌∙◌}
use Rattle.definitions.specs.Terms.{same_term}
use Rattle.fields.specs.Answers.{distinct_in}
use Rattle.records.proofs.NumberingLaws.{listed-good, listed-holds, listed_same}
use Rattle.records.proofs.numbering.different.Goals as goal

pub records_distinct-requires : goal.records_distinct-requires
records_distinct-requires c = listed-good _ c.requires.n_value

pub slots_distinct-requires : goal.slots_distinct-requires
slots_distinct-requires c = record { holds_terms = listed-holds (listed-good _ c.requires.n_value) c.if-n-gt-TERM_LIMIT.false (c.requires.lists c.if-n-gt-TERM_LIMIT.false); hashes_len = c.requires.hashes_len; hashed = (c.requires.lists c.if-n-gt-TERM_LIMIT.false).hashed }

pub returns : goal.returns
returns c =
    c.slots_distinct.ensures ∙ ap (distinct_in same_term) (listed_same (listed-good _ c.requires.n_value) c.if-n-gt-TERM_LIMIT.false (c.requires.lists c.if-n-gt-TERM_LIMIT.false))
