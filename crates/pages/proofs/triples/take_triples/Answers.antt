-- `pages::triples::take_triples` meets its contract.
use Rattle.records.proofs.NumberingLaws.{held-width}
use borrow.Author.Rules.{rules}
use Rattle.pages.proofs.triples.take_triples.Goals as goal

pub hash_slots-hashes-requires : goal.hash_slots-hashes-requires
hash_slots-hashes-requires c = record { table_len = held-width _ _ _ c.requires.held_both.2.terms; n_le_term_limit = c.requires.held_both.2.terms.few }

pub take_records-requires : goal.take_records-requires
take_records-requires c = record { page_reads = c.requires.page_reads; page_len_bound = c.requires.page_len_bound; reads = c.requires.reads; held_both = c.requires.held_both; held_hashes = record { room = search rules; each = λ few. c.hash_slots-hashes.ensures }; skipped_value = c.requires.skipped_value }
