-- `pages::intake::take_copies` meets its contract.
use mathlib.Core.Path.{refl, sym, ◌∙◌}
use mathlib.Core.List.{[]}
use Rattle.records.proofs.NumberingLaws.{held-width}
use Rattle.pages.specs.Taking.{start_of}
use Rattle.pages.proofs.DoneLaws.{none-order, copies-held}
use Rattle.pages.proofs.intake.take_copies.Goals as goal

pub copy_from_slice-requires : goal.copy_from_slice-requires
copy_from_slice-requires c = c.requires.terms_len ∙ sym (held-width _ _ _ c.requires.held.1)

pub take_triples-requires : goal.take_triples-requires
take_triples-requires c = record { page_reads = c.requires.page_reads; page_len_bound = c.requires.page_len_bound; reads = c.requires.reads; held_both = ([], start_of c.requires.held.0 [], copies-held c.args.lent.now _ c.args.terms.now c.args.n c.requires.held.0 _ [] c.requires.held.1 c.requires.terms_len c.copy_from_slice.ensures.after none-order tt); skipped_value = (refl, refl, c.requires.keys_len) }

pub returns : goal.returns
returns c = record { took = (λ S rs ts o e r h ord s. c.take_triples.ensures.took S rs o (start_of ts o) e r (copies-held c.args.lent.now _ c.args.terms.now c.args.n ts _ o h c.requires.terms_len c.copy_from_slice.ensures.after ord s)); keys_le_record_limit = c.take_triples.ensures.keys_le_record_limit }
