-- `records::numbering::list_terms` meets its contract.
use Rattle.std.specs.Prelude.{Some}
use mathlib.Core.Path.{sym, ap, ◌∙◌, subst}
use Rattle.records.proofs.NumberingLaws.{listed-bad, listed-count, listed-twice, ok-is}
use Rattle.records.specs.Listing.{Lists}
use borrow.Author.Rules.{rules}
use Rattle.records.proofs.numbering.list_terms.Goals as goal

pub returns-in_default : goal.returns-in_default
returns-in_default c = record { value = listed-bad _ c.write_terms.ensures.value c.in_default.is; lists = λ n e. absurd (cc) }

pub different-requires : goal.different-requires
different-requires c = record { n_value = sym c.in-Some.is ∙ c.write_terms.ensures.value; hashes_len = search rules; lists = c.write_terms.ensures.by_index _ c.in-Some.is }

pub returns-then-not-different : goal.returns-then-not-different
returns-then-not-different c = record { value = listed-twice _ (sym c.in-Some.is ∙ c.write_terms.ensures.value) c.different.ensures c.if-not-different.true; lists = λ n e. absurd (cc) }

pub returns : goal.returns
returns c = record { value = listed-count _ (sym c.in-Some.is ∙ c.write_terms.ensures.value) c.different.ensures c.if-not-different.false; lists = λ n e. c.write_terms.ensures.by_index n (c.in-Some.is ∙ ap Some (ok-is e)) }
