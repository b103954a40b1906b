-- `records::lists::entries_distinct` meets its contract.
use mathlib.Core.Path.{sym, ap, ◌∙◌}
use Rattle.definitions.specs.Terms.{same_property}
use Rattle.laws.specs.ReadAnswers.{is_some}
use Rattle.fields.specs.Answers.{distinct_in}
use Rattle.laws.proofs.RecordsAt.{schema-at}
use Rattle.records.proofs.lists.entries_distinct.Goals as goal

pub distinct-requires : goal.distinct-requires
distinct-requires c = ap is_some (sym (schema-at c.args.s.now)) ∙ c.requires

pub returns : goal.returns
returns c = c.distinct.ensures ∙ ap (distinct_in same_property) (sym (schema-at c.args.s.now))
