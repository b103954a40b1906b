-- `records::lists::count_entries` meets its contract.
use mathlib.Core.Path.{sym, ap, ◌∙◌}
use Rattle.fields.specs.Answers.{count_of}
use Rattle.laws.proofs.RecordsAt.{schema-at}
use Rattle.records.proofs.lists.count_entries.Goals as goal

pub returns : goal.returns
returns c = c.count.ensures ∙ ap count_of (sym (schema-at c.args.s.now))
