-- `records::lists::count_triples` meets its contract.
use mathlib.Core.Path.{sym, ap, ◌∙◌}
use Rattle.fields.specs.Answers.{count_of}
use Rattle.laws.proofs.RecordsAt.{page-at}
use Rattle.records.proofs.lists.count_triples.Goals as goal

pub returns : goal.returns
returns c = c.count.ensures ∙ ap count_of (sym (page-at c.args.s.now))
