use borrow.Author.Rules.{rules}
use Rattle.answers.specs.Answers.{short_number}
use Rattle.answers.proofs.AnswerLaws.{at-four}
use Rattle.answers.proofs.short_numbers.Goals as goal

pub returns : goal.returns
returns c =
    let m = c.map.ensures.items in
    at-four short_number c.args.numbers c.map.result m.long (λ i l. search rules)
