use borrow.Author.Rules.{rules}
use Rattle.answers.proofs.AnswerLaws.{at-four}
use Rattle.answers.proofs.wide_numbers.Goals as goal

pub returns : goal.returns
returns c =
    let m = c.map.ensures.items in
    at-four (λ n. n) c.args.numbers c.map.result m.long (λ i l. search rules)
