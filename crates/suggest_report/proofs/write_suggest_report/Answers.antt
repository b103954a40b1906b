-- By the cases of the answer.
use Rattle.suggest_report.proofs.SuggestReport.{suggest-refused, suggest-told}
use Rattle.suggest_report.proofs.write_suggest_report.Goals as goal

pub returns-in-Accepted : goal.returns-in-Accepted
returns-in-Accepted c = suggest-told _ c.in-Ok.is c.in-Accepted.is c.write_three.ensures

pub returns-in-Named : goal.returns-in-Named
returns-in-Named c = suggest-told _ c.in-Ok.is c.in-Named.is c.write_three-in-Named.ensures

pub returns-in-NoSingle : goal.returns-in-NoSingle
returns-in-NoSingle c = suggest-told _ c.in-Ok.is c.in-NoSingle.is c.write_three-in-NoSingle.ensures

pub returns-in_default : goal.returns-in_default
returns-in_default c = suggest-refused _ c.in_default.is
