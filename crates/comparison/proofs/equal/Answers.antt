-- `comparison::equal` meets its contract, by the laws of ComparisonLaws.
use Rattle.comparison.proofs.ComparisonLaws.{equal-strings, equal-numbers, equal-date_times, equal-uris}
use mathlib.Core.Logic.{inl, inr}
use Rattle.comparison.proofs.equal.Goals as goal

pub returns-in-2 : goal.returns-in-2
returns-in-2 c =
    equal-strings c.args.a c.args.b _ c.told.ensures c.in-2.is c.same_strings.ensures

pub returns-in-3 : goal.returns-in-3
returns-in-3 c =
    equal-numbers c.args.a c.args.b _ c.told-in-3.ensures c.in-3.is _ _ (c.counted.ensures.value, c.counted.ensures.t) (c.counted-in-3.ensures.value, c.counted-in-3.ensures.t) c.is_same.ensures

pub returns-in-4 : goal.returns-in-4
returns-in-4 c =
    equal-date_times c.args.a c.args.b _ c.told-in-4.ensures c.requires.good c.requires.good_2 c.in-4.is c.is_same-in-4.ensures

pub returns-in_default : goal.returns-in_default
returns-in_default c =
    equal-uris c.args.a c.args.b _ c.told-in_default.ensures (λ k. c.in_default.in_default-own.rest.0.1 (inr k)) (λ k. c.in_default.in_default-own.rest.0.1 (inl k)) c.in_default.in_default-own.rest.1 c.in_default.in_default-own.rest.0.0.1
    c.same.ensures
