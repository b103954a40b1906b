-- `facts::noting::Tables::related` meets its contract, case by case of the two places. Assumes nothing.
use mathlib.Core.Path.{refl}
use Rattle.facts.proofs.TableLaws.{variable-in, relates-open, relates-object, relates-plain, relates-range, relates-fit, relates-unfit}
use Rattle.facts.proofs.noting.Tables.related.Goals as goal

pub edge-requires : goal.edge-requires
edge-requires c =
    (c.requires.0, variable-in c.in-Variable.is c.requires.1, variable-in c.in-Variable-object.is c.requires.2)

pub at_least-requires : goal.at_least-requires
at_least-requires c =
    (c.requires.0, variable-in c.in-Variable.is c.requires.1)

pub returns-then-code-lt8 : goal.returns-then-code-lt8
returns-then-code-lt8 c = relates-plain _ c.args.object _ c.in-Known.is c.if-code-lt8.true c.impossible.ensures

pub at_most-requires : goal.at_most-requires
at_most-requires c =
    (c.requires.0, variable-in c.in-Variable-object-2.is c.requires.2)

pub returns-then-below : goal.returns-then-below
returns-then-below c =
    relates-fit _ _ _ c.in-Known.is _ c.if-code-lt8.false c.in-Known-object-2.is c.own-in-Known-object-2.ensures c.below.ensures c.if-below.true refl

pub returns-in-Variable-object : goal.returns-in-Variable-object
returns-in-Variable-object c = relates-open _ _ _ c.in-Variable.is c.in-Variable-object.is c.edge.ensures

pub returns-in-Known-object : goal.returns-in-Known-object
returns-in-Known-object c =
    relates-object _ _ _ _ c.in-Variable.is c.in-Known-object.is c.own.ensures c.at_least.ensures

pub returns-in-Variable-object-2 : goal.returns-in-Variable-object-2
returns-in-Variable-object-2 c =
    relates-range _ _ _ c.in-Known.is c.if-code-lt8.false c.in-Variable-object-2.is c.at_most.ensures

pub returns-else-below : goal.returns-else-below
returns-else-below c =
    relates-unfit _ _ _ c.in-Known.is _ c.if-code-lt8.false c.in-Known-object-2.is c.own-in-Known-object-2.ensures c.below.ensures c.if-below.false c.impossible-in-Known-object-2.ensures
