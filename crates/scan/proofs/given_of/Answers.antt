-- `scan::given_of` meets its contract. One law for each place. Assumes nothing.
use Rattle.scan.proofs.Places.{from-graph, from-subject, from-property, from-object, from-none}
use Rattle.scan.proofs.given_of.Goals as goal

pub returns-then-codes-eq-SOUGHT-clause-given_by : goal.returns-then-codes-eq-SOUGHT-clause-given_by
returns-then-codes-eq-SOUGHT-clause-given_by c = from-graph c.args.codes c.if-codes-eq-SOUGHT.true

pub returns-then-codes-eq-SOUGHT-2-clause-given_by : goal.returns-then-codes-eq-SOUGHT-2-clause-given_by
returns-then-codes-eq-SOUGHT-2-clause-given_by c = from-subject c.args.codes c.if-codes-eq-SOUGHT.false c.if-codes-eq-SOUGHT-2.true

pub returns-then-codes-eq-SOUGHT-3-clause-given_by : goal.returns-then-codes-eq-SOUGHT-3-clause-given_by
returns-then-codes-eq-SOUGHT-3-clause-given_by c = from-property c.args.codes c.if-codes-eq-SOUGHT.false c.if-codes-eq-SOUGHT-2.false c.if-codes-eq-SOUGHT-3.true

pub returns-then-codes-eq-SOUGHT-4-clause-given_by : goal.returns-then-codes-eq-SOUGHT-4-clause-given_by
returns-then-codes-eq-SOUGHT-4-clause-given_by c =
    from-object c.args.codes c.if-codes-eq-SOUGHT.false c.if-codes-eq-SOUGHT-2.false c.if-codes-eq-SOUGHT-3.false c.if-codes-eq-SOUGHT-4.true

pub returns-else-codes-eq-SOUGHT-4-clause-given_by : goal.returns-else-codes-eq-SOUGHT-4-clause-given_by
returns-else-codes-eq-SOUGHT-4-clause-given_by c =
    from-none c.args.codes c.if-codes-eq-SOUGHT.false c.if-codes-eq-SOUGHT-2.false c.if-codes-eq-SOUGHT-3.false c.if-codes-eq-SOUGHT-4.false
