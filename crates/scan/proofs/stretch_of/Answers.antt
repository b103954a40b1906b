-- `scan::stretch_of` meets its contract. One law for each place that may be open. Assumes nothing.
use Rattle.scan.proofs.Stretches.{open-graph, open-subject, open-property, open-object, all_known}
use Rattle.scan.proofs.stretch_of.Goals as goal

pub returns-then-codes-ge-SOUGHT : goal.returns-then-codes-ge-SOUGHT
returns-then-codes-ge-SOUGHT c = open-graph c.args.codes _ c.requires c.if-codes-ge-SOUGHT.true _ c.opened.ensures

pub returns-then-codes-ge-SOUGHT-2 : goal.returns-then-codes-ge-SOUGHT-2
returns-then-codes-ge-SOUGHT-2 c =
    open-subject c.args.codes _ c.requires c.if-codes-ge-SOUGHT.false c.if-codes-ge-SOUGHT-2.true _ c.opened-then-codes-ge-SOUGHT-2.ensures

pub returns-then-codes-ge-SOUGHT-3 : goal.returns-then-codes-ge-SOUGHT-3
returns-then-codes-ge-SOUGHT-3 c =
    open-property c.args.codes _ c.requires c.if-codes-ge-SOUGHT.false c.if-codes-ge-SOUGHT-2.false c.if-codes-ge-SOUGHT-3.true _ c.opened-then-codes-ge-SOUGHT-3.ensures

pub returns-then-codes-ge-SOUGHT-4 : goal.returns-then-codes-ge-SOUGHT-4
returns-then-codes-ge-SOUGHT-4 c =
    open-object c.args.codes _ c.requires c.if-codes-ge-SOUGHT.false c.if-codes-ge-SOUGHT-2.false c.if-codes-ge-SOUGHT-3.false c.if-codes-ge-SOUGHT-4.true _ c.opened-then-codes-ge-SOUGHT-4.ensures

pub returns : goal.returns
returns c =
    all_known c.args.codes _ c.requires c.if-codes-ge-SOUGHT.false c.if-codes-ge-SOUGHT-2.false c.if-codes-ge-SOUGHT-3.false c.if-codes-ge-SOUGHT-4.false
