-- `quad_table::write_keys` meets its contract.
use native.Mathlib.Omega.{arith}
use mathlib.Core.Path.{ap, ◌∙◌}
use mathlib.Core.List.{[]}
use lib.ListN.{length}
use Rattle.laws.proofs.Tables.{quad-table-length}
use Rattle.keys.specs.Keys.{rows_from}
use Rattle.quad_table.proofs.QuadLaws.{written_next}
use Rattle.quad_table.proofs.write_keys.Goals as goal

pub loop-i-init : goal.loop-i-init
unfolding rows_from
loop-i-init c = record { size = ap length c.requires.table_value ∙ quad-table-length [] (omega arith); written = c.requires.table_value }

pub loop-i-preserved : goal.loop-i-preserved
loop-i-preserved c =
    let r = written_next c.args.keys.now _ _ c.loop-i.i (omega arith) c.loop-i.invariant.written c.put_key.ensures in record { size = r.1; written = r.0 }
