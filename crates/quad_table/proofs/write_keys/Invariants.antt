use mathlib.Core.Path.{◌≡◌}
use lib.ListN.{length}
use Rattle.definitions.specs.Limits.{quad_table_width}
use Rattle.definitions.specs.Saved.{quad_table}
use Rattle.keys.specs.Keys.{rows_from}
use Rattle.quad_table.proofs.write_keys.Given as goal

abbrev pub invariant-loop-i : goal.invariant-loop-i
invariant-loop-i l = record {
  size : length l.table ≡ quad_table_width;
  written : l.table ≡ quad_table (rows_from l.i l.keys 0);
}
