use mathlib.Core.Path.{◌≡◌}
use lib.ListN.{length}
use Rattle.definitions.specs.Saved.{quads_from}
use Rattle.keys.specs.Keys.{keys_from, keys_of}
use Rattle.quad_table.proofs.read_keys.Given as goal

abbrev pub invariant-loop-i : goal.invariant-loop-i
invariant-loop-i l = record {
  size : length l.keys ≡ length l.initial.keys;
  read : keys_from l.i l.keys 0 ≡ keys_of (quads_from l.i l.table 0);
}
