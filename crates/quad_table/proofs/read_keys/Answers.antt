-- `quad_table::read_keys` meets its contract.
use native.Mathlib.Omega.{arith}
use mathlib.Core.Path.{refl}
use lib.ListN.{length-set}
use Rattle.definitions.specs.Saved.{quads_from}
use Rattle.keys.specs.Keys.{keys_from, keys_of}
use Rattle.quad_table.proofs.QuadLaws.{read_next}
use Rattle.quad_table.proofs.read_keys.Goals as goal

pub loop-i-init : goal.loop-i-init
unfolding keys_from keys_of quads_from
loop-i-init c = record { size = refl; read = refl }

pub loop-i-preserved : goal.loop-i-preserved
loop-i-preserved c = record {
  size = simp length-set c.loop-i.invariant.size;
  read = read_next c.args.table.now c.loop-i.keys c.loop-i.i _ (omega arith) c.loop-i.invariant.read c.key_at.ensures;
}
