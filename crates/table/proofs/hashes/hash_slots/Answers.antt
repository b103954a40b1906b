-- `table::hashes::hash_slots` meets its contract. The loop keeps the hashes made so far.
use Prim.Native.Nat.{ℕ}
use native.Mathlib.Omega.{arith}
use lib.ListN.{replicate, length-replicate, length-set}
use Rattle.definitions.specs.Limits.{term_limit}
use Rattle.table.proofs.HashLaws.{none-hashed, one-slot, all-hashed}
use Rattle.table.proofs.hashes.hash_slots.Goals as goal

pub loop-i-init : goal.loop-i-init
loop-i-init c = (length-replicate {A = ℕ} term_limit 0, none-hashed _ (replicate {A = ℕ} term_limit 0))

pub loop-i-preserved : goal.loop-i-preserved
loop-i-preserved c =
    (simp length-set c.loop-i.invariant.0, one-slot c.args.table.now c.loop-i.hashes c.loop-i.i _ (omega arith) c.loop-i.invariant.1 c.hash_of.ensures)

pub returns : goal.returns
returns c = all-hashed _ c.loop-i.hashes _ c.loop-i.i (omega arith) c.loop-i.invariant.1
