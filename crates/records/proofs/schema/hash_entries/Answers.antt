-- `records::schema::hash_entries` meets its contract. The loop keeps the hashes made so far.
use Prim.Native.Nat.{ℕ}
use native.Mathlib.Omega.{arith}
use lib.ListN.{replicate, length-replicate, length-set}
use Rattle.records.proofs.EntryLaws.{one_entry, all-entries}
use Rattle.table.proofs.HashLaws.{none-hashed}
use Rattle.definitions.specs.Limits.{entry_limit}
use Rattle.records.proofs.schema.hash_entries.Goals as goal

pub loop-i-init : goal.loop-i-init
loop-i-init c = (length-replicate {A = ℕ} entry_limit 0, none-hashed _ (replicate {A = ℕ} entry_limit 0))

pub loop-i-preserved : goal.loop-i-preserved
loop-i-preserved c = (
  simp length-set c.loop-i.invariant.0,
  one_entry c.args.schema.now c.loop-i.hashes _ c.loop-i.i _ (omega arith) c.loop-i.invariant.1 c.slot_of-slot.ensures
      c.hash_of.ensures,
)

pub returns : goal.returns
returns c =
    all-entries c.args.schema.now c.loop-i.hashes c.loop-i.i c.requires.schema_value c.requires.schema_len_bound c.loop-i.invariant.0 (omega arith) c.loop-i.invariant.1
