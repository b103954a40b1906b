-- `table::slots::put_term` meets its contract.
use Rattle.table.proofs.HashLaws.{put-hashed}
use Rattle.table.proofs.slots.put_term.Goals as goal

pub returns : goal.returns
returns c = (
  c.put_slot.ensures,
  put-hashed _ _ _ c.requires.n_lt_term_limit c.requires.table_len c.requires.slot_len c.args.hashes.now c.requires.hashes_len c.requires.hashed
      c.put_slot.ensures c.hash_of.ensures,
)
