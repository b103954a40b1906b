-- `table::slots::find_term` meets its contract.
use native.Mathlib.Omega.{arith}
use mathlib.Core.Path.{ap, ◌∙◌}
use Rattle.table.specs.Hashes.{below}
use Rattle.table.proofs.TableLaws.{number-start}
use Rattle.table.proofs.slots.find_term.Goals as goal

pub find_slot-requires : goal.find_slot-requires
find_slot-requires c = record { holds_terms = c.requires.holds_terms; hashes_len = c.requires.hashes_len; hashed = c.requires.hashed; good_slot = c.requires.good_slot; hash_value = c.hash_of.ensures; from_le_n = omega arith }

pub returns : goal.returns
returns c = c.find_slot.ensures ∙ ap (below c.args.n) (number-start _ _ _ c.requires.holds_terms c.requires.good_slot)
