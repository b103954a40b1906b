-- `soundness::terms::terms_sound` meets its contract. Each return is one law.
use Rattle.soundness.proofs.BeginLaws.{begins-not, none-joined, terms-sound}
use Rattle.table.proofs.TableLaws.{holds-few}
use borrow.Author.Rules.{rules}
use mathlib.Core.Path.{ap}
use mathlib.Core.Bool.{not}
use Rattle.soundness.proofs.terms.terms_sound.Goals as goal

pub returns-then-not-begins_with : goal.returns-then-not-begins_with
returns-then-not-begins_with c = begins-not _ _ c.begins_with.ensures (ap not c.if-not-begins_with.true)

pub returns-then-count-loaded : goal.returns-then-count-loaded
returns-then-count-loaded c =
    none-joined _ _ _ _ c.requires.holds_terms c.requires.holds_terms_2 c.requires.loading_value _ c.begins_with.ensures (ap not c.if-not-begins_with.false) c.if-count-loaded.true

pub hash_slots-hashes-requires : goal.hash_slots-hashes-requires
hash_slots-hashes-requires c = record { table_len = c.requires.holds_terms_2.width; n_le_term_limit = holds-few _ _ c.requires.holds_terms_2 }

pub slots_distinct-requires : goal.slots_distinct-requires
slots_distinct-requires c = record { holds_terms = c.requires.holds_terms_2; hashes_len = search rules; hashed = c.hash_slots-hashes.ensures }

pub returns : goal.returns
returns c = terms-sound _ _ c.begins_with.ensures (ap not c.if-not-begins_with.false) c.slots_distinct.ensures
