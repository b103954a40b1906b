-- `pages::triples::number_body` meets its contract.
use native.Mathlib.Omega.{arith}
use mathlib.Core.Path.{◌∙◌}
use Rattle.records.proofs.NumberingLaws.{held-holds}
use Rattle.pages.proofs.TermLaws.{body-short, slot-is-good, joins}
use Rattle.pages.proofs.triples.number_body.Goals as goal

pub slot_of-slot-requires : goal.slot_of-slot-requires
slot_of-slot-requires c =
    body-short _ c.args.body.now c.requires.says.0 c.requires.says.1 (λ k. omega (arith, c.type_inv.body k))

pub add_term-requires : goal.add_term-requires
add_term-requires c = record {
  holds_terms = held-holds _ _ c.requires.held.0 c.requires.held.1;
  hashes_len = c.requires.held_hashes.room;
  hashed = c.requires.held_hashes.each c.requires.held.1.few;
  good_slot = slot-is-good _ c.args.body.now c.requires.says.0 c.requires.says.1 (λ k. omega (arith, c.type_inv.body k)) _
      c.slot_of-slot.ensures;
}

pub returns : goal.returns
returns c = record {
  joins = (λ ts t h b. joins _ c.args.body.now t b (λ k. omega (arith, c.type_inv.body k)) ts h c.slot_of-slot.ensures c.add_term.result
      c.add_term.ensures.number_value c.add_term.ensures.terms_value c.add_term.ensures.table_after c.add_term.auto.table);
  held_hashes_2 = record
      { room = c.add_term.auto.hashes ∙ c.requires.held_hashes.room; each = c.add_term.ensures.hashed_2 };
}
