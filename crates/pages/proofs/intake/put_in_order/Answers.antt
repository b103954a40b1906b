-- `pages::intake::put_in_order` meets its contract.
use native.Mathlib.Omega.{arith}
use borrow.Author.Rules.{rules}
use Rattle.pages.proofs.TakeLaws.{quads-width}
use Rattle.pages.proofs.DoneLaws.{held-rise, ordered}
use Rattle.pages.proofs.intake.put_in_order.Goals as goal

pub read_keys-requires : goal.read_keys-requires
read_keys-requires c = record {
  table_len = quads-width _ _ _ c.requires.held_some.1;
  count_le_quad_limit = c.requires.held_some.1.few;
  count_in_bounds = omega (arith, c.requires.held_some.1.few, c.requires.keys_len);
}

pub take_page-requires : goal.take_page-requires
take_page-requires c = record {
  keys_value = held-rise _ _ _ c.requires.held_some.1 _ c.read_keys.ensures;
  graph_lt_place_limit = search rules;
  room = omega (arith, c.requires.held_some.1.few, c.requires.fresh_len_bound, c.requires.keys_len);
  work_room = omega (arith, c.requires.held_some.1.few, c.requires.fresh_len_bound);
}

pub returns : goal.returns
returns c = record {
  value = (λ qs after h k. ordered _ _ _ h _ c.read_keys.ensures _ _ _ _ after k c.take_page.ensures.keys_after);
  upper_bound = omega (arith, c.take_page.ensures.upper_bound, c.requires.held_some.1.few, c.requires.fresh_len_bound);
}
