-- Document 02, Ask 10: one order for quads.
--
--   Two stations filled alike have different store bytes and our backup sees a change each week. Quads stand in rising order of graph, subject, property and
--   object number, packed from the start, unused bytes zero. The order is then free no more.
--
-- Of two lists of run and page calls, each after an accepted load, of whatever cards, refused calls included: where what they leave holds the same terms by number
-- and the same set of quads, both tables are the same bytes.
use Rattle.std.specs.Prelude.{Ok}
use Rattle.std.specs.Prelude.{◌≡◌, List}
use Rattle.std.proofs.Math.Option.{some}
use Rattle.definitions.specs.Evaluate.{Quad, stored}
use Rattle.definitions.specs.Outcome.{ok}
use Rattle.definitions.specs.Machine.{Store}
use Rattle.definitions.specs.Saved.{held_store}
use Rattle.definitions.specs.Calls.{Lent, load}
use Rattle.theorems.specs.Hosts.{HostCall, Handed, Kept, kept_after_load, kept_after_all, engine_calls}

-- the same terms by number, and the same set of quads
pub record Alike (a b : Store) : Type 0 where
  pub terms : a.terms ≡ b.terms
  pub quads : (q : Quad) → stored q a.quads ≡ stored q b.quads

-- what a list of calls after an accepted load leaves, and the store that it holds
pub record Left (k : Kept) (s : Store) : Type 0 where
  pub lent : Lent
  pub accepted : (load lent).returned.answer ≡ Ok tt
  pub calls : List HostCall
  pub handed : List Handed
  pub given : engine_calls lent calls (kept_after_load lent) ≡ ok handed
  pub kept : k ≡ kept_after_all calls (kept_after_load lent) handed
  pub holds : held_store k.term_table k.quad_table k.saved.store ≡ some s

abbrev pub OneOrder : Type 0
OneOrder = (k j : Kept) (a b : Store) → Left k a → Left j b → Alike a b → (k.term_table ≡ j.term_table) × (k.quad_table ≡ j.quad_table)
