-- `table::hashes::find_slot` meets its contract.
use borrow.Author.Rules.{rules}
use native.Mathlib.Omega.{arith}
use mathlib.Core.Path.{sym}
use lib.Seq.{length-take-le}
use Rattle.table.proofs.TableLaws.{holds-few}
use Rattle.table.proofs.FindLaws.{number_found}
use Rattle.table.proofs.hashes.find_slot.Goals as goal

pub slice_bounds-find-end : goal.slice_bounds-find-end
slice_bounds-find-end c = sym (length-take-le c.args.n c.args.hashes.now (omega (arith, c.requires.hashes_len, holds-few _ _ c.requires.holds_terms)))

pub find-requires-clause-from_bound : goal.find-requires-clause-from_bound
find-requires-clause-from_bound c = omega (arith, c.requires.from_le_n, length-take-le c.args.n c.args.hashes.now (omega (arith, c.requires.hashes_len, holds-few _ _ c.requires.holds_terms)))

pub returns : goal.returns
returns c =
    number_found _ _ _ c.requires.holds_terms c.requires.good_slot (λ k. omega (arith, c.type_inv.table k)) (λ k. omega (arith, c.type_inv.slot k))
    c.args.hashes.now c.requires.hashes_len c.requires.hashed _ c.requires.hash_value c.find.ensures c.requires.from_le_n (λ i l t p. search rules)
