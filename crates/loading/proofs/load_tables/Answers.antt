-- `loading::load_tables` meets its contract.
use Prim.Native.Nat.{ℕ}
use native.Mathlib.Omega.{arith}
use lib.ListN.{length-replicate}
use Rattle.definitions.specs.Limits.{term_table_width, quad_table_width}
use Rattle.definitions.specs.Calls.{Lent}
use Rattle.lengths.specs.Lent.{lent_of}
use Rattle.lengths.proofs.TableLaws.{fit-ranks, fit-both}
use Rattle.loading.proofs.LoadLaws.{other-ranks, load-refused, other_length, check-refused, load-accepted}
use mathlib.Core.Path.{refl}
use borrow.Author.Rules.{rules}
use Rattle.loading.proofs.load_tables.Goals as goal

pub returns-then-not-tables_fit : goal.returns-then-not-tables_fit
returns-then-not-tables_fit c =
    let lent : Lent = lent_of c.args.ranks.now c.args.terms.now c.args.schema.now c.args.script.now c.args.table.now c.args.store.now in
    let l = lent in
    load-refused l (other_length l c.tables_fit.ensures c.if-not-tables_fit.true) refl

pub is_alphabet-requires : goal.is_alphabet-requires
is_alphabet-requires c = fit-ranks _ c.tables_fit.ensures c.if-not-tables_fit.false

pub returns-then-not-is_alphabet : goal.returns-then-not-is_alphabet
returns-then-not-is_alphabet c =
    let lent : Lent = lent_of c.args.ranks.now c.args.terms.now c.args.schema.now c.args.script.now c.args.table.now c.args.store.now in
    let l = lent in
    load-refused l (other-ranks l c.tables_fit.ensures c.if-not-tables_fit.false c.is_alphabet.ensures c.if-not-is_alphabet.true) refl

pub returns-in_err-card : goal.returns-in_err-card
returns-in_err-card c =
    let lent : Lent = lent_of c.args.ranks.now c.args.terms.now c.args.schema.now c.args.script.now c.args.table.now c.args.store.now in
    let l = lent in
    load-refused l
    (check-refused l c.tables_fit.ensures c.if-not-tables_fit.false c.is_alphabet.ensures c.if-not-is_alphabet.false c.in_err-card.ensures)
    (search rules)

pub copy_from_slice-requires : goal.copy_from_slice-requires
copy_from_slice-requires c =
    omega (arith, (fit-both _ c.tables_fit.ensures c.if-not-tables_fit.false).0, c.check_card.auto.table, length-replicate {A = ℕ} term_table_width 0)

pub copy_from_slice-requires-2 : goal.copy_from_slice-requires-2
copy_from_slice-requires-2 c =
    omega (arith, (fit-both _ c.tables_fit.ensures c.if-not-tables_fit.false).1, length-replicate {A = ℕ} quad_table_width 0)

pub returns : goal.returns
returns c =
    let lent : Lent = lent_of c.args.ranks.now c.args.terms.now c.args.schema.now c.args.script.now c.args.table.now c.args.store.now in
    load-accepted lent c.tables_fit.ensures c.if-not-tables_fit.false c.is_alphabet.ensures c.if-not-is_alphabet.false
    c.in_ok-card.ensures _ refl c.copy_from_slice.ensures.after c.copy_from_slice-2.ensures.after
