-- `entry::enter` meets its contract: one law for each way through.
use Rattle.entry.proofs.EntryLaws.{wrong-length, no-alphabet, tests-go-on}
use Rattle.lengths.proofs.TableLaws.{fit-ranks, fit-both}
use Rattle.entry.proofs.enter.Goals as goal

pub returns-then-not-tables_fit : goal.returns-then-not-tables_fit
returns-then-not-tables_fit c = wrong-length _ c.tables_fit.ensures _ c.if-not-tables_fit.true

pub is_alphabet-requires : goal.is_alphabet-requires
is_alphabet-requires c = fit-ranks _ c.tables_fit.ensures c.if-not-tables_fit.false

pub returns-then-not-is_alphabet : goal.returns-then-not-is_alphabet
returns-then-not-is_alphabet c =
    no-alphabet _ c.tables_fit.ensures c.if-not-tables_fit.false _ c.is_alphabet.ensures c.if-not-is_alphabet.true

pub sound-requires : goal.sound-requires
sound-requires c =
    let fit = fit-both _ c.tables_fit.ensures c.if-not-tables_fit.false in record { table_len = fit.0; store_len = fit.1; keys_len = c.requires.keys_len; leasts_len = c.requires.leasts_len }

pub returns : goal.returns
returns c =
    tests-go-on _ c.tables_fit.ensures c.if-not-tables_fit.false _ c.is_alphabet.ensures c.if-not-is_alphabet.false _ _ (c.sound.ensures _)
