-- `card::refusals::read_records` meets its contract.
use native.Mathlib.Omega.{arith}
use mathlib.Core.Path.{sym, ◌∙◌}
use Rattle.table.proofs.CountLaws.{counted-some}
use Rattle.card.proofs.CardLaws.{four, five, all_pass}
use Rattle.card.proofs.refusals.read_records.Goals as goal

pub returns-in_default : goal.returns-in_default
returns-in_default c = λ terms n e. four _ e _ c.count_entries.ensures c.in_default.is

pub entries_distinct-requires : goal.entries_distinct-requires
entries_distinct-requires c = counted-some _ (sym c.count_entries.ensures ∙ c.in-Some.is)

pub returns-then-entries_distinct : goal.returns-then-entries_distinct
returns-then-entries_distinct c =
    λ terms n e.
    let l = all_pass _ e _ c.count_entries.ensures c.in-Some.is c.entries_distinct.ensures c.if-entries_distinct.true in
    (l.0, l.1, λ k. absurd (omega (arith, c.if-schema-gt-SCHEMA_WIDTH.true, k)))

pub returns-then-schema-gt-SCHEMA_WIDTH : goal.returns-then-schema-gt-SCHEMA_WIDTH
returns-then-schema-gt-SCHEMA_WIDTH c =
    λ terms n e. five _ e _ c.count_entries.ensures c.in-Some.is c.entries_distinct.ensures c.if-entries_distinct.false

pub hash_entries-entries-requires : goal.hash_entries-entries-requires
hash_entries-entries-requires c = record { schema_value = (counted-some _ (sym c.count_entries.ensures ∙ c.in-Some.is)); schema_len_bound = c.if-schema-gt-SCHEMA_WIDTH.false }

pub hashed_distinct-requires : goal.hashed_distinct-requires
hashed_distinct-requires c = record { s_value = (counted-some _ (sym c.count_entries.ensures ∙ c.in-Some.is)); hashed_entries = c.hash_entries-entries.ensures }

pub returns-then-not-hashed_distinct : goal.returns-then-not-hashed_distinct
returns-then-not-hashed_distinct c =
    λ terms n e. five _ e _ c.count_entries.ensures c.in-Some.is c.hashed_distinct.ensures c.if-not-hashed_distinct.true

pub returns : goal.returns
returns c =
    λ terms n e.
    let l = all_pass _ e _ c.count_entries.ensures c.in-Some.is c.hashed_distinct.ensures c.if-not-hashed_distinct.false in
    (l.0, l.1, λ k. c.hash_entries-entries.ensures)
