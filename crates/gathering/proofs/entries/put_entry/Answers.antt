-- `gathering::entries::put_entry` meets its contract: nothing, or kind, field and code one after the other.
use native.Mathlib.Omega.{arith}
use Rattle.output.proofs.WritingLaws.{written_none, written_as}
use Rattle.gathering.proofs.EntryLaws.{none-bytes, some_bytes, entry-written}
use borrow.Author.Rules.{rules}
use Rattle.gathering.proofs.entries.put_entry.Goals as goal

pub returns-then-code-eq0 : goal.returns-then-code-eq0
returns-then-code-eq0 c = written_as (written_none _ _) (none-bytes _ _ c.if-code-eq0.true)

pub put_byte-text-requires : goal.put_byte-text-requires
put_byte-text-requires c = omega (arith, c.requires.entry_width_in_bounds c.if-code-eq0.false)

pub put_text-datatype-requires : goal.put_text-datatype-requires
put_text-datatype-requires c =
    search (rules, c.requires.entry_width_in_bounds c.if-code-eq0.false)

pub put_byte-requires : goal.put_byte-requires
put_byte-requires c =
    search (rules, c.requires.entry_width_in_bounds c.if-code-eq0.false)

pub returns : goal.returns
returns c =
    written_as (entry-written c.args.page.now c.args.schema.now c.put_byte-text.new.out c.put_text-datatype.new.out c.put_byte.new.out c.args.field
    c.args.code c.args.at c.put_byte-text.result c.put_text-datatype.result c.put_byte.result (c.requires.entry_width_in_bounds c.if-code-eq0.false) c.put_byte-text.ensures c.put_text-datatype.ensures
    c.put_byte.ensures) (some_bytes _ _ c.if-code-eq0.false)
