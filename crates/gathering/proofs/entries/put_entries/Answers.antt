-- `gathering::entries::put_entries` meets its contract. The entries of those before the place are written.
use native.Mathlib.Omega.{arith}
use Rattle.gathering.proofs.EntryLaws.{putting-first, putting-room, putting-next, putting-end}
use Rattle.gathering.proofs.entries.put_entries.Goals as goal

pub loop-i-init : goal.loop-i-init
loop-i-init c = (c.requires.schema_len, λ all h. putting-first _ _ _ h _)

pub put_entry-at-requires : goal.put_entry-at-requires
put_entry-at-requires c = record {
  text_width_in_bounds = omega (arith, c.number_index-field.ensures, c.requires.noted.1.within c.loop-i.i c.loop-i-test.true);
  entry_width_in_bounds = λ n. omega
      (arith, c.loop-i.invariant.0, putting-room _ _ _ c.requires.noted.1 _ _ _ _ (c.loop-i.invariant.1 _ c.requires.noted.1) c.loop-i-test.true c.requires.noted.2 n);
}

pub loop-i-preserved : goal.loop-i-preserved
loop-i-preserved c = (
  omega (arith, c.loop-i.invariant.0),
  λ all h. putting-next _ _ _ h _ _ _ _ (c.loop-i.invariant.1 all h) c.loop-i-test.true
      c.number_index-field.ensures (omega (arith, c.number_index-field.ensures, h.within c.loop-i.i c.loop-i-test.true)) c.put_entry-at.ensures,
)

pub shape_of-schema : goal.shape_of-schema
shape_of-schema c = omega (arith, c.loop-i.invariant.0, c.requires.schema_len)

pub returns : goal.returns
returns c = λ all h. putting-end _ _ _ h _ _ _ _ (c.loop-i.invariant.1 all h) (omega arith)
