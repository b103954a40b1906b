-- `roster::comparisons::string_rows` meets its contract, by arithmetic: a word ends within the rows, and the next begins after it.
use Prim.Native.Nat.{◌-◌}
use native.Mathlib.Omega.{arith}
use Rattle.roster.proofs.comparisons.string_rows.Goals as goal

pub loop-at-smaller : goal.loop-at-smaller
loop-at-smaller g c =
    omega (
      arith,
      c.word_end-first_end.ensures,
      c.within-first.ensures,
      c.word_end-tag_end.ensures,
      c.loop-at-test.true,
    )
