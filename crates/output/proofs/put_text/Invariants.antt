use Rattle.std.proofs.Common.{◌+◌, ◌-◌, length, take}
use Rattle.output.specs.Written.{Written}
use Rattle.output.proofs.put_text.Given as goal

abbrev pub invariant-loop-i : goal.invariant-loop-i
invariant-loop-i l = Written (take l.i l.text) l.initial.out l.out l.at (l.at + l.i)

abbrev pub decreases-loop-i : goal.decreases-loop-i
decreases-loop-i l = length l.text - l.i
