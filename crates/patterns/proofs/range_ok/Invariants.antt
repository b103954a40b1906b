use Prim.Native.Nat.{◌-◌}
use mathlib.Core.Path.{◌≡◌}
use Rattle.definitions.specs.Limits.{language_range_width}
use Rattle.definitions.specs.Bytes.{part}
use Rattle.definitions.specs.Text.{language_range_of}
use Rattle.laws.specs.ReadAnswers.{is_some}
use Rattle.patterns.proofs.FieldLaws.{range_from}
use Rattle.patterns.proofs.range_ok.Given as goal

abbrev pub invariant-loop-i : goal.invariant-loop-i
invariant-loop-i l = is_some (language_range_of (part l.s l.at language_range_width)) ≡ range_from l.letter l.hyphen (part l.s l.i (l.end - l.i))
