use Prim.Native.Nat.{◌*◌}
use mathlib.Core.Path.{◌≡◌}
use lib.ListN.{length, take}
use Rattle.definitions.specs.Bytes.{little_bytes}
use Rattle.laws.proofs.Writing.{Put, joined}
use Rattle.layout.proofs.writing.write_words.Given as goal

abbrev pub invariant-loop-number : goal.invariant-loop-number
invariant-loop-number l =
    (l.at ≡ 2 * l.number-index) × (length l.out ≡ length l.initial.out) × Put l.initial.out l.out (joined (little_bytes 2) (take l.number-index l.numbers)) l.at
