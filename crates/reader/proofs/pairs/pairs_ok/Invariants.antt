use Prim.Native.Nat.{◌+◌, ◌*◌}
use mathlib.Core.Path.{◌≡◌}
use Rattle.definitions.specs.Limits.{pair_limit}
use Rattle.definitions.specs.Reading.{binders_at}
use Rattle.laws.specs.ReadAnswers.{is_some}
use Rattle.reader.proofs.PairLaws.{pairs_from}
use Rattle.reader.proofs.pairs.pairs_ok.Given as goal

abbrev pub invariant-loop-k : goal.invariant-loop-k
invariant-loop-k l = is_some (binders_at pair_limit l.count l.s l.at) ≡ pairs_from l.s l.count l.k (l.at + 2 * l.k)
