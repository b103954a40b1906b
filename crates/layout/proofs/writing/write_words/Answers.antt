-- The loop: the numbers before `i` are written, in the bytes before `at`.
use Prim.Native.Nat.{◌+◌}
use native.Mathlib.Omega.{arith}
use mathlib.Core.Path.{◌∙◌}
use borrow.Author.Rules.{rules}
use Rattle.definitions.specs.Bytes.{little_bytes}
use Rattle.laws.proofs.Writing.{put-none, put-joined, put-joined-all}
use Rattle.layout.proofs.JoinedBytes.{words-joined}
use Rattle.layout.proofs.writing.write_words.Goals as goal

pub loop-number-init : goal.loop-number-init
loop-number-init c = (search rules, search rules, put-none)

pub loop-number-preserved : goal.loop-number-preserved
loop-number-preserved c =
    let end = c.loop-number.«at» + 2 in
    let p =
    put-joined (little_bytes 2) c.args.numbers.now c.loop-number.number-index 0 c.write_word.new.out end c.loop-number.invariant.2
    (omega arith) (omega arith) (omega arith) c.write_word.ensures c.write_word.auto.out in
    (omega arith, search rules, p)

pub returns : goal.returns
returns c =
    put-joined-all (little_bytes 2) _ c.loop-number.number-index c.loop-number.invariant.2 (omega arith) (omega arith) ∙ words-joined _
