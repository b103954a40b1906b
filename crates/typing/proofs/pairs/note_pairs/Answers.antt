-- `typing::pairs::note_pairs` meets its contract: the pairs left to note shrink by one. Assumes nothing.
use Prim.Native.Nat.{◌+◌, ◌-◌, ◌*◌}
use native.Mathlib.Omega.{arith}
use mathlib.Core.Path.{◌≡◌, sym, ◌∙◌}
use Rattle.definitions.specs.Limits.{count_offset, pairs_offset}
use Rattle.definitions.specs.Bytes.{byte}
use Rattle.scope.proofs.BindLaws.{few-pairs, pairs-read, pair-variable, pairs-rest}
use Rattle.typing.proofs.PairLaws.{note-start, note-turn, note-done}
use Rattle.typing.proofs.pairs.note_pairs.Goals as goal

pub overflow_add-count : goal.overflow_add-count
overflow_add-count c = omega (arith, c.requires.room)

pub bounds-script-at : goal.bounds-script-at
bounds-script-at c = omega (arith, c.requires.room)

pub overflow_add-first : goal.overflow_add-first
overflow_add-first c = omega (arith, c.requires.room)

pub loop-k-init : goal.loop-k-init
loop-k-init c =
    let start : c.args.at + pairs_offset + 0 ≡ c.args.at + pairs_offset = omega arith in
    (rw start (note-start c.args.script.now (byte c.args.script.now (c.args.at + count_offset)) (c.args.at + pairs_offset) _), rw start (pairs-read c.requires))

pub overflow_mul-place : goal.overflow_mul-place
overflow_mul-place c = omega (arith, few-pairs c.requires)

pub overflow_add-place : goal.overflow_add-place
overflow_add-place c = omega (arith, c.requires.room, few-pairs c.requires)

pub bounds-script-place : goal.bounds-script-place
bounds-script-place c = omega (arith, c.requires.room, few-pairs c.requires)

pub overflow_add-code : goal.overflow_add-code
overflow_add-code c = omega (arith, c.requires.room, few-pairs c.requires)

pub bounds-script-place-in-loop-k : goal.bounds-script-place-in-loop-k
bounds-script-place-in-loop-k c = omega (arith, c.requires.room, few-pairs c.requires)

pub bounds-after-v : goal.bounds-after-v
bounds-after-v c =
    pair-variable c.args.script.now (byte c.args.script.now (c.args.at + count_offset)) c.loop-k.k _ (omega arith) (few-pairs c.requires) c.loop-k.invariant.1

pub bounds-after-v-in-loop-k : goal.bounds-after-v-in-loop-k
bounds-after-v-in-loop-k c =
    pair-variable c.args.script.now (byte c.args.script.now (c.args.at + count_offset)) c.loop-k.k _ (omega arith) (few-pairs c.requires) c.loop-k.invariant.1

pub loop-k-preserved : goal.loop-k-preserved
loop-k-preserved c =
    let place = c.args.at + pairs_offset + 2 * c.loop-k.k in
    let count = byte c.args.script.now (c.args.at + count_offset) in
    let next : c.args.at + pairs_offset + 2 * (c.loop-k.k + 1) ≡ place + 2 = omega arith in (
      rw next (c.loop-k.invariant.0 ∙ note-turn c.args.script.now count c.loop-k.k place c.loop-k.after (omega arith) c.earlier.ensures),
      rw next (pairs-rest c.args.script.now count c.loop-k.k place (omega arith) (few-pairs c.requires) c.loop-k.invariant.1),
    )

pub returns : goal.returns
returns c =
    sym (c.loop-k.invariant.0 ∙ note-done c.args.script.now (byte c.args.script.now (c.args.at + count_offset)) c.loop-k.k _ c.loop-k.after (omega arith))
