-- `scope::scope::bind_pairs` meets its contract.
use native.Mathlib.Omega.{arith}
use Prim.Native.Nat.{◌+◌, ◌-◌, ◌*◌}
use mathlib.Core.Path.{◌≡◌, sym, ◌∙◌, ap}
use Rattle.definitions.specs.Limits.{count_offset, pairs_offset}
use Rattle.definitions.specs.Bytes.{byte}
use Rattle.scope.specs.Bindings.{bind_all}
use Rattle.laws.specs.Pairs.{pair_variables}
use Rattle.scope.proofs.BindLaws.{few-pairs, pairs-read, pair-variable, pairs-rest, bind-start, bind-turn, bind_done}
use Rattle.scope.proofs.scope.bind_pairs.Goals as goal

pub overflow_add-count : goal.overflow_add-count
overflow_add-count c = omega (arith, c.requires.room)

pub bounds-script-at : goal.bounds-script-at
bounds-script-at c = omega (arith, c.requires.room)

pub overflow_add-first : goal.overflow_add-first
overflow_add-first c = omega (arith, c.requires.room)

pub loop-k-init : goal.loop-k-init
loop-k-init c =
    let start : c.args.at + pairs_offset + 0 ≡ c.args.at + pairs_offset = omega arith in
    (rw start (bind-start c.args.script.now (byte c.args.script.now (c.args.at + count_offset)) (c.args.at + pairs_offset) _), rw start (pairs-read c.requires))

pub overflow_mul-v : goal.overflow_mul-v
overflow_mul-v c = omega (arith, few-pairs c.requires)

pub overflow_add-v : goal.overflow_add-v
overflow_add-v c = omega (arith, c.requires.room, few-pairs c.requires)

pub bounds-script-first : goal.bounds-script-first
bounds-script-first c = omega (arith, c.requires.room, few-pairs c.requires)

pub bind_one-after-requires : goal.bind_one-after-requires
bind_one-after-requires c =
    pair-variable c.args.script.now (byte c.args.script.now (c.args.at + count_offset)) c.loop-k.k _ (omega arith) (few-pairs c.requires)
    c.loop-k.invariant.1

pub loop-k-preserved : goal.loop-k-preserved
loop-k-preserved c =
    let place = c.args.at + pairs_offset + 2 * c.loop-k.k in
    let count = byte c.args.script.now (c.args.at + count_offset) in
    let next : c.args.at + pairs_offset + 2 * (c.loop-k.k + 1) ≡ place + 2 = omega arith in (
      rw next
          (c.loop-k.invariant.0 ∙ bind-turn c.args.script.now count c.loop-k.k place (omega arith) (few-pairs c.requires) c.loop-k.invariant.1 c.loop-k.after
          ∙ ap (bind_all (pair_variables (count - (c.loop-k.k + 1)) c.args.script.now (place + 2))) (sym c.bind_one-after.ensures)),
      rw next (pairs-rest c.args.script.now count c.loop-k.k place (omega arith) (few-pairs c.requires) c.loop-k.invariant.1),
    )

pub returns : goal.returns
returns c =
    sym (c.loop-k.invariant.0 ∙ bind_done c.args.script.now (byte c.args.script.now (c.args.at + count_offset)) c.loop-k.k _ c.loop-k.after (omega arith))
