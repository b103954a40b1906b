use Prim.Native.Nat.{◌<◌, ◌-◌}
use native.Mathlib.Omega.{arith}
use mathlib.Core.Path.{◌≡◌, refl}
use borrow.Author.Rules.{rules}
use lib.ListN.{length}
use Rattle.definitions.specs.Limits.{variable_limit}
use Rattle.store.proofs.BindLaws.{with_bound, bind-next, bind-none, bind_all}
use Rattle.store.proofs.stack.bind_tuple.Goals as goal

pub loop-k-init : goal.loop-k-init
loop-k-init c = (omega arith, bind-none _ _ _ _ _)

pub bounds-bound-v : goal.bounds-bound-v
bounds-bound-v c =
    let below : c.index-v.result < variable_limit = rw c.index-v.ensures (c.requires.by_index (c.loop-k.k - 1) (omega arith)) in let l = below in omega arith

pub offset_bounds-bindings-v : goal.offset_bounds-bindings-v
offset_bounds-bindings-v c =
    let below : c.index-v.result < variable_limit = rw c.index-v.ensures (c.requires.by_index (c.loop-k.k - 1) (omega arith)) in let l = below in omega arith

pub bounds-bindings-v : goal.bounds-bindings-v
bounds-bindings-v c =
    let below : c.index-v.result < variable_limit = rw c.index-v.ensures (c.requires.by_index (c.loop-k.k - 1) (omega arith)) in let l = below in omega arith

pub loop-k-preserved : goal.loop-k-preserved
loop-k-preserved c =
    let l : length c.args.tuple ≡ 4 = search rules in
    let b = with_bound c.args.control c.loop-k.bound c.loop-k.bindings in (
      omega arith,
      bind-next c.args.control b c.args.script.now c.args.tuple c.args.at c.args.count c.loop-k.k (c.loop-k.k - 1) _ _ (omega arith) (omega arith) (omega arith)
          c.index-v.ensures refl c.loop-k.invariant.1,
    )

pub returns : goal.returns
returns c = bind_all _ _ _ _ _ _ _ (omega arith) c.loop-k.invariant.1
