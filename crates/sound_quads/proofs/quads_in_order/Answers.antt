-- `sound_quads::quads_in_order` meets its contract: the order of keys is that of their quads. Assumes nothing.
use native.Mathlib.Omega.{arith}
use Rattle.std.proofs.lemmas.Grind.{common_steps}
use Rattle.keys.proofs.Quads.{table-order}
use Rattle.keys.proofs.Rise.{keys-front}
use Rattle.sound_quads.proofs.quads_in_order.Goals as goal

pub returns : goal.returns
returns c =
    let front = keys-front c.args.keys.now c.args.n c.requires in
    let order = table-order c.args.keys.now (λ j. omega (arith, c.type_inv.keys j)) c.args.n in
    grind (arith, common_steps, front, order)
