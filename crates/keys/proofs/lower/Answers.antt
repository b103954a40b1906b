-- `keys::lower` meets its contract: the keys below x stand first. Assumes nothing.
use mathlib.Core.Path.{◌≡◌}
use native.Mathlib.Omega.{arith}
use Rattle.std.proofs.Common.{rules}
use Rattle.std.proofs.lemmas.Fn.{always_returns_same}
use Rattle.std.proofs.lemmas.Grind.{common_steps}
use lib.Dec.{ltb}
use Rattle.keys.proofs.Rise.{lower_is}
use Rattle.keys.proofs.lower.Goals as goal

pub returns : goal.returns
returns c =
    let whole = lower_is c.args.keys.now c.args.n c.args.x c.partition_point.result _ (grind (arith, common_steps)) c.requires.n_in_bounds c.requires.keys_value c.partition_point.ensures.bound
    (c.partition_point.ensures.partitioned (λ y. ltb y c.args.x) (always_returns_same _ (λ a r. r ≡ ltb a.0.now c.args.x) _ (λ a r g k. search rules))) in
    record { value = whole.0; splits = whole.1 }
