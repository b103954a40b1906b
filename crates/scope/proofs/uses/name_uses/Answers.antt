-- `scope::uses::name_uses` meets its contract.
use borrow.Author.Rules.{rules}
use native.Mathlib.Omega.{arith}
use mathlib.Core.Path.{◌≡◌}
use lib.ListN.{length}
use Rattle.definitions.specs.Limits.{variable_limit}
use Rattle.definitions.specs.Scope.{in_name}
use Rattle.laws.proofs.Records.{name-inside, name-last, variable-of, constant_of}
use Rattle.laws.proofs.Walked.{leaf_walked}
use Rattle.scope.proofs.UseLaws.{uses-none, uses-one}
use Rattle.scope.proofs.uses.name_uses.Goals as goal

pub bounds-script-at : goal.bounds-script-at
bounds-script-at c = name-inside _ _ _ _ c.requires

pub overflow_add-v : goal.overflow_add-v
overflow_add-v c = omega (arith, variable-of _ _ _ _ c.requires c.in-49.is)

pub bounds-script-at-in-49 : goal.bounds-script-at-in-49
bounds-script-at-in-49 c = omega (arith, variable-of _ _ _ _ c.requires c.in-49.is)

pub overflow_cast-v : goal.overflow_cast-v
overflow_cast-v c = omega (arith, variable-of _ _ _ _ c.requires c.in-49.is)

pub bounds-free-v : goal.bounds-free-v
bounds-free-v c = omega (arith, variable-of _ _ _ _ c.requires c.in-49.is)

pub bounds-hidden-v : goal.bounds-hidden-v
bounds-hidden-v c = omega (arith, variable-of _ _ _ _ c.requires c.in-49.is)

pub bounds-after-v : goal.bounds-after-v
bounds-after-v c = omega (arith, variable-of _ _ _ _ c.requires c.in-49.is)

pub overflow_add-next : goal.overflow_add-next
overflow_add-next c = omega (arith, variable-of _ _ _ _ c.requires c.in-49.is)

pub overflow_add-next-in_default : goal.overflow_add-next-in_default
overflow_add-next-in_default c = omega (arith, constant_of _ _ _ _ c.requires (name-last _ _ _ _ c.requires c.in_default.in_default-own.rest))

pub returns-in-49 : goal.returns-in-49
unfolding in_name
returns-in-49 c =
    let n : length c.args.free ≡ variable_limit = search rules in
    leaf_walked (variable-of _ _ _ _ c.requires c.in-49.is).2 (uses-one c.args.hidden c.args.free _ n (omega (arith, variable-of _ _ _ _ c.requires c.in-49.is)))

pub returns-in_default : goal.returns-in_default
unfolding in_name
returns-in_default c =
    let n : length c.args.free ≡ variable_limit = search rules in
    leaf_walked (constant_of _ _ _ _ c.requires (name-last _ _ _ _ c.requires c.in_default.in_default-own.rest)).2 (uses-none c.args.hidden c.args.free n)
