-- `scope::scope::in_scope` meets its contract.
use Rattle.walks.proofs.RootLaws.{whole-loads}
use Rattle.scope.proofs.ScopeLaws.{scope-is}
use Rattle.scope.proofs.scope.in_scope.Goals as goal

pub script_uses-found-requires : goal.script_uses-found-requires
script_uses-found-requires c = whole-loads _ _ c.requires

pub bind_script-walked-requires : goal.bind_script-walked-requires
bind_script-walked-requires c = whole-loads _ _ c.requires

pub returns : goal.returns
returns c =
    scope-is _ _ c.requires c.script_uses-found.ensures c.bind_script-walked.ensures c.none_set.ensures
