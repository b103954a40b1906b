-- `scope::scope::free_in` meets its contract.
use Rattle.scope.proofs.BindLaws.{freed}
use Rattle.scope.proofs.scope.free_in.Goals as goal

pub returns : goal.returns
returns c = freed _ c.script_uses-found.ensures
