-- `run_limits::in_limits` meets its contract.
use mathlib.Core.Path.{ap}
use mathlib.Core.Bool.{Bool, ◌&&◌}
use lib.Dec.{leb}
use Rattle.run_limits.proofs.in_limits.Goals as goal

pub returns : goal.returns
returns c = ap (λ (b : Bool). leb c.args.budget 60000 && b) c.is_date_time.ensures
