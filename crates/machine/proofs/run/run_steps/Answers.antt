-- `machine::run::run_steps` meets its contract.
use native.Mathlib.Omega.{arith}
use Rattle.machine.proofs.run.run_steps.Goals as goal

pub fill_ends-requires : goal.fill_ends-requires
fill_ends-requires c = record { script_in_bounds = c.requires.script_len_bound; ends_len_bound = omega arith }

pub invariant_of-view : goal.invariant_of-view
invariant_of-view c = record { ends_lent = c.fill_ends.ensures }

pub returns : goal.returns
returns c = c.take_steps.ensures
