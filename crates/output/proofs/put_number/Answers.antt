-- All digits of a number.
use Rattle.definitions.specs.Values.{natural_text}
use Rattle.output.proofs.put_number.Goals as goal

pub returns : goal.returns
unfolding natural_text
returns c = record { written = c.put_digits.ensures.written; upper_bound = c.put_digits.ensures.upper_bound }
