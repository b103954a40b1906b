-- The pairs of a block, one at a time.
use Rattle.std.specs.Prelude.{ℕ, Bool, cond, ◌&&◌, eqb, ltb}
use Rattle.definitions.specs.Limits.{variable_limit}
use Rattle.definitions.specs.Reading.{written_of}
use Rattle.laws.specs.ReadAnswers.{is_some}

-- a pair that is used, and one that is not
unfoldable pub pair_ok : (used : Bool) → (variable written : ℕ) → Bool
pair_ok used variable written = cond used (ltb variable variable_limit && is_some (written_of written)) (eqb variable 0 && eqb written 0)
