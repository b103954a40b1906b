-- The depth of a record as it is answered.
use Rattle.std.specs.Prelude.{ℕ, cond, eqb}
use Rattle.std.specs.Prelude.{Some, None}
use Rattle.std.specs.declared.option.Option as Answer
use Rattle.std.proofs.Math.Option.{Option, none, some}
use Rattle.definitions.specs.Tree.{Script}
use Rattle.definitions.specs.Saved.{place_in}
use Rattle.definitions.specs.Saved as Saved

abbrev pub place_of : Option Saved.Place → Answer.Option ℕ
place_of none = None
place_of (some p) = Some p.depth

abbrev pub own_place : (wanted at depth : ℕ) → Answer.Option ℕ → Answer.Option ℕ
own_place wanted at depth below = cond (eqb wanted at) (Some depth) below

-- the place of an offset's record in a script, if there is one
unfoldable pub place_at : Option Script → ℕ → Answer.Option ℕ
place_at none wanted = None
place_at (some root) wanted = place_of (place_in root wanted)
