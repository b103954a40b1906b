-- The script as a whole, by what reading its root answers.
use Rattle.std.specs.Prelude.{Some}
use Rattle.std.specs.Option.{option_eq}
use Prim.Native.Nat.{ℕ}
use mathlib.Core.List.{List}
use mathlib.Core.Option.{none, some}
use mathlib.Core.Path.{◌≡◌, refl, sym}
use lib.Dec.{eqb}
use lib.ListN.{length}
use Rattle.definitions.specs.Bytes.{Got, provided, onward}
use Rattle.definitions.specs.Limits.{depth_limit}
use Rattle.definitions.specs.Reading.{read_script, parsed}
use Rattle.definitions.specs.Tree.{Script}
use Rattle.laws.proofs.ReadAnswers.{provided-is}
use Rattle.laws.specs.ReadAnswers.{is_some, next_of}

-- the root ends with the bytes
ends-there : (o : Got Script) (n : ℕ) → option_eq eqb (next_of o) (Some n) ≡ is_some (onward o (λ r. provided (eqb r.1 n) (some r.0)))
unfolding next_of onward
ends-there none n = refl
ends-there (some r) n = sym (provided-is (eqb r.1 n) r.0)

pub whole-is : (terms : ℕ) (s : List ℕ) → option_eq eqb (next_of (read_script s terms depth_limit 0)) (Some (length s)) ≡ is_some (parsed terms s)
unfolding parsed
whole-is terms s = ends-there (read_script s terms depth_limit 0) (length s)
