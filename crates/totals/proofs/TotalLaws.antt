-- The records of kinds 71 to 74 that a walk counts: they fit, and with them the total of a whole script.
use Prim.Native.Nat.{ℕ, ◌+◌, ◌≤◌}
use mathlib.Core.Bool.{Bool, true, false}
use mathlib.Core.List.{List}
use mathlib.Core.Path.{◌≡◌, sym, ◌∙◌}
use native.Mathlib.Omega.{arith}
use lib.ListN.{length}
use Rattle.definitions.specs.Limits.{depth_limit}
use Rattle.definitions.specs.Bytes.{Got}
use Rattle.definitions.specs.Tree.{Script}
use Rattle.definitions.specs.Reading.{read_script, parsed}
use Rattle.definitions.specs.Total.{script_records, has_each, total_of}
use Rattle.laws.specs.Walks.{Walked}
use Rattle.laws.specs.ReadAnswers.{is_some}
use Rattle.laws.proofs.ReadBounds.{records-fit, script-within}
use Rattle.totals.specs.Totals.{total_in}
use Rattle.walks.proofs.RootLaws.{whole_of, of-root}

-- so many records, and whether an each block is among them
abbrev pub Counted : (records : ℕ) → (each : Bool) → Got Script → (next : ℕ) → Type 0
Counted records each o next = Walked (λ c. (records ≡ script_records c) × (each ≡ has_each c)) o next

-- each takes a byte of the script
pub counted-fits : {records next : ℕ} {each : Bool} (s : List ℕ) (terms left at : ℕ) → Counted records each (read_script s terms left at) next
    → (at + records ≤ next) × (next ≤ length s)
counted-fits {next = next} s terms left at w =
    let i = script-within s terms left at w.tree next w.read in
    (omega (arith, w.holds.0, records-fit at next w.tree i.placed), i.to)

module _ (terms : ℕ) (s : List ℕ) (e : is_some (parsed terms s) ≡ true) {records next : ℕ} {each : Bool} (w : Counted records each (read_script s terms depth_limit 0) next) where
  pub no-total : each ≡ true → 0 ≡ total_in (parsed terms s)
  unfolding total_in total_of
  no-total h = rw ((whole_of terms s e).parses, sym (of-root terms s e w).1 ∙ h)

  pub total-is : each ≡ false → records ≡ total_in (parsed terms s)
  unfolding total_in total_of
  total-is h = rw ((whole_of terms s e).parses, sym (of-root terms s e w).1 ∙ h) (of-root terms s e w).0
