-- The total call: the refusal of reading, or the total of the script that is read.
use Rattle.std.specs.Prelude.{Ok, Err}
use Rattle.definitions.specs.declared.Refusal.{Refusal}
use Prim.Native.Nat.{ℕ, ◌≤◌}
use native.Mathlib.Omega.{arith}
use mathlib.Core.Path.{◌≡◌, ap, ◌∙◌}
use mathlib.Core.List.{List}
use mathlib.Core.Bool.{Bool, true, false, cond, ◌&&◌}
use mathlib.Core.Option.{some}
use lib.Dec.{leb, leb→le}
use lib.ListN.{length}
use Rattle.definitions.specs.Limits.{term_limit, entry_limit, script_limit}
use Rattle.definitions.specs.Tree.{Script}
use Rattle.definitions.specs.Reading.{parsed}
use Rattle.definitions.specs.Total.{script_records, has_each, total_of}
use Rattle.definitions.specs.Result.{refused, passed}
use Rattle.definitions.specs.Calls.{Parsed, sizes_fit, read_tests, total_result, total}
use Rattle.laws.specs.ReadAnswers.{is_some}
use Rattle.laws.proofs.Tests.{and_right}
use Rattle.laws.proofs.ReadBounds.{records-fit, parsed-in}
use Rattle.laws.proofs.Check.{ReadPassed, read-passed}
use Rattle.totals.specs.Totals.{total_in}
use Rattle.card.specs.Check.{ReadyOf}
use Rattle.card.specs.declared.refusals.Ready.{Ready}

-- no more than the records
total-few : (c : Script) → total_of c ≤ script_records c
unfolding total_of
total-few c = go (has_each c)
  where
    go : (b : Bool) → cond b 0 (script_records c) ≤ script_records c
    go true = omega arith
    go false = omega arith

module _ (terms schema script : List ℕ) where
  pub total-refused : {n : Refusal} → read_tests terms schema script ≡ refused n → Err n ≡ total terms schema script
  unfolding total total_result
  total-refused e = rw e

  module _ (r : Ready) {table : List ℕ} (told : (x : Parsed) × (read_tests terms schema script ≡ passed x) × ReadyOf schema table x r) where
    abbrev x : Parsed
    x = told.0

    passes : ReadPassed terms schema script x
    passes = read-passed terms schema script x told.1

    parses : parsed r.count script ≡ some x.root
    parses = ap (λ (n : ℕ). parsed n script) told.2.count ∙ passes.parses

    pub reads : is_some (parsed r.count script) ≡ true
    reads = rw parses

    is-total : total_in (parsed r.count script) ≡ total_of x.root
    unfolding total_in
    is-total = rw parses

    -- each record takes a byte of the script
    pub total-small : total_in (parsed r.count script) ≤ script_limit
    unfolding sizes_fit
    total-small =
        let short = leb (length script) script_limit in
        let rest = leb (length x.schema) entry_limit && short in
        let fits = leb→le (length script) script_limit (and_right (leb (length x.schema) entry_limit) short (and_right (leb (length x.terms) term_limit) rest passes.sizes)) in
        let placed = (parsed-in (length x.terms) script x.root passes.parses).placed in
        omega (arith, is-total, total-few x.root, records-fit 0 (length script) x.root placed, fits)

    pub total-told : {n : ℕ} → n ≡ total_in (parsed r.count script) → Ok n ≡ total terms schema script
    unfolding total total_result
    total-told e = rw told.1 (ap Ok (e ∙ is-total))
