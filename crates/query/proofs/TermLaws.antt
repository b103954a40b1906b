-- A term's value by its number: the slot that the code takes from the table is the term's.
use Prim.Native.Nat.{ℕ, ◌+◌, ◌*◌, ◌≤◌, ◌<◌}
use native.Mathlib.Omega.{arith}
use mathlib.Core.Path.{◌≡◌, ap}
use mathlib.Core.List.{List}
use mathlib.Core.Option.{some}
use lib.ListN.{length}
use Rattle.definitions.specs.Limits.{slot_width, term_limit}
use Rattle.definitions.specs.Bytes.{part}
use Rattle.definitions.specs.Terms.{Term}
use Rattle.definitions.specs.Outcome.{Outcome}
use Rattle.definitions.specs.Values.{Value as Meant, value_of}
use Rattle.definitions.specs.Saved.{slot_term}
use Rattle.laws.proofs.Options.{same_some}
use Rattle.laws.proofs.Bindings.{there-is, is_below}
use Rattle.laws.proofs.SlotAt.{terms-few, slot_at}
use Rattle.values.specs.Meaning.{Gives}
use Rattle.values.specs.Means.{Holds}
use Rattle.values.specs.declared.Value.{Value}
use Rattle.query.specs.declared.Context.{Context}
use Rattle.query.specs.StoreLent.{Tabled}
use Rattle.query.specs.Eval.{NumberGives}

module _ (table : List ℕ) (x : Context) (held : List Term) (l : Tabled table x held) where
  pub few : x.count ≤ term_limit
  few = omega (arith, terms-few table held l.reads, l.counted)

  module _ (code : ℕ) where
    -- a number past the table has no term
    pub past_value : {v : Value} {o : Outcome Meant} → x.count ≤ code → Gives v o → NumberGives table v code
    past_value h g terms t =
        (g.good, λ u e. absurd (omega (arith, is_below terms code u e, ap length (same_some t l.reads), l.counted)))

    module _ (h : code < x.count) where
      pub fits : code * slot_width + slot_width ≤ length table
      fits = omega (arith, few, l.size)

      abbrev slot : List ℕ
      slot = part table (code * slot_width) slot_width

      pub slot-there : (t : Term) × (slot_term slot ≡ some t)
      slot-there =
          let t = there-is held code (omega (arith, l.counted)) in
          (t.0, slot_at table held l.reads code t.0 t.1)

      pub slot-value : {v : Value} → ((t : Term) → slot_term slot ≡ some t → Holds v (value_of t)) → NumberGives table v code
      slot-value g terms t =
          let s = slot-there in
          ((g s.0 s.1).good, λ u e. (g u (slot_at table terms t code u e)).is)
