-- What tables hold, whatever else is in them: valid terms. So the same tables hold a state after a run too.
use Prim.Native.Nat.{ℕ, zero, suc, ◌+◌}
use mathlib.Core.Bool.{Bool, true, false}
use mathlib.Core.List.{List, [], ◌∷◌}
use mathlib.Core.Option.{Option, some}
use mathlib.Core.Path.{◌≡◌, subst}
use lib.Dec.{eqb}
use lib.ListN.{drop}
use Rattle.definitions.specs.Limits.{slot_width, term_limit}
use Rattle.definitions.specs.Bytes.{byte, part, all_zero, provided, onward}
use Rattle.definitions.specs.Terms.{Term, read_term}
use Rattle.definitions.specs.Machine.{State}
use Rattle.definitions.specs.Saved.{slot_term, terms_from, terms_in, held, saved_of}
use Rattle.definitions.specs.Calls.{Checked}
use Rattle.definitions.specs.declared.SavedRun.{SavedRun}
use Rattle.laws.proofs.Options.{some_is, onward-inv, provided-inv}
use Rattle.laws.specs.Lists.{All}
use Rattle.laws.specs.Sound.{Accepted, Sound}
use Rattle.laws.specs.Valid.{Valid, ValidIn}
use Rattle.laws.proofs.Valid.{term-valid}
use Rattle.laws.proofs.Saved.{Holding, held_of, held-inv, control-again, store-again, quads-in-count}

-- ── terms ───────────────────────────────────────────────────────────────────────────────────

slot-valid : (slot : List ℕ) (t : Term) → slot_term slot ≡ some t → Valid t
unfolding slot_term
slot-valid slot t e =
    let r = onward-inv (read_term slot 0) (λ r. provided (all_zero (drop r.1 slot)) (some r.0)) e in
    let p = provided-inv (all_zero (drop r.0.1 slot)) (some r.0.0) r.2 in
    subst Valid (some_is p.1) (term-valid slot 0 r.0.0 r.0.1 r.1)

terms-from-valid : (left : ℕ) (table : List ℕ) (at : ℕ) (ts : List Term) → terms_from left table at ≡ some ts → All Valid ts
unfolding terms_from
terms-from-valid zero table at ts e = subst (All Valid) (some_is e) tt
terms-from-valid (suc left) table at ts e = go (eqb (byte table at) 0) (λ ts e. terms-from-valid left table (at + slot_width) ts e) e
  where
    go : (b : Bool) → ((ts : List Term) → terms_from left table (at + slot_width) ≡ some ts → All Valid ts)
        → (elim b as (λ c. Option (List Term)) [
          | true ↦ provided (all_zero (drop at table)) (some [])
          | false ↦ onward (slot_term (part table at slot_width)) (λ t. onward (terms_from left table (at + slot_width)) (λ ts. some (t ∷ ts)))
        ]) ≡ some ts → All Valid ts
    go true rest e = subst (All Valid) (some_is (provided-inv (all_zero (drop at table)) (some []) e).1) tt
    go false rest e =
        let t = onward-inv (slot_term (part table at slot_width)) (λ t. onward (terms_from left table (at + slot_width)) (λ ts. some (t ∷ ts))) e in
        let r = onward-inv (terms_from left table (at + slot_width)) (λ ts. some (t.0 ∷ ts)) t.2 in
        subst (All Valid) (some_is r.2) (slot-valid (part table at slot_width) t.0 t.1, rest r.0 r.1)

pub terms-held-valid : (table : List ℕ) (ts : List Term) → terms_in table ≡ some ts → All Valid ts
unfolding terms_in
terms-held-valid table ts e = terms-from-valid term_limit table 0 ts e

-- ── the whole ───────────────────────────────────────────────────────────────────────────────

module _ (c : Checked) (term_bytes quad_bytes : List ℕ) (saved : SavedRun) (s : State) (h : held c.root term_bytes quad_bytes saved ≡ some s) where
  holding : Holding c.root term_bytes quad_bytes saved s
  holding = held-inv c.root term_bytes quad_bytes saved s h

  pub valid-held : ValidIn s
  valid-held = terms-held-valid term_bytes s.store.terms holding.store.terms

  -- the same tables, with the saved run of a later state that has the same store
  pub still-held : Accepted c → (after : State) → Sound c after → after.store ≡ s.store → (types : List ℕ)
      → held c.root term_bytes quad_bytes (saved_of types after) ≡ some after
  still-held accepted after sound same types =
      let count = quads-in-count saved.store.quads quad_bytes s.store.quads holding.store.quads in
      held_of c.root term_bytes quad_bytes (saved_of types after) after
      (record {
        control = control-again c accepted after sound types;
        store = store-again c accepted after sound term_bytes quad_bytes (rw same holding.store.terms) (rw (same, count) holding.store.quads);
      })
