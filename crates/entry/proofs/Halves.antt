-- Refusal 10 in two halves: where the records load, the store that is held passes its test, and the control that is held its own over the store's terms.
use Rattle.definitions.specs.declared.Refusal.{Refusal}
use Prim.Native.Nat.{ℕ}
use native.Mathlib.Omega.{arith}
use mathlib.Core.Path.{◌≡◌, refl, sym, ◌∙◌, ap}
use mathlib.Core.List.{List}
use mathlib.Core.Bool.{Bool, true, false, ◌&&◌, and-false}
use mathlib.Core.Option.{Option, none, some}
use Rattle.definitions.specs.Bytes.{same_bytes, provided, onward}
use Rattle.definitions.specs.Machine.{Control, Store, State}
use Rattle.definitions.specs.Saved.{held_control, held_store, held}
use Rattle.definitions.specs.Sound.{store_sound, control_sound, state_sound}
use Rattle.definitions.specs.Result.{refused, passed}
use Rattle.definitions.specs.Calls.{Checked, Lent, Sound, check, checked_of, reported, sound_in}
use Rattle.definitions.specs.declared.SavedControl.{SavedControl}
use Rattle.definitions.specs.declared.SavedRun.{SavedRun}
use Rattle.laws.specs.ReadAnswers.{is_some, passes}
use Rattle.laws.proofs.ReadAnswers.{provided-is, only_if}

-- the control that is held is sound over a store
abbrev pub control_fits : Checked → SavedControl → Store → Bool
control_fits c saved s = passes (control_sound c.schema c.types c.root s.terms) (held_control c.root saved)

-- both are
abbrev pub both_fit : Checked → SavedControl → Store → Bool
both_fit c saved s = store_sound c.schema c.terms s && control_fits c saved s

halves : (c : Checked) (term_bytes quad_bytes : List ℕ) (saved : SavedRun)
    → passes (state_sound c.schema c.types c.terms c.root) (held c.root term_bytes quad_bytes saved)
    ≡ passes (both_fit c saved.control) (held_store term_bytes quad_bytes saved.store)
unfolding held passes onward state_sound
halves c term_bytes quad_bytes saved = go (held_store term_bytes quad_bytes saved.store) (held_control c.root saved.control)
  where
    go : (o : Option Store) (q : Option Control)
        → passes (state_sound c.schema c.types c.terms c.root) (onward o (λ store. onward q (λ control. some (record { control = control; store = store }))))
        ≡ passes (λ s. store_sound c.schema c.terms s && passes (control_sound c.schema c.types c.root s.terms) q) o
    go none q = refl
    go (some s) none = sym (and-false (store_sound c.schema c.terms s))
    go (some s) (some control) = refl

module _ {A B : Type 0} (p : A → Bool) (make : A → B) where
  tested : (o : Option A) → is_some (onward o (λ a. provided (p a) (some (make a)))) ≡ passes p o
  unfolding onward passes
  tested none = refl
  tested (some a) = provided-is (p a) (make a)

-- where the records load: the reported types are those worked out, and both halves pass
pub sound-test : (l : Lent) (saved : SavedRun) (c : Checked) → check l.terms l.schema l.script ≡ passed c
    → is_some (sound_in l saved)
    ≡ (same_bytes saved.control.types (reported c) && passes (both_fit c saved.control) (held_store l.term_table l.quad_table saved.store))
unfolding sound_in checked_of onward
sound-test l saved c e =
    let test : State → Bool = state_sound c.schema c.types c.terms c.root in
    let states = held c.root l.term_table l.quad_table saved in
    let make : State → Sound = λ s. record { checked = c; state = s } in
    let same = same_bytes saved.control.types (reported c) in
    rw e
    (only_if same (onward states (λ s. provided (test s) (some (make s))))
    ∙ ap (λ (b : Bool). same && b) (tested test make states ∙ halves c l.term_table l.quad_table saved))

pub not-loaded : (l : Lent) (saved : SavedRun) (n : Refusal) → check l.terms l.schema l.script ≡ refused n → is_some (sound_in l saved) ≡ false
unfolding sound_in checked_of onward
not-loaded l saved n e = rw e

-- one half after the other
module _ {A : Type 0} (p q : A → Bool) where
  pub first-fails : (o : Option A) → passes p o ≡ false → passes (λ a. p a && q a) o ≡ false
  unfolding passes
  first-fails none e = refl
  first-fails (some a) e = ap (λ (b : Bool). b && q a) e

  pub then-second : (o : Option A) → passes p o ≡ true → (a : A) × (o ≡ some a) × (p a ≡ true) × (passes (λ a. p a && q a) o ≡ q a)
  unfolding passes
  then-second none e = absurd (let z : ◌≡◌ {A = ℕ} 0 1 = cc in omega arith)
  then-second (some a) e = (a, refl, e, ap (λ (b : Bool). b && q a) e)
