-- Stack and bindings together, as the code tests them.
use Prim.Native.Nat.{ℕ, ◌≤◌, ◌<◌}
use mathlib.Core.Path.{◌≡◌, refl, sym, ◌∙◌, ap}
use mathlib.Core.List.{List}
use mathlib.Core.Bool.{Bool, true, false, ◌&&◌}
use mathlib.Core.Option.{Option, none, some}
use lib.Dec.{leb}
use lib.ListN.{length}
use borrow.Author.Tests.{le-leb, lt-leb}
use Rattle.definitions.specs.Limits.{depth_limit}
use Rattle.definitions.specs.Bytes.{provided, onward}
use Rattle.definitions.specs.Terms.{Term}
use Rattle.definitions.specs.Reading.{parsed}
use Rattle.definitions.specs.Machine.{Item, Control}
use Rattle.definitions.specs.Saved.{stack_from, bindings_in, held_control}
use Rattle.definitions.specs.Sound.{stack_sound, control_sound}
use Rattle.definitions.specs.Calls.{Checked}
use Rattle.definitions.specs.declared.SavedControl.{SavedControl}
use Rattle.laws.specs.ReadAnswers.{passes}
use Rattle.control.specs.Control.{items_held, bindings_fit, Lends}
use Rattle.control.proofs.BindingLaws.{bindings_sound, bindings-are}
use Rattle.control.proofs.StackLaws.{stack_held, stack_is}

module _ (script : List ℕ) (loaded : ℕ) (saved : SavedControl) (count : ℕ) (leasts : List ℕ) (c : Checked) (terms : List Term)
    (lends : Lends script loaded saved count leasts c terms) where
  abbrev test : Control → Bool
  test = control_sound c.schema c.types c.root terms

  abbrev stack_test : Bool
  stack_test = stack_held c.root (length terms) saved saved.height

  abbrev bindings_test : Bool
  bindings_test = bindings_sound script loaded saved count leasts c terms lends

  -- the definition's test, clause by clause
  clauses : (leb saved.height depth_limit && (stack_test && bindings_test)) ≡ passes test (held_control c.root saved)
  unfolding held_control control_sound stack_held passes provided onward
  clauses = go (leb saved.height depth_limit) (stack_from c.root saved.height saved.items)
    where
      go : (b : Bool) (o : Option (List Item))
          → (b && (passes (stack_sound c.root (length terms) (bindings_in saved)) o && bindings_test))
          ≡ passes test (provided b (onward o (λ stack. some (record { stack = stack; bindings = bindings_in saved }))))
      go true none = refl
      go true (some stack) = refl
      go false o = refl

  items-are : passes (items_held count saved.bound saved.items saved.height) (parsed loaded script) ≡ stack_test
  unfolding passes
  items-are = rw (lends.parses, lends.counted) (stack_is c.root (length terms) saved saved.height)

  pub too-high : 24 < saved.height → false ≡ passes test (held_control c.root saved)
  too-high h = sym (ap (λ (b : Bool). b && (stack_test && bindings_test)) (lt-leb saved.height depth_limit h)) ∙ clauses

  module _ (low : saved.height ≤ 24) {s : Bool} (e : s ≡ passes (items_held count saved.bound saved.items saved.height) (parsed loaded script)) where
    tested : (s && bindings_test) ≡ passes test (held_control c.root saved)
    tested =
        ap (λ (b : Bool). b && bindings_test) (e ∙ items-are)
        ∙ (sym (ap (λ (b : Bool). b && (stack_test && bindings_test)) (le-leb saved.height depth_limit low)) ∙ clauses)

    pub stack-fails : s ≡ false → false ≡ passes test (held_control c.root saved)
    stack-fails f = sym (ap (λ (b : Bool). b && bindings_test) f) ∙ tested

    pub stack-holds : s ≡ true → {b : Bool} → b ≡ bindings_fit leasts count saved.bound saved.bindings saved.types
        → b ≡ passes test (held_control c.root saved)
    stack-holds f g = g ∙ (bindings-are script loaded saved count leasts c terms lends ∙ (sym (ap (λ (b : Bool). b && bindings_test) f) ∙ tested))
