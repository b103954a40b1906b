-- The saved run that was read, if there is one.
use Prim.Native.Nat.{ℕ}
use native.Mathlib.Omega.{arith}
use mathlib.Core.Path.{◌≡◌, refl, ap, sym}
use mathlib.Core.Bool.{true, false, not}
use mathlib.Core.Option.{Option, none, some}
use borrow.Author.Tests.{not-true, not-false}
use Rattle.definitions.specs.declared.SavedRun.{SavedRun}
use Rattle.layout.specs.declared.SavedRead.{SavedRead}
use Rattle.layout.specs.ReadSaved.{read_of}

module _ (x : SavedRead) (o : Option SavedRun) (e : x ≡ read_of o) where
  pub read_none : not x.ok ≡ true → o ≡ none
  read_none f = go o e
    where
      go : (o : Option SavedRun) → x ≡ read_of o → o ≡ none
      go none e = refl
      go (some r) e = absurd (let z : ◌≡◌ {A = ℕ} 0 1 = cc (ap (λ (y : SavedRead). y.ok) e, not-true x.ok f) in omega arith)

  pub read_some : not x.ok ≡ false → o ≡ some x.saved
  read_some t = go o e
    where
      go : (o : Option SavedRun) → x ≡ read_of o → o ≡ some x.saved
      go none e = absurd (let z : ◌≡◌ {A = ℕ} 0 1 = cc (ap (λ (y : SavedRead). y.ok) e, not-false x.ok t) in omega arith)
      go (some r) e = ap (λ (y : SavedRead). some y.saved) (sym e)
