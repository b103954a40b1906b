-- Binding a tuple to a block's variables, one after the other.
use Prim.Native.Nat.{ℕ, suc, ◌+◌, ◌-◌, ◌*◌, ◌≤◌, ◌<◌}
use native.Mathlib.Omega.{arith}
use mathlib.Core.Path.{◌≡◌, refl, ap, sym, ◌∙◌}
use mathlib.Core.Bool.{Bool}
use mathlib.Core.List.{List, [], ◌∷◌}
use lib.ListN.{length, get_or, take, drop}
use lib.Seq.{drop-cons}
use Rattle.definitions.specs.Bytes.{byte}
use Rattle.definitions.specs.Search.{bind}
use Rattle.definitions.specs.Machine.{Control}
use Rattle.definitions.specs.Saved.{saved_control}
use Rattle.definitions.specs.declared.SavedControl.{SavedControl}
use Rattle.laws.specs.Lists.{All}
use Rattle.laws.specs.Pairs.{pair_variables}
use Rattle.store.specs.Stack.{bound_all, bound_to}
use Rattle.store.proofs.ControlStates.{with_bindings, saved-bind}

-- a control with other bindings, while they are collected
abbrev pub with_bound : SavedControl → List Bool → List ℕ → SavedControl
with_bound c bound bindings = record { height = c.height; types = c.types; bound = bound; bindings = bindings; items = c.items }

-- one variable more, in front of those that are bound
module _ (r next : SavedControl) (s tuple : List ℕ) (at count k m v i : ℕ) (one : suc m ≡ k) (some : k ≤ count) (four : count ≤ length tuple) where
  pub bind-next : v ≡ byte s (at + 2 * m) → i ≡ get_or tuple m 0
      → next ≡ bound_all r (pair_variables (count - k) s (at + 2 * k)) (take (count - k) (drop k tuple))
      → bound_to next v i ≡ bound_all r (pair_variables (count - m) s (at + 2 * m)) (take (count - m) (drop m tuple))
  unfolding pair_variables bound_all
  bind-next e f g =
      let n : ℕ = count - k in
      let a : count - m ≡ suc n = omega arith in
      let b : at + 2 * k ≡ at + 2 * m + 2 = omega arith in
      let d : drop m tuple ≡ get_or tuple m 0 ∷ drop k tuple =
      drop-cons tuple m 0 (omega arith) ∙ ap (λ (j : ℕ). get_or tuple m 0 ∷ drop j tuple) one in
      (λ z. bound_to (g z) (e z) (f z))
      ∙ (ap (λ (x : ℕ). bound_to (bound_all r (pair_variables n s x) (take n (drop k tuple))) (byte s (at + 2 * m)) (get_or tuple m 0)) b
      ∙ (ap (λ (l : List ℕ). bound_all r (pair_variables (suc n) s (at + 2 * m)) (take (suc n) l)) (sym d)
      ∙ ap (λ (x : ℕ). bound_all r (pair_variables x s (at + 2 * m)) (take x (drop m tuple))) (sym a)))

-- none is left to bind at first
pub bind-none : (r : SavedControl) (s tuple : List ℕ) (at count : ℕ) → r ≡ bound_all r (pair_variables (count - count) s (at + 2 * count)) (take (count - count) (drop count tuple))
unfolding pair_variables bound_all
bind-none r s tuple at count = let e : count - count ≡ 0 = omega arith in rw e refl

-- and all at last
pub bind_all : (r next : SavedControl) (s tuple : List ℕ) (at count k : ℕ) → k ≡ 0
    → next ≡ bound_all r (pair_variables (count - k) s (at + 2 * k)) (take (count - k) (drop k tuple)) → next ≡ bound_all r (pair_variables count s at) (take count tuple)
bind_all r next s tuple at count k e g =
    let a : at + 2 * 0 ≡ at = omega arith in
    let b : count - 0 ≡ count = omega arith in
    g ∙ (ap (λ (j : ℕ). bound_all r (pair_variables (count - j) s (at + 2 * j)) (take (count - j) (drop j tuple))) e
    ∙ (λ z. bound_all r (pair_variables (b z) s (a z)) (take (b z) tuple)))

-- ── what it does to the control ─────────────────────────────────────────────────────────────

-- all of a tuple's terms
pub saved-bind-all : (types : List ℕ) (c : Control) (vs t : List ℕ) → All (λ v. v < 16) vs
    → bound_all (saved_control types c) vs t ≡ saved_control types (with_bindings c (bind vs t c.bindings))
unfolding bound_all bind
saved-bind-all types c [] t h = refl
saved-bind-all types c (v ∷ vs) [] h = refl
saved-bind-all types c (v ∷ vs) (i ∷ t) h =
    ap (λ (r : SavedControl). bound_to r v i) (saved-bind-all types c vs t h.1)
    ∙ saved-bind types (with_bindings c (bind vs t c.bindings)) v i h.0
