-- The operators of a script, told apart after their operands are read: where those stand, whichever operator it is.
use Prim.Native.Nat.{ℕ, ◌+◌, ◌-◌, ◌≤◌, ◌<◌}
use native.Mathlib.Omega.{arith}
use mathlib.Core.Path.{◌≡◌, subst⁻¹}
use mathlib.Core.Bool.{Bool, cond}
use lib.Dec.{eqb}
use borrow.Author.Tests.{eq-eqb, ne_eqb}
use mathlib.Core.Logic.{⊎_elim}
use mathlib.Core.List.{List}
use Rattle.definitions.specs.Bytes.{byte}
use Rattle.definitions.specs.Tree.{Expr, Cond, Query}
use Rattle.definitions.specs.Reading.{read_expr, read_cond, read_query}
use Rattle.laws.specs.Walks.{Loads, Walked}
use Rattle.laws.proofs.Productions.{Two, ExprAt, CondAt, QueryAt}
use Rattle.laws.proofs.Ranges.{either, split}
use Rattle.laws.proofs.Records.{cond-last}

-- two booleans of which either is enough, or of which both are needed
abbrev pub joint : (either : Bool) → Cond → Cond → Cond
joint either = cond either Cond.or Cond.and

abbrev pub linked : (either : Bool) → Query → Query → Query
linked either = cond either Query.union Query.both

module _ {t : ℕ} {s : List ℕ} {terms left at : ℕ} (h : ExprAt t s terms left at) where
  pub minus-at : 0x44 ≤ byte s at → (byte s at ≡ 0x44 → ⊥) → Two t left Expr.minus (read_expr s terms (left - 1)) (read_expr s terms (left - 1)) (at + 1) (read_expr s terms left at)
  minus-at from other = h.minus_last (omega arith) ((((tt, λ e. omega arith), λ e. omega arith), λ e. omega arith), other)

  pub first-operand : 0x42 ≤ byte s at → (left - 1 < t) × Loads (read_expr s terms (left - 1) (at + 1))
  first-operand from =
      ⊎_elim
      (λ l. let n = minus-at (omega arith) (λ e. omega arith) in (n.falls, n.first))
      (λ l.
      ⊎_elim
      (λ k. let n = h.plus (omega arith) in (n.falls, n.first))
      (λ k. ⊎_elim (λ e. ((h.str e).falls, (h.str e).child)) (λ e. ((h.abs e).falls, (h.abs e).child)) (either 0x42 from k))
      (split 0x44 (byte s at)))
      (split 0x45 (byte s at))

  pub second-operand : 0x44 ≤ byte s at → {P : Expr → Type 0} {m : ℕ} → Walked P (read_expr s terms (left - 1) (at + 1)) m
      → (left - 1 < t) × Loads (read_expr s terms (left - 1) m)
  second-operand from w =
      ⊎_elim
      (λ l. let n = minus-at from (λ e. omega arith) in (n.falls, n.second w))
      (λ l. let n = h.plus (omega arith) in (n.falls, n.second w))
      (split 0x45 (byte s at))

-- the first kind of a boolean
pub cond-above : (s : List ℕ) (terms left at : ℕ) → Loads (read_cond s terms left at) → 0x50 ≤ byte s at
cond-above s terms left at l =
    ⊎_elim (λ h. h)
    (λ h.
    let e = cond-last s terms left at l
    ((((((((tt, λ e. omega arith), λ e. omega arith), λ e. omega arith), λ e. omega arith), λ e. omega arith), λ e. omega arith), λ e. omega arith), λ e. omega arith) in
    omega (arith, e))
    (split 0x50 (byte s at))

module _ {t : ℕ} {s : List ℕ} {terms left at : ℕ} (h : CondAt t s terms left at) where
  pub less-at : 0x57 ≤ byte s at → (byte s at ≡ 0x57 → ⊥) → Two t left Cond.less (read_expr s terms (left - 1)) (read_expr s terms (left - 1)) (at + 1) (read_cond s terms left at)
  less-at from other =
      h.less ((((((((tt, λ e. omega arith), λ e. omega arith), λ e. omega arith), λ e. omega arith), λ e. omega arith), λ e. omega arith), λ e. omega arith), other)

  -- a test of two values: where they stand
  pub first-value : 0x57 ≤ byte s at → Loads (read_expr s terms (left - 1) (at + 1))
  first-value from =
      ⊎_elim (λ l. (less-at from (λ e. omega arith)).first) (λ l. (h.equal (omega arith)).first) (split 0x58 (byte s at))

  pub second-value : 0x57 ≤ byte s at → {P : Expr → Type 0} {m : ℕ} → Walked P (read_expr s terms (left - 1) (at + 1)) m → Loads (read_expr s terms (left - 1) m)
  second-value from w =
      ⊎_elim (λ l. (less-at from (λ e. omega arith)).second w) (λ l. (h.equal (omega arith)).second w) (split 0x58 (byte s at))

  -- or, or and
  pub joint-at : 0x52 ≤ byte s at → byte s at < 0x54 → Two t left (joint (eqb (byte s at) 0x52)) (read_cond s terms (left - 1)) (read_cond s terms (left - 1)) (at + 1) (read_cond s terms left at)
  joint-at from below =
      let Is : Bool → Type 1 = λ b. Two t left (joint b) (read_cond s terms (left - 1)) (read_cond s terms (left - 1)) (at + 1) (read_cond s terms left at) in
      ⊎_elim (λ e. subst⁻¹ Is (eq-eqb (byte s at) 0x52 e) (h.or e)) (λ e. subst⁻¹ Is (ne_eqb (byte s at) 0x52 (λ f. omega arith)) (h.and e)) (either 0x52 from below)

module _ {t : ℕ} {s : List ℕ} {terms left at : ℕ} (h : QueryAt t s terms left at) where
  -- a union, or both
  pub linked-at : 0x62 ≤ byte s at → byte s at < 0x64 → Two t left (linked (eqb (byte s at) 0x63)) (read_query s terms (left - 1)) (read_query s terms (left - 1)) (at + 1) (read_query s terms left at)
  linked-at from below =
      let Is : Bool → Type 1 = λ b. Two t left (linked b) (read_query s terms (left - 1)) (read_query s terms (left - 1)) (at + 1) (read_query s terms left at) in
      ⊎_elim (λ e. subst⁻¹ Is (ne_eqb (byte s at) 0x63 (λ f. omega arith)) (h.both e)) (λ e. subst⁻¹ Is (eq-eqb (byte s at) 0x63 e) (h.union e)) (either 0x62 from below)
