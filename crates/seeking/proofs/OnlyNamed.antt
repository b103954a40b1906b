-- What a query gives depends only on the terms of the variables that it names.
use Prim.Native.Nat.{ℕ}
use mathlib.Core.Path.{◌≡◌, refl, ap}
use mathlib.Core.List.{List}
use mathlib.Core.Bool.{Bool, ◌||◌}
use lib.Dec.{T, eqb_refl}
use Rattle.definitions.specs.Terms.{Term}
use Rattle.definitions.specs.Tree.{Name, var, const, Expr, Cond}
use Rattle.definitions.specs.Scope.{in_name, in_expr, in_cond}
use Rattle.definitions.specs.Evaluate.{Setting, Bindings, Quad, named, term_of_number, expression, condition}
use Rattle.laws.proofs.Tests.{or_left, or_right}

-- two bindings with the same terms for the variables that a test names
abbrev pub Agree : Bindings → Bindings → (ℕ → Bool) → Type 0
Agree β γ names = (v : ℕ) → T (names v) → β v ≡ γ v

module _ (β γ : Bindings) (f g : ℕ → Bool) (a : Agree β γ (λ v. f v || g v)) where
  agree_left : Agree β γ f
  agree_left v m = a v (or_left (f v) (g v) m)

  agree_right : Agree β γ g
  agree_right v m = a v (or_right (f v) (g v) m)

module _ (σ : Setting) (terms : List Term) (quads : List Quad) (β γ : Bindings) where
  named-agrees : (n : Name) → Agree β γ (λ v. in_name v n) → named terms β n ≡ named terms γ n
  unfolding named in_name
  named-agrees (var v) a = ap (term_of_number terms) (a v (eqb_refl v))
  named-agrees (const c) a = refl

  abbrev ExprAgrees : Expr → Type 0
  ExprAgrees e = expression σ terms quads β e ≡ expression σ terms quads γ e

  abbrev CondAgrees : Cond → Type 0
  CondAgrees c = condition σ terms quads β c ≡ condition σ terms quads γ c

  -- the two sides of an operator
  module _ (e f : Expr) (a : Agree β γ (λ v. in_expr v e || in_expr v f)) where
    first-agrees : Agree β γ (λ v. in_expr v e)
    first-agrees = agree_left β γ (λ v. in_expr v e) (λ v. in_expr v f) a

    second-agrees : Agree β γ (λ v. in_expr v f)
    second-agrees = agree_right β γ (λ v. in_expr v e) (λ v. in_expr v f) a

  expression-agrees : (e : Expr) → Agree β γ (λ v. in_expr v e) → ExprAgrees e
  unfolding expression in_expr
  expression-agrees (Expr.name n) a = rw (named-agrees n a) refl
  expression-agrees Expr.now a = refl
  expression-agrees (Expr.str e) a = rw (expression-agrees e a) refl
  expression-agrees (Expr.abs e) a = rw (expression-agrees e a) refl
  expression-agrees (Expr.plus e f) a = rw (expression-agrees e (first-agrees e f a), expression-agrees f (second-agrees e f a)) refl
  expression-agrees (Expr.minus e f) a = rw (expression-agrees e (first-agrees e f a), expression-agrees f (second-agrees e f a)) refl

  pub condition-agrees : (c : Cond) → Agree β γ (λ v. in_cond v c) → CondAgrees c
  unfolding condition in_cond
  condition-agrees Cond.no a = refl
  condition-agrees Cond.yes a = refl
  condition-agrees (Cond.or c d) a =
      rw (
        condition-agrees c (agree_left β γ (λ v. in_cond v c) (λ v. in_cond v d) a),
        condition-agrees d (agree_right β γ (λ v. in_cond v c) (λ v. in_cond v d) a),
      ) refl
  condition-agrees (Cond.and c d) a =
      rw (
        condition-agrees c (agree_left β γ (λ v. in_cond v c) (λ v. in_cond v d) a),
        condition-agrees d (agree_right β γ (λ v. in_cond v c) (λ v. in_cond v d) a),
      ) refl
  condition-agrees (Cond.not c) a = rw (condition-agrees c a) refl
  condition-agrees (Cond.regex p e) a = rw (expression-agrees e a) refl
  condition-agrees (Cond.lang_matches r e) a = rw (expression-agrees e a) refl
  condition-agrees (Cond.equal e f) a = rw (expression-agrees e (first-agrees e f a), expression-agrees f (second-agrees e f a)) refl
  condition-agrees (Cond.less e f) a = rw (expression-agrees e (first-agrees e f a), expression-agrees f (second-agrees e f a)) refl
