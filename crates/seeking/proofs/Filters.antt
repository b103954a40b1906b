-- A filter with some of its variables known: what it comes to once all are known it may come to now.
use Prim.Native.Nat.{ℕ}
use mathlib.Core.Path.{◌≡◌, refl, ap, subst, subst⁻¹}
use mathlib.Core.Logic.{⊎_elim}
use mathlib.Core.List.{List}
use mathlib.Core.Bool.{Bool, true, false, not, ◌&&◌, ◌||◌}
use lib.Dec.{T, eqb→eq}
use Rattle.definitions.specs.Tree.{Name, var, const, Expr, Cond}
use Rattle.definitions.specs.Scope.{in_name, in_expr, in_cond}
use Rattle.definitions.specs.Terms.{Term}
use Rattle.definitions.specs.Outcome.{Outcome, ok, fault, ◌>>=◌}
use Rattle.definitions.specs.Truth.{not_truth, and_truth, or_truth, is_true}
use Rattle.definitions.specs.Evaluate.{Setting, Quad, Bindings, condition}
use Rattle.definitions.specs.Evaluated.{gives}
use Rattle.definitions.specs.declared.Truth.{Truth}
use Rattle.definitions.specs.declared.Truth.TheVariants.{True, False, Unknown}
use Rattle.laws.proofs.Truths.{true-and, false-and, true-or, false-or}
use Rattle.laws.proofs.Tests.{and_left, and_right, and_make, or_left, or_right, or_cases}
use Rattle.laws.specs.Bindings.{Bound, BoundIn}
use Rattle.laws.proofs.Bindings.{test-bound}
use Rattle.query.specs.Known.{name_known, expr_known, comes_to, joined, may_test, may}
use Rattle.seeking.specs.Seeking.{Keeps}
use Rattle.seeking.proofs.OnlyNamed.{Agree, condition-agrees}

-- ── each variable of a known filter is bound ────────────────────────────────────────────────

module _ (γ : Bindings) where
  -- two parts, each known
  both-bound : (names₁ names₂ : ℕ → Bool) (known₁ known₂ : Bool) → (T known₁ → BoundIn γ names₁) → (T known₂ → BoundIn γ names₂)
      → T (known₁ && known₂) → BoundIn γ (λ v. names₁ v || names₂ v)
  both-bound names₁ names₂ known₁ known₂ f g k v m =
      ⊎_elim (f (and_left known₁ known₂ k) v) (g (and_right known₁ known₂ k) v) (or_cases (names₁ v) (names₂ v) m)

  pub name-bound : (n : Name) → T (name_known γ n) → BoundIn γ (λ v. in_name v n)
  unfolding name_known in_name
  name-bound (const c) k v m = absurd m
  name-bound (var w) k v m = let e : v ≡ w = eqb→eq v w m in subst⁻¹ (Bound γ) e (test-bound γ w k)

  pub expr-bound : (e : Expr) → T (expr_known γ e) → BoundIn γ (λ v. in_expr v e)
  unfolding expr_known in_expr
  expr-bound (Expr.name n) k = name-bound n k
  expr-bound Expr.now k = λ v m. absurd m
  expr-bound (Expr.str e) k = expr-bound e k
  expr-bound (Expr.abs e) k = expr-bound e k
  expr-bound (Expr.plus e f) k = both-bound (λ v. in_expr v e) (λ v. in_expr v f) (expr_known γ e) (expr_known γ f) (expr-bound e) (expr-bound f) k
  expr-bound (Expr.minus e f) k = both-bound (λ v. in_expr v e) (λ v. in_expr v f) (expr_known γ e) (expr_known γ f) (expr-bound e) (expr-bound f) k

  -- both sides of a comparison
  pub pair-bound : (e f : Expr) → T (expr_known γ e && expr_known γ f) → BoundIn γ (λ v. in_expr v e || in_expr v f)
  pair-bound e f k = both-bound (λ v. in_expr v e) (λ v. in_expr v f) (expr_known γ e) (expr_known γ f) (expr-bound e) (expr-bound f) k

-- ── with more known ─────────────────────────────────────────────────────────────────────────

pub bound-agrees : (γ δ : Bindings) → Keeps γ δ → (names : ℕ → Bool) → BoundIn γ names → Agree γ δ names
bound-agrees γ δ u names b v m = let h = b v m in let e = u v h.number h.is in cc

-- ── what a boolean comes to it may come to, with less known ─────────────────────────────────

comes-not : (want : Bool) (a : Truth) → comes_to want (not_truth a) ≡ comes_to (not want) a
unfolding comes_to not_truth
comes-not true a = refl
comes-not false True = refl
comes-not false False = refl
comes-not false Unknown = refl

comes-or : (want : Bool) (a b : Truth) → comes_to want (or_truth a b) ≡ joined want (comes_to want a) (comes_to want b)
unfolding comes_to not_truth is_true or_truth
comes-or true True b = ap is_true (true-or b)
comes-or true False b = ap is_true (false-or b)
comes-or true Unknown True = refl
comes-or true Unknown False = refl
comes-or true Unknown Unknown = refl
comes-or false True b = ap (λ t. is_true (not_truth t)) (true-or b)
comes-or false False b = ap (λ t. is_true (not_truth t)) (false-or b)
comes-or false Unknown True = refl
comes-or false Unknown False = refl
comes-or false Unknown Unknown = refl

comes-and : (want : Bool) (a b : Truth) → comes_to want (and_truth a b) ≡ joined (not want) (comes_to want a) (comes_to want b)
unfolding comes_to not_truth is_true and_truth
comes-and true True b = ap is_true (true-and b)
comes-and true False b = ap is_true (false-and b)
comes-and true Unknown True = refl
comes-and true Unknown False = refl
comes-and true Unknown Unknown = refl
comes-and false True b = ap (λ t. is_true (not_truth t)) (true-and b)
comes-and false False b = ap (λ t. is_true (not_truth t)) (false-and b)
comes-and false Unknown True = refl
comes-and false Unknown False = refl
comes-and false Unknown Unknown = refl

joined-more : (w a b c d : Bool) → (T a → T c) → (T b → T d) → T (joined w a b) → T (joined w c d)
joined-more true a b c d f g h = ⊎_elim (λ k. or_left c d (f k)) (λ k. or_right c d (g k)) (or_cases a b h)
joined-more false a b c d f g h = and_make c d (f (and_left a b h)) (g (and_right a b h))

-- two parts, of which neither met a fault
two-come : (w want : Bool) (f : Truth → Truth → Truth) → ((a b : Truth) → comes_to want (f a b) ≡ joined w (comes_to want a) (comes_to want b)) → (m n : Outcome Truth) (c d : Bool)
    → (T (gives (comes_to want) m) → T c) → (T (gives (comes_to want) n) → T d) → T (gives (comes_to want) (m >>= λ a. n >>= λ b. ok (f a b))) → T (joined w c d)
unfolding ◌>>=◌
two-come w want f law (fault x) n c d p q h = absurd h
two-come w want f law (ok a) (fault x) c d p q h = absurd h
two-come w want f law (ok a) (ok b) c d p q h = joined-more w (comes_to want a) (comes_to want b) c d p q (subst T (law a b) h)

not-comes : (want : Bool) (m : Outcome Truth) → T (gives (comes_to want) (m >>= λ a. ok (not_truth a))) → T (gives (comes_to (not want)) m)
unfolding ◌>>=◌
not-comes want (fault x) h = absurd h
not-comes want (ok a) h = subst T (comes-not want a) h

module _ (σ : Setting) (terms : List Term) (quads : List Quad) (γ δ : Bindings) (u : Keeps γ δ) where
  -- a test
  test-may : (known want : Bool) (c : Cond) → (T known → BoundIn γ (λ v. in_cond v c)) → T (gives (comes_to want) (condition σ terms quads δ c)) → T (may_test σ terms quads γ known want c)
  test-may true want c bound h =
      subst⁻¹ (λ m. T (gives (comes_to want) m)) (condition-agrees σ terms quads γ δ c (bound-agrees γ δ u (λ x. in_cond x c) (bound tt))) h
  test-may false want c bound h = tt

  pub may-come : (want : Bool) (c : Cond) → T (gives (comes_to want) (condition σ terms quads δ c)) → T (may σ terms quads γ want c)
  unfolding may condition in_cond comes_to is_true not_truth
  may-come true Cond.no h = absurd h
  may-come false Cond.no h = tt
  may-come true Cond.yes h = tt
  may-come false Cond.yes h = absurd h
  may-come want (Cond.or c d) h =
      two-come want want or_truth (comes-or want) (condition σ terms quads δ c) (condition σ terms quads δ d)
      (may σ terms quads γ want c) (may σ terms quads γ want d) (may-come want c) (may-come want d) h
  may-come want (Cond.and c d) h =
      two-come (not want) want and_truth (comes-and want) (condition σ terms quads δ c) (condition σ terms quads δ d)
      (may σ terms quads γ want c) (may σ terms quads γ want d) (may-come want c) (may-come want d) h
  may-come want (Cond.not c) h = may-come (not want) c (not-comes want (condition σ terms quads δ c) h)
  may-come want (Cond.regex p e) h = test-may (expr_known γ e) want (Cond.regex p e) (expr-bound γ e) h
  may-come want (Cond.lang_matches r e) h = test-may (expr_known γ e) want (Cond.lang_matches r e) (expr-bound γ e) h
  may-come want (Cond.equal e f) h = test-may (expr_known γ e && expr_known γ f) want (Cond.equal e f) (pair-bound γ e f) h
  may-come want (Cond.less e f) h = test-may (expr_known γ e && expr_known γ f) want (Cond.less e f) (pair-bound γ e f) h
