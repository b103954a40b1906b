-- A query of which some variables are known: the places of a pattern, and what a boolean may still come to.
use Rattle.std.specs.Prelude.{ℕ, List, Bool, true, false, not, cond, ◌&&◌, ◌||◌, T, eqb}
use Rattle.std.proofs.Math.Option.{Option, none, some}
use Rattle.definitions.specs.Terms.{Term}
use Rattle.definitions.specs.Tree.{Name, var, const, Expr, Cond}
use Rattle.definitions.specs.Outcome.{Outcome, ok, fault}
use Rattle.definitions.specs.Evaluate.{Setting, Bindings, Quad, condition}
use Rattle.definitions.specs.Evaluated.{gives}
use Rattle.definitions.specs.Truth.{not_truth, is_true}
use Rattle.definitions.specs.declared.Truth.{Truth}
use Rattle.definitions.specs.Saved.{is_bound}
use Rattle.laws.specs.Outcomes.{Fine, Any}
use Rattle.scan.specs.Scan.{Place, fixed, sought, free, Places}

-- whether a test holds, a fault being no pass
abbrev pub passes : Outcome Bool → Bool
passes (ok b) = b
passes (fault x) = false

-- ── the places of a pattern ─────────────────────────────────────────────────────────────────

abbrev pub known : Option ℕ → Place
known none = free
known (some i) = fixed i

abbrev pub place_of : Bindings → (v : ℕ) → Name → Place
place_of γ v (var w) = cond (eqb w v) sought (known (γ w))
place_of γ v (const c) = fixed c

abbrev pub places_of : Bindings → (v : ℕ) → (graph subject property object : Name) → Places
places_of γ v g s p o = record { graph = place_of γ v g; subject = place_of γ v s; property = place_of γ v p; object = place_of γ v o }

-- ── expressions whose variables are all known ───────────────────────────────────────────────

module _ (γ : Bindings) where
  unfoldable pub name_known : Name → Bool
  name_known (var v) = is_bound (γ v)
  name_known (const c) = true

  unfoldable pub expr_known : Expr → Bool
  expr_known (Expr.name n) = name_known n
  expr_known Expr.now = true
  expr_known (Expr.str e) = expr_known e
  expr_known (Expr.abs e) = expr_known e
  expr_known (Expr.plus e f) = expr_known e && expr_known f
  expr_known (Expr.minus e f) = expr_known e && expr_known f

  -- of a test's expressions; a boolean that is no test has none
  unfoldable pub test_known : Cond → Bool
  test_known Cond.no = true
  test_known Cond.yes = true
  test_known (Cond.or c d) = true
  test_known (Cond.and c d) = true
  test_known (Cond.not c) = true
  test_known (Cond.regex p e) = expr_known e
  test_known (Cond.lang_matches r e) = expr_known e
  test_known (Cond.equal e f) = expr_known e && expr_known f
  test_known (Cond.less e f) = expr_known e && expr_known f

-- a boolean that is a test of values
abbrev pub IsTest : Cond → Type 0
IsTest Cond.no = ⊥
IsTest Cond.yes = ⊥
IsTest (Cond.or c d) = ⊥
IsTest (Cond.and c d) = ⊥
IsTest (Cond.not c) = ⊥
IsTest (Cond.regex p e) = Unit {0}
IsTest (Cond.lang_matches r e) = Unit {0}
IsTest (Cond.equal e f) = Unit {0}
IsTest (Cond.less e f) = Unit {0}

-- ── what a boolean may come to, some of its variables being known ───────────────────────────

-- a truth is the one that is wanted
unfoldable pub comes_to : (want : Bool) → Truth → Bool
comes_to want t = is_true (cond want t (not_truth t))

-- of two parts one is enough, or both are needed
abbrev pub joined : (one : Bool) → Bool → Bool → Bool
joined one a b = cond one (a || b) (a && b)

module _ (σ : Setting) (terms : List Term) (quads : List Quad) (γ : Bindings) where
  -- a test whose variables are all known comes to what it does; of another nothing is known
  abbrev pub may_test : (known want : Bool) → Cond → Bool
  may_test known want c = not known || gives (comes_to want) (condition σ terms quads γ c)

  unfoldable pub may : (want : Bool) → Cond → Bool
  may want Cond.no = not want
  may want Cond.yes = want
  may want (Cond.or c d) = joined want (may want c) (may want d)
  may want (Cond.and c d) = joined (not want) (may want c) (may want d)
  may want (Cond.not c) = may (not want) c
  may want (Cond.regex p e) = may_test (expr_known γ e) want (Cond.regex p e)
  may want (Cond.lang_matches r e) = may_test (expr_known γ e) want (Cond.lang_matches r e)
  may want (Cond.equal e f) = may_test (expr_known γ e && expr_known γ f) want (Cond.equal e f)
  may want (Cond.less e f) = may_test (expr_known γ e && expr_known γ f) want (Cond.less e f)

  -- every test whose variables are all known meets no fault
  abbrev pub SureTests : Cond → Type 0
  SureTests Cond.no = Unit {0}
  SureTests Cond.yes = Unit {0}
  SureTests (Cond.or c d) = SureTests c × SureTests d
  SureTests (Cond.and c d) = SureTests c × SureTests d
  SureTests (Cond.not c) = SureTests c
  SureTests (Cond.regex p e) = T (expr_known γ e) → Fine Any (condition σ terms quads γ (Cond.regex p e))
  SureTests (Cond.lang_matches r e) = T (expr_known γ e) → Fine Any (condition σ terms quads γ (Cond.lang_matches r e))
  SureTests (Cond.equal e f) = T (expr_known γ e && expr_known γ f) → Fine Any (condition σ terms quads γ (Cond.equal e f))
  SureTests (Cond.less e f) = T (expr_known γ e && expr_known γ f) → Fine Any (condition σ terms quads γ (Cond.less e f))
