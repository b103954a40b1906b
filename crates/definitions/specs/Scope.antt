-- Document 01, refusal 7: a variable unbound at its use, or bound by two pairs.
use Rattle.std.specs.Prelude.{ℕ, List, [], ◌∷◌, ◌++◌, map, Bool, false, not, ◌&&◌, ◌||◌, eqb}
use Rattle.definitions.specs.Lists.{every, distinct, is_in}
use Rattle.definitions.specs.Tree.{Name, var, const, Expr, Cond, Query, Binder, Script, success, from_named, block, sequence}

abbrev pub variables : List ℕ
variables = 0 ∷ 1 ∷ 2 ∷ 3 ∷ 4 ∷ 5 ∷ 6 ∷ 7 ∷ 8 ∷ 9 ∷ 10 ∷ 11 ∷ 12 ∷ 13 ∷ 14 ∷ 15 ∷ []

abbrev pub variables_of : List Binder → List ℕ
variables_of bs = map (λ b. b.variable) bs

-- ── a variable stands in a term, an expression, a boolean, a query ──────────────────────────

unfoldable pub in_name : ℕ → Name → Bool
in_name v (var w) = eqb v w
in_name v (const c) = false

unfoldable pub in_expr : ℕ → Expr → Bool
in_expr v (Expr.name n) = in_name v n
in_expr v Expr.now = false
in_expr v (Expr.str e) = in_expr v e
in_expr v (Expr.abs e) = in_expr v e
in_expr v (Expr.plus e f) = in_expr v e || in_expr v f
in_expr v (Expr.minus e f) = in_expr v e || in_expr v f

unfoldable pub in_cond : ℕ → Cond → Bool
in_cond v Cond.no = false
in_cond v Cond.yes = false
in_cond v (Cond.or c d) = in_cond v c || in_cond v d
in_cond v (Cond.and c d) = in_cond v c || in_cond v d
in_cond v (Cond.not c) = in_cond v c
in_cond v (Cond.regex p e) = in_expr v e
in_cond v (Cond.lang_matches r e) = in_expr v e
in_cond v (Cond.equal e f) = in_expr v e || in_expr v f
in_cond v (Cond.less e f) = in_expr v e || in_expr v f

unfoldable pub in_query : ℕ → Query → Bool
in_query v (Query.pattern g s p o) = in_name v g || (in_name v s || (in_name v p || in_name v o))
in_query v (Query.both q r) = in_query v q || in_query v r
in_query v (Query.union q r) = in_query v q || in_query v r
in_query v (Query.filter c) = in_cond v c
in_query v Query.empty = false

-- ── free and bound in a script ──────────────────────────────────────────────────────────────

-- a block's variables reach its query and its script
unfoldable pub is_free : ℕ → Script → Bool
is_free v (success at) = false
is_free v (from_named at n c) = in_name v n || is_free v c
is_free v (block at each bs q c) = not (is_in v (variables_of bs)) && (in_query v q || is_free v c)
is_free v (sequence at c d) = is_free v c || is_free v d

-- the pairs of a script, in order
unfoldable pub binders_of : Script → List Binder
binders_of (success at) = []
binders_of (from_named at n c) = binders_of c
binders_of (block at each bs q c) = bs ++ binders_of c
binders_of (sequence at c d) = binders_of c ++ binders_of d

unfoldable pub in_scope : Script → Bool
in_scope root = every (λ v. not (is_free v root)) variables && distinct eqb (variables_of (binders_of root))
