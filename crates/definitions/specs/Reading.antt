-- Document 01, "Records": reading a script, in prefix order, children after their record (refusal 6).
-- For each sort of record a table has one row a kind, and a shape says how a row's body and children are read.
-- `terms` is the number of terms; `left` is how many levels of records may still be used.
use Rattle.std.specs.Prelude.{ℕ, zero, suc, ◌+◌, List, [], ◌∷◌, Bool, ◌&&◌, ltb, eqb, length}
use Rattle.std.proofs.Math.Option.{Option, none, some}
use Rattle.definitions.specs.Limits.{pattern_width, language_range_width, block_width, variable_limit, pair_limit, depth_limit}
use Rattle.definitions.specs.Bytes.{byte, word, Got, provided, onward, row, past, whole, body}
use Rattle.definitions.specs.Types.{Ty, type_of_code}
use Rattle.definitions.specs.Text.{pattern_of, language_range_of}
use Rattle.definitions.specs.Tree.{Name, var, const, Expr, Cond, Query, Binder, Script}

-- ── one child, two, four ────────────────────────────────────────────────────────────────────

-- go on with what was read, from where it ended
unfoldable pub and_then : {A B : Type 0} → Got A → (A → ℕ → Got B) → Got B
and_then none f = none
and_then (some r) f = f r.0 r.1

unfoldable pub one_of : {A B : Type 0} → (A → B) → Got A → Got B
one_of f child = and_then child (λ a next. some (f a, next))

unfoldable pub two_of : {A B C : Type 0} → (A → B → C) → (ℕ → Got A) → (ℕ → Got B) → ℕ → Got C
two_of f first second at = and_then (first at) (λ a next. one_of (f a) (second next))

unfoldable pub four_of : {A B : Type 0} → (A → A → A → A → B) → (ℕ → Got A) → ℕ → Got B
four_of f each at = and_then (each at) (λ a next. and_then (each next) (λ b later. two_of (f a b) each each later))

-- ── terms of a script: 31 variable, 32 constant ─────────────────────────────────────────────

pub data NameShape : Type 0 where
  variable constant unknown : NameShape

abbrev pub name_rows : List (ℕ × NameShape)
name_rows = (0x31, variable) ∷ (0x32, constant) ∷ []

abbrev pub name_of : NameShape → List ℕ → ℕ → ℕ → Got Name
name_of variable s terms at = provided (whole s at 1 && ltb (byte s (at + 1)) variable_limit) (some (var (byte s (at + 1)), past at 1))
name_of constant s terms at = provided (whole s at 2 && ltb (word s (at + 1)) terms) (some (const (word s (at + 1)), past at 2))
name_of unknown s terms at = none

unfoldable pub read_name : List ℕ → (terms left at : ℕ) → Got Name
read_name s terms zero at = none
read_name s terms (suc left) at = name_of (row (byte s at) name_rows unknown) s terms at

-- ── expressions: a term, 41 now, 42 str, 43 abs, 44 plus, 45 minus ──────────────────────────

pub data ExprShape : Type 0 where
  named unknown : ExprShape
  leaf : Expr → ExprShape
  one : (Expr → Expr) → ExprShape
  two : (Expr → Expr → Expr) → ExprShape

abbrev pub expr_rows : List (ℕ × ExprShape)
expr_rows =
    (0x31, named)
    ∷ (0x32, named)
    ∷ (0x41, leaf Expr.now)
    ∷ (0x42, one Expr.str)
    ∷ (0x43, one Expr.abs)
    ∷ (0x44, two Expr.plus)
    ∷ (0x45, two Expr.minus)
    ∷ []

-- `rest` reads a child, one level further down
abbrev pub expr_of : ExprShape → Got Name → ℕ → (rest : ℕ → Got Expr) → Got Expr
expr_of named here at rest = one_of Expr.name here
expr_of (leaf e) here at rest = some (e, at + 1)
expr_of (one f) here at rest = one_of f (rest (at + 1))
expr_of (two f) here at rest = two_of f rest rest (at + 1)
expr_of unknown here at rest = none

unfoldable pub read_expr : List ℕ → (terms left at : ℕ) → Got Expr
read_expr s terms zero at = none
read_expr s terms (suc left) at = expr_of (row (byte s at) expr_rows unknown) (read_name s terms (suc left) at) at (read_expr s terms left)

-- ── booleans: 50 false, 51 true, 52 or, 53 and, 54 not, 55 regex, 56 lang_matches, 57 equal, 58 less ──

pub data CondShape : Type 0 where
  leaf : Cond → CondShape
  one : (Cond → Cond) → CondShape
  two : (Cond → Cond → Cond) → CondShape
  pattern language_range : CondShape
  pair : (Expr → Expr → Cond) → CondShape
  unknown : CondShape

abbrev pub cond_rows : List (ℕ × CondShape)
cond_rows =
    (0x50, leaf Cond.no)
    ∷ (0x51, leaf Cond.yes)
    ∷ (0x52, two Cond.or)
    ∷ (0x53, two Cond.and)
    ∷ (0x54, one Cond.not)
    ∷ (0x55, pattern)
    ∷ (0x56, language_range)
    ∷ (0x57, pair Cond.equal)
    ∷ (0x58, pair Cond.less)
    ∷ []

-- a body of n bytes that must be good, then one expression
unfoldable pub with_body : {A : Type 0} → ℕ → (List ℕ → Option A) → (A → Expr → Cond) → List ℕ → ℕ → (ℕ → Got Expr) → Got Cond
with_body n good f s at expr = provided (whole s at n) (onward (good (body s at n)) (λ a. one_of (f a) (expr (past at n))))

abbrev pub cond_of : CondShape → List ℕ → ℕ → (expr : ℕ → Got Expr) → (rest : ℕ → Got Cond) → Got Cond
cond_of (leaf c) s at expr rest = some (c, at + 1)
cond_of (one f) s at expr rest = one_of f (rest (at + 1))
cond_of (two f) s at expr rest = two_of f rest rest (at + 1)
cond_of pattern s at expr rest = with_body pattern_width pattern_of Cond.regex s at expr
cond_of language_range s at expr rest = with_body language_range_width language_range_of Cond.lang_matches s at expr
cond_of (pair f) s at expr rest = two_of f expr expr (at + 1)
cond_of unknown s at expr rest = none

unfoldable pub read_cond : List ℕ → (terms left at : ℕ) → Got Cond
read_cond s terms zero at = none
read_cond s terms (suc left) at = cond_of (row (byte s at) cond_rows unknown) s at (read_expr s terms left) (read_cond s terms left)

-- ── queries: 61 pattern, 62 both, 63 union, 64 filter, 65 empty ─────────────────────────────

pub data QueryShape : Type 0 where
  four filtered leaf unknown : QueryShape
  two : (Query → Query → Query) → QueryShape

abbrev pub query_rows : List (ℕ × QueryShape)
query_rows = (0x61, four) ∷ (0x62, two Query.both) ∷ (0x63, two Query.union) ∷ (0x64, filtered) ∷ (0x65, leaf) ∷ []

abbrev pub query_of : QueryShape → ℕ → (name : ℕ → Got Name) → (test : ℕ → Got Cond) → (rest : ℕ → Got Query) → Got Query
query_of four at name test rest = four_of Query.pattern name (at + 1)
query_of (two f) at name test rest = two_of f rest rest (at + 1)
query_of filtered at name test rest = one_of Query.filter (test (at + 1))
query_of leaf at name test rest = some (Query.empty, at + 1)
query_of unknown at name test rest = none

unfoldable pub read_query : List ℕ → (terms left at : ℕ) → Got Query
read_query s terms zero at = none
read_query s terms (suc left) at = query_of (row (byte s at) query_rows unknown) at (read_name s terms left) (read_cond s terms left) (read_query s terms left)

-- ── pairs of a block ────────────────────────────────────────────────────────────────────────

-- written types: 0 open, else a type's code
unfoldable pub written_of : ℕ → Option (Option Ty)
written_of zero = some none
written_of (suc n) = onward (type_of_code (suc n)) (λ τ. some (some τ))

unfoldable pub binder_at : List ℕ → ℕ → Option Binder
binder_at s at = provided (ltb (byte s at) variable_limit) (onward (written_of (byte s (at + 1))) (λ w. some (record { variable = byte s at; written = w })))

-- the first `count` of the pairs left, and the unused ones, which are zero
unfoldable pub binders_at : (left count : ℕ) → List ℕ → ℕ → Option (List Binder)
binders_at zero zero s at = some []
binders_at zero (suc count) s at = none
binders_at (suc left) zero s at = provided (eqb (byte s at) 0 && eqb (byte s (at + 1)) 0) (binders_at left zero s (at + 2))
binders_at (suc left) (suc count) s at = onward (binder_at s at) (λ b. onward (binders_at left count s (at + 2)) (λ bs. some (b ∷ bs)))

-- ── scripts: 71 success, 72 from named, 73 block, 74 sequence ───────────────────────────────

pub data ScriptShape : Type 0 where
  done named blocked two_scripts unknown : ScriptShape

abbrev pub script_rows : List (ℕ × ScriptShape)
script_rows = (0x71, done) ∷ (0x72, named) ∷ (0x73, blocked) ∷ (0x74, two_scripts) ∷ []

-- mode 0 once or 1 each
abbrev pub is_each : List ℕ → ℕ → Bool
is_each s at = eqb (byte s (at + 1)) 1

unfoldable pub with_binders : List ℕ → ℕ → (query : ℕ → Got Query) → (rest : ℕ → Got Script) → Got Script
with_binders s at query rest =
    provided (whole s at block_width && ltb (byte s (at + 1)) 2)
    (onward (binders_at pair_limit (byte s (at + 2)) s (at + 3)) (λ bs. two_of (Script.block at (is_each s at) bs) query rest (past at block_width)))

abbrev pub script_of : ScriptShape → List ℕ → ℕ → (name : ℕ → Got Name) → (query : ℕ → Got Query) → (rest : ℕ → Got Script) → Got Script
script_of done s at name query rest = some (Script.success at, at + 1)
script_of named s at name query rest = two_of (Script.from_named at) name rest (at + 1)
script_of blocked s at name query rest = with_binders s at query rest
script_of two_scripts s at name query rest = two_of (Script.sequence at) rest rest (at + 1)
script_of unknown s at name query rest = none

unfoldable pub read_script : List ℕ → (terms left at : ℕ) → Got Script
read_script s terms zero at = none
read_script s terms (suc left) at = script_of (row (byte s at) script_rows unknown) s at (read_name s terms left) (read_query s terms left) (read_script s terms left)

-- the whole script: records 24 deep with the root at depth 1, and no bytes left over
unfoldable pub parsed : (terms : ℕ) → List ℕ → Option Script
parsed terms s = onward (read_script s terms depth_limit 0) (λ r. provided (eqb r.1 (length s)) (some r.0))
