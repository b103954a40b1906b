-- What a record that reads well is: levels are left, it lies within the script, its body is good, its kind is one of the table's.
use Prim.Native.Nat.{ℕ, ◌+◌, ◌-◌, ◌≤◌, ◌<◌}
use mathlib.Core.Bool.{◌&&◌}
use mathlib.Core.List.{List, [], ◌∷◌, ◌++◌}
use mathlib.Core.Option.{Option, none, some}
use mathlib.Core.Path.{◌≡◌, sym, ap, ◌∙◌}
use mathlib.Core.Logic.{⊎_elim}
use native.Mathlib.Omega.{arith}
use native.Mathlib.Nat.{eq-zero-or-pos}
use lib.Dec.{ltb, eqb, leb→le, ltb→lt, eqb→eq}
use lib.ListN.{length}
use borrow.Author.Tests.{ne_eqb}
use Rattle.definitions.specs.Limits.{variable_limit, pattern_width, language_range_width, block_width, pair_limit}
use Rattle.definitions.specs.Bytes.{Got, provided, onward, row, byte, word, past, whole, body}
use Rattle.definitions.specs.Text.{Pattern, LanguageRange, pattern_of, language_range_of}
use Rattle.definitions.specs.Tree.{var, const, Expr, Cond, Binder, Script}
use Rattle.definitions.specs.Reading.{one_of, two_of, NameShape, name_rows, read_name, ExprShape, expr_rows, read_expr, CondShape, cond_rows, read_cond, with_body}
use Rattle.definitions.specs.Reading.{QueryShape, query_rows, read_query, ScriptShape, script_rows, read_script, with_binders, binders_at, is_each}
use Rattle.laws.proofs.Tests.{and_left, and_right, decide, is_false}
use Rattle.laws.proofs.Ranges.{split}
use Rattle.laws.proofs.Options.{onward-inv, provided-inv}
use Rattle.laws.specs.Walks.{Loads}
use Rattle.laws.proofs.Walking.{not_none}
use Rattle.laws.proofs.Reading.{Others, others-first, name_by, expr_by, cond_by, query_by, script_by}
use Rattle.laws.proofs.Reading.{name-none, expr-none, cond-none, query-none, script-none}
use Rattle.laws.proofs.Reading.{name-step, expr-step, cond_step, query-step, script-step, name-is, expr-is, expr-gap, cond-is, script-is}
use Rattle.laws.proofs.Reading.{name_out, expr-out, cond-out, query-out, script-out, body_is, block-is}

-- ── of any reader ───────────────────────────────────────────────────────────────────────────

pos_of : {A : Type 0} (read : ℕ → Got A) (left : ℕ) → read 0 ≡ none → Loads (read left) → 0 < left
pos_of read left e l = ⊎_elim (λ z. absurd (not_none l (ap read z ∙ e))) (λ h. h) (eq-zero-or-pos left)

inside_of : {A : Type 0} (s : List ℕ) (at : ℕ) {o : Got A} → (length s ≤ at → o ≡ none) → Loads o → at < length s
inside_of s at f l = ⊎_elim (λ h. absurd (not_none l (f h))) (λ h. h) (split (length s) at)

-- all rows but the last
abbrev pub front : {A : Type 0} → List A → List A
front [] = []
front (x ∷ []) = []
front (x ∷ y ∷ xs) = x ∷ front (y ∷ xs)

-- a key that is none of the rows before the last, and of which the table has a row, is the last one's
row_last : {A : Type 0} (N : Type 0) (rows : List (ℕ × A)) (key : ℕ) (value other : A) (k : ℕ)
    → Others N k rows → (row k (rows ++ ((key, value) ∷ [])) other ≡ other → ⊥) → k ≡ key
row_last N [] key value other k h has =
    ⊎_elim (eqb→eq k key) (λ f. absurd (has (rw (is_false (eqb k key) f)))) (decide (eqb k key))
row_last N (p ∷ rows) key value other k h has =
    row_last (N × (k ≡ p.0 → ⊥)) rows key value other k h (λ e. has (rw (ne_eqb k p.0 (others-first (N × (k ≡ p.0 → ⊥)) k rows h).1) e))

-- kinds that a match has passed, in order
abbrev pub Passed : ℕ → List ℕ → Type 0
Passed k keys = go (Unit {0}) keys
  where
    go : Type 0 → List ℕ → Type 0
    go N [] = N
    go N (key ∷ keys) = go (N × (k ≡ key → ⊥)) keys

-- ── names ───────────────────────────────────────────────────────────────────────────────────

-- Where a record is read: x-pos, levels are left; x-inside, it begins within the script; x-last, its kind is the table's last where it is none of the
-- others, as the last arm of a `match` on the others is told it.

module _ (s : List ℕ) (terms left at : ℕ) (l : Loads (read_name s terms left at)) where
  pub name-pos : 0 < left
  name-pos = pos_of (λ n. read_name s terms n at) left (name-none s terms at) l

  pub name-inside : at < length s
  name-inside = inside_of s at (name_out s terms left at name-pos) l

  pub name-last : Others (Unit {0}) (byte s at) (front name_rows) → byte s at ≡ 0x32
  name-last h =
      row_last (Unit {0}) (front name_rows) 0x32 NameShape.constant NameShape.unknown (byte s at) h
      (λ e. not_none l (name-step s terms left at name-pos ∙ ap (name_by s terms left at) e))

  -- 31: a variable below the limit; 32: a constant below the number of terms
  pub variable-of : byte s at ≡ 0x31 → (past at 1 ≤ length s) × (byte s (at + 1) < variable_limit)
      × (read_name s terms left at ≡ some (var (byte s (at + 1)), past at 1))
  unfolding provided
  variable-of k =
      let fits = whole s at 1 in
      let good = ltb (byte s (at + 1)) variable_limit in
      let e = name-is s terms left at name-pos 0x31 k in
      let p = provided-inv (fits && good) (some (var (byte s (at + 1)), past at 1)) (sym e ∙ l.2) in
      (leb→le (past at 1) (length s) (and_left fits good p.0), ltb→lt (byte s (at + 1)) variable_limit (and_right fits good p.0), l.2 ∙ sym p.1)

  pub constant_of : byte s at ≡ 0x32 → (past at 2 ≤ length s) × (word s (at + 1) < terms)
      × (read_name s terms left at ≡ some (const (word s (at + 1)), past at 2))
  constant_of k =
      let fits = whole s at 2 in
      let good = ltb (word s (at + 1)) terms in
      let e = name-is s terms left at name-pos 0x32 k in
      let p = provided-inv (fits && good) (some (const (word s (at + 1)), past at 2)) (sym e ∙ l.2) in
      (leb→le (past at 2) (length s) (and_left fits good p.0), ltb→lt (word s (at + 1)) terms (and_right fits good p.0), l.2 ∙ sym p.1)

-- ── expressions ─────────────────────────────────────────────────────────────────────────────

module _ (s : List ℕ) (terms left at : ℕ) (l : Loads (read_expr s terms left at)) where
  pub expr-pos : 0 < left
  expr-pos = pos_of (λ n. read_expr s terms n at) left (expr-none s terms at) l

  pub expr-inside : at < length s
  expr-inside = inside_of s at (expr-out s terms left at expr-pos) l

  pub expr-last : Others (Unit {0}) (byte s at) (front expr_rows) → byte s at ≡ 0x45
  expr-last h =
      row_last (Unit {0}) (front expr_rows) 0x45 (ExprShape.two Expr.minus) ExprShape.unknown (byte s at) h
      (λ e. not_none l (expr-step s terms left at expr-pos ∙ ap (expr_by s terms left at) e))

  -- where names were told apart before
  pub operator-last : 0x41 ≤ byte s at → Passed (byte s at) (0x41 ∷ 0x42 ∷ 0x43 ∷ 0x44 ∷ []) → byte s at ≡ 0x45
  operator-last h n = expr-last ((((((tt, (λ e. omega arith)), (λ e. omega arith)), n.0.0.0.1), n.0.0.1), n.0.1), n.1)

  -- below the kinds of operators an expression is a name
  pub expr-name : byte s at < 0x41 → read_expr s terms left at ≡ one_of Expr.name (read_name s terms left at)
  expr-name h =
      ⊎_elim
      (λ j. absurd (not_none l (expr-gap s terms left at expr-pos 0x33 14 j (omega arith) tt)))
      (λ j. ⊎_elim
      (λ i. ⊎_elim
      (λ e. expr-is s terms left at expr-pos 0x32 (omega arith))
      (λ e. expr-is s terms left at expr-pos 0x31 (omega arith))
      (split 0x32 (byte s at)))
      (λ i. absurd (not_none l (expr-gap s terms left at expr-pos 0 0x31 (omega arith) i tt)))
      (split 0x31 (byte s at)))
      (split 0x33 (byte s at))

-- ── booleans ────────────────────────────────────────────────────────────────────────────────

module _ (s : List ℕ) (terms left at : ℕ) (l : Loads (read_cond s terms left at)) where
  pub cond_pos : 0 < left
  cond_pos = pos_of (λ n. read_cond s terms n at) left (cond-none s terms at) l

  pub cond-inside : at < length s
  cond-inside = inside_of s at (cond-out s terms left at cond_pos) l

  pub cond-last : Others (Unit {0}) (byte s at) (front cond_rows) → byte s at ≡ 0x58
  cond-last h =
      row_last (Unit {0}) (front cond_rows) 0x58 (CondShape.pair Cond.less) CondShape.unknown (byte s at) h
      (λ e. not_none l (cond_step s terms left at cond_pos ∙ ap (cond_by s terms left at) e))

  -- a body of n bytes within the script, what it says, and the expression after it
  with-body : {A : Type 0} (n : ℕ) (good : List ℕ → Option A) (f : A → Expr → Cond)
      → read_cond s terms left at ≡ with_body n good f s at (read_expr s terms (left - 1))
      → (a : A) × (past at n ≤ length s) × (good (body s at n) ≡ some a) × (read_cond s terms left at ≡ one_of (f a) (read_expr s terms (left - 1) (past at n)))
  unfolding with_body
  with-body {A} n good f e =
      let expr = read_expr s terms (left - 1) in
      let rest : A → Got Cond = λ a. one_of (f a) (expr (past at n)) in
      let p = provided-inv (whole s at n) (onward (good (body s at n)) rest) (sym e ∙ l.2) in
      let a = onward-inv (good (body s at n)) rest p.1 in
      let room = leb→le (past at n) (length s) p.0 in
      (a.0, room, a.1, e ∙ body_is n good f s at expr room a.1)

  -- 55 and 56
  pub pattern-of : byte s at ≡ 0x55
      → (p : Pattern) × (past at pattern_width ≤ length s) × (pattern_of (body s at pattern_width) ≡ some p)
      × (read_cond s terms left at ≡ one_of (Cond.regex p) (read_expr s terms (left - 1) (past at pattern_width)))
  pattern-of k = with-body pattern_width pattern_of Cond.regex (cond-is s terms left at cond_pos 0x55 k)

  pub range-of : byte s at ≡ 0x56
      → (r : LanguageRange) × (past at language_range_width ≤ length s) × (language_range_of (body s at language_range_width) ≡ some r)
      × (read_cond s terms left at ≡ one_of (Cond.lang_matches r) (read_expr s terms (left - 1) (past at language_range_width)))
  range-of k = with-body language_range_width language_range_of Cond.lang_matches (cond-is s terms left at cond_pos 0x56 k)

-- ── queries and scripts ─────────────────────────────────────────────────────────────────────

module _ (s : List ℕ) (terms left at : ℕ) (l : Loads (read_query s terms left at)) where
  pub query-pos : 0 < left
  query-pos = pos_of (λ n. read_query s terms n at) left (query-none s terms at) l

  pub query-inside : at < length s
  query-inside = inside_of s at (query-out s terms left at query-pos) l

  pub query-last : Others (Unit {0}) (byte s at) (front query_rows) → byte s at ≡ 0x65
  query-last h =
      row_last (Unit {0}) (front query_rows) 0x65 QueryShape.leaf QueryShape.unknown (byte s at) h
      (λ e. not_none l (query-step s terms left at query-pos ∙ ap (query_by s terms left at) e))

module _ (s : List ℕ) (terms left at : ℕ) (l : Loads (read_script s terms left at)) where
  pub script-pos : 0 < left
  script-pos = pos_of (λ n. read_script s terms n at) left (script-none s terms at) l

  pub script-inside : at < length s
  script-inside = inside_of s at (script-out s terms left at script-pos) l

  pub script-last : Others (Unit {0}) (byte s at) (front script_rows) → byte s at ≡ 0x74
  script-last h =
      row_last (Unit {0}) (front script_rows) 0x74 ScriptShape.two_scripts ScriptShape.unknown (byte s at) h
      (λ e. not_none l (script-step s terms left at script-pos ∙ ap (script_by s terms left at) e))

  -- 73: a body within the script, a mode, pairs, and the query and the script after it
  pub block_of : byte s at ≡ 0x73
      → (bs : List Binder) × (past at block_width ≤ length s) × (byte s (at + 1) < 2) × (binders_at pair_limit (byte s (at + 2)) s (at + 3) ≡ some bs)
      × (read_script s terms left at
      ≡ two_of (Script.block at (is_each s at) bs) (read_query s terms (left - 1)) (read_script s terms (left - 1)) (past at block_width))
  unfolding with_binders
  block_of k =
      let query = read_query s terms (left - 1) in
      let script = read_script s terms (left - 1) in
      let e = script-is s terms left at script-pos 0x73 k in
      let rest : List Binder → Got Script = λ bs. two_of (Script.block at (is_each s at) bs) query script (past at block_width) in
      let fits = whole s at block_width in
      let mode = ltb (byte s (at + 1)) 2 in
      let binders = binders_at pair_limit (byte s (at + 2)) s (at + 3) in
      let p = provided-inv (fits && mode) (onward binders rest) (sym e ∙ l.2) in
      let b = onward-inv binders rest p.1 in
      let room = leb→le (past at block_width) (length s) (and_left fits mode p.0) in
      let low = ltb→lt (byte s (at + 1)) 2 (and_right fits mode p.0) in
      (b.0, room, low, b.1, e ∙ block-is s at query script room low b.1)
