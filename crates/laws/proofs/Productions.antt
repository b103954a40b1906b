-- What reading well gives at a record, by its kind: the levels fall, its children are read one after the other, and the node is read of them.
-- A walk is at a record of a sort (`expr-at`, `cond-at`, `query-at`, `script-at`) and names the production; `node` makes its answer of what its calls learnt of
-- the children. The last kind of a sort is told as none of the others, as the last arm of a `match` is.
use Prim.Native.Nat.{ℕ, ◌+◌, ◌-◌, ◌≤◌, ◌<◌}
use native.Mathlib.Omega.{arith}
use mathlib.Core.List.{List, [], ◌∷◌}
use mathlib.Core.Option.{Option, some}
use mathlib.Core.Path.{◌≡◌}
use lib.ListN.{length}
use Rattle.definitions.specs.Limits.{pattern_width, language_range_width, block_width, pair_limit}
use Rattle.definitions.specs.Bytes.{Got, byte, past, body}
use Rattle.definitions.specs.Text.{pattern_of, language_range_of}
use Rattle.definitions.specs.Tree.{Expr, Cond, Query, Binder, Script}
use Rattle.definitions.specs.Reading.{one_of, two_of, four_of, expr_rows, cond_rows, query_rows, script_rows, binders_at, is_each}
use Rattle.definitions.specs.Reading.{read_name, read_expr, read_cond, read_query, read_script}
use Rattle.laws.proofs.Reading.{Others, expr-is, cond-is, query-is, script-is}
use Rattle.laws.specs.Walks.{Loads}
use Rattle.laws.proofs.Walking.{only-loads, first-loads}
use Rattle.laws.specs.Walks.{Walked}
use Rattle.laws.proofs.Walked.{one-walked, second_walks, two-walked, four-first, four-second, four-two, four-walked, loads-as}
use Rattle.laws.proofs.Records.{front, Passed, expr-name, operator-last, expr-pos, expr-inside, expr-last, cond_pos, cond-inside, cond-last, pattern-of, range-of}
use Rattle.laws.proofs.Records.{query-pos, query-inside, query-last, script-pos, script-inside, script-last, block_of}

-- ── of any sort ─────────────────────────────────────────────────────────────────────────────

-- one child, o, of which k makes the node g; t is the measure, the levels that are left
pub record One {A B : Type 0} (t left : ℕ) (k : A → B) (o : Got A) (g : Got B) : Type 1 where
  pub falls : left - 1 < t
  pub child : Loads o
  pub node : {P : A → Type 0} {Q : B → Type 0} {n : ℕ} → Walked P o n → ((a : A) → P a → Q (k a)) → Walked Q g n

-- two: the second is read where the first ends
pub record Two {A B C : Type 0} (t left : ℕ) (k : A → B → C) (p : ℕ → Got A) (q : ℕ → Got B) (at : ℕ) (g : Got C) : Type 1 where
  pub falls : left - 1 < t
  pub first : Loads (p at)
  pub second : {P : A → Type 0} {m : ℕ} → Walked P (p at) m → Loads (q m)
  pub node : {P : A → Type 0} {Q : B → Type 0} {R : C → Type 0} {m n : ℕ} → Walked P (p at) m → Walked Q (q m) n
      → ((a : A) (b : B) → P a → Q b → R (k a b)) → Walked R g n

-- four of one sort; all at once, as a call reads them that was lent the record's body
pub record Four {A B : Type 0} (k : A → A → A → A → B) (p : ℕ → Got A) (at : ℕ) (g : Got B) : Type 1 where
  pub all : Loads (four_of k p at)
  pub read : g ≡ four_of k p at
  pub first : Loads (p at)
  pub second : {P₁ : A → Type 0} {m₁ : ℕ} → Walked P₁ (p at) m₁ → Loads (p m₁)
  pub third : {P₁ P₂ : A → Type 0} {m₁ m₂ : ℕ} → Walked P₁ (p at) m₁ → Walked P₂ (p m₁) m₂ → Loads (p m₂)
  pub fourth : {P₁ P₂ P₃ : A → Type 0} {m₁ m₂ m₃ : ℕ} → Walked P₁ (p at) m₁ → Walked P₂ (p m₁) m₂ → Walked P₃ (p m₂) m₃ → Loads (p m₃)
  pub node : {P₁ P₂ P₃ P₄ : A → Type 0} {Q : B → Type 0} {m₁ m₂ m₃ n : ℕ} → Walked P₁ (p at) m₁ → Walked P₂ (p m₁) m₂ → Walked P₃ (p m₂) m₃ → Walked P₄ (p m₃) n
      → ((a b c d : A) → P₁ a → P₂ b → P₃ c → P₄ d → Q (k a b c d)) → Walked Q g n

pub four-at : {A B : Type 0} {k : A → A → A → A → B} {p : ℕ → Got A} {at : ℕ} {g : Got B} → Loads g → g ≡ four_of k p at → Four k p at g
four-at {A} {B} {k} {p} {at} l h = record {
  all = loads-as h l;
  read = h;
  first = four-first k p at h l;
  second = λ x. four-second k p at h x l;
  third = λ x y. first-loads (k x.tree y.tree) p p _ (four-two k p at h x y) l;
  fourth = λ x y z. second_walks (k x.tree y.tree) p p _ (four-two k p at h x y) z l;
  node = λ x y z w f. four-walked k p at h x y z w f;
}

module _ {t left : ℕ} (e : left ≡ t) (pos : 0 < left) where
  pub one_at : {A B : Type 0} {k : A → B} {o : Got A} {g : Got B} → Loads g → g ≡ one_of k o → One t left k o g
  one_at {A} {B} {k} {o} l h = record { falls = omega arith; child = only-loads k o h l; node = λ x f. one-walked k o h x f }

  pub two_at : {A B C : Type 0} {k : A → B → C} {p : ℕ → Got A} {q : ℕ → Got B} {at : ℕ} {g : Got C}
      → Loads g → g ≡ two_of k p q at → Two t left k p q at g
  two_at {A} {B} {C} {k} {p} {q} {at} l h = record {
    falls = omega arith;
    first = first-loads k p q at h l;
    second = λ x. second_walks k p q at h x l;
    node = λ x y f. two-walked k p q at h x y f;
  }

module _ (t : ℕ) (s : List ℕ) (terms left at : ℕ) where
  -- ── expressions ───────────────────────────────────────────────────────────────────────────

  pub record ExprAt : Type 1 where
    pub pos : 0 < left
    pub inside : at < length s
    pub name : byte s at < 0x41 → One t left Expr.name (read_name s terms left at) (read_expr s terms left at)
    pub now : byte s at ≡ 0x41 → read_expr s terms left at ≡ some (Expr.now, at + 1)
    pub str : byte s at ≡ 0x42 → One t left Expr.str (read_expr s terms (left - 1) (at + 1)) (read_expr s terms left at)
    pub abs : byte s at ≡ 0x43 → One t left Expr.abs (read_expr s terms (left - 1) (at + 1)) (read_expr s terms left at)
    pub plus : byte s at ≡ 0x44 → Two t left Expr.plus (read_expr s terms (left - 1)) (read_expr s terms (left - 1)) (at + 1) (read_expr s terms left at)
    pub minus : Others (Unit {0}) (byte s at) (front expr_rows)
        → Two t left Expr.minus (read_expr s terms (left - 1)) (read_expr s terms (left - 1)) (at + 1) (read_expr s terms left at)
    -- where names were told apart before the operators
    pub minus_last : 0x41 ≤ byte s at → Passed (byte s at) (0x41 ∷ 0x42 ∷ 0x43 ∷ 0x44 ∷ [])
        → Two t left Expr.minus (read_expr s terms (left - 1)) (read_expr s terms (left - 1)) (at + 1) (read_expr s terms left at)

  pub expr-at : left ≡ t → Loads (read_expr s terms left at) → ExprAt
  expr-at e l =
      let pos = expr-pos s terms left at l in
      let is = expr-is s terms left at pos in
      record {
        pos = pos;
        inside = expr-inside s terms left at l;
        name = λ h. one_at e pos l (expr-name s terms left at l h);
        now = λ k. is 0x41 k;
        str = λ k. one_at e pos l (is 0x42 k);
        abs = λ k. one_at e pos l (is 0x43 k);
        plus = λ k. two_at e pos l (is 0x44 k);
        minus = λ h. two_at e pos l (is 0x45 (expr-last s terms left at l h));
        minus_last = λ h n. two_at e pos l (is 0x45 (operator-last s terms left at l h n));
      }

  -- ── booleans ──────────────────────────────────────────────────────────────────────────────

  -- a body of n bytes, which says a, before an expression
  pub record Body {A : Type 0} (n : ℕ) (good : List ℕ → Option A) (f : A → Expr → Cond) : Type 1 where
    pub room : past at n ≤ length s
    pub value : A
    pub is_good : good (body s at n) ≡ some value
    pub rest : One t left (f value) (read_expr s terms (left - 1) (past at n)) (read_cond s terms left at)

  pub record CondAt : Type 1 where
    pub pos : 0 < left
    pub inside : at < length s
    pub no : byte s at ≡ 0x50 → read_cond s terms left at ≡ some (Cond.no, at + 1)
    pub yes : byte s at ≡ 0x51 → read_cond s terms left at ≡ some (Cond.yes, at + 1)
    pub or : byte s at ≡ 0x52 → Two t left Cond.or (read_cond s terms (left - 1)) (read_cond s terms (left - 1)) (at + 1) (read_cond s terms left at)
    pub and : byte s at ≡ 0x53 → Two t left Cond.and (read_cond s terms (left - 1)) (read_cond s terms (left - 1)) (at + 1) (read_cond s terms left at)
    pub not : byte s at ≡ 0x54 → One t left Cond.not (read_cond s terms (left - 1) (at + 1)) (read_cond s terms left at)
    pub regex : byte s at ≡ 0x55 → Body pattern_width pattern_of Cond.regex
    pub lang_matches : byte s at ≡ 0x56 → Body language_range_width language_range_of Cond.lang_matches
    pub equal : byte s at ≡ 0x57 → Two t left Cond.equal (read_expr s terms (left - 1)) (read_expr s terms (left - 1)) (at + 1) (read_cond s terms left at)
    pub less : Others (Unit {0}) (byte s at) (front cond_rows)
        → Two t left Cond.less (read_expr s terms (left - 1)) (read_expr s terms (left - 1)) (at + 1) (read_cond s terms left at)

  pub cond-at : left ≡ t → Loads (read_cond s terms left at) → CondAt
  cond-at e l =
      let pos = cond_pos s terms left at l in
      let is = cond-is s terms left at pos in
      record {
        pos = pos;
        inside = cond-inside s terms left at l;
        no = λ k. is 0x50 k;
        yes = λ k. is 0x51 k;
        or = λ k. two_at e pos l (is 0x52 k);
        and = λ k. two_at e pos l (is 0x53 k);
        not = λ k. one_at e pos l (is 0x54 k);
        regex = λ k. let b = pattern-of s terms left at l k in record { value = b.0; room = b.1; is_good = b.2; rest = one_at e pos l b.3 };
        lang_matches = λ k. let b = range-of s terms left at l k in record { value = b.0; room = b.1; is_good = b.2; rest = one_at e pos l b.3 };
        equal = λ k. two_at e pos l (is 0x57 k);
        less = λ h. two_at e pos l (is 0x58 (cond-last s terms left at l h));
      }

  -- ── queries ───────────────────────────────────────────────────────────────────────────────

  pub record QueryAt : Type 1 where
    pub pos : 0 < left
    pub inside : at < length s
    pub pattern : byte s at ≡ 0x61 → Four Query.pattern (read_name s terms (left - 1)) (at + 1) (read_query s terms left at)
    pub both : byte s at ≡ 0x62 → Two t left Query.both (read_query s terms (left - 1)) (read_query s terms (left - 1)) (at + 1) (read_query s terms left at)
    pub union : byte s at ≡ 0x63 → Two t left Query.union (read_query s terms (left - 1)) (read_query s terms (left - 1)) (at + 1) (read_query s terms left at)
    pub filter : byte s at ≡ 0x64 → One t left Query.filter (read_cond s terms (left - 1) (at + 1)) (read_query s terms left at)
    pub empty : Others (Unit {0}) (byte s at) (front query_rows) → read_query s terms left at ≡ some (Query.empty, at + 1)

  pub query-at : left ≡ t → Loads (read_query s terms left at) → QueryAt
  query-at e l =
      let pos = query-pos s terms left at l in
      let is = query-is s terms left at pos in
      record {
        pos = pos;
        inside = query-inside s terms left at l;
        pattern = λ k. four-at l (is 0x61 k);
        both = λ k. two_at e pos l (is 0x62 k);
        union = λ k. two_at e pos l (is 0x63 k);
        filter = λ k. one_at e pos l (is 0x64 k);
        empty = λ h. is 0x65 (query-last s terms left at l h);
      }

  -- ── scripts ───────────────────────────────────────────────────────────────────────────────

  pub record Block : Type 1 where
    pub room : past at block_width ≤ length s
    pub binders : List Binder
    pub listed : binders_at pair_limit (byte s (at + 2)) s (at + 3) ≡ some binders
    pub parts : Two t left (Script.block at (is_each s at) binders) (read_query s terms (left - 1)) (read_script s terms (left - 1)) (past at block_width)
        (read_script s terms left at)

  pub record ScriptAt : Type 1 where
    pub pos : 0 < left
    pub inside : at < length s
    pub success : byte s at ≡ 0x71 → read_script s terms left at ≡ some (Script.success at, at + 1)
    pub from_named : byte s at ≡ 0x72
        → Two t left (Script.from_named at) (read_name s terms (left - 1)) (read_script s terms (left - 1)) (at + 1) (read_script s terms left at)
    pub block : byte s at ≡ 0x73 → Block
    pub sequence : Others (Unit {0}) (byte s at) (front script_rows)
        → Two t left (Script.sequence at) (read_script s terms (left - 1)) (read_script s terms (left - 1)) (at + 1) (read_script s terms left at)

  pub script-at : left ≡ t → Loads (read_script s terms left at) → ScriptAt
  script-at e l =
      let pos = script-pos s terms left at l in
      let is = script-is s terms left at pos in
      record {
        pos = pos;
        inside = script-inside s terms left at l;
        success = λ k. is 0x71 k;
        from_named = λ k. two_at e pos l (is 0x72 k);
        block = λ k. let b = block_of s terms left at l k in record { room = b.1; binders = b.0; listed = b.3; parts = two_at e pos l b.4 };
        sequence = λ h. two_at e pos l (is 0x74 (script-last s terms left at l h));
      }
