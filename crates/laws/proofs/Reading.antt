-- Laws of reading: what a level of the script reads, from what its children read.
use Prim.Native.Nat.{ℕ, zero, suc, ◌+◌, ◌-◌, ◌≤◌, ◌<◌}
use mathlib.Core.Bool.{Bool, true, not, ◌&&◌}
use mathlib.Core.List.{List, [], ◌∷◌}
use mathlib.Core.Option.{Option, none, some}
use mathlib.Core.Path.{◌≡◌, refl, sym, ap, subst, ◌∙◌}
use mathlib.Core.Logic.{⊎_elim}
use native.Mathlib.Omega.{arith}
use native.Mathlib.Numerals.{sub-one}
use lib.Dec.{T, ltb, eqb, ltb→lt, eqb→eq}
use borrow.Author.Tests.{ne_eqb, le-leb, lt-leb, lt-ltb, le-ltb}
use lib.ListN.{length, get_or-eq_default}
use Rattle.definitions.specs.Limits.{variable_limit, block_width, pair_limit}
use Rattle.definitions.specs.Bytes.{Got, provided, onward, row, byte, word, past, body}
use Rattle.definitions.specs.Tree.{Name, var, const, Expr, Cond, Query, Binder, Script}
use Rattle.definitions.specs.Reading.{and_then, one_of, two_of, four_of, NameShape, name_rows, name_of, read_name, ExprShape, expr_rows, expr_of, read_expr}
use Rattle.definitions.specs.Reading.{CondShape, cond_rows, cond_of, read_cond, with_body, QueryShape, query_rows, query_of, read_query}
use Rattle.definitions.specs.Reading.{ScriptShape, script_rows, script_of, read_script, with_binders, binders_at, is_each}
use Rattle.laws.proofs.Tests.{and_left, and_right, is_false, by-test}
use Rattle.laws.proofs.Ranges.{every_from, every_in, either}
use Rattle.laws.proofs.Options.{some-not-none}

-- ── the combinators where the children are known ────────────────────────────────────────────

module _ {A B : Type 0} (f : A → B) where
  pub one-some : {o : Got A} {a : A} {n : ℕ} → o ≡ some (a, n) → one_of f o ≡ some (f a, n)
  unfolding one_of and_then
  one-some e = rw e

  pub one_none : {o : Got A} → o ≡ none → one_of f o ≡ none
  unfolding one_of and_then
  one_none e = rw e

module _ {A B C : Type 0} (f : A → B → C) (p : ℕ → Got A) (q : ℕ → Got B) (at : ℕ) where
  pub two-first : p at ≡ none → two_of f p q at ≡ none
  unfolding two_of and_then
  two-first e = rw e

  pub two-rest : {a : A} {m : ℕ} → p at ≡ some (a, m) → two_of f p q at ≡ one_of (f a) (q m)
  unfolding two_of and_then
  two-rest e = rw e

module _ {A B : Type 0} (f : A → A → A → A → B) (p : ℕ → Got A) (at : ℕ) where
  pub four-rest : {a b : A} {m n : ℕ} → p at ≡ some (a, m) → p m ≡ some (b, n) → four_of f p at ≡ two_of (f a b) p p n
  unfolding four_of and_then
  four-rest e₁ e₂ = rw (e₁, e₂)

-- ── and back: what the children read, where the node is there ───────────────────────────────

pub same_read : {A : Type 0} {o : Got A} {a b : A} {m n : ℕ} → o ≡ some (a, m) → o ≡ some (b, n) → (a ≡ b) × (m ≡ n)
same_read {A} {o} {a} {b} {m} {n} e₁ e₂ = let f : ◌≡◌ {A = A × ℕ} (a, m) (b, n) = cc in (ap (λ (q : A × ℕ). q.0) f, ap (λ (q : A × ℕ). q.1) f)

pub one-inv : {A B : Type 0} (f : A → B) (o : Got A) {b : B} {n : ℕ} → one_of f o ≡ some (b, n) → (a : A) × (o ≡ some (a, n)) × (f a ≡ b)
unfolding one_of and_then
one-inv f none e = absurd (some-not-none e refl)
one-inv {A} {B} f (some p) {b} {n} e =
    let h : (f p.0 ≡ b) × (p.1 ≡ n) = same_read {o = some (f p.0, p.1)} refl e in
    (p.0, ap {B = Got A} (λ (m : ℕ). some (p.0, m)) h.1, h.0)

pub then-inv : {A B : Type 0} (o : Got A) (f : A → ℕ → Got B) {b : B} {n : ℕ}
    → and_then o f ≡ some (b, n) → (a : A) × (m : ℕ) × (o ≡ some (a, m)) × (f a m ≡ some (b, n))
unfolding and_then
then-inv none f e = absurd (some-not-none e refl)
then-inv (some p) f e = (p.0, p.1, refl, e)

pub two-inv : {A B C : Type 0} (f : A → B → C) (p : ℕ → Got A) (q : ℕ → Got B) (at : ℕ) {c : C} {n : ℕ}
    → two_of f p q at ≡ some (c, n) → (a : A) × (m : ℕ) × (b : B) × (p at ≡ some (a, m)) × (q m ≡ some (b, n)) × (f a b ≡ c)
unfolding two_of
two-inv f p q at e =
    let h = then-inv (p at) (λ a m. one_of (f a) (q m)) e in
    let k = one-inv (f h.0) (q h.1) h.3 in
    (h.0, h.1, k.0, h.2, k.1, k.2)

-- ── tables: a number that is no key, in a gap between keys or above the last ────────────────

-- past the end the byte is 0
pub byte-out : (s : List ℕ) (at : ℕ) → length s ≤ at → byte s at ≡ 0
byte-out s at h = get_or-eq_default s 0 h

module _ {A : Type 0} where
  abbrev pub misses : ℕ → List (ℕ × A) → Bool
  misses k [] = true
  misses k (p ∷ rows) = not (eqb k p.0) && misses k rows

  abbrev pub keys_below : ℕ → List (ℕ × A) → Bool
  keys_below lo [] = true
  keys_below lo (p ∷ rows) = ltb p.0 lo && keys_below lo rows

  pub row-miss : (rows : List (ℕ × A)) (other : A) (k : ℕ) → T (misses k rows) → row k rows other ≡ other
  row-miss [] other k t = refl
  row-miss (p ∷ rows) other k t =
      rw (is_false (eqb k p.0) (and_left (not (eqb k p.0)) (misses k rows) t))
      (row-miss rows other k (and_right (not (eqb k p.0)) (misses k rows) t))

  pub row-gap : (rows : List (ℕ × A)) (other : A) (lo n k : ℕ) → lo ≤ k → k < lo + n → T (every_from (λ j. misses j rows) lo n) → row k rows other ≡ other
  row-gap rows other lo n k from below t = row-miss rows other k (every_in (λ j. misses j rows) lo n t k from below)

  pub row-above : (rows : List (ℕ × A)) (other : A) (lo k : ℕ) → lo ≤ k → T (keys_below lo rows) → row k rows other ≡ other
  row-above [] other lo k h t = refl
  row-above (p ∷ rows) other lo k h t =
      let l : p.0 < lo = ltb→lt p.0 lo (and_left (ltb p.0 lo) (keys_below lo rows) t) in
      rw (ne_eqb k p.0 (λ e. omega arith)) (row-above rows other lo k h (and_right (ltb p.0 lo) (keys_below lo rows) t))

  -- a number that is none of the keys, as the last arm of a `match` with the keys in the table's order is told it
  abbrev pub Others : Type 0 → ℕ → List (ℕ × A) → Type 0
  Others N k [] = N
  Others N k (p ∷ rows) = Others (N × (k ≡ p.0 → ⊥)) k rows

  pub others-first : (N : Type 0) (k : ℕ) (rows : List (ℕ × A)) → Others N k rows → N
  others-first N k [] h = h
  others-first N k (p ∷ rows) h = (others-first (N × (k ≡ p.0 → ⊥)) k rows h).0

  pub row-others : (N : Type 0) (rows : List (ℕ × A)) (other : A) (k : ℕ) → Others N k rows → row k rows other ≡ other
  row-others N [] other k h = refl
  row-others N (p ∷ rows) other k h =
      rw (ne_eqb k p.0 (others-first (N × (k ≡ p.0 → ⊥)) k rows h).1) (row-others (N × (k ≡ p.0 → ⊥)) rows other k h)

  -- of two keys that follow each other and whose rows have one shape, the row that is picked has it
  pub row-either : {X : Type 0} (shape : X → A) (rows : List (ℕ × A)) (other : A) (lo : ℕ) {x y : X} → row lo rows other ≡ shape x
      → row (lo + 1) rows other ≡ shape y → {k : ℕ} → lo ≤ k → k < lo + 2 → (z : X) × (row k rows other ≡ shape z)
  row-either shape rows other lo {x} {y} e f from below = ⊎_elim (λ h. (x, rw h e)) (λ h. (y, rw h f)) (either lo from below)

  -- what holds of each row and of the last value holds of the row that is picked
  abbrev pub AllRows : (A → Type 0) → List (ℕ × A) → Type 0
  AllRows P [] = Unit {0}
  AllRows P (p ∷ rows) = P p.1 × AllRows P rows

  pub row-all : (P : A → Type 0) (k : ℕ) (rows : List (ℕ × A)) (other : A) → AllRows P rows → P other → P (row k rows other)
  row-all P k [] other all o = o
  row-all P k (p ∷ rows) other all o = by-test P (eqb k p.0) p.1 (row k rows other) (λ t. all.0) (λ t. row-all P k rows other all.1 o)

  -- the same of each row with its key
  abbrev pub AllKeys : (ℕ → A → Type 0) → List (ℕ × A) → Type 0
  AllKeys P [] = Unit {0}
  AllKeys P (p ∷ rows) = P p.0 p.1 × AllKeys P rows

  pub row-keys : (P : ℕ → A → Type 0) (k : ℕ) (rows : List (ℕ × A)) (other : A) → AllKeys P rows → P k other → P k (row k rows other)
  row-keys P k [] other all o = o
  row-keys P k (p ∷ rows) other all o =
      by-test (P k) (eqb k p.0) p.1 (row k rows other)
      (λ t. subst (λ (j : ℕ). P j p.1) (sym (eqb→eq k p.0 t)) all.0) (λ t. row-keys P k rows other all.1 o)

-- ── one level of each reader ────────────────────────────────────────────────────────────────

-- For each reader x: with no level left it reads nothing (x-none); it reads by the row of its kind (x-step), which at a numeral computes to the row's
-- case (x-is); of two kinds that follow each other, where both have one shape, it reads by that shape (x-either); and it reads nothing past the end (x-out),
-- nor at a kind that the table does not have (x-others, x-gap, x-above).

module _ (s : List ℕ) (terms : ℕ) where
  pub name-none : (at : ℕ) → read_name s terms 0 at ≡ none
  unfolding read_name
  name-none at = refl

  pub expr-none : (at : ℕ) → read_expr s terms 0 at ≡ none
  unfolding read_expr
  expr-none at = refl

  pub cond-none : (at : ℕ) → read_cond s terms 0 at ≡ none
  unfolding read_cond
  cond-none at = refl

  pub query-none : (at : ℕ) → read_query s terms 0 at ≡ none
  unfolding read_query
  query-none at = refl

  pub script-none : (at : ℕ) → read_script s terms 0 at ≡ none
  unfolding read_script
  script-none at = refl

  -- what a shape reads with some levels left, its children with one less
  module _ (left at : ℕ) where
    abbrev pub name_by : NameShape → Got Name
    name_by sh = name_of sh s terms at

    abbrev pub expr_by : ExprShape → Got Expr
    expr_by sh = expr_of sh (read_name s terms left at) at (read_expr s terms (left - 1))

    abbrev pub cond_by : CondShape → Got Cond
    cond_by sh = cond_of sh s at (read_expr s terms (left - 1)) (read_cond s terms (left - 1))

    abbrev pub query_by : QueryShape → Got Query
    query_by sh = query_of sh at (read_name s terms (left - 1)) (read_cond s terms (left - 1)) (read_query s terms (left - 1))

    abbrev pub script_by : ScriptShape → Got Script
    script_by sh = script_of sh s at (read_name s terms (left - 1)) (read_query s terms (left - 1)) (read_script s terms (left - 1))

  pub name-step : (left at : ℕ) → 0 < left → read_name s terms left at ≡ name_by left at (row (byte s at) name_rows NameShape.unknown)
  unfolding read_name
  name-step zero at h = absurd (omega arith)
  name-step (suc left) at h = refl

  pub expr-step : (left at : ℕ) → 0 < left → read_expr s terms left at ≡ expr_by left at (row (byte s at) expr_rows ExprShape.unknown)
  unfolding read_expr
  expr-step zero at h = absurd (omega arith)
  expr-step (suc left) at h = rw sub-one

  pub cond_step : (left at : ℕ) → 0 < left → read_cond s terms left at ≡ cond_by left at (row (byte s at) cond_rows CondShape.unknown)
  unfolding read_cond
  cond_step zero at h = absurd (omega arith)
  cond_step (suc left) at h = rw sub-one

  pub query-step : (left at : ℕ) → 0 < left → read_query s terms left at ≡ query_by left at (row (byte s at) query_rows QueryShape.unknown)
  unfolding read_query
  query-step zero at h = absurd (omega arith)
  query-step (suc left) at h = rw sub-one

  pub script-step : (left at : ℕ) → 0 < left → read_script s terms left at ≡ script_by left at (row (byte s at) script_rows ScriptShape.unknown)
  unfolding read_script
  script-step zero at h = absurd (omega arith)
  script-step (suc left) at h = rw sub-one

  module _ (left at : ℕ) (pos : 0 < left) where
    pub name-is : (k : ℕ) → byte s at ≡ k → read_name s terms left at ≡ name_by left at (row k name_rows NameShape.unknown)
    name-is k e = rw (name-step left at pos, e)

    pub expr-is : (k : ℕ) → byte s at ≡ k → read_expr s terms left at ≡ expr_by left at (row k expr_rows ExprShape.unknown)
    expr-is k e = rw (expr-step left at pos, e)

    pub cond-is : (k : ℕ) → byte s at ≡ k → read_cond s terms left at ≡ cond_by left at (row k cond_rows CondShape.unknown)
    cond-is k e = rw (cond_step left at pos, e)

    pub query-is : (k : ℕ) → byte s at ≡ k → read_query s terms left at ≡ query_by left at (row k query_rows QueryShape.unknown)
    query-is k e = rw (query-step left at pos, e)

    pub script-is : (k : ℕ) → byte s at ≡ k → read_script s terms left at ≡ script_by left at (row k script_rows ScriptShape.unknown)
    script-is k e = rw (script-step left at pos, e)

    module _ (lo : ℕ) (from : lo ≤ byte s at) (below : byte s at < lo + 2) {X : Type 0} where
      pub expr-either : (shape : X → ExprShape) {a b : X} → row lo expr_rows ExprShape.unknown ≡ shape a → row (lo + 1) expr_rows ExprShape.unknown ≡ shape b
          → (z : X) × (read_expr s terms left at ≡ expr_by left at (shape z))
      expr-either shape e f =
          let r = row-either shape expr_rows ExprShape.unknown lo e f from below in
          (r.0, expr-step left at pos ∙ ap (expr_by left at) r.1)

      pub cond_either : (shape : X → CondShape) {a b : X} → row lo cond_rows CondShape.unknown ≡ shape a → row (lo + 1) cond_rows CondShape.unknown ≡ shape b
          → (z : X) × (read_cond s terms left at ≡ cond_by left at (shape z))
      cond_either shape e f =
          let r = row-either shape cond_rows CondShape.unknown lo e f from below in
          (r.0, cond_step left at pos ∙ ap (cond_by left at) r.1)

      pub query-either : (shape : X → QueryShape) {a b : X} → row lo query_rows QueryShape.unknown ≡ shape a → row (lo + 1) query_rows QueryShape.unknown ≡ shape b
          → (z : X) × (read_query s terms left at ≡ query_by left at (shape z))
      query-either shape e f =
          let r = row-either shape query_rows QueryShape.unknown lo e f from below in
          (r.0, query-step left at pos ∙ ap (query_by left at) r.1)

    pub name_out : length s ≤ at → read_name s terms left at ≡ none
    name_out h = name-is 0 (byte-out s at h)

    pub expr-out : length s ≤ at → read_expr s terms left at ≡ none
    expr-out h = expr-is 0 (byte-out s at h)

    pub cond-out : length s ≤ at → read_cond s terms left at ≡ none
    cond-out h = cond-is 0 (byte-out s at h)

    pub query-out : length s ≤ at → read_query s terms left at ≡ none
    query-out h = query-is 0 (byte-out s at h)

    pub script-out : length s ≤ at → read_script s terms left at ≡ none
    script-out h = script-is 0 (byte-out s at h)

    pub name-others : Others (Unit {0}) (byte s at) name_rows → read_name s terms left at ≡ none
    name-others h = rw (name-step left at pos, row-others (Unit {0}) name_rows NameShape.unknown (byte s at) h)

    pub script-others : Others (Unit {0}) (byte s at) script_rows → read_script s terms left at ≡ none
    script-others h = rw (script-step left at pos, row-others (Unit {0}) script_rows ScriptShape.unknown (byte s at) h)

    module _ (lo n : ℕ) (from : lo ≤ byte s at) (below : byte s at < lo + n) where
      pub name-gap : T (every_from (λ j. misses j name_rows) lo n) → read_name s terms left at ≡ none
      name-gap t = rw (name-step left at pos, row-gap name_rows NameShape.unknown lo n (byte s at) from below t)

      pub expr-gap : T (every_from (λ j. misses j expr_rows) lo n) → read_expr s terms left at ≡ none
      expr-gap t = rw (expr-step left at pos, row-gap expr_rows ExprShape.unknown lo n (byte s at) from below t)

      pub cond-gap : T (every_from (λ j. misses j cond_rows) lo n) → read_cond s terms left at ≡ none
      cond-gap t = rw (cond_step left at pos, row-gap cond_rows CondShape.unknown lo n (byte s at) from below t)

      pub query-gap : T (every_from (λ j. misses j query_rows) lo n) → read_query s terms left at ≡ none
      query-gap t = rw (query-step left at pos, row-gap query_rows QueryShape.unknown lo n (byte s at) from below t)

      pub script-gap : T (every_from (λ j. misses j script_rows) lo n) → read_script s terms left at ≡ none
      script-gap t = rw (script-step left at pos, row-gap script_rows ScriptShape.unknown lo n (byte s at) from below t)

    module _ (lo : ℕ) (from : lo ≤ byte s at) where
      pub name-above : T (keys_below lo name_rows) → read_name s terms left at ≡ none
      name-above t = rw (name-step left at pos, row-above name_rows NameShape.unknown lo (byte s at) from t)

      pub expr-above : T (keys_below lo expr_rows) → read_expr s terms left at ≡ none
      expr-above t = rw (expr-step left at pos, row-above expr_rows ExprShape.unknown lo (byte s at) from t)

      pub cond_above : T (keys_below lo cond_rows) → read_cond s terms left at ≡ none
      cond_above t = rw (cond_step left at pos, row-above cond_rows CondShape.unknown lo (byte s at) from t)

      pub query-above : T (keys_below lo query_rows) → read_query s terms left at ≡ none
      query-above t = rw (query-step left at pos, row-above query_rows QueryShape.unknown lo (byte s at) from t)

      pub script-above : T (keys_below lo script_rows) → read_script s terms left at ≡ none
      script-above t = rw (script-step left at pos, row-above script_rows ScriptShape.unknown lo (byte s at) from t)

-- ── records with a body ─────────────────────────────────────────────────────────────────────

-- 31 and 32
module _ (s : List ℕ) (terms at : ℕ) where
  pub variable-is : past at 1 ≤ length s → byte s (at + 1) < variable_limit → name_of NameShape.variable s terms at ≡ some (var (byte s (at + 1)), past at 1)
  unfolding provided
  variable-is h l = rw (le-leb (past at 1) (length s) h, lt-ltb (byte s (at + 1)) variable_limit l)

  pub variable-bad : past at 1 ≤ length s → variable_limit ≤ byte s (at + 1) → name_of NameShape.variable s terms at ≡ none
  unfolding provided
  variable-bad h l = rw (le-leb (past at 1) (length s) h, le-ltb (byte s (at + 1)) variable_limit l)

  pub variable-cut : length s < past at 1 → name_of NameShape.variable s terms at ≡ none
  unfolding provided
  variable-cut h = rw (lt-leb (past at 1) (length s) h)

  pub constant-is : past at 2 ≤ length s → word s (at + 1) < terms → name_of NameShape.constant s terms at ≡ some (const (word s (at + 1)), past at 2)
  unfolding provided
  constant-is h l = rw (le-leb (past at 2) (length s) h, lt-ltb (word s (at + 1)) terms l)

  pub constant-bad : past at 2 ≤ length s → terms ≤ word s (at + 1) → name_of NameShape.constant s terms at ≡ none
  unfolding provided
  constant-bad h l = rw (le-leb (past at 2) (length s) h, le-ltb (word s (at + 1)) terms l)

  pub constant-cut : length s < past at 2 → name_of NameShape.constant s terms at ≡ none
  unfolding provided
  constant-cut h = rw (lt-leb (past at 2) (length s) h)

-- 55 and 56
module _ {A : Type 0} (n : ℕ) (good : List ℕ → Option A) (f : A → Expr → Cond) (s : List ℕ) (at : ℕ) (expr : ℕ → Got Expr) where
  pub body_is : {a : A} → past at n ≤ length s → good (body s at n) ≡ some a → with_body n good f s at expr ≡ one_of (f a) (expr (past at n))
  unfolding with_body provided onward
  body_is h e = rw (le-leb (past at n) (length s) h, e)

  pub body-bad : past at n ≤ length s → good (body s at n) ≡ none → with_body n good f s at expr ≡ none
  unfolding with_body provided onward
  body-bad h e = rw (le-leb (past at n) (length s) h, e)

  pub body-cut : length s < past at n → with_body n good f s at expr ≡ none
  unfolding with_body provided
  body-cut h = rw (lt-leb (past at n) (length s) h)

-- 73
module _ (s : List ℕ) (at : ℕ) (query : ℕ → Got Query) (rest : ℕ → Got Script) where
  pub block-is : {bs : List Binder} → past at block_width ≤ length s → byte s (at + 1) < 2 → binders_at pair_limit (byte s (at + 2)) s (at + 3) ≡ some bs
      → with_binders s at query rest ≡ two_of (Script.block at (is_each s at) bs) query rest (past at block_width)
  unfolding with_binders provided onward
  block-is h l e = rw (le-leb (past at block_width) (length s) h, lt-ltb (byte s (at + 1)) 2 l, e)

  pub block-bad : past at block_width ≤ length s → byte s (at + 1) < 2 → binders_at pair_limit (byte s (at + 2)) s (at + 3) ≡ none
      → with_binders s at query rest ≡ none
  unfolding with_binders provided onward
  block-bad h l e = rw (le-leb (past at block_width) (length s) h, lt-ltb (byte s (at + 1)) 2 l, e)

  pub block-mode : past at block_width ≤ length s → 2 ≤ byte s (at + 1) → with_binders s at query rest ≡ none
  unfolding with_binders provided
  block-mode h l = rw (le-leb (past at block_width) (length s) h, le-ltb (byte s (at + 1)) 2 l)

  pub block-cut : length s < past at block_width → with_binders s at query rest ≡ none
  unfolding with_binders provided
  block-cut h = rw (lt-leb (past at block_width) (length s) h)
