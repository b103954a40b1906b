-- What reading gives is bounded: variables and constants, offsets, depth, pairs; and it lies within the script.
use Prim.Native.Nat.{ℕ, zero, suc, ◌+◌, ◌≤◌, ◌<◌}
use mathlib.Core.Bool.{Bool, ◌&&◌}
use mathlib.Core.List.{List, ◌∷◌}
use mathlib.Core.Option.{Option, none, some}
use mathlib.Core.Path.{◌≡◌, refl, ap, subst}
use mathlib.Core.Logic.{⊎_elim}
use native.Mathlib.Omega.{arith}
use lib.ListN.{length}
use lib.Dec.{T, ltb, eqb, leb→le, ltb→lt, eqb→eq}
use Rattle.definitions.specs.Limits.{variable_limit, pattern_width, language_range_width, block_width, pair_limit, depth_limit}
use Rattle.definitions.specs.Bytes.{Got, provided, onward, row, byte, word, past, whole, body}
use Rattle.definitions.specs.Text.{pattern_of, language_range_of}
use Rattle.definitions.specs.Total.{script_records}
use Rattle.definitions.specs.Tree.{Name, var, const, Expr, Cond, Query, Binder, Script, success, from_named, block, sequence}
use Rattle.definitions.specs.Reading.{and_then, one_of, two_of, four_of, NameShape, name_rows, name_of, read_name, ExprShape, expr_rows, expr_of, read_expr}
use Rattle.definitions.specs.Reading.{CondShape, cond_rows, cond_of, read_cond, with_body, QueryShape, query_rows, query_of, read_query}
use Rattle.definitions.specs.Reading.{ScriptShape, script_rows, script_of, read_script, with_binders, binders_at, binder_at, written_of, is_each, parsed}
use Rattle.laws.proofs.Tests.{and_left, and_right}
use Rattle.laws.proofs.Ranges.{split}
use Rattle.laws.proofs.Options.{some-not-none, some_is, onward-inv, provided-inv}
use Rattle.laws.proofs.Reading.{byte-out, row-all}
use Rattle.laws.specs.Sound.{NameBounded, ExprBounded, CondBounded, QueryBounded, BindersBounded, ScriptBounded, Placed, height}

-- ── a property of what is read and of where it ends ─────────────────────────────────────────

abbrev pub Reads : {A : Type 0} → (A → ℕ → Type 0) → Got A → Type 0
Reads {A} P o = (a : A) (n : ℕ) → o ≡ some (a, n) → P a n

module _ {A : Type 0} (P : A → ℕ → Type 0) where
  pub none_reads : Reads P none
  none_reads a n e = absurd (some-not-none e refl)

  pub leaf-reads : (a : A) (n : ℕ) → P a n → Reads P (some (a, n))
  leaf-reads a n h b m e = subst (λ (p : A × ℕ). P p.0 p.1) (some_is e) h

  pub provided-reads : (t : Bool) (o : Got A) → (T t → Reads P o) → Reads P (provided t o)
  provided-reads t o h a n e = let i = provided-inv t o e in h i.0 a n i.1

  pub onward-reads : {B : Type 0} (o : Option B) (f : B → Got A) → ((b : B) → o ≡ some b → Reads P (f b)) → Reads P (onward o f)
  onward-reads o f h a n e = let i = onward-inv o f e in h i.0 i.1 a n i.2

module _ {A B : Type 0} (P : A → ℕ → Type 0) (Q : B → ℕ → Type 0) where
  pub then-reads : (o : Got A) (f : A → ℕ → Got B) → Reads P o → ((a : A) (n : ℕ) → P a n → Reads Q (f a n)) → Reads Q (and_then o f)
  unfolding and_then
  then-reads none f h k = none_reads Q
  then-reads (some p) f h k = k p.0 p.1 (h p.0 p.1 refl)

  pub one-reads : (f : A → B) (o : Got A) → Reads P o → ((a : A) (n : ℕ) → P a n → Q (f a) n) → Reads Q (one_of f o)
  unfolding one_of
  one-reads f o h k = then-reads o (λ a n. some (f a, n)) h (λ a n x. leaf-reads Q (f a) n (k a n x))

-- the second child begins where the first ends
module _ {A B C : Type 0} (P : A → ℕ → Type 0) (R : ℕ → B → ℕ → Type 0) (Q : C → ℕ → Type 0) (q : ℕ → Got B) (hq : (m : ℕ) → Reads (R m) (q m)) where
  pub two-reads : (f : A → B → C) (p : ℕ → Got A) (at : ℕ) → Reads P (p at)
      → ((a : A) (m : ℕ) (b : B) (n : ℕ) → P a m → R m b n → Q (f a b) n) → Reads Q (two_of f p q at)
  unfolding two_of
  two-reads f p at h k = then-reads P Q (p at) (λ a m. one_of (f a) (q m)) h (λ a m x. one-reads (R m) Q (f a) (q m) (hq m) (λ b n y. k a m b n x y))

-- ── what is read lies within the script ─────────────────────────────────────────────────────

-- a tree read from an offset on: it is bounded, takes a byte at least and ends within the script
pub record Within {A : Type 0} (Bounded : A → Type 0) (s : List ℕ) (at : ℕ) (a : A) (n : ℕ) : Type 0 where
  pub bounded : Bounded a
  pub from : at < n
  pub to : n ≤ length s

-- ── what the rows of a table make ───────────────────────────────────────────────────────────

module _ (terms : ℕ) where
  abbrev ExprFine : ExprShape → Type 0
  ExprFine ExprShape.named = Unit {0}
  ExprFine ExprShape.unknown = Unit {0}
  ExprFine (ExprShape.leaf e) = ExprBounded terms e
  ExprFine (ExprShape.one f) = (a : Expr) → ExprBounded terms a → ExprBounded terms (f a)
  ExprFine (ExprShape.two f) = (a b : Expr) → ExprBounded terms a → ExprBounded terms b → ExprBounded terms (f a b)

  expr-fine : (k : ℕ) → ExprFine (row k expr_rows ExprShape.unknown)
  expr-fine k =
      row-all ExprFine k expr_rows ExprShape.unknown
      (tt, (tt, (tt, ((λ a x. x), ((λ a x. x), ((λ a b x y. (x, y)), ((λ a b x y. (x, y)), tt)))))))
      tt

  abbrev CondFine : CondShape → Type 0
  CondFine (CondShape.leaf c) = CondBounded terms c
  CondFine (CondShape.one f) = (c : Cond) → CondBounded terms c → CondBounded terms (f c)
  CondFine (CondShape.two f) = (c d : Cond) → CondBounded terms c → CondBounded terms d → CondBounded terms (f c d)
  CondFine CondShape.pattern = Unit {0}
  CondFine CondShape.language_range = Unit {0}
  CondFine (CondShape.pair f) = (a b : Expr) → ExprBounded terms a → ExprBounded terms b → CondBounded terms (f a b)
  CondFine CondShape.unknown = Unit {0}

  cond-fine : (k : ℕ) → CondFine (row k cond_rows CondShape.unknown)
  cond-fine k =
      row-all CondFine k cond_rows CondShape.unknown
      (tt, (tt, ((λ c d x y. (x, y)), ((λ c d x y. (x, y)), ((λ c x. x), (tt, (tt, ((λ a b x y. (x, y)), ((λ a b x y. (x, y)), tt)))))))))
      tt

  abbrev QueryFine : QueryShape → Type 0
  QueryFine QueryShape.four = Unit {0}
  QueryFine QueryShape.filtered = Unit {0}
  QueryFine QueryShape.leaf = Unit {0}
  QueryFine QueryShape.unknown = Unit {0}
  QueryFine (QueryShape.two f) = (q r : Query) → QueryBounded terms q → QueryBounded terms r → QueryBounded terms (f q r)

  query-fine : (k : ℕ) → QueryFine (row k query_rows QueryShape.unknown)
  query-fine k =
      row-all QueryFine k query_rows QueryShape.unknown
      (tt, ((λ q r x y. (x, y)), ((λ q r x y. (x, y)), (tt, (tt, tt)))))
      tt

-- ── names, expressions, booleans, queries ───────────────────────────────────────────────────

-- past the end nothing is read
pub inside : {A S : Type 0} (P : A → ℕ → Type 0) (s : List ℕ) (at : ℕ) (rows : List (ℕ × S)) (other : S) (f : S → Got A)
    → f (row 0 rows other) ≡ none → (at < length s → Reads P (f (row (byte s at) rows other))) → Reads P (f (row (byte s at) rows other))
inside P s at rows other f nothing h = ⊎_elim (λ l. rw (byte-out s at l, nothing) (none_reads P)) h (split (length s) at)

module _ (s : List ℕ) (terms : ℕ) where
  abbrev pub NameIn : ℕ → Name → ℕ → Type 0
  NameIn at = Within (NameBounded terms) s at

  abbrev pub ExprIn : ℕ → Expr → ℕ → Type 0
  ExprIn at = Within (ExprBounded terms) s at

  abbrev pub CondIn : ℕ → Cond → ℕ → Type 0
  CondIn at = Within (CondBounded terms) s at

  abbrev pub QueryIn : ℕ → Query → ℕ → Type 0
  QueryIn at = Within (QueryBounded terms) s at

  -- a name whose n bytes of body lie within the script and pass a test
  name_body : (at n : ℕ) (name : Name) (good : Bool) → (T good → NameBounded terms name)
      → Reads (NameIn at) (provided (whole s at n && good) (some (name, past at n)))
  name_body at n name good h =
      provided-reads (NameIn at) (whole s at n && good) (some (name, past at n)) (λ t.
      let w : past at n ≤ length s = leb→le (past at n) (length s) (and_left (whole s at n) good t) in
      leaf-reads (NameIn at) name (past at n) (record { bounded = h (and_right (whole s at n) good t); from = omega arith; to = w }))

  name-level : (at : ℕ) (sh : NameShape) → Reads (NameIn at) (name_of sh s terms at)
  name-level at NameShape.variable = let v = byte s (at + 1) in name_body at 1 (var v) (ltb v variable_limit) (ltb→lt v variable_limit)
  name-level at NameShape.constant = let c = word s (at + 1) in name_body at 2 (const c) (ltb c terms) (ltb→lt c terms)
  name-level at NameShape.unknown = none_reads (NameIn at)

  pub name-within : (left at : ℕ) → Reads (NameIn at) (read_name s terms left at)
  unfolding read_name
  name-within zero at = none_reads (NameIn at)
  name-within (suc left) at = name-level at (row (byte s at) name_rows NameShape.unknown)

  module _ (at : ℕ) (here : at < length s) where
    expr-level : (sh : ExprShape) → ExprFine terms sh → (name : Got Name) (rest : ℕ → Got Expr)
        → Reads (NameIn at) name → ((m : ℕ) → Reads (ExprIn m) (rest m)) → Reads (ExprIn at) (expr_of sh name at rest)
    expr-level ExprShape.named fine name rest hn h =
        one-reads (NameIn at) (ExprIn at) Expr.name name hn (λ a n x. record { bounded = x.bounded; from = x.from; to = x.to })
    expr-level ExprShape.unknown fine name rest hn h = none_reads (ExprIn at)
    expr-level (ExprShape.leaf e) fine name rest hn h = leaf-reads (ExprIn at) e (at + 1) (record { bounded = fine; from = omega arith; to = omega arith })
    expr-level (ExprShape.one f) fine name rest hn h =
        one-reads (ExprIn (at + 1)) (ExprIn at) f (rest (at + 1)) (h (at + 1))
        (λ a n x. record { bounded = fine a x.bounded; from = omega arith; to = x.to })
    expr-level (ExprShape.two f) fine name rest hn h =
        two-reads (ExprIn (at + 1)) ExprIn (ExprIn at) rest h f rest (at + 1) (h (at + 1))
        (λ a m b n x y. record { bounded = fine a b x.bounded y.bounded; from = omega arith; to = y.to })

    body_reads : {A : Type 0} (n : ℕ) (good : List ℕ → Option A) (f : A → Expr → Cond) → ((a : A) (e : Expr) → ExprBounded terms e → CondBounded terms (f a e))
        → (expr : ℕ → Got Expr) → ((m : ℕ) → Reads (ExprIn m) (expr m)) → Reads (CondIn at) (with_body n good f s at expr)
    unfolding with_body
    body_reads n good f fine expr h =
        provided-reads (CondIn at) (whole s at n) (onward (good (body s at n)) (λ a. one_of (f a) (expr (past at n)))) (λ t.
        onward-reads (CondIn at) (good (body s at n)) (λ a. one_of (f a) (expr (past at n))) (λ a e.
        one-reads (ExprIn (past at n)) (CondIn at) (f a) (expr (past at n)) (h (past at n))
        (λ b m x. record { bounded = fine a b x.bounded; from = omega arith; to = x.to })))

    cond-level : (sh : CondShape) → CondFine terms sh → (expr : ℕ → Got Expr) (rest : ℕ → Got Cond)
        → ((m : ℕ) → Reads (ExprIn m) (expr m)) → ((m : ℕ) → Reads (CondIn m) (rest m)) → Reads (CondIn at) (cond_of sh s at expr rest)
    cond-level (CondShape.leaf c) fine expr rest he h = leaf-reads (CondIn at) c (at + 1) (record { bounded = fine; from = omega arith; to = omega arith })
    cond-level (CondShape.one f) fine expr rest he h =
        one-reads (CondIn (at + 1)) (CondIn at) f (rest (at + 1)) (h (at + 1))
        (λ a n x. record { bounded = fine a x.bounded; from = omega arith; to = x.to })
    cond-level (CondShape.two f) fine expr rest he h =
        two-reads (CondIn (at + 1)) CondIn (CondIn at) rest h f rest (at + 1) (h (at + 1))
        (λ a m b n x y. record { bounded = fine a b x.bounded y.bounded; from = omega arith; to = y.to })
    cond-level CondShape.pattern fine expr rest he h = body_reads pattern_width pattern_of Cond.regex (λ a e x. x) expr he
    cond-level CondShape.language_range fine expr rest he h = body_reads language_range_width language_range_of Cond.lang_matches (λ a e x. x) expr he
    cond-level (CondShape.pair f) fine expr rest he h =
        two-reads (ExprIn (at + 1)) ExprIn (CondIn at) expr he f expr (at + 1) (he (at + 1))
        (λ a m b n x y. record { bounded = fine a b x.bounded y.bounded; from = omega arith; to = y.to })
    cond-level CondShape.unknown fine expr rest he h = none_reads (CondIn at)

    -- four names, each beginning where the one before it ends
    four-reads : (name : ℕ → Got Name) → ((m : ℕ) → Reads (NameIn m) (name m)) → Reads (QueryIn at) (four_of Query.pattern name (at + 1))
    unfolding four_of
    four-reads name h =
        let last : Name → Name → ℕ → Got Query = λ a b j. two_of (Query.pattern a b) name name j in
        then-reads (NameIn (at + 1)) (QueryIn at) (name (at + 1)) (λ a i. and_then (name i) (last a)) (h (at + 1)) (λ a i x.
        then-reads (NameIn i) (QueryIn at) (name i) (last a) (h i) (λ b j y.
        two-reads (NameIn j) NameIn (QueryIn at) name h (Query.pattern a b) name j (h j)
        (λ c k d n z w. record { bounded = (x.bounded, y.bounded, z.bounded, w.bounded); from = omega arith; to = w.to })))

    query-level : (sh : QueryShape) → QueryFine terms sh → (name : ℕ → Got Name) (test : ℕ → Got Cond) (rest : ℕ → Got Query)
        → ((m : ℕ) → Reads (NameIn m) (name m)) → ((m : ℕ) → Reads (CondIn m) (test m)) → ((m : ℕ) → Reads (QueryIn m) (rest m))
        → Reads (QueryIn at) (query_of sh at name test rest)
    query-level QueryShape.four fine name test rest hn ht h = four-reads name hn
    query-level QueryShape.filtered fine name test rest hn ht h =
        one-reads (CondIn (at + 1)) (QueryIn at) Query.filter (test (at + 1)) (ht (at + 1))
        (λ a n x. record { bounded = x.bounded; from = omega arith; to = x.to })
    query-level QueryShape.leaf fine name test rest hn ht h =
        leaf-reads (QueryIn at) Query.empty (at + 1) (record { bounded = tt; from = omega arith; to = omega arith })
    query-level QueryShape.unknown fine name test rest hn ht h = none_reads (QueryIn at)
    query-level (QueryShape.two f) fine name test rest hn ht h =
        two-reads (QueryIn (at + 1)) QueryIn (QueryIn at) rest h f rest (at + 1) (h (at + 1))
        (λ a m b n x y. record { bounded = fine a b x.bounded y.bounded; from = omega arith; to = y.to })

  pub expr-within : (left at : ℕ) → Reads (ExprIn at) (read_expr s terms left at)
  unfolding read_expr
  expr-within zero at = none_reads (ExprIn at)
  expr-within (suc left) at =
      inside (ExprIn at) s at expr_rows ExprShape.unknown (λ sh. expr_of sh (read_name s terms (suc left) at) at (read_expr s terms left)) refl (λ l.
      expr-level at l (row (byte s at) expr_rows ExprShape.unknown) (expr-fine terms (byte s at)) (read_name s terms (suc left) at) (read_expr s terms left)
      (name-within (suc left) at) (λ m. expr-within left m))

  pub cond-within : (left at : ℕ) → Reads (CondIn at) (read_cond s terms left at)
  unfolding read_cond
  cond-within zero at = none_reads (CondIn at)
  cond-within (suc left) at =
      inside (CondIn at) s at cond_rows CondShape.unknown (λ sh. cond_of sh s at (read_expr s terms left) (read_cond s terms left)) refl (λ l.
      cond-level at l (row (byte s at) cond_rows CondShape.unknown) (cond-fine terms (byte s at)) (read_expr s terms left) (read_cond s terms left)
      (λ m. expr-within left m) (λ m. cond-within left m))

  pub query-within : (left at : ℕ) → Reads (QueryIn at) (read_query s terms left at)
  unfolding read_query
  query-within zero at = none_reads (QueryIn at)
  query-within (suc left) at =
      inside (QueryIn at) s at query_rows QueryShape.unknown
      (λ sh. query_of sh at (read_name s terms left) (read_cond s terms left) (read_query s terms left)) refl (λ l.
      query-level at l (row (byte s at) query_rows QueryShape.unknown) (query-fine terms (byte s at))
      (read_name s terms left) (read_cond s terms left) (read_query s terms left)
      (λ m. name-within left m) (λ m. cond-within left m) (λ m. query-within left m))

-- ── pairs of a block ────────────────────────────────────────────────────────────────────────

binder-bounded : (s : List ℕ) (at : ℕ) (b : Binder) → binder_at s at ≡ some b → b.variable < variable_limit
unfolding binder_at
binder-bounded s at b e =
    let p = provided-inv (ltb (byte s at) variable_limit) (onward (written_of (byte s (at + 1))) (λ w. some (record { variable = byte s at; written = w }))) e in
    let w = onward-inv (written_of (byte s (at + 1))) (λ w. some (record { variable = byte s at; written = w })) p.1 in
    let v : byte s at ≡ b.variable = ap (λ (x : Binder). x.variable) (some_is w.2) in
    let l = ltb→lt (byte s at) variable_limit p.0 in
    omega arith

-- a pair's variable is below 16, and there are `count` pairs, which fit the places left
pub binders-bounded : (terms left count : ℕ) (s : List ℕ) (at : ℕ) (bs : List Binder) → binders_at left count s at ≡ some bs
    → BindersBounded terms bs × (length bs ≡ count) × (count ≤ left)
unfolding binders_at
binders-bounded terms zero zero s at bs e = subst (λ (x : List Binder). BindersBounded terms x × (length x ≡ 0) × (0 ≤ 0)) (some_is e) (tt, refl, omega arith)
binders-bounded terms zero (suc count) s at bs e = absurd (some-not-none e refl)
binders-bounded terms (suc left) zero s at bs e =
    let p = provided-inv (eqb (byte s at) 0 && eqb (byte s (at + 1)) 0) (binders_at left zero s (at + 2)) e in
    let h = binders-bounded terms left zero s (at + 2) bs p.1 in
    (h.0, h.1, omega arith)
binders-bounded terms (suc left) (suc count) s at bs e =
    let p = onward-inv (binder_at s at) (λ b. onward (binders_at left count s (at + 2)) (λ bs. some (b ∷ bs))) e in
    let q = onward-inv (binders_at left count s (at + 2)) (λ bs. some (p.0 ∷ bs)) p.2 in
    let h = binders-bounded terms left count s (at + 2) q.0 q.1 in
    subst (λ (x : List Binder). BindersBounded terms x × (length x ≡ suc count) × (suc count ≤ suc left)) (some_is q.2)
    ((binder-bounded s at p.0 p.1, h.0), ap suc h.1, omega (arith, h.2))

-- ── scripts ─────────────────────────────────────────────────────────────────────────────────

-- a block has at most four pairs
abbrev pub PairsFit : Script → Type 0
PairsFit (success at) = Unit {0}
PairsFit (from_named at n c) = PairsFit c
PairsFit (block at each bs q c) = (length bs ≤ pair_limit) × PairsFit c
PairsFit (sequence at c d) = PairsFit c × PairsFit d

-- the offsets may begin earlier
pub placed-from : (lo lo' hi : ℕ) (c : Script) → lo ≤ lo' → Placed lo' hi c → Placed lo hi c
placed-from lo lo' hi (success at) l h = (omega (arith, h.0), h.1)
placed-from lo lo' hi (from_named at n c) l h = (omega (arith, h.0), h.1)
placed-from lo lo' hi (block at each bs q c) l h = (omega (arith, h.0), h.1)
placed-from lo lo' hi (sequence at c d) l h = (omega (arith, h.0), h.1)

-- a record takes a byte at least
pub records-fit : (lo hi : ℕ) (c : Script) → Placed lo hi c → lo + script_records c ≤ hi
unfolding script_records
records-fit lo hi (success at) h = omega (arith, h.0, h.1)
records-fit lo hi (from_named at n c) h = omega (arith, h.0, records-fit (suc at) hi c h.1)
records-fit lo hi (block at each bs q c) h = omega (arith, h.0, records-fit (suc at) hi c h.1)
records-fit lo hi (sequence at c d) h = omega (arith, h.0, records-fit (suc at) h.1.0 c h.1.1, records-fit h.1.0 hi d h.1.2)

-- a script read from an offset on with some levels left
pub record ScriptIn (s : List ℕ) (terms left at : ℕ) (c : Script) (n : ℕ) : Type 0 where
  pub bounded : ScriptBounded terms c
  pub placed : Placed at n c
  pub shallow : height c ≤ left
  pub pairs : PairsFit c
  pub from : at < n
  pub to : n ≤ length s

module _ (s : List ℕ) (terms left at : ℕ) (here : at < length s) where
  abbrev Whole : Script → ℕ → Type 0
  Whole = ScriptIn s terms (suc left) at

  -- a child's script, one level further down
  abbrev Child : ℕ → Script → ℕ → Type 0
  Child = ScriptIn s terms left

  module _ (name : ℕ → Got Name) (query : ℕ → Got Query) (rest : ℕ → Got Script)
      (hn : (m : ℕ) → Reads (NameIn s terms m) (name m)) (hq : (m : ℕ) → Reads (QueryIn s terms m) (query m)) (h : (m : ℕ) → Reads (Child m) (rest m)) where
    block_reads : Reads Whole (with_binders s at query rest)
    unfolding with_binders
    block_reads =
        let make = Script.block at (is_each s at) in
        let binders = binders_at pair_limit (byte s (at + 2)) s (at + 3) in
        provided-reads Whole (whole s at block_width && ltb (byte s (at + 1)) 2) (onward binders (λ bs. two_of (make bs) query rest (past at block_width))) (λ t.
        onward-reads Whole binders (λ bs. two_of (make bs) query rest (past at block_width)) (λ bs e.
        let b = binders-bounded terms pair_limit (byte s (at + 2)) s (at + 3) bs e in
        two-reads (QueryIn s terms (past at block_width)) Child Whole rest h (make bs) query (past at block_width) (hq (past at block_width)) (λ q m c n x y.
        record {
          bounded = (b.0, x.bounded, y.bounded);
          placed = (omega arith, placed-from (suc at) m n c (omega arith) y.placed);
          shallow = omega arith;
          pairs = (omega arith, y.pairs);
          from = omega arith;
          to = y.to;
        })))

    script-level : (sh : ScriptShape) → Reads Whole (script_of sh s at name query rest)
    script-level ScriptShape.done =
        leaf-reads Whole (success at) (at + 1)
        (record { bounded = tt; placed = (omega arith, omega arith); shallow = omega arith; pairs = tt; from = omega arith; to = omega arith })
    script-level ScriptShape.named =
        two-reads (NameIn s terms (at + 1)) Child Whole rest h (Script.from_named at) name (at + 1) (hn (at + 1)) (λ a m c n x y.
        record {
          bounded = (x.bounded, y.bounded);
          placed = (omega arith, placed-from (suc at) m n c (omega arith) y.placed);
          shallow = omega arith;
          pairs = y.pairs;
          from = omega arith;
          to = y.to;
        })
    script-level ScriptShape.blocked = block_reads
    script-level ScriptShape.two_scripts =
        two-reads (Child (at + 1)) Child Whole rest h (Script.sequence at) rest (at + 1) (h (at + 1)) (λ c m d n x y.
        record {
          bounded = (x.bounded, y.bounded);
          placed = (omega arith, (m, placed-from (suc at) (at + 1) m c (omega arith) x.placed, y.placed));
          shallow = omega arith;
          pairs = (x.pairs, y.pairs);
          from = omega arith;
          to = y.to;
        })
    script-level ScriptShape.unknown = none_reads Whole

pub script-within : (s : List ℕ) (terms left at : ℕ) → Reads (ScriptIn s terms left at) (read_script s terms left at)
unfolding read_script
script-within s terms zero at = none_reads (ScriptIn s terms zero at)
script-within s terms (suc left) at =
    inside (ScriptIn s terms (suc left) at) s at script_rows ScriptShape.unknown
    (λ sh. script_of sh s at (read_name s terms left) (read_query s terms left) (read_script s terms left)) refl (λ l.
    script-level s terms left at l (read_name s terms left) (read_query s terms left) (read_script s terms left)
    (λ m. name-within s terms left m) (λ m. query-within s terms left m) (λ m. script-within s terms left m) (row (byte s at) script_rows ScriptShape.unknown))

-- ── the whole script ────────────────────────────────────────────────────────────────────────

pub parsed-in : (terms : ℕ) (s : List ℕ) (root : Script) → parsed terms s ≡ some root → ScriptIn s terms depth_limit 0 root (length s)
unfolding parsed
parsed-in terms s root e =
    let r = onward-inv (read_script s terms depth_limit 0) (λ r. provided (eqb r.1 (length s)) (some r.0)) e in
    let p = provided-inv (eqb r.0.1 (length s)) (some r.0.0) r.2 in
    let h = script-within s terms depth_limit 0 r.0.0 r.0.1 r.1 in
    subst (λ (n : ℕ). ScriptIn s terms depth_limit 0 root n) (eqb→eq r.0.1 (length s) p.0)
    (subst (λ (c : Script). ScriptIn s terms depth_limit 0 c r.0.1) (some_is p.1) h)

pub parsed-bounded : (terms : ℕ) (s : List ℕ) (root : Script) → parsed terms s ≡ some root → ScriptBounded terms root
parsed-bounded terms s root e = (parsed-in terms s root e).bounded
