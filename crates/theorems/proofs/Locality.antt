-- Reading looks only at the bytes from where a tree begins to where it ends: bytes that agree there read as the same tree.
use Prim.Native.Nat.{ℕ, zero, suc, ◌+◌, ◌-◌, ◌*◌, ◌≤◌, ◌<◌, min}
use native.Mathlib.Omega.{arith}
use mathlib.Core.Path.{◌≡◌, refl, sym, ap, subst, ◌∙◌}
use mathlib.Core.List.{List, ◌∷◌}
use mathlib.Core.Bool.{Bool, ◌&&◌}
use mathlib.Core.Option.{Option, some}
use lib.Dec.{T, eqb, ltb, leb}
use lib.ListN.{length, take, drop, length-take, length-drop}
use lib.Seq.{ext_get_or, get_or-take, get_or-drop}
use Rattle.definitions.specs.Limits.{variable_limit, pattern_width, language_range_width, block_width, pair_limit}
use Rattle.definitions.specs.Bytes.{Got, provided, onward, row, byte, word, past, whole, body}
use Rattle.definitions.specs.Text.{pattern_of, language_range_of}
use Rattle.definitions.specs.Tree.{Name, var, const, Expr, Cond, Query, Binder, Script}
use Rattle.definitions.specs.Reading.{and_then, one_of, two_of, four_of, NameShape, name_rows, name_of, read_name, ExprShape, expr_rows, expr_of, read_expr}
use Rattle.definitions.specs.Reading.{CondShape, cond_rows, cond_of, read_cond, with_body, QueryShape, query_rows, query_of, read_query}
use Rattle.definitions.specs.Reading.{ScriptShape, script_rows, script_of, read_script, with_binders, binders_at, binder_at, written_of, is_each}
use Rattle.laws.proofs.Options.{provided-holds, onward-some}
use Rattle.laws.proofs.Reading.{one-some, two-rest, four-rest}
use Rattle.laws.proofs.ReadBounds.{Reads, none_reads, leaf-reads, provided-reads, onward-reads, then-reads, one-reads, two-reads}

module _ (s s' : List ℕ) (terms : ℕ) (sized : length s' ≡ length s) where
  abbrev pub Agree : (from to : ℕ) → Type 0
  Agree from to = (i : ℕ) → from ≤ i → i < to → byte s' i ≡ byte s i

  narrow : {a b : ℕ} (c d : ℕ) → a ≤ c → d ≤ b → Agree a b → Agree c d
  narrow c d l m h i p q = h i (omega arith) (omega arith)

  -- what is read ends after its first byte; where the other bytes agree up to there, it is read from them too
  abbrev pub Alike : {A : Type 0} → (at : ℕ) → Got A → A → ℕ → Type 0
  Alike at o' a n = (at < n) × (Agree at n → o' ≡ some (a, n))

  -- ── the combinators ───────────────────────────────────────────────────────────────────────

  leaf-alike : {A : Type 0} (at : ℕ) (a : A) → Reads (Alike at (some (a, at + 1))) (some (a, at + 1))
  leaf-alike at a = leaf-reads (Alike at (some (a, at + 1))) a (at + 1) (omega arith, λ g. refl)

  one_alike : {A B : Type 0} (f : A → B) (at m : ℕ) → at ≤ m → (o o' : Got A) → Reads (Alike m o') o → Reads (Alike at (one_of f o')) (one_of f o)
  one_alike f at m l o o' h =
      one-reads (Alike m o') (Alike at (one_of f o')) f o h (λ a n x. (omega (arith, x.0), λ g. one-some f (x.1 (narrow m n l (omega arith) g))))

  two-alike : {A B C : Type 0} (f : A → B → C) (p p' : ℕ → Got A) (q q' : ℕ → Got B) (at m : ℕ) → at ≤ m → Reads (Alike m (p' m)) (p m)
      → ((k : ℕ) → Reads (Alike k (q' k)) (q k)) → Reads (Alike at (two_of f p' q' m)) (two_of f p q m)
  two-alike f p p' q q' at m l hp hq =
      two-reads (Alike m (p' m)) (λ k. Alike k (q' k)) (Alike at (two_of f p' q' m)) q hq f p m hp (λ a k b n x y. (
        omega (arith, x.0, y.0),
        λ g. two-rest f p' q' m (x.1 (narrow m k l (omega (arith, y.0)) g)) ∙ one-some (f a) (y.1 (narrow k n (omega (arith, x.0)) (omega arith) g)),
      ))

  four-alike : {A B : Type 0} (f : A → A → A → A → B) (p p' : ℕ → Got A) (at m : ℕ) → at ≤ m → ((k : ℕ) → Reads (Alike k (p' k)) (p k))
      → Reads (Alike at (four_of f p' m)) (four_of f p m)
  unfolding four_of
  four-alike {A} {B} f p p' at m l h =
      let whole : Got B = four_of f p' m in
      let last : A → A → ℕ → Got B = λ a b j. two_of (f a b) p p j in
      then-reads (Alike m (p' m)) (Alike at whole) (p m) (λ a i. and_then (p i) (last a)) (h m) (λ a i x.
      then-reads (Alike i (p' i)) (Alike at whole) (p i) (last a) (h i) (λ b j y.
      two-reads (Alike j (p' j)) (λ k. Alike k (p' k)) (Alike at whole) p h (f a b) p j (h j) (λ c k d n z w. (
        omega (arith, x.0, y.0, z.0, w.0),
        λ g. four-rest f p' m
            (x.1 (narrow m i l (omega (arith, y.0, z.0, w.0)) g)) (y.1 (narrow i j (omega (arith, x.0)) (omega (arith, z.0, w.0)) g))
            ∙ two-rest (f a b) p' p' j (z.1 (narrow j k (omega (arith, x.0, y.0)) (omega (arith, w.0)) g))
            ∙ one-some (f a b c) (w.1 (narrow k n (omega (arith, x.0, y.0, z.0)) (omega arith) g)),
      ))))

  -- the kind is one of the bytes
  by_kind : {A S : Type 0} (at : ℕ) (rows : List (ℕ × S)) (other : S) (f' : S → Got A) {o : Got A}
      → Reads (Alike at (f' (row (byte s at) rows other))) o → Reads (Alike at (f' (row (byte s' at) rows other))) o
  by_kind at rows other f' h a n e =
      let w = h a n e in
      (w.0, λ g. ap (λ (k : ℕ). f' (row k rows other)) (g at (omega arith) (omega (arith, w.0))) ∙ w.1 g)

  -- ── bodies ────────────────────────────────────────────────────────────────────────────────

  whole_same : (at n : ℕ) → whole s' at n ≡ whole s at n
  whole_same at n = ap (leb (past at n)) sized

  body_same : (at n : ℕ) → Agree at (past at n) → body s' at n ≡ body s at n
  body_same at n g =
      ext_get_or 0 (body s' at n) (body s at n) (long s' ∙ (ap (λ (l : ℕ). min n (l - (at + 1))) sized ∙ sym (long s))) (λ i l.
      let m : i < n = omega (arith, long s', l) in
      here s' i m ∙ (g (at + 1 + i) (omega arith) (omega arith) ∙ sym (here s i m)))
    where
      long : (b : List ℕ) → length (body b at n) ≡ min n (length b - (at + 1))
      long b = length-take n (drop (at + 1) b) ∙ ap (min n) (length-drop (at + 1) b)

      here : (b : List ℕ) (i : ℕ) → i < n → byte (body b at n) i ≡ byte b (at + 1 + i)
      here b i m = get_or-take n (drop (at + 1) b) i 0 m ∙ get_or-drop (at + 1) b i 0

  -- ── names ─────────────────────────────────────────────────────────────────────────────────

  name-level : (at : ℕ) (sh : NameShape) → Reads (Alike at (name_of sh s' terms at)) (name_of sh s terms at)
  name-level at NameShape.variable =
      let v = byte s (at + 1) in
      let t = whole s at 1 && ltb v variable_limit in
      provided-reads _ t (some (var v, past at 1)) (λ h. leaf-reads _ (var v) (past at 1) (
        omega arith,
        λ g. rw (whole_same at 1, g (at + 1) (omega arith) (omega arith)) (provided-holds t h refl),
      ))
  name-level at NameShape.constant =
      let c = word s (at + 1) in
      let t = whole s at 2 && ltb c terms in
      provided-reads _ t (some (const c, past at 2)) (λ h. leaf-reads _ (const c) (past at 2) (
        omega arith,
        λ g. rw (whole_same at 2, g (at + 1) (omega arith) (omega arith), g (at + 1 + 1) (omega arith) (omega arith)) (provided-holds t h refl),
      ))
  name-level at NameShape.unknown = none_reads _

  pub name-alike : (left at : ℕ) → Reads (Alike at (read_name s' terms left at)) (read_name s terms left at)
  unfolding read_name
  name-alike zero at = none_reads _
  name-alike (suc left) at = by_kind at name_rows NameShape.unknown (λ sh. name_of sh s' terms at) (name-level at (row (byte s at) name_rows NameShape.unknown))

  -- ── expressions, booleans, queries ────────────────────────────────────────────────────────

  expr-level : (at : ℕ) (sh : ExprShape) (here here' : Got Name) (rest rest' : ℕ → Got Expr) → Reads (Alike at here') here
      → ((k : ℕ) → Reads (Alike k (rest' k)) (rest k)) → Reads (Alike at (expr_of sh here' at rest')) (expr_of sh here at rest)
  expr-level at ExprShape.named here here' rest rest' hn h = one_alike Expr.name at at (omega arith) here here' hn
  expr-level at (ExprShape.leaf e) here here' rest rest' hn h = leaf-alike at e
  expr-level at (ExprShape.one f) here here' rest rest' hn h = one_alike f at (at + 1) (omega arith) (rest (at + 1)) (rest' (at + 1)) (h (at + 1))
  expr-level at (ExprShape.two f) here here' rest rest' hn h = two-alike f rest rest' rest rest' at (at + 1) (omega arith) (h (at + 1)) h
  expr-level at ExprShape.unknown here here' rest rest' hn h = none_reads _

  expr-alike : (left at : ℕ) → Reads (Alike at (read_expr s' terms left at)) (read_expr s terms left at)
  unfolding read_expr
  expr-alike zero at = none_reads _
  expr-alike (suc left) at =
      by_kind at expr_rows ExprShape.unknown (λ sh. expr_of sh (read_name s' terms (suc left) at) at (read_expr s' terms left))
      (expr-level at (row (byte s at) expr_rows ExprShape.unknown) (read_name s terms (suc left) at) (read_name s' terms (suc left) at)
      (read_expr s terms left) (read_expr s' terms left) (name-alike (suc left) at) (expr-alike left))

  module _ (at : ℕ) (expr expr' : ℕ → Got Expr) (he : (k : ℕ) → Reads (Alike k (expr' k)) (expr k)) where
    with-body-alike : {A : Type 0} (n : ℕ) (good : List ℕ → Option A) (f : A → Expr → Cond)
        → Reads (Alike at (with_body n good f s' at expr')) (with_body n good f s at expr)
    unfolding with_body
    with-body-alike {A} n good f =
        let then : (ℕ → Got Expr) → A → Got Cond = λ e a. one_of (f a) (e (past at n)) in
        let there = with_body n good f s' at expr' in
        provided-reads (Alike at there) (whole s at n) (onward (good (body s at n)) (then expr)) (λ t.
        onward-reads (Alike at there) (good (body s at n)) (then expr) (λ a e.
        one-reads (Alike (past at n) (expr' (past at n))) (Alike at there) (f a) (expr (past at n)) (he (past at n)) (λ b m x. (
          omega (arith, x.0),
          λ g. provided-holds (whole s' at n) (subst T (sym (whole_same at n)) t)
              (onward-some (then expr') (ap good (body_same at n (narrow at (past at n) (omega arith) (omega (arith, x.0)) g)) ∙ e)
              ∙ one-some (f a) (x.1 (narrow (past at n) m (omega arith) (omega arith) g))),
        ))))

    cond-level : (sh : CondShape) (rest rest' : ℕ → Got Cond) → ((k : ℕ) → Reads (Alike k (rest' k)) (rest k))
        → Reads (Alike at (cond_of sh s' at expr' rest')) (cond_of sh s at expr rest)
    cond-level (CondShape.leaf c) rest rest' h = leaf-alike at c
    cond-level (CondShape.one f) rest rest' h = one_alike f at (at + 1) (omega arith) (rest (at + 1)) (rest' (at + 1)) (h (at + 1))
    cond-level (CondShape.two f) rest rest' h = two-alike f rest rest' rest rest' at (at + 1) (omega arith) (h (at + 1)) h
    cond-level CondShape.pattern rest rest' h = with-body-alike pattern_width pattern_of Cond.regex
    cond-level CondShape.language_range rest rest' h = with-body-alike language_range_width language_range_of Cond.lang_matches
    cond-level (CondShape.pair f) rest rest' h = two-alike f expr expr' expr expr' at (at + 1) (omega arith) (he (at + 1)) he
    cond-level CondShape.unknown rest rest' h = none_reads _

  cond-alike : (left at : ℕ) → Reads (Alike at (read_cond s' terms left at)) (read_cond s terms left at)
  unfolding read_cond
  cond-alike zero at = none_reads _
  cond-alike (suc left) at =
      by_kind at cond_rows CondShape.unknown (λ sh. cond_of sh s' at (read_expr s' terms left) (read_cond s' terms left))
      (cond-level at (read_expr s terms left) (read_expr s' terms left) (expr-alike left)
      (row (byte s at) cond_rows CondShape.unknown) (read_cond s terms left) (read_cond s' terms left) (cond-alike left))

  query-level : (at : ℕ) (sh : QueryShape) (name name' : ℕ → Got Name) (test test' : ℕ → Got Cond) (rest rest' : ℕ → Got Query)
      → ((k : ℕ) → Reads (Alike k (name' k)) (name k)) → ((k : ℕ) → Reads (Alike k (test' k)) (test k)) → ((k : ℕ) → Reads (Alike k (rest' k)) (rest k))
      → Reads (Alike at (query_of sh at name' test' rest')) (query_of sh at name test rest)
  query-level at QueryShape.four name name' test test' rest rest' hn ht h = four-alike Query.pattern name name' at (at + 1) (omega arith) hn
  query-level at QueryShape.filtered name name' test test' rest rest' hn ht h =
      one_alike Query.filter at (at + 1) (omega arith) (test (at + 1)) (test' (at + 1)) (ht (at + 1))
  query-level at QueryShape.leaf name name' test test' rest rest' hn ht h = leaf-alike at Query.empty
  query-level at QueryShape.unknown name name' test test' rest rest' hn ht h = none_reads _
  query-level at (QueryShape.two f) name name' test test' rest rest' hn ht h = two-alike f rest rest' rest rest' at (at + 1) (omega arith) (h (at + 1)) h

  pub query-alike : (left at : ℕ) → Reads (Alike at (read_query s' terms left at)) (read_query s terms left at)
  unfolding read_query
  query-alike zero at = none_reads _
  query-alike (suc left) at =
      by_kind at query_rows QueryShape.unknown (λ sh. query_of sh at (read_name s' terms left) (read_cond s' terms left) (read_query s' terms left))
      (query-level at (row (byte s at) query_rows QueryShape.unknown) (read_name s terms left) (read_name s' terms left) (read_cond s terms left) (read_cond s' terms left)
      (read_query s terms left) (read_query s' terms left) (name-alike left) (cond-alike left) (query-alike left))

  -- ── pairs and scripts ─────────────────────────────────────────────────────────────────────

  pub binder-same : (at : ℕ) → Agree at (at + 2) → binder_at s' at ≡ binder_at s at
  unfolding binder_at
  binder-same at g = λ j.
      let v = g at (omega arith) (omega arith) j in
      provided (ltb v variable_limit) (onward (written_of (g (at + 1) (omega arith) (omega arith) j)) (λ w. some (record { variable = v; written = w })))

  pub binders-same : (left count at : ℕ) → Agree at (at + 2 * left) → binders_at left count s' at ≡ binders_at left count s at
  unfolding binders_at
  binders-same zero zero at g = refl
  binders-same zero (suc count) at g = refl
  binders-same (suc left) zero at g = λ j.
      provided (eqb (g at (omega arith) (omega arith) j) 0 && eqb (g (at + 1) (omega arith) (omega arith) j) 0)
      (binders-same left zero (at + 2) (narrow (at + 2) (at + 2 + 2 * left) (omega arith) (omega arith) g) j)
  binders-same (suc left) (suc count) at g = λ j.
      onward (binder-same at (narrow at (at + 2) (omega arith) (omega arith) g) j) (λ b.
      onward (binders-same left count (at + 2) (narrow (at + 2) (at + 2 + 2 * left) (omega arith) (omega arith) g) j) (λ bs. some (b ∷ bs)))

  block-alike : (at : ℕ) (query query' : ℕ → Got Query) (rest rest' : ℕ → Got Script) → ((k : ℕ) → Reads (Alike k (query' k)) (query k))
      → ((k : ℕ) → Reads (Alike k (rest' k)) (rest k)) → Reads (Alike at (with_binders s' at query' rest')) (with_binders s at query rest)
  unfolding with_binders
  block-alike at query query' rest rest' hq h =
      let t = whole s at block_width && ltb (byte s (at + 1)) 2 in
      let binders = binders_at pair_limit (byte s (at + 2)) s (at + 3) in
      let make : (ℕ → Got Query) → (ℕ → Got Script) → List Binder → Got Script = λ q r bs. two_of (Script.block at (is_each s at) bs) q r (past at block_width) in
      let there = with_binders s' at query' rest' in
      provided-reads (Alike at there) t (onward binders (make query rest)) (λ u.
      onward-reads (Alike at there) binders (make query rest) (λ bs e.
      two-reads (Alike (past at block_width) (query' (past at block_width))) (λ k. Alike k (rest' k)) (Alike at there) rest h
      (Script.block at (is_each s at) bs) query (past at block_width) (hq (past at block_width)) (λ q m c n x y. (
        omega (arith, x.0, y.0),
        λ g.
            let pairs = binders-same pair_limit (byte s (at + 2)) (at + 3) (narrow (at + 3) (at + 3 + 2 * pair_limit) (omega arith) (omega (arith, x.0, y.0)) g) in
            rw (whole_same at block_width, g (at + 1) (omega arith) (omega (arith, x.0, y.0)), g (at + 2) (omega arith) (omega (arith, x.0, y.0)), pairs)
            (provided-holds t u (onward-some (make query' rest') e
            ∙ two-rest (Script.block at (is_each s at) bs) query' rest' (past at block_width) (x.1 (narrow (past at block_width) m (omega arith) (omega (arith, y.0)) g))
            ∙ one-some (Script.block at (is_each s at) bs q) (y.1 (narrow m n (omega (arith, x.0)) (omega arith) g)))),
      ))))

  script-level : (at : ℕ) (sh : ScriptShape) (name name' : ℕ → Got Name) (query query' : ℕ → Got Query) (rest rest' : ℕ → Got Script)
      → ((k : ℕ) → Reads (Alike k (name' k)) (name k)) → ((k : ℕ) → Reads (Alike k (query' k)) (query k)) → ((k : ℕ) → Reads (Alike k (rest' k)) (rest k))
      → Reads (Alike at (script_of sh s' at name' query' rest')) (script_of sh s at name query rest)
  script-level at ScriptShape.done name name' query query' rest rest' hn hq h = leaf-alike at (Script.success at)
  script-level at ScriptShape.named name name' query query' rest rest' hn hq h =
      two-alike (Script.from_named at) name name' rest rest' at (at + 1) (omega arith) (hn (at + 1)) h
  script-level at ScriptShape.blocked name name' query query' rest rest' hn hq h = block-alike at query query' rest rest' hq h
  script-level at ScriptShape.two_scripts name name' query query' rest rest' hn hq h =
      two-alike (Script.sequence at) rest rest' rest rest' at (at + 1) (omega arith) (h (at + 1)) h
  script-level at ScriptShape.unknown name name' query query' rest rest' hn hq h = none_reads _

  pub script-alike : (left at : ℕ) → Reads (Alike at (read_script s' terms left at)) (read_script s terms left at)
  unfolding read_script
  script-alike zero at = none_reads _
  script-alike (suc left) at =
      by_kind at script_rows ScriptShape.unknown (λ sh. script_of sh s' at (read_name s' terms left) (read_query s' terms left) (read_script s' terms left))
      (script-level at (row (byte s at) script_rows ScriptShape.unknown) (read_name s terms left) (read_name s' terms left) (read_query s terms left) (read_query s' terms left)
      (read_script s terms left) (read_script s' terms left) (name-alike left) (query-alike left) (script-alike left))
