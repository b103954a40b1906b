-- More levels left change nothing of what was read with fewer.
use Prim.Native.Nat.{ℕ, zero, suc, ◌+◌, ◌≤◌}
use mathlib.Core.Bool.{Bool, true, false, ◌&&◌}
use mathlib.Core.List.{List}
use mathlib.Core.Option.{Option, none, some}
use mathlib.Core.Path.{◌≡◌, refl}
use native.Mathlib.Omega.{arith}
use native.Mathlib.Nat.{le_of_suc-le-suc}
use lib.Dec.{ltb}
use Rattle.definitions.specs.Limits.{pattern_width, language_range_width, block_width, pair_limit}
use Rattle.definitions.specs.Bytes.{Got, provided, onward, row, byte, past, whole, body}
use Rattle.definitions.specs.Text.{pattern_of, language_range_of}
use Rattle.definitions.specs.Tree.{Name, Expr, Cond, Query, Binder, Script}
use Rattle.definitions.specs.Reading.{and_then, one_of, two_of, four_of, read_name, ExprShape, expr_rows, expr_of, read_expr}
use Rattle.definitions.specs.Reading.{CondShape, cond_rows, cond_of, read_cond, with_body}
use Rattle.definitions.specs.Reading.{QueryShape, query_rows, query_of, read_query, ScriptShape, script_rows, script_of, read_script, with_binders, binders_at, is_each}
use Rattle.laws.proofs.Options.{some-not-none}

-- o' reads at least what o reads
abbrev pub More : {A : Type 0} → Got A → Got A → Type 0
More {A} o o' = (a : A) (n : ℕ) → o ≡ some (a, n) → o' ≡ some (a, n)

-- ── the combinators ─────────────────────────────────────────────────────────────────────────

none_more : {A : Type 0} (o : Got A) → More none o
none_more o a n e = absurd (some-not-none e refl)

then-more : {A B : Type 0} (f f' : A → ℕ → Got B) → ((a : A) (n : ℕ) → More (f a n) (f' a n)) → (o o' : Got A) → More o o' → More (and_then o f) (and_then o' f')
unfolding and_then
then-more f f' mf none o' m = none_more (and_then o' f')
then-more f f' mf (some p) o' m = λ a n e. rw (m p.0 p.1 refl) (mf p.0 p.1 a n e)

one_more : {A B : Type 0} (f : A → B) (o o' : Got A) → More o o' → More (one_of f o) (one_of f o')
unfolding one_of
one_more f o o' m = then-more (λ a n. some (f a, n)) (λ a n. some (f a, n)) (λ a n b k e. e) o o' m

module _ {A B C : Type 0} (f : A → B → C) (p p' : ℕ → Got A) (q q' : ℕ → Got B) (mp : (k : ℕ) → More (p k) (p' k)) (mq : (k : ℕ) → More (q k) (q' k)) where
  two-more : (at : ℕ) → More (two_of f p q at) (two_of f p' q' at)
  unfolding two_of
  two-more at = then-more (λ a n. one_of (f a) (q n)) (λ a n. one_of (f a) (q' n)) (λ a n. one_more (f a) (q n) (q' n) (mq n)) (p at) (p' at) (mp at)

module _ {A B : Type 0} (f : A → A → A → A → B) (p p' : ℕ → Got A) (m : (k : ℕ) → More (p k) (p' k)) where
  four-more : (at : ℕ) → More (four_of f p at) (four_of f p' at)
  unfolding four_of
  four-more at =
      then-more (λ a n. and_then (p n) (λ b k. two_of (f a b) p p k)) (λ a n. and_then (p' n) (λ b k. two_of (f a b) p' p' k))
      (λ a n. then-more (λ b k. two_of (f a b) p p k) (λ b k. two_of (f a b) p' p' k) (λ b k. two-more (f a b) p p' p p' m m k) (p n) (p' n) (m n))
      (p at) (p' at) (m at)

provided-more : {A : Type 0} (t : Bool) (o o' : Got A) → More o o' → More (provided t o) (provided t o')
unfolding provided
provided-more true o o' m = m
provided-more false o o' m = none_more none

onward-more : {A B : Type 0} (o : Option A) (f f' : A → Got B) → ((a : A) → More (f a) (f' a)) → More (onward o f) (onward o f')
unfolding onward
onward-more none f f' m = none_more none
onward-more (some a) f f' m = m a

-- ── one level ───────────────────────────────────────────────────────────────────────────────

module _ (s : List ℕ) (at : ℕ) where
  expr-level : (sh : ExprShape) (here here' : Got Name) (rest rest' : ℕ → Got Expr)
      → More here here' → ((k : ℕ) → More (rest k) (rest' k)) → More (expr_of sh here at rest) (expr_of sh here' at rest')
  expr-level ExprShape.named here here' rest rest' mh m = one_more Expr.name here here' mh
  expr-level (ExprShape.leaf x) here here' rest rest' mh m = λ a n e. e
  expr-level (ExprShape.one f) here here' rest rest' mh m = one_more f (rest (at + 1)) (rest' (at + 1)) (m (at + 1))
  expr-level (ExprShape.two f) here here' rest rest' mh m = two-more f rest rest' rest rest' m m (at + 1)
  expr-level ExprShape.unknown here here' rest rest' mh m = none_more none

  module _ (expr expr' : ℕ → Got Expr) (me : (k : ℕ) → More (expr k) (expr' k)) where
    body_more : {A : Type 0} (n : ℕ) (good : List ℕ → Option A) (f : A → Expr → Cond) → More (with_body n good f s at expr) (with_body n good f s at expr')
    unfolding with_body
    body_more {A} n good f =
        let with : (ℕ → Got Expr) → A → Got Cond = λ e a. one_of (f a) (e (past at n)) in
        provided-more (whole s at n) (onward (good (body s at n)) (with expr)) (onward (good (body s at n)) (with expr'))
        (onward-more (good (body s at n)) (with expr) (with expr')
        (λ a. one_more (f a) (expr (past at n)) (expr' (past at n)) (me (past at n))))

    cond-level : (sh : CondShape) (rest rest' : ℕ → Got Cond) → ((k : ℕ) → More (rest k) (rest' k))
        → More (cond_of sh s at expr rest) (cond_of sh s at expr' rest')
    cond-level (CondShape.leaf c) rest rest' m = λ a n e. e
    cond-level (CondShape.one f) rest rest' m = one_more f (rest (at + 1)) (rest' (at + 1)) (m (at + 1))
    cond-level (CondShape.two f) rest rest' m = two-more f rest rest' rest rest' m m (at + 1)
    cond-level CondShape.pattern rest rest' m = body_more pattern_width pattern_of Cond.regex
    cond-level CondShape.language_range rest rest' m = body_more language_range_width language_range_of Cond.lang_matches
    cond-level (CondShape.pair f) rest rest' m = two-more f expr expr' expr expr' me me (at + 1)
    cond-level CondShape.unknown rest rest' m = none_more none

  module _ (name name' : ℕ → Got Name) (mn : (k : ℕ) → More (name k) (name' k)) where
    query-level : (sh : QueryShape) (test test' : ℕ → Got Cond) (rest rest' : ℕ → Got Query)
        → ((k : ℕ) → More (test k) (test' k)) → ((k : ℕ) → More (rest k) (rest' k)) → More (query_of sh at name test rest) (query_of sh at name' test' rest')
    query-level QueryShape.four test test' rest rest' mt m = four-more Query.pattern name name' mn (at + 1)
    query-level QueryShape.filtered test test' rest rest' mt m = one_more Query.filter (test (at + 1)) (test' (at + 1)) (mt (at + 1))
    query-level QueryShape.leaf test test' rest rest' mt m = λ a n e. e
    query-level QueryShape.unknown test test' rest rest' mt m = none_more none
    query-level (QueryShape.two f) test test' rest rest' mt m = two-more f rest rest' rest rest' m m (at + 1)

    module _ (query query' : ℕ → Got Query) (rest rest' : ℕ → Got Script)
        (mq : (k : ℕ) → More (query k) (query' k)) (m : (k : ℕ) → More (rest k) (rest' k)) where
      block_more : More (with_binders s at query rest) (with_binders s at query' rest')
      unfolding with_binders
      block_more =
          let binders = binders_at pair_limit (byte s (at + 2)) s (at + 3) in
          let with : (ℕ → Got Query) → (ℕ → Got Script) → List Binder → Got Script = λ q r bs.
          two_of (Script.block at (is_each s at) bs) q r (past at block_width) in
          provided-more (whole s at block_width && ltb (byte s (at + 1)) 2) (onward binders (with query rest)) (onward binders (with query' rest'))
          (onward-more binders (with query rest) (with query' rest')
          (λ bs. two-more (Script.block at (is_each s at) bs) query query' rest rest' mq m (past at block_width)))

      script-level : (sh : ScriptShape) → More (script_of sh s at name query rest) (script_of sh s at name' query' rest')
      script-level ScriptShape.done = λ a n e. e
      script-level ScriptShape.named = two-more (Script.from_named at) name name' rest rest' mn m (at + 1)
      script-level ScriptShape.blocked = block_more
      script-level ScriptShape.two_scripts = two-more (Script.sequence at) rest rest' rest rest' m m (at + 1)
      script-level ScriptShape.unknown = none_more none

-- ── the readers ─────────────────────────────────────────────────────────────────────────────

module _ (s : List ℕ) (terms : ℕ) where
  pub name-more : (l l' at : ℕ) → l ≤ l' → More (read_name s terms l at) (read_name s terms l' at)
  unfolding read_name
  name-more zero l' at h = none_more (read_name s terms l' at)
  name-more (suc l) zero at h = absurd (omega arith)
  name-more (suc l) (suc l') at h = λ a n e. e

  pub expr-more : (l l' at : ℕ) → l ≤ l' → More (read_expr s terms l at) (read_expr s terms l' at)
  unfolding read_expr
  expr-more zero l' at h = none_more (read_expr s terms l' at)
  expr-more (suc l) zero at h = absurd (omega arith)
  expr-more (suc l) (suc l') at h =
      expr-level s at (row (byte s at) expr_rows ExprShape.unknown) (read_name s terms (suc l) at) (read_name s terms (suc l') at)
      (read_expr s terms l) (read_expr s terms l') (name-more (suc l) (suc l') at h) (λ k. expr-more l l' k (le_of_suc-le-suc h))

  pub cond_more : (l l' at : ℕ) → l ≤ l' → More (read_cond s terms l at) (read_cond s terms l' at)
  unfolding read_cond
  cond_more zero l' at h = none_more (read_cond s terms l' at)
  cond_more (suc l) zero at h = absurd (omega arith)
  cond_more (suc l) (suc l') at h =
      let d = le_of_suc-le-suc h in
      cond-level s at (read_expr s terms l) (read_expr s terms l') (λ k. expr-more l l' k d)
      (row (byte s at) cond_rows CondShape.unknown) (read_cond s terms l) (read_cond s terms l') (λ k. cond_more l l' k d)

  pub query-more : (l l' at : ℕ) → l ≤ l' → More (read_query s terms l at) (read_query s terms l' at)
  unfolding read_query
  query-more zero l' at h = none_more (read_query s terms l' at)
  query-more (suc l) zero at h = absurd (omega arith)
  query-more (suc l) (suc l') at h =
      let d = le_of_suc-le-suc h in
      query-level s at (read_name s terms l) (read_name s terms l') (λ k. name-more l l' k d) (row (byte s at) query_rows QueryShape.unknown)
      (read_cond s terms l) (read_cond s terms l') (read_query s terms l) (read_query s terms l') (λ k. cond_more l l' k d) (λ k. query-more l l' k d)

  pub script-more : (l l' at : ℕ) → l ≤ l' → More (read_script s terms l at) (read_script s terms l' at)
  unfolding read_script
  script-more zero l' at h = none_more (read_script s terms l' at)
  script-more (suc l) zero at h = absurd (omega arith)
  script-more (suc l) (suc l') at h =
      let d = le_of_suc-le-suc h in
      script-level s at (read_name s terms l) (read_name s terms l') (λ k. name-more l l' k d) (read_query s terms l) (read_query s terms l')
      (read_script s terms l) (read_script s terms l') (λ k. query-more l l' k d) (λ k. script-more l l' k d) (row (byte s at) script_rows ScriptShape.unknown)
