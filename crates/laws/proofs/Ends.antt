-- A table of ends holds of what is read: the number at the offset of a record is the offset after it.
use Prim.Native.Nat.{ℕ, zero, suc, ◌+◌, ◌<◌}
use native.Mathlib.Omega.{arith}
use mathlib.Core.Bool.{Bool, ◌&&◌}
use mathlib.Core.List.{List}
use mathlib.Core.Option.{Option, some}
use mathlib.Core.Path.{◌≡◌, refl, ap, subst⁻¹, ◌∙◌}
use lib.Dec.{ltb, leb→le}
use lib.ListN.{length}
use borrow.Author.Tests.{lt-ltb}
use Rattle.definitions.specs.Limits.{variable_limit, pattern_width, language_range_width}
use Rattle.definitions.specs.Bytes.{Got, provided, onward, row, byte, word, past, whole, body}
use Rattle.definitions.specs.Text.{pattern_of, language_range_of}
use Rattle.definitions.specs.Tree.{Name, var, const, Expr, Cond, Query}
use Rattle.definitions.specs.Reading.{and_then, one_of, two_of, four_of, NameShape, name_rows, name_of, read_name, ExprShape, expr_rows, expr_of, read_expr}
use Rattle.definitions.specs.Reading.{CondShape, cond_rows, cond_of, read_cond, with_body, QueryShape, query_rows, query_of, read_query}
use Rattle.laws.specs.Ends.{Extent, extent, extent_of, after_in, after_all, end_at, Ended}
use Rattle.laws.specs.Walks.{Loads, Walked}
use Rattle.laws.proofs.Walked.{leaf_walked}
use Rattle.laws.proofs.Productions.{Two}
use Rattle.laws.proofs.Tests.{and_left}
use Rattle.laws.proofs.Reading.{row-keys}
use Rattle.laws.proofs.ReadBounds.{Reads, none_reads, leaf-reads, provided-reads, onward-reads, then-reads, one-reads, two-reads, inside}

-- ── each shape has the extent of its kind ───────────────────────────────────────────────────

abbrev NameFits : NameShape → Extent → Type 0
NameFits NameShape.variable x = x ≡ extent 2 0
NameFits NameShape.constant x = x ≡ extent 3 0
NameFits NameShape.unknown x = Unit {0}

abbrev ExprFits : ExprShape → Extent → Type 0
ExprFits ExprShape.named x = Unit {0}
ExprFits ExprShape.unknown x = Unit {0}
ExprFits (ExprShape.leaf e) x = x ≡ extent 1 0
ExprFits (ExprShape.one f) x = x ≡ extent 1 1
ExprFits (ExprShape.two f) x = x ≡ extent 1 2

abbrev CondFits : CondShape → Extent → Type 0
CondFits (CondShape.leaf c) x = x ≡ extent 1 0
CondFits (CondShape.one f) x = x ≡ extent 1 1
CondFits (CondShape.two f) x = x ≡ extent 1 2
CondFits CondShape.pattern x = x ≡ extent (1 + pattern_width) 1
CondFits CondShape.language_range x = x ≡ extent (1 + language_range_width) 1
CondFits (CondShape.pair f) x = x ≡ extent 1 2
CondFits CondShape.unknown x = Unit {0}

abbrev QueryFits : QueryShape → Extent → Type 0
QueryFits QueryShape.four x = x ≡ extent 1 4
QueryFits QueryShape.filtered x = x ≡ extent 1 1
QueryFits QueryShape.leaf x = x ≡ extent 1 0
QueryFits QueryShape.unknown x = Unit {0}
QueryFits (QueryShape.two f) x = x ≡ extent 1 2

name-fits : (k : ℕ) → NameFits (row k name_rows NameShape.unknown) (extent_of k)
unfolding extent_of
name-fits k = row-keys (λ j sh. NameFits sh (extent_of j)) k name_rows NameShape.unknown (refl, (refl, tt)) tt

expr-fits : (k : ℕ) → ExprFits (row k expr_rows ExprShape.unknown) (extent_of k)
unfolding extent_of
expr-fits k = row-keys (λ j sh. ExprFits sh (extent_of j)) k expr_rows ExprShape.unknown (tt, (tt, (refl, (refl, (refl, (refl, (refl, tt))))))) tt

cond-fits : (k : ℕ) → CondFits (row k cond_rows CondShape.unknown) (extent_of k)
unfolding extent_of
cond-fits k =
    row-keys (λ j sh. CondFits sh (extent_of j)) k cond_rows CondShape.unknown (refl, (refl, (refl, (refl, (refl, (refl, (refl, (refl, (refl, tt))))))))) tt

query-fits : (k : ℕ) → QueryFits (row k query_rows QueryShape.unknown) (extent_of k)
unfolding extent_of
query-fits k = row-keys (λ j sh. QueryFits sh (extent_of j)) k query_rows QueryShape.unknown (refl, (refl, (refl, (refl, (refl, tt))))) tt

-- ── what is read ends at the number ─────────────────────────────────────────────────────────

module _ (s ends : List ℕ) (ended : Ended s ends) (terms : ℕ) where
  abbrev after : ℕ → ℕ
  after = after_in ends (length s)

  abbrev Ends : {A : Type 0} → ℕ → A → ℕ → Type 0
  Ends at a n = after at ≡ n

  here : (at w n : ℕ) → at < length s → extent_of (byte s at) ≡ extent w n → after at ≡ after_all after n (at + w)
  unfolding after_in end_at
  here at w n l e = rw (lt-ltb at (length s) l) (ended at l ∙ ap (λ (x : Extent). after_all after x.children (at + x.width)) e)

  name_body : (at n : ℕ) (name : Name) (good : Bool) → extent_of (byte s at) ≡ extent (1 + n) 0 → Reads (Ends at) (provided (whole s at n && good) (some (name, past at n)))
  unfolding after_all
  name_body at n name good e =
      provided-reads (Ends at) (whole s at n && good) (some (name, past at n)) (λ t.
      leaf-reads (Ends at) name (past at n) (here at (1 + n) 0 (omega (arith, leb→le (past at n) (length s) (and_left (whole s at n) good t))) e))

  name-level : (at : ℕ) (sh : NameShape) → NameFits sh (extent_of (byte s at)) → Reads (Ends at) (name_of sh s terms at)
  name-level at NameShape.variable e = let v = byte s (at + 1) in name_body at 1 (var v) (ltb v variable_limit) e
  name-level at NameShape.constant e = let c = word s (at + 1) in name_body at 2 (const c) (ltb c terms) e
  name-level at NameShape.unknown e = none_reads (Ends at)

  name-ends : (left at : ℕ) → Reads (Ends at) (read_name s terms left at)
  unfolding read_name
  name-ends zero at = none_reads (Ends at)
  name-ends (suc left) at = name-level at (row (byte s at) name_rows NameShape.unknown) (name-fits (byte s at))

  module _ (at : ℕ) (l : at < length s) where
    module _ {A B : Type 0} (rest : ℕ → Got A) (h : (m : ℕ) → Reads (Ends m) (rest m)) where
      one-ends : (w : ℕ) (f : A → B) → extent_of (byte s at) ≡ extent w 1 → Reads (Ends at) (one_of f (rest (at + w)))
      unfolding after_all
      one-ends w f e = one-reads (Ends (at + w)) (Ends at) f (rest (at + w)) (h (at + w)) (λ a n x. here at w 1 l e ∙ x)

      two_ends : (f : A → A → B) → extent_of (byte s at) ≡ extent 1 2 → Reads (Ends at) (two_of f rest rest (at + 1))
      unfolding after_all
      two_ends f e =
          two-reads (Ends (at + 1)) Ends (Ends at) rest h f rest (at + 1) (h (at + 1)) (λ a m b n x y. here at 1 2 l e ∙ (ap after x ∙ y))

      four-ends : (f : A → A → A → A → B) → extent_of (byte s at) ≡ extent 1 4 → Reads (Ends at) (four_of f rest (at + 1))
      unfolding four_of after_all
      four-ends f e =
          let last : A → A → ℕ → Got B = λ a b j. two_of (f a b) rest rest j in
          then-reads (Ends (at + 1)) (Ends at) (rest (at + 1)) (λ a i. and_then (rest i) (last a)) (h (at + 1)) (λ a i x.
          then-reads (Ends i) (Ends at) (rest i) (last a) (h i) (λ b j y.
          two-reads (Ends j) Ends (Ends at) rest h (f a b) rest j (h j)
          (λ c k d n z w. here at 1 4 l e ∙ (ap (λ m. after (after (after m))) x ∙ (ap (λ m. after (after m)) y ∙ (ap after z ∙ w))))))

    leaf-ends : {A : Type 0} (a : A) → extent_of (byte s at) ≡ extent 1 0 → Reads (Ends at) (some (a, at + 1))
    unfolding after_all
    leaf-ends a e = leaf-reads (Ends at) a (at + 1) (here at 1 0 l e)

    expr-level : (sh : ExprShape) → ExprFits sh (extent_of (byte s at)) → (name : Got Name) (rest : ℕ → Got Expr)
        → Reads (Ends at) name → ((m : ℕ) → Reads (Ends m) (rest m)) → Reads (Ends at) (expr_of sh name at rest)
    expr-level ExprShape.named e name rest hn h = one-reads (Ends at) (Ends at) Expr.name name hn (λ a n x. x)
    expr-level ExprShape.unknown e name rest hn h = none_reads (Ends at)
    expr-level (ExprShape.leaf a) e name rest hn h = leaf-ends a e
    expr-level (ExprShape.one f) e name rest hn h = one-ends rest h 1 f e
    expr-level (ExprShape.two f) e name rest hn h = two_ends rest h f e

    body-ends : {A : Type 0} (n : ℕ) (good : List ℕ → Option A) (f : A → Expr → Cond) (expr : ℕ → Got Expr) → ((m : ℕ) → Reads (Ends m) (expr m))
        → extent_of (byte s at) ≡ extent (1 + n) 1 → Reads (Ends at) (with_body n good f s at expr)
    unfolding with_body
    body-ends n good f expr h e =
        provided-reads (Ends at) (whole s at n) (onward (good (body s at n)) (λ a. one_of (f a) (expr (past at n)))) (λ t.
        onward-reads (Ends at) (good (body s at n)) (λ a. one_of (f a) (expr (past at n))) (λ a g. one-ends expr h (1 + n) (f a) e))

    cond-level : (sh : CondShape) → CondFits sh (extent_of (byte s at)) → (expr : ℕ → Got Expr) (rest : ℕ → Got Cond)
        → ((m : ℕ) → Reads (Ends m) (expr m)) → ((m : ℕ) → Reads (Ends m) (rest m)) → Reads (Ends at) (cond_of sh s at expr rest)
    cond-level (CondShape.leaf c) e expr rest he h = leaf-ends c e
    cond-level (CondShape.one f) e expr rest he h = one-ends rest h 1 f e
    cond-level (CondShape.two f) e expr rest he h = two_ends rest h f e
    cond-level CondShape.pattern e expr rest he h = body-ends pattern_width pattern_of Cond.regex expr he e
    cond-level CondShape.language_range e expr rest he h = body-ends language_range_width language_range_of Cond.lang_matches expr he e
    cond-level (CondShape.pair f) e expr rest he h = two_ends expr he f e
    cond-level CondShape.unknown e expr rest he h = none_reads (Ends at)

    query-level : (sh : QueryShape) → QueryFits sh (extent_of (byte s at)) → (name : ℕ → Got Name) (test : ℕ → Got Cond) (rest : ℕ → Got Query)
        → ((m : ℕ) → Reads (Ends m) (name m)) → ((m : ℕ) → Reads (Ends m) (test m)) → ((m : ℕ) → Reads (Ends m) (rest m))
        → Reads (Ends at) (query_of sh at name test rest)
    query-level QueryShape.four e name test rest hn ht h = four-ends name hn Query.pattern e
    query-level QueryShape.filtered e name test rest hn ht h = one-ends test ht 1 Query.filter e
    query-level QueryShape.leaf e name test rest hn ht h = leaf-ends Query.empty e
    query-level QueryShape.unknown e name test rest hn ht h = none_reads (Ends at)
    query-level (QueryShape.two f) e name test rest hn ht h = two_ends rest h f e

  pub expr-ends : (left at : ℕ) → Reads (Ends at) (read_expr s terms left at)
  unfolding read_expr
  expr-ends zero at = none_reads (Ends at)
  expr-ends (suc left) at =
      inside (Ends at) s at expr_rows ExprShape.unknown (λ sh. expr_of sh (read_name s terms (suc left) at) at (read_expr s terms left)) refl (λ l.
      expr-level at l (row (byte s at) expr_rows ExprShape.unknown) (expr-fits (byte s at)) (read_name s terms (suc left) at) (read_expr s terms left)
      (name-ends (suc left) at) (λ m. expr-ends left m))

  pub cond-ends : (left at : ℕ) → Reads (Ends at) (read_cond s terms left at)
  unfolding read_cond
  cond-ends zero at = none_reads (Ends at)
  cond-ends (suc left) at =
      inside (Ends at) s at cond_rows CondShape.unknown (λ sh. cond_of sh s at (read_expr s terms left) (read_cond s terms left)) refl (λ l.
      cond-level at l (row (byte s at) cond_rows CondShape.unknown) (cond-fits (byte s at)) (read_expr s terms left) (read_cond s terms left)
      (λ m. expr-ends left m) (λ m. cond-ends left m))

  pub query-ends : (left at : ℕ) → Reads (Ends at) (read_query s terms left at)
  unfolding read_query
  query-ends zero at = none_reads (Ends at)
  query-ends (suc left) at =
      inside (Ends at) s at query_rows QueryShape.unknown (λ sh. query_of sh at (read_name s terms left) (read_cond s terms left) (read_query s terms left)) refl (λ l.
      query-level at l (row (byte s at) query_rows QueryShape.unknown) (query-fits (byte s at)) (read_name s terms left) (read_cond s terms left) (read_query s terms left)
      (λ m. name-ends left m) (λ m. cond-ends left m) (λ m. query-ends left m))

-- ── a second part that is left out ──────────────────────────────────────────────────────────

pub left_out : {A B C : Type 0} {t left at m e : ℕ} {k : A → B → C} {p : ℕ → Got A} {q : ℕ → Got B} {g : Got C} {P : A → Type 0} {R : C → Type 0}
    → Two t left k p q at g → Walked P (p at) m → ((a : A) (b : B) → P a → R (k a b)) → Reads (λ c n. e ≡ n) g → Walked R g e
left_out {g = g} {R = R} two w f ends =
    let (b, n, read) = two.second w in
    let x = two.node w (leaf_walked {P = λ b. Unit {0}} read tt) (λ a b h u. f a b h) in
    subst⁻¹ (Walked R g) (ends x.tree n x.read) x

-- and the first ends before it
pub left-within : {A B C : Type 0} {t left at m e : ℕ} {k : A → B → C} {p : ℕ → Got A} {q : ℕ → Got B} {g : Got C} {P : A → Type 0}
    → Two t left k p q at g → Walked P (p at) m → Reads (λ b n. m < n) (q m) → Reads (λ c n. e ≡ n) g → m < e
left-within two w within ends =
    let (b, n, read) = two.second w in
    let x = two.node {R = λ c. Unit {0}} w (leaf_walked {P = λ b. Unit {0}} read tt) (λ a b h u. tt) in
    omega (arith, within b n read, ends x.tree n x.read)

-- a record that is stepped over
pub stepped-over : {A : Type 0} {e : ℕ} {g : Got A} {P : A → Type 0} → Loads g → Reads (λ a n. e ≡ n) g → ((a : A) → P a) → Walked P g e
stepped-over {g = g} {P = P} (a, n, read) ends f = subst⁻¹ (Walked P g) (ends a n read) (leaf_walked read (f a))
