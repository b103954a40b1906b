-- One kind of expression, boolean or query: what the code makes of the parts' values is the machine's, wherever the machine meets no fault.
use Prim.Native.Nat.{ℕ, suc, ◌+◌, ◌≤◌, ◌<◌}
use Rattle.std.specs.Prelude.{Option as Maybe, Some, None}
use native.Mathlib.Omega.{arith}
use mir.Syntax.{w64}
use mir.Val.{SFits, to_z, of_z}
use mir.Facts.{to_z-of_z}
use mathlib.Core.Path.{◌≡◌, refl, sym, ◌∙◌, ap, ap₂, subst, subst⁻¹}
use mathlib.Core.List.{List, []}
use mathlib.Core.Bool.{Bool, true, false, not, beq, cond, ◌&&◌, ◌||◌, true≢false}
use mathlib.Core.Option.{Option, none, some}
use lib.Dec.{T, eqb, ltb}
use lib.IntN.{ℤ}
use Rattle.definitions.specs.Bytes.{Got, signed}
use Rattle.definitions.specs.Limits.{variable_limit}
use Rattle.definitions.specs.Terms.{Term, Schema, is_date_time}
use Rattle.definitions.specs.Text.{Pattern, LanguageRange, accepts, matches}
use Rattle.definitions.specs.Tree.{Name, var, const, Expr, Cond, Query}
use Rattle.definitions.specs.Outcome.{Outcome, ok, ◌>>=◌}
use Rattle.definitions.specs.Values.{Value as Meant, sum, difference, absolute, text_of, Pair, equal_pair, less_pair}
use Rattle.definitions.specs.Evaluate.{Setting, Bindings, Quad, Named, named, term_of_number, stored, number_of, expression, condition, query}
use Rattle.definitions.specs.Evaluated.{gives, parts, cond_records, query_records}
use Rattle.definitions.specs.Saved.{terms_in}
use Rattle.definitions.specs.Truth.{not_truth, and_truth, or_truth, is_true}
use Rattle.definitions.specs.declared.Truth.{Truth}
use Rattle.definitions.specs.declared.Truth.TheVariants.{True, False, Unknown}
use Rattle.laws.proofs.Options.{some_is}
use Rattle.laws.proofs.Tests.{and_false}
use Rattle.laws.proofs.Truths.{true-or, false-and}
use Rattle.laws.specs.Sound.{NameBounded}
use Rattle.laws.specs.Walks.{Walked}
use Rattle.values.specs.Meaning.{meaning, Good, Gives, Tells, compared, text_test}
use Rattle.values.specs.Means.{Holds}
use Rattle.values.specs.declared.Value.{Value}
use Rattle.scan.specs.Scan.{fixed, scan}
use Rattle.query.specs.Known.{name_known, expr_known, test_known, IsTest}
use Rattle.scan.specs.Codes.{sought_code, place_at, places_at}
use Rattle.query.specs.Codes.{number_at, bindings_of, code_of, Coded}
use Rattle.scan.specs.declared.Four.{Four}
use borrow.Author.Tests.{ltb-true, lt-ltb, le-ltb}
use Rattle.query.specs.StoreLent.{setting_in}
use Rattle.query.specs.declared.Context.{Context}
use Rattle.query.specs.Eval.{Lent, Counts, ValueOf, ExprOf, TestOf, TruthOf, HoldsOf, NumberGives}
use Rattle.laws.proofs.NoFault.{ok-is, no-fault, then_ok}
use Rattle.query.proofs.Patterns.{named_ok, pattern-ok}
use Rattle.scan.proofs.Places.{at-fixed}
use Rattle.std.specs.Option.{unwrap_or}
use Rattle.query.proofs.Operators.{joint, linked}
use Rattle.query.proofs.CodeLaws.{code-number, code-bound}
use Rattle.query.proofs.FixedScan.{scan-exact}

-- ── a part, and what is made of it ──────────────────────────────────────────────────────────

pub holds-gives : {r : Value} {v : Meant} → Holds r v → Gives r (ok v)
holds-gives h = record { good = h.good; is = λ x e. h.is ∙ ok-is e }

-- the clock's number as the code has it
module _ (clock : ℕ) (n : ℤ) (fits : SFits w64 n) (e : n ≡ signed clock) where
  pub clock-within : T (is_date_time (signed clock)) → T (is_date_time (to_z w64 (of_z w64 n)))
  clock-within = subst⁻¹ (λ z. T (is_date_time z)) (to_z-of_z fits ∙ e)

  pub clock-gives : {r : Value} → Holds r (Meant.date_time (to_z w64 (of_z w64 n))) → Gives r (ok (Meant.date_time (signed clock)))
  clock-gives {r} h = subst (λ z. Gives r (ok (Meant.date_time z))) (to_z-of_z fits ∙ e) (holds-gives h)

gives_then : {a r : Value} {m : Outcome Meant} (f : Meant → Outcome Meant) → Gives a m → Gives r (f (meaning a)) → Gives r (m >>= f)
gives_then {a} {r} {m} f h k = record {
  good = k.good;
  is = λ v e. let (x, ex, ef) = then_ok e in k.is v (ap f (h.is x ex) ∙ ef);
}

gives-tells : {A : Type 0} {a : Value} {r : A} {m : Outcome Meant} (f : Meant → Outcome A) → Gives a m → Tells r (f (meaning a)) → Tells r (m >>= f)
gives-tells f h k b e = let (x, ex, ef) = then_ok e in k b (ap f (h.is x ex) ∙ ef)

-- ── an answer and how many records were evaluated for it ────────────────────────────────────

-- a record that counts alone
pub alone : {A : Type 0} {r : A} {o : Outcome A} → Tells r o → Counts r 1 o 1
alone h a e = (h a e, refl)

-- one part
counts-one : {A B : Type 0} {a : A} {r : B} {m : Outcome A} {n N : ℕ} (f : A → B) → r ≡ f a → Counts a n m N → Counts r (n + 1) (m >>= λ x. ok (f x)) (suc N)
counts-one f made h b e = let (x, ex, ef) = then_ok e in (made ∙ (ap f (h x ex).0 ∙ ok-is ef), omega (arith, (h x ex).1))

-- two, of which the first may decide
module _ {A : Type 0} (f : A → A → A) (decides : A → Bool) {m : Outcome A} {a : A} {n N : ℕ} (h : Counts a n m N) where
  -- the second is left out
  pub counts-first : (m' : Outcome A) (M : ℕ) (r : A) → ((x y : A) → decides x ≡ true → f x y ≡ r) → decides a ≡ true
      → Counts r (n + 1) (m >>= λ x. m' >>= λ y. ok (f x y)) (suc (parts (gives decides m) N M))
  counts-first m' M r decided d v e =
      let (x, ex, e₁) = then_ok e in
      let (y, ey, e₂) = then_ok e₁ in
      let k : decides x ≡ true = ap decides (sym (h x ex).0) ∙ d in
      (sym (decided x y k) ∙ ok-is e₂, rw (ex, k) (omega (arith, (h x ex).1)))

  pub counts-both : {m' : Outcome A} {b r : A} {k M : ℕ} → decides a ≡ false → r ≡ f a b → Counts b k m' M
      → Counts r ((n + 1) + k) (m >>= λ x. m' >>= λ y. ok (f x y)) (suc (parts (gives decides m) N M))
  counts-both d made g v e =
      let (x, ex, e₁) = then_ok e in
      let (y, ey, e₂) = then_ok e₁ in
      let l : decides x ≡ false = ap decides (sym (h x ex).0) ∙ d in
      (made ∙ (ap₂ f (h x ex).0 (g y ey).0 ∙ ok-is e₂), rw (ex, l) (omega (arith, (h x ex).1, (g y ey).1)))

-- what a first part decides, and what it leaves to the second
or-decided : (x y : Truth) → is_true x ≡ true → or_truth x y ≡ True
unfolding is_true
or-decided True y e = true-or y
or-decided False y e = absurd (true≢false (sym e))
or-decided Unknown y e = absurd (true≢false (sym e))

and-decided : (x y : Truth) → is_true (not_truth x) ≡ true → and_truth x y ≡ False
unfolding is_true not_truth
and-decided True y e = absurd (true≢false (sym e))
and-decided False y e = false-and y
and-decided Unknown y e = absurd (true≢false (sym e))

must-true : (x : Truth) → is_true x ≡ true → x ≡ True
unfolding is_true
must-true True e = refl
must-true False e = absurd (true≢false (sym e))
must-true Unknown e = absurd (true≢false (sym e))

must-false : (x : Truth) → is_true (not_truth x) ≡ true → x ≡ False
unfolding is_true not_truth
must-false True e = absurd (true≢false (sym e))
must-false False e = refl
must-false Unknown e = absurd (true≢false (sym e))

both-decided : (x y : Bool) → not x ≡ true → (x && y) ≡ false
both-decided true y e = absurd (true≢false (sym e))
both-decided false y e = refl

union-decided : (x y : Bool) → x ≡ true → (x || y) ≡ true
union-decided x y e = rw e refl

both-second : (x y : Bool) → not x ≡ false → y ≡ (x && y)
both-second true y e = refl
both-second false y e = absurd (true≢false e)

union-second : (x y : Bool) → x ≡ false → y ≡ (x || y)
union-second x y e = rw e refl

-- an expression that gives a value has no variable that is not known
module _ (σ : Setting) (terms : List Term) (quads : List Quad) (γ : Bindings) where
  name-known : (n : Name) (o : Option ℕ) → number_of γ n ≡ o → (y : Named) → term_of_number terms o ≡ ok y → name_known γ n ≡ true
  unfolding name_known
  name-known (const c) o e y h = refl
  name-known (var v) none e y h = absurd (no-fault h)
  name-known (var v) (some i) e y h = rw e refl

  expr-known : (e : Expr) (u : Meant) → expression σ terms quads γ e ≡ ok u → expr_known γ e ≡ true
  unfolding expression expr_known named
  expr-known (Expr.name n) u h = let (y, ey, eu) = then_ok h in name-known n (number_of γ n) refl y ey
  expr-known Expr.now u h = refl
  expr-known (Expr.str e) u h = let (y, ey, eu) = then_ok h in expr-known e y ey
  expr-known (Expr.abs e) u h = let (y, ey, eu) = then_ok h in expr-known e y ey
  expr-known (Expr.plus e f) u h =
      let (y, ey, e₁) = then_ok h in
      let (z, ez, e₂) = then_ok e₁ in
      rw (expr-known e y ey, expr-known f z ez) refl
  expr-known (Expr.minus e f) u h =
      let (y, ey, e₁) = then_ok h in
      let (z, ez, e₂) = then_ok e₁ in
      rw (expr-known e y ey, expr-known f z ez) refl

  pair-known : {A : Type 0} (test : Meant → Meant → Outcome A) (e f : Expr) (u : A)
      → (expression σ terms quads γ e >>= λ x. expression σ terms quads γ f >>= λ y. test x y) ≡ ok u → (expr_known γ e && expr_known γ f) ≡ true
  pair-known test e f u h =
      let (y, ey, e₁) = then_ok h in
      let (z, ez, e₂) = then_ok e₁ in
      rw (expr-known e y ey, expr-known f z ez) refl

  -- nor has a test that gives a truth
  test-known : (c : Cond) (u : Truth) → condition σ terms quads γ c ≡ ok u → test_known γ c ≡ true
  unfolding condition test_known
  test-known Cond.no u h = refl
  test-known Cond.yes u h = refl
  test-known (Cond.or c d) u h = refl
  test-known (Cond.and c d) u h = refl
  test-known (Cond.not c) u h = refl
  test-known (Cond.regex p e) u h = let (y, ey, eu) = then_ok h in expr-known e y ey
  test-known (Cond.lang_matches p e) u h = let (y, ey, eu) = then_ok h in expr-known e y ey
  test-known (Cond.equal e f) u h = pair-known _ e f u h
  test-known (Cond.less e f) u h = pair-known _ e f u h

-- ── expressions ─────────────────────────────────────────────────────────────────────────────

module _ (table known : List ℕ) (x : Context) where
  -- a walk's value where there is one
  pub some-value : {v : Value} {a : Maybe Value} {o : Got Expr} {n : ℕ} → a ≡ Some v → Walked (ExprOf table known x a) o n → Walked (ExprOf table known x (Some v)) o n
  some-value {o = o} {n = n} e w = subst (λ a. Walked (ExprOf table known x a) o n) e w

  pub no-value : {a : Maybe Value} {o : Got Expr} {n : ℕ} → a ≡ None → Walked (ExprOf table known x a) o n → Walked (ExprOf table known x None) o n
  no-value {o = o} {n = n} e w = subst (λ a. Walked (ExprOf table known x a) o n) e w

  pub as-none : {a : Maybe Value} {o : Got Expr} {n : ℕ} → a ≡ None → Walked (ExprOf table known x None) o n → Walked (ExprOf table known x a) o n
  as-none {o = o} {n = n} e w = subst⁻¹ (λ a. Walked (ExprOf table known x a) o n) e w

  pub good-value : {v : Value} {a : Maybe Value} {o : Got Expr} {n : ℕ} → Lent table known x → a ≡ Some v → Walked (ExprOf table known x a) o n → Good v
  good-value l e w = ((some-value e w).holds.1 [] [] l.terms [] l.tabled.reads).good

  pub name-value : (n : Name) (code : ℕ) (v : Value) → (code ≡ code_of known variable_limit n) × NameBounded sought_code n → NumberGives table v code
      → ValueOf table known x v (Expr.name n)
  unfolding expression
  name-value n code v c h S ranks terms quads t = record {
    good = (h terms t).0;
    is = λ u e.
        let (y, ey, eu) = then_ok e in
        let k = named_ok terms (bindings_of known) n y ey in
        (h terms t).1 y.term (rw (number y.number (ap number_at c.0 ∙ (code-number known n c.1 ∙ k.number))) k.term) ∙ ok-is eu;
  }
    where
      number : (i : ℕ) → number_at code ≡ some i → code ≡ i
      number i e = go (ltb code sought_code) e
        where
          go : (b : Bool) → cond b (some code) none ≡ some i → code ≡ i
          go true e = some_is e
          go false e = cc

  pub now-value : {r : Value} → Gives r (ok (Meant.date_time (signed x.clock))) → ValueOf table known x r Expr.now
  unfolding setting_in expression
  now-value g S ranks terms quads t = g

  module _ {a r : Value} (e : Expr) (h : ValueOf table known x a e) where
    pub str-value : Gives r (ok (Meant.string (text_of (meaning a)))) → ValueOf table known x r (Expr.str e)
    unfolding expression
    str-value g S ranks terms quads t = gives_then (λ x. ok (Meant.string (text_of x))) (h S ranks terms quads t) g

    pub abs-value : Gives r (absolute (meaning a)) → ValueOf table known x r (Expr.abs e)
    unfolding expression
    abs-value g S ranks terms quads t = gives_then absolute (h S ranks terms quads t) g

    module _ {b : Value} (f : Expr) (k : ValueOf table known x b f) where
      pub plus-value : Gives r (sum (meaning a) (meaning b)) → ValueOf table known x r (Expr.plus e f)
      unfolding expression
      plus-value g S ranks terms quads t =
          gives_then (λ u. expression (setting_in S ranks x) terms quads (bindings_of known) f >>= λ y. sum u y) (h S ranks terms quads t)
          (gives_then (sum (meaning a)) (k S ranks terms quads t) g)

      pub minus-value : Gives r (difference (meaning a) (meaning b)) → ValueOf table known x r (Expr.minus e f)
      unfolding expression
      minus-value g S ranks terms quads t =
          gives_then (λ u. expression (setting_in S ranks x) terms quads (bindings_of known) f >>= λ y. difference u y) (h S ranks terms quads t)
          (gives_then (difference (meaning a)) (k S ranks terms quads t) g)

-- ── expressions of which some variables are not known ───────────────────────────────────────

module _ (known : List ℕ) where
  abbrev Open : Expr → Type 0
  Open e = expr_known (bindings_of known) e ≡ false

  abbrev NoTruth : Cond → Type 0
  NoTruth c = IsTest c × (test_known (bindings_of known) c ≡ false)

  pub name-none : (n : Name) (code : ℕ) → sought_code ≤ code → (code ≡ code_of known variable_limit n) × NameBounded sought_code n → Open (Expr.name n)
  unfolding expr_known
  name-none n code l c = sym (code-bound known n c.1) ∙ (sym (ap (λ k. ltb k sought_code) c.0) ∙ le-ltb code sought_code l)

  pub str-none : (e : Expr) → Open e → Open (Expr.str e)
  unfolding expr_known
  str-none e h = h

  pub abs-none : (e : Expr) → Open e → Open (Expr.abs e)
  unfolding expr_known
  abs-none e h = h

  -- one of the two
  module _ (e f : Expr) where
    first-none : Open e → (expr_known (bindings_of known) e && expr_known (bindings_of known) f) ≡ false
    first-none h = rw h refl

    second-none : Open f → (expr_known (bindings_of known) e && expr_known (bindings_of known) f) ≡ false
    second-none h = rw h (and_false (expr_known (bindings_of known) e))

    pub plus-first : Open e → Open (Expr.plus e f)
    unfolding expr_known
    plus-first h = first-none h

    pub plus-second : Open f → Open (Expr.plus e f)
    unfolding expr_known
    plus-second h = second-none h

    pub minus-first : Open e → Open (Expr.minus e f)
    unfolding expr_known
    minus-first h = first-none h

    pub minus-second : Open f → Open (Expr.minus e f)
    unfolding expr_known
    minus-second h = second-none h

    pub equal-first : Open e → NoTruth (Cond.equal e f)
    unfolding test_known
    equal-first h = (tt, first-none h)

    pub equal-second : Open f → NoTruth (Cond.equal e f)
    unfolding test_known
    equal-second h = (tt, second-none h)

    pub less-first : Open e → NoTruth (Cond.less e f)
    unfolding test_known
    less-first h = (tt, first-none h)

    pub less-second : Open f → NoTruth (Cond.less e f)
    unfolding test_known
    less-second h = (tt, second-none h)

  pub regex-none : (p : Pattern) (e : Expr) → Open e → NoTruth (Cond.regex p e)
  unfolding test_known
  regex-none p e h = (tt, h)

  pub language-none : (p : LanguageRange) (e : Expr) → Open e → NoTruth (Cond.lang_matches p e)
  unfolding test_known
  language-none p e h = (tt, h)

-- ── those whose variables are all known ─────────────────────────────────────────────────────

module _ (table known : List ℕ) (x : Context) where
  pub name-of : (n : Name) (code : ℕ) {v : Value} → code < sought_code → (code ≡ code_of known variable_limit n) × NameBounded sought_code n → NumberGives table v code
      → ExprOf table known x (Some v) (Expr.name n)
  unfolding expr_known
  name-of n code {v} l c h = (sym (code-bound known n c.1) ∙ (sym (ap (λ k. ltb k sought_code) c.0) ∙ lt-ltb code sought_code l), name-value table known x n code v c h)

  pub now-of : {r : Value} → Gives r (ok (Meant.date_time (signed x.clock))) → ExprOf table known x (Some r) Expr.now
  unfolding expr_known
  now-of g = (refl, now-value table known x g)

  module _ {a r : Value} (e : Expr) (h : ExprOf table known x (Some a) e) where
    pub str-of : Gives r (ok (Meant.string (text_of (meaning a)))) → ExprOf table known x (Some r) (Expr.str e)
    unfolding expr_known
    str-of g = (h.0, str-value table known x e h.1 g)

    pub abs-of : Gives r (absolute (meaning a)) → ExprOf table known x (Some r) (Expr.abs e)
    unfolding expr_known
    abs-of g = (h.0, abs-value table known x e h.1 g)

    module _ {b : Value} (f : Expr) (k : ExprOf table known x (Some b) f) where
      pub plus-of : Gives r (sum (meaning a) (meaning b)) → ExprOf table known x (Some r) (Expr.plus e f)
      unfolding expr_known
      plus-of g = (rw (h.0, k.0) refl, plus-value table known x e h.1 f k.1 g)

      pub minus-of : Gives r (difference (meaning a) (meaning b)) → ExprOf table known x (Some r) (Expr.minus e f)
      unfolding expr_known
      minus-of g = (rw (h.0, k.0) refl, minus-value table known x e h.1 f k.1 g)

-- ── booleans ─────────────────────────────────────────────────────────────────────────────────

module _ (ranks table known : List ℕ) (x : Context) where
  pub no_truth : TruthOf ranks table known x False 1 Cond.no
  unfolding condition cond_records
  no_truth S terms quads t = alone λ b e. ok-is e

  pub yes-truth : TruthOf ranks table known x True 1 Cond.yes
  unfolding condition cond_records
  yes-truth S terms quads t = alone λ b e. ok-is e

  module _ {a : Truth} {n : ℕ} (c : Cond) (h : TruthOf ranks table known x a n c) where
    pub not-truth : {r : Truth} → r ≡ not_truth a → TruthOf ranks table known x r (n + 1) (Cond.not c)
    unfolding condition cond_records
    not-truth made S terms quads t = counts-one not_truth made (h S terms quads t)

    module _ (d : Cond) where
      pub or-first : is_true a ≡ true → TruthOf ranks table known x True (n + 1) (Cond.or c d)
      unfolding condition cond_records
      or-first e S terms quads t = counts-first or_truth is_true (h S terms quads t) _ _ True or-decided e

      pub and_first : is_true (not_truth a) ≡ true → TruthOf ranks table known x False (n + 1) (Cond.and c d)
      unfolding condition cond_records
      and_first e S terms quads t = counts-first and_truth (λ a. is_true (not_truth a)) (h S terms quads t) _ _ False and-decided e

      module _ {b r : Truth} {m : ℕ} (k : TruthOf ranks table known x b m d) where
        pub or-truth : is_true a ≡ false → r ≡ or_truth a b → TruthOf ranks table known x r ((n + 1) + m) (Cond.or c d)
        unfolding condition cond_records
        or-truth e made S terms quads t = counts-both or_truth is_true (h S terms quads t) e made (k S terms quads t)

        pub and-truth : is_true (not_truth a) ≡ false → r ≡ and_truth a b → TruthOf ranks table known x r ((n + 1) + m) (Cond.and c d)
        unfolding condition cond_records
        and-truth e made S terms quads t = counts-both and_truth (λ a. is_true (not_truth a)) (h S terms quads t) e made (k S terms quads t)

  module _ {a : Value} {r : Truth} (e : Expr) (h : ValueOf table known x a e) where
    pub regex-truth : (p : Pattern) → Tells r (text_test (λ s. accepts p s.text) (meaning a)) → TruthOf ranks table known x r 1 (Cond.regex p e)
    unfolding condition cond_records text_test
    regex-truth p g S terms quads t = alone (gives-tells (text_test (λ s. accepts p s.text)) (h S ranks terms quads t) g)

    pub language-truth : (p : LanguageRange) → Tells r (text_test (λ s. matches p s.tag) (meaning a)) → TruthOf ranks table known x r 1 (Cond.lang_matches p e)
    unfolding condition cond_records text_test
    language-truth p g S terms quads t = alone (gives-tells (text_test (λ s. matches p s.tag)) (h S ranks terms quads t) g)

    module _ {b : Value} (f : Expr) (k : ValueOf table known x b f) where
      compared-tells : (test : Pair → Truth) (S : Schema) (terms : List Term) (quads : List Quad) → terms_in table ≡ some terms
          → Tells r (compared test (meaning a) (meaning b))
          → Tells r (expression (setting_in S ranks x) terms quads (bindings_of known) e >>= λ u. expression (setting_in S ranks x) terms quads (bindings_of known) f >>= λ y. compared test u y)
      compared-tells test S terms quads t g =
          gives-tells (λ u. expression (setting_in S ranks x) terms quads (bindings_of known) f >>= λ y. compared test u y) (h S ranks terms quads t)
          (gives-tells (compared test (meaning a)) (k S ranks terms quads t) g)

      pub equal-truth : Tells r (compared equal_pair (meaning a) (meaning b)) → TruthOf ranks table known x r 1 (Cond.equal e f)
      unfolding condition cond_records compared
      equal-truth g S terms quads t = alone (compared-tells equal_pair S terms quads t g)

      pub less-truth : Tells r (compared (less_pair ranks) (meaning a) (meaning b)) → TruthOf ranks table known x r 1 (Cond.less e f)
      unfolding condition cond_records compared setting_in
      less-truth g S terms quads t = alone (compared-tells (less_pair ranks) S terms quads t g)

  -- ── tests ─────────────────────────────────────────────────────────────────────────────────

  module _ {a : Value} {r : Truth} (e : Expr) (h : ExprOf table known x (Some a) e) where
    pub regex-of : (p : Pattern) → Tells r (text_test (λ s. accepts p s.text) (meaning a)) → TestOf ranks table known x (Some r) (Cond.regex p e)
    unfolding test_known
    regex-of p g = (tt, h.0, regex-truth e h.1 p g)

    pub language-of : (p : LanguageRange) → Tells r (text_test (λ s. matches p s.tag) (meaning a)) → TestOf ranks table known x (Some r) (Cond.lang_matches p e)
    unfolding test_known
    language-of p g = (tt, h.0, language-truth e h.1 p g)

    module _ {b : Value} (f : Expr) (k : ExprOf table known x (Some b) f) where
      pub equal-of : Tells r (compared equal_pair (meaning a) (meaning b)) → TestOf ranks table known x (Some r) (Cond.equal e f)
      unfolding test_known
      equal-of g = (tt, rw (h.0, k.0) refl, equal-truth e h.1 f k.1 g)

      pub less-of : Tells r (compared (less_pair ranks) (meaning a) (meaning b)) → TestOf ranks table known x (Some r) (Cond.less e f)
      unfolding test_known
      less-of g = (tt, rw (h.0, k.0) refl, less-truth e h.1 f k.1 g)

  -- a walk's truth where there is one
  pub some-test : {u : Maybe Truth} {b : Truth} {o : Got Cond} {n : ℕ} → u ≡ Some b → Walked (TestOf ranks table known x u) o n → Walked (TestOf ranks table known x (Some b)) o n
  some-test {o = o} {n = n} e w = subst (λ u. Walked (TestOf ranks table known x u) o n) e w

  pub no-test : {u : Maybe Truth} {o : Got Cond} {n : ℕ} → u ≡ None → Walked (TestOf ranks table known x u) o n → Walked (TestOf ranks table known x None) o n
  no-test {o = o} {n = n} e w = subst (λ u. Walked (TestOf ranks table known x u) o n) e w

  -- where a variable is not known the machine meets a fault, so that any truth will do
  pub any-truth : (u : Maybe Truth) {r : Truth} → r ≡ unwrap_or u Unknown → (c : Cond) → TestOf ranks table known x u c → TruthOf ranks table known x r 1 c
  any-truth (Some b) e c h = subst⁻¹ (λ r. TruthOf ranks table known x r 1 c) e h.2
  any-truth None e c h = λ S terms quads t v f. absurd (true≢false (sym (test-known (setting_in S ranks x) terms quads (bindings_of known) c v f) ∙ h.1))

  -- ── or, and and ───────────────────────────────────────────────────────────────────────────

  module _ {a : Truth} {n : ℕ} (c d : Cond) (h : TruthOf ranks table known x a n c) where
    pub joint-first : (either : Bool) → is_true (cond either a (not_truth a)) ≡ true → TruthOf ranks table known x a (n + 1) (joint either c d)
    joint-first true e = subst⁻¹ (λ r. TruthOf ranks table known x r (n + 1) (Cond.or c d)) (must-true a e) (or-first c h d e)
    joint-first false e = subst⁻¹ (λ r. TruthOf ranks table known x r (n + 1) (Cond.and c d)) (must-false a e) (and_first c h d e)

    pub joint-truth : {b r : Truth} {m : ℕ} (either : Bool) → TruthOf ranks table known x b m d → is_true (cond either a (not_truth a)) ≡ false
        → r ≡ cond either (or_truth a b) (and_truth a b) → TruthOf ranks table known x r ((n + 1) + m) (joint either c d)
    joint-truth true k e made = or-truth c h d k e made
    joint-truth false k e made = and-truth c h d k e made

  -- ── queries ───────────────────────────────────────────────────────────────────────────────

  module _ (rows : List Quad) where
    pub filter-holds : {a : Truth} {r : Bool} {n : ℕ} (c : Cond) → TruthOf ranks table known x a n c → r ≡ is_true a → HoldsOf ranks table known x rows r (n + 1) (Query.filter c)
    unfolding query query_records
    filter-holds c h made S terms t = counts-one is_true made (h S terms rows t)

    pub empty_holds : HoldsOf ranks table known x rows true 1 Query.empty
    unfolding query query_records
    empty_holds S terms t = alone λ b e. ok-is e

    module _ {a : Bool} {n : ℕ} (q r : Query) (h : HoldsOf ranks table known x rows a n q) where
      pub both_first : not a ≡ true → HoldsOf ranks table known x rows false (n + 1) (Query.both q r)
      unfolding query query_records
      both_first e S terms t = counts-first ◌&&◌ not (h S terms t) _ _ false both-decided e

      pub union-first : a ≡ true → HoldsOf ranks table known x rows true (n + 1) (Query.union q r)
      unfolding query query_records
      union-first e S terms t = counts-first ◌||◌ (λ a. a) (h S terms t) _ _ true union-decided e

      module _ {b : Bool} {m : ℕ} (k : HoldsOf ranks table known x rows b m r) where
        pub both-holds : not a ≡ false → HoldsOf ranks table known x rows b ((n + 1) + m) (Query.both q r)
        unfolding query query_records
        both-holds e S terms t = counts-both ◌&&◌ not (h S terms t) e (both-second a b e) (k S terms t)

        pub union-holds : a ≡ false → HoldsOf ranks table known x rows b ((n + 1) + m) (Query.union q r)
        unfolding query query_records
        union-holds e S terms t = counts-both ◌||◌ (λ a. a) (h S terms t) e (union-second a b e) (k S terms t)

    -- a union, or both
    pub linked-first : (either a : Bool) {n : ℕ} (q r : Query) → HoldsOf ranks table known x rows a n q → beq a either ≡ true → HoldsOf ranks table known x rows a (n + 1) (linked either q r)
    linked-first true true q r h e = union-first q r h refl
    linked-first false false q r h e = both_first q r h refl
    linked-first true false q r h e = absurd (true≢false (sym e))
    linked-first false true q r h e = absurd (true≢false (sym e))

    pub linked-holds : (either a : Bool) {b : Bool} {n m : ℕ} (q r : Query) → HoldsOf ranks table known x rows a n q → HoldsOf ranks table known x rows b m r → beq a either ≡ false
        → HoldsOf ranks table known x rows b ((n + 1) + m) (linked either q r)
    linked-holds true false q r h k e = union-holds q r h k refl
    linked-holds false true q r h k e = both-holds q r h k refl
    linked-holds true true q r h k e = absurd (true≢false e)
    linked-holds false false q r h k e = absurd (true≢false e)

    -- the place of a name that has a number
    fixed-place : (n : Name) (i : ℕ) → NameBounded sought_code n → number_of (bindings_of known) n ≡ some i → place_at (code_of known variable_limit n) ≡ fixed i
    fixed-place n i b e = go (code_of known variable_limit n) (code-number known n b ∙ e)
      where
        go : (c : ℕ) → number_at c ≡ some i → place_at c ≡ fixed i
        go c e = inner (ltb c sought_code) refl e
          where
            inner : (t : Bool) → ltb c sought_code ≡ t → cond t (some c) none ≡ some i → place_at c ≡ fixed i
            inner true m e = at-fixed c (ltb-true c sought_code m) ∙ ap fixed (some_is e)
            inner false m e = cc

    pub pattern-holds : (q : Query) (codes : Four) (least : ℕ) → Coded known variable_limit codes q → least ≡ scan (places_at codes) 0 1 rows
        → HoldsOf ranks table known x rows (eqb least 0) 1 q
    unfolding query_records
    pattern-holds (Query.both q r) codes least c = absurd c
    pattern-holds (Query.union q r) codes least c = absurd c
    pattern-holds (Query.filter c) codes least d = absurd d
    pattern-holds Query.empty codes least c = absurd c
    pattern-holds (Query.pattern g s p o) codes least c = λ l S terms t. alone λ b e.
        let k = pattern-ok (setting_in S ranks x) terms rows (bindings_of known) g s p o b e in
        let q = k.quad in
        let bounded = c.1 in
        let g' = fixed-place g q.graph bounded.0 k.graph in
        let s' = fixed-place s q.subject bounded.1 k.subject in
        let p' = fixed-place p q.property bounded.2 k.property in
        let o' = fixed-place o q.object bounded.3 k.object in
        let same : places_at codes ≡ record { graph = fixed q.graph; subject = fixed q.subject; property = fixed q.property; object = fixed q.object } =
        ap places_at c.0 ∙ (λ i. record { graph = g' i; subject = s' i; property = p' i; object = o' i }) in
        ap (λ n. eqb n 0) (l ∙ (ap (λ P. scan P 0 1 rows) same ∙ scan-exact q 0 1 (omega arith) rows)) ∙ (tested (stored q rows) ∙ k.is_stored)
      where
        tested : (b : Bool) → eqb (cond b 0 1) 0 ≡ b
        tested true = refl
        tested false = refl
