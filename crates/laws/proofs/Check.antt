-- What the checks of terms, schema and script (refusals 2 to 9) find where nothing is refused.
use Rattle.definitions.specs.declared.Refusal.TheVariants.{BadTerm, TermTwice, BadEntry, PropertyTwice, BadScript, OutOfScope}
use Prim.Native.Nat.{ℕ, suc, ◌≤◌, ◌<◌}
use mathlib.Core.Bool.{Bool, not, ◌&&◌, ◌||◌}
use mathlib.Core.List.{List, [], ◌∷◌}
use mathlib.Core.Option.{some}
use mathlib.Core.Path.{◌≡◌, refl, sym, ap, subst, ◌∙◌}
use mathlib.Core.Logic.{⊎_elim}
use native.Mathlib.Omega.{arith}
use lib.Dec.{T, T_not, eqb, leb, ltb, leb→le, ltb→lt, eqb→eq}
use lib.ListN.{length}
use Rattle.definitions.specs.Limits.{term_limit, entry_limit, script_limit, depth_limit, variable_limit}
use Rattle.definitions.specs.Lists.{every, distinct, is_in}
use Rattle.definitions.specs.Types.{Ty, type_code}
use Rattle.definitions.specs.Terms.{Term, Schema, same_term, same_property, read_terms, read_schema}
use Rattle.definitions.specs.Tree.{Name, var, const, Expr, Cond, Query, Script, success, from_named, block, sequence}
use Rattle.definitions.specs.Reading.{parsed}
use Rattle.definitions.specs.Scope.{variables, variables_of, in_name, in_expr, in_cond, in_query, is_free, binders_of, in_scope}
use Rattle.definitions.specs.Typing.{Written, unbound, undecided, fixed, written_types}
use Rattle.definitions.specs.Typing.{Verdict, no_typing, no_greatest, greatest, verdict}
use Rattle.definitions.specs.Machine.{with_properties}
use Rattle.definitions.specs.Result.{Result, passed, ◌>>=◌, ◌>>◌, require, given}
use Rattle.definitions.specs.Calls.{Listed, record_tests, sizes_fit, script_tests, Parsed, read_tests, Checked, constants_of, types_of, type_tests, check}
use Rattle.definitions.specs.Calls.{reported_type, reported_types, reported}
use Rattle.laws.proofs.Tests.{and_left, and_right, or_cases}
use Rattle.laws.proofs.Order.{by_type}
use Rattle.laws.proofs.Variables.{every-variable}
use Rattle.laws.specs.Lists.{All}
use Rattle.laws.proofs.Numbering.{distinct-properties}
use Rattle.laws.proofs.Results.{passed_is, not-refused, bind_inv, given-bind-inv, require-after-inv}
use Rattle.laws.specs.Sound.{NameBounded, ExprBounded, CondBounded, QueryBounded, ScriptBounded, Placed, Accepted}
use Rattle.laws.proofs.ReadBounds.{ScriptIn, parsed-in}
use Rattle.laws.specs.Typings.{IsTyping}
use Rattle.laws.proofs.Typings.{fits-length, verdict-is}

-- ── the checks, one by one ──────────────────────────────────────────────────────────────────

types-inv : (v : Verdict) {Γ : List Ty} → types_of v ≡ passed Γ → v ≡ greatest Γ
unfolding types_of
types-inv no_typing e = absurd (not-refused e)
types-inv no_greatest e = absurd (not-refused e)
types-inv (greatest Γ) e = ap greatest (passed_is e)

-- what each check found, in document 01's order: 2 to 7
pub record ReadPassed (terms schema script : List ℕ) (x : Parsed) : Type 0 where
  pub listed : List Term
  pub read : read_terms terms ≡ some listed
  pub apart : T (distinct same_term listed)
  pub entries : read_schema schema ≡ some x.schema
  pub properties : T (distinct same_property x.schema)
  pub numbering : with_properties x.schema listed ≡ x.terms
  pub sizes : T (sizes_fit x.terms x.schema script)
  pub parses : parsed (length x.terms) script ≡ some x.root
  pub scope : T (in_scope x.root)

-- and 8 and 9
pub record Passed (terms schema script : List ℕ) (c : Checked) : Type 0 where
  pub reads : ReadPassed terms schema script (record { schema = c.schema; terms = c.terms; root = c.root })
  pub worked : verdict (constants_of c.schema c.terms) (written_types c.root) c.root ≡ greatest c.types

-- the tests of terms and schema, and of the script
pub records-inv : (terms schema : List ℕ) (l : Listed) → record_tests terms schema ≡ passed l
    → (read_terms terms ≡ some l.terms) × T (distinct same_term l.terms) × (read_schema schema ≡ some l.schema) × T (distinct same_property l.schema)
unfolding record_tests
records-inv terms schema l e =
    let last : List Term → Schema → Result Listed = λ listed S. passed (record { terms = listed; schema = S }) in
    let five : List Term → Schema → Result Listed = λ listed S. require PropertyTwice (distinct same_property S) >> last listed S in
    let three : List Term → Result Listed = λ listed. require TermTwice (distinct same_term listed) >> (given BadEntry (read_schema schema) >>= five listed) in
    let i₂ = given-bind-inv BadTerm (read_terms terms) three e in
    let i₃ = require-after-inv TermTwice (distinct same_term i₂.0) (given BadEntry (read_schema schema) >>= five i₂.0) i₂.2 in
    let i₄ = given-bind-inv BadEntry (read_schema schema) (five i₂.0) i₃.1 in
    let i₅ = require-after-inv PropertyTwice (distinct same_property i₄.0) (last i₂.0 i₄.0) i₄.2 in
    let found : Listed = record { terms = i₂.0; schema = i₄.0 } in
    subst
    (λ (l : Listed). (read_terms terms ≡ some l.terms) × T (distinct same_term l.terms) × (read_schema schema ≡ some l.schema) × T (distinct same_property l.schema))
    {x = found} (passed_is {a = found} i₅.1) (i₂.1, i₃.0, i₄.1, i₅.0)

script-inv : (terms : List Term) (S : Schema) (script : List ℕ) (root : Script) → script_tests terms S script ≡ passed root
    → T (sizes_fit terms S script) × (parsed (length terms) script ≡ some root) × T (in_scope root)
unfolding script_tests
script-inv terms S script root e =
    let seven : Script → Result Script = λ c. require OutOfScope (in_scope c) >> passed c in
    let i₆ = require-after-inv BadScript (sizes_fit terms S script) (given BadScript (parsed (length terms) script) >>= seven) e in
    let i₇ = given-bind-inv BadScript (parsed (length terms) script) seven i₆.1 in
    let i₈ = require-after-inv OutOfScope (in_scope i₇.0) (passed i₇.0) i₇.2 in
    let same = passed_is i₈.1 in
    (i₆.0, i₇.1 ∙ ap some same, subst (λ (c : Script). T (in_scope c)) same i₈.0)

pub read-passed : (terms schema script : List ℕ) (x : Parsed) → read_tests terms schema script ≡ passed x → ReadPassed terms schema script x
unfolding read_tests
read-passed terms schema script x e =
    let last : Listed → Script → Result Parsed = λ l root.
    passed (record { schema = l.schema; terms = with_properties l.schema l.terms; root = root }) in
    let rest : Listed → Result Parsed = λ l. script_tests (with_properties l.schema l.terms) l.schema script >>= last l in
    let i = bind_inv (record_tests terms schema) rest e in
    let l = i.0 in
    let numbered = with_properties l.schema l.terms in
    let j = bind_inv (script_tests numbered l.schema script) (last l) i.2 in
    let r = records-inv terms schema l i.1 in
    let k = script-inv numbered l.schema script j.0 j.1 in
    let found : Parsed = record { schema = l.schema; terms = numbered; root = j.0 } in
    subst (ReadPassed terms schema script) {x = found} (passed_is {a = found} j.2)
    (record {
      listed = l.terms;
      read = r.0;
      apart = r.1;
      entries = r.2;
      properties = r.3;
      numbering = refl;
      sizes = k.0;
      parses = k.1;
      scope = k.2;
    })

pub check-passed : (terms schema script : List ℕ) (c : Checked) → check terms schema script ≡ passed c → Passed terms schema script c
unfolding check type_tests
check-passed terms schema script c e =
    let i = bind_inv (read_tests terms schema script) type_tests e in
    let x = i.0 in
    let v = verdict (constants_of x.schema x.terms) (written_types x.root) x.root in
    let made : List Ty → Checked = λ Γ. record { schema = x.schema; terms = x.terms; root = x.root; types = Γ } in
    let j = bind_inv (types_of v) (λ Γ. passed (made Γ)) i.2 in
    subst (Passed terms schema script) {x = made j.0} (passed_is {a = made j.0} j.2)
    (record { reads = read-passed terms schema script x i.1; worked = types-inv v {Γ = j.0} j.1 })

-- ── no variable is free ─────────────────────────────────────────────────────────────────────

-- what stands in a tree that was read is one of them
module _ (terms v : ℕ) where
  in-name : (n : Name) → NameBounded terms n → T (in_name v n) → v < variable_limit
  unfolding in_name
  in-name (var w) b h = let e = eqb→eq v w h in omega arith
  in-name (const c) b h = absurd h

  either-in : (a b : Bool) → (T a → v < variable_limit) → (T b → v < variable_limit) → T (a || b) → v < variable_limit
  either-in a b f g h = ⊎_elim f g (or_cases a b h)

  in-expr : (e : Expr) → ExprBounded terms e → T (in_expr v e) → v < variable_limit
  unfolding in_expr
  in-expr (Expr.name n) b h = in-name n b h
  in-expr Expr.now b h = absurd h
  in-expr (Expr.str e) b h = in-expr e b h
  in-expr (Expr.abs e) b h = in-expr e b h
  in-expr (Expr.plus e f) b h = either-in (in_expr v e) (in_expr v f) (in-expr e b.0) (in-expr f b.1) h
  in-expr (Expr.minus e f) b h = either-in (in_expr v e) (in_expr v f) (in-expr e b.0) (in-expr f b.1) h

  in-cond : (c : Cond) → CondBounded terms c → T (in_cond v c) → v < variable_limit
  unfolding in_cond
  in-cond Cond.no b h = absurd h
  in-cond Cond.yes b h = absurd h
  in-cond (Cond.or c d) b h = either-in (in_cond v c) (in_cond v d) (in-cond c b.0) (in-cond d b.1) h
  in-cond (Cond.and c d) b h = either-in (in_cond v c) (in_cond v d) (in-cond c b.0) (in-cond d b.1) h
  in-cond (Cond.not c) b h = in-cond c b h
  in-cond (Cond.regex p e) b h = in-expr e b h
  in-cond (Cond.lang_matches r e) b h = in-expr e b h
  in-cond (Cond.equal e f) b h = either-in (in_expr v e) (in_expr v f) (in-expr e b.0) (in-expr f b.1) h
  in-cond (Cond.less e f) b h = either-in (in_expr v e) (in_expr v f) (in-expr e b.0) (in-expr f b.1) h

  in-query : (q : Query) → QueryBounded terms q → T (in_query v q) → v < variable_limit
  unfolding in_query
  in-query (Query.pattern g s p o) b h =
      either-in (in_name v g) (in_name v s || (in_name v p || in_name v o)) (in-name g b.0)
      (either-in (in_name v s) (in_name v p || in_name v o) (in-name s b.1)
      (either-in (in_name v p) (in_name v o) (in-name p b.2) (in-name o b.3))) h
  in-query (Query.both q r) b h = either-in (in_query v q) (in_query v r) (in-query q b.0) (in-query r b.1) h
  in-query (Query.union q r) b h = either-in (in_query v q) (in_query v r) (in-query q b.0) (in-query r b.1) h
  in-query (Query.filter c) b h = in-cond c b h
  in-query Query.empty b h = absurd h

  pub free-bounded : (c : Script) → ScriptBounded terms c → T (is_free v c) → v < variable_limit
  unfolding is_free
  free-bounded (success at) b h = absurd h
  free-bounded (from_named at n c) b h = either-in (in_name v n) (is_free v c) (in-name n b.0) (free-bounded c b.1) h
  free-bounded (block at each bs q c) b h =
      either-in (in_query v q) (is_free v c) (in-query q b.1) (free-bounded c b.2) (and_right (not (is_in v (variables_of bs))) (in_query v q || is_free v c) h)
  free-bounded (sequence at c d) b h = either-in (is_free v c) (is_free v d) (free-bounded c b.0) (free-bounded d b.1) h

pub in-scope-closed : (terms : ℕ) (c : Script) → ScriptBounded terms c → T (in_scope c) → (v : ℕ) → T (is_free v c) → ⊥
unfolding in_scope
in-scope-closed terms c b h v f =
    let none_free = every (λ v. not (is_free v c)) variables in
    T_not (is_free v c)
    (every-variable (λ v. not (is_free v c)) (and_left none_free (distinct eqb (variables_of (binders_of c))) h) v (free-bounded terms v c b f)) f

-- ── the types worked out are a typing of the 16 variables ───────────────────────────────────

pub variable-count : (s : Script) → length (written_types s) ≡ variable_limit
unfolding written_types
variable-count s = refl

-- ── what is accepted ────────────────────────────────────────────────────────────────────────

-- the offsets may end later
placed-to : (lo hi hi' : ℕ) (c : Script) → hi ≤ hi' → Placed lo hi c → Placed lo hi' c
placed-to lo hi hi' (success at) l h = (h.0, omega (arith, h.1))
placed-to lo hi hi' (from_named at n c) l h = (h.0, placed-to (suc at) hi hi' c l h.1)
placed-to lo hi hi' (block at each bs q c) l h = (h.0, placed-to (suc at) hi hi' c l h.1)
placed-to lo hi hi' (sequence at c d) l h = (h.0, (h.1.0, h.1.1, placed-to h.1.0 hi hi' d l h.1.2))

module _ (terms schema script : List ℕ) (c : Checked) (p : Passed terms schema script c) where
  -- refusal 6's limits, and the script that was read
  pub sizes : (length c.terms ≤ term_limit) × (length c.schema ≤ entry_limit) × (length script ≤ script_limit)
  unfolding sizes_fit
  sizes =
      let terms-test = leb (length c.terms) term_limit in
      let schema-test = leb (length c.schema) entry_limit in
      let script-test = leb (length script) script_limit in
      let rest = and_right terms-test (schema-test && script-test) p.reads.sizes in (
        leb→le (length c.terms) term_limit (and_left terms-test (schema-test && script-test) p.reads.sizes),
        leb→le (length c.schema) entry_limit (and_left schema-test script-test rest),
        leb→le (length script) script_limit (and_right schema-test script-test rest),
      )

  pub terms-fit : length c.terms ≤ term_limit
  terms-fit = sizes.0

  pub schema-fits : length c.schema ≤ entry_limit
  schema-fits = sizes.1

  pub script-fits : length script ≤ script_limit
  script-fits = sizes.2

  pub script-in : ScriptIn script (length c.terms) depth_limit 0 c.root (length script)
  script-in = parsed-in (length c.terms) script c.root p.reads.parses

  -- the types worked out are a typing
  types-typing : IsTyping (constants_of c.schema c.terms) (written_types c.root) c.root c.types
  types-typing = ((verdict-is (constants_of c.schema c.terms) (written_types c.root) c.root (greatest c.types)).0 p.worked).0

  pub accepted : Accepted c
  accepted = record {
    apart = subst (λ (ts : List Term). T (distinct same_term ts)) p.reads.numbering (distinct-properties c.schema p.reads.listed p.reads.apart);
    fits = terms-fit;
    bounded = script-in.bounded;
    placed = placed-to 0 (length script) script_limit c.root script-fits script-in.placed;
    shallow = script-in.shallow;
    closed = in-scope-closed (length c.terms) c.root script-in.bounded p.reads.scope;
    written = types-typing.0;
    typed = types-typing.1;
  }

  -- a type for each of the 16 variables
  pub types-length : length c.types ≡ variable_limit
  types-length = fits-length (written_types c.root) c.types types-typing.0 ∙ variable-count c.root

-- ── the reported types ──────────────────────────────────────────────────────────────────────

reported-small : (w : Written) (τ : Ty) → reported_type w τ < 256
reported-small unbound τ = omega arith
reported-small undecided τ = ltb→lt (type_code τ) 256 (by_type (λ τ. ltb (type_code τ) 256) tt τ)
reported-small (fixed σ) τ = ltb→lt (type_code τ) 256 (by_type (λ τ. ltb (type_code τ) 256) tt τ)

-- a byte for each
pub reported-bytes : (ws : List Written) (Γ : List Ty) → All (λ n. n < 256) (reported_types ws Γ)
unfolding reported_types
reported-bytes [] Γ = tt
reported-bytes (w ∷ ws) [] = tt
reported-bytes (w ∷ ws) (τ ∷ Γ) = (reported-small w τ, reported-bytes ws Γ)

pub reported-length : (ws : List Written) (Γ : List Ty) → length Γ ≡ length ws → length (reported_types ws Γ) ≡ length ws
unfolding reported_types
reported-length [] Γ e = refl
reported-length (w ∷ ws) [] e = absurd (omega arith)
reported-length (w ∷ ws) (τ ∷ Γ) e = ap suc (reported-length ws Γ (omega arith))

-- ── from the call ───────────────────────────────────────────────────────────────────────────

pub check-accepted : (terms schema script : List ℕ) (c : Checked) → check terms schema script ≡ passed c → Accepted c
check-accepted terms schema script c e = accepted terms schema script c (check-passed terms schema script c e)

-- a reported type for each of the 16 variables
pub reported-all : (terms schema script : List ℕ) (c : Checked) → check terms schema script ≡ passed c → length (reported c) ≡ variable_limit
reported-all terms schema script c e =
    let n = types-length terms schema script c (check-passed terms schema script c e) in
    reported-length (written_types c.root) c.types (n ∙ sym (variable-count c.root)) ∙ variable-count c.root
