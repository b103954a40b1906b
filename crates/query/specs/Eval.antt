-- What the evaluator promises: wherever the machine meets no fault, its value and its truth are the machine's.
use Rattle.std.specs.Prelude.{ℕ, ◌≡◌, List, Bool, true, false, ◌&&◌, length, Option, Some, None}
use Rattle.std.proofs.Math.Option.{some}
use Rattle.std.proofs.Math.ListN.{get_elem?}
use Rattle.definitions.specs.Limits.{ranks_width, variable_limit}
use Rattle.definitions.specs.Terms.{Term, Schema}
use Rattle.definitions.specs.Tree.{Expr, Cond, Query}
use Rattle.definitions.specs.Evaluate.{Quad, expression, condition, query}
use Rattle.definitions.specs.Outcome.{Outcome, ok}
use Rattle.definitions.specs.Bytes.{Got}
use Rattle.laws.specs.Walks.{Loads}
use Rattle.definitions.specs.Evaluated.{cond_records, query_records}
use Rattle.definitions.specs.Saved.{terms_in}
use Rattle.query.specs.Codes.{bindings_of}
use Rattle.query.specs.Known.{expr_known, test_known, IsTest, may, SureTests}
use Rattle.query.specs.StoreLent.{setting_in, Told, Tabled}
use Rattle.query.specs.declared.Context.{Context}
use Rattle.definitions.specs.Values.{value_of}
use Rattle.values.specs.Meaning.{meaning, Good, Gives}
use Rattle.values.specs.declared.Value.{Value}
use Rattle.definitions.specs.declared.Truth.{Truth}

-- a term table, and what is known of the 16 variables
pub record Lent (table known : List ℕ) (x : Context) : Type 0 where
  pub terms : List Term
  pub tabled : Tabled table x terms
  pub told : Told x
  pub variables : length known ≡ variable_limit

-- the same with the ranks of an alphabet
pub record RanksLent (ranks table known : List ℕ) (x : Context) : Type 0 where
  pub ranked : length ranks ≡ ranks_width
  pub terms : Lent table known x

-- an answer and how many records were evaluated for it, wherever the machine meets no fault
abbrev pub Counts : {A : Type 0} → A → (records : ℕ) → Outcome A → (by-rule : ℕ) → Type 0
Counts {A} r n o m = (a : A) → o ≡ ok a → (r ≡ a) × (n ≡ m)

-- for any schema and any quads: a fault only hangs on them; a value does not hang on ranks
abbrev pub ValueOf : (table known : List ℕ) → Context → Value → Expr → Type 0
ValueOf table known x v e = (S : Schema) (ranks : List ℕ) (terms : List Term) (quads : List Quad) → terms_in table ≡ some terms
    → Gives v (expression (setting_in S ranks x) terms quads (bindings_of known) e)

-- a value, where the variables of an expression are all known
abbrev pub ExprOf : (table known : List ℕ) → Context → Option Value → Expr → Type 0
ExprOf table known x None e = expr_known (bindings_of known) e ≡ false
ExprOf table known x (Some v) e = (expr_known (bindings_of known) e ≡ true) × ValueOf table known x v e

module _ (ranks table known : List ℕ) (x : Context) where
  abbrev pub TruthOf : Truth → (records : ℕ) → Cond → Type 0
  TruthOf b n c = (S : Schema) (terms : List Term) (quads : List Quad) → terms_in table ≡ some terms
      → let σ = setting_in S ranks x in Counts b n (condition σ terms quads (bindings_of known) c) (cond_records σ terms quads (bindings_of known) c)

  -- a test's truth, where its variables are all known
  abbrev pub TestOf : Option Truth → Cond → Type 0
  TestOf None c = IsTest c × (test_known (bindings_of known) c ≡ false)
  TestOf (Some b) c = IsTest c × (test_known (bindings_of known) c ≡ true) × TruthOf b 1 c

  abbrev pub MayOf : (want may : Bool) → Cond → Type 0
  MayOf want b c = (S : Schema) (terms : List Term) (quads : List Quad) → terms_in table ≡ some terms
      → let σ = setting_in S ranks x in SureTests σ terms quads (bindings_of known) c → b ≡ may σ terms quads (bindings_of known) want c

  abbrev pub HoldsOf : List Quad → Bool → (records : ℕ) → Query → Type 0
  HoldsOf quads b n q = (S : Schema) (terms : List Term) → terms_in table ≡ some terms
      → let σ = setting_in S ranks x in Counts b n (query σ terms quads (bindings_of known) q) (query_records σ terms quads (bindings_of known) q)

-- the value of a number's term
abbrev pub NumberGives : (table : List ℕ) → Value → ℕ → Type 0
NumberGives table v i = (terms : List Term) → terms_in table ≡ some terms → Good v × ((t : Term) → get_elem? terms i ≡ some t → meaning v ≡ value_of t)

-- not all variables of an expression are known
abbrev pub Waits : (known : List ℕ) → Got Expr → Type 0
Waits known read = (e : Expr) (m : ℕ) → read ≡ some (e, m) → expr_known (bindings_of known) e ≡ false

-- two expressions that are read one after the other
abbrev pub PairLoads : (read : ℕ → Got Expr) → (at : ℕ) → Type 0
PairLoads read at = Loads (read at) × ((e : Expr) (m : ℕ) → read at ≡ some (e, m) → Loads (read m))

-- not all variables of both are known
abbrev pub PairOpen : (known : List ℕ) → (read : ℕ → Got Expr) → (at : ℕ) → Type 0
PairOpen known read at = (e f : Expr) (m n : ℕ) → read at ≡ some (e, m) → read m ≡ some (f, n)
    → (expr_known (bindings_of known) e && expr_known (bindings_of known) f) ≡ false
