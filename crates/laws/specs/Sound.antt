-- What the proofs rest on: what holds of a script that was accepted, and of a state that passes refusal 10's test.
use Rattle.std.specs.Prelude.{ℕ, suc, ◌≤◌, ◌<◌, max, ◌≡◌, List, [], ◌∷◌, T, length}
use Rattle.std.proofs.Math.Option.{some}
use Rattle.definitions.specs.Limits.{variable_limit, term_limit, script_limit, depth_limit}
use Rattle.definitions.specs.Lists.{distinct}
use Rattle.definitions.specs.Terms.{same_term}
use Rattle.definitions.specs.Tree.{Name, var, const, Expr, Cond, Query, Binder, Script, success, from_named, block, sequence}
use Rattle.definitions.specs.Scope.{is_free}
use Rattle.definitions.specs.Typing.{written_types, type_at, script_typed}
use Rattle.definitions.specs.Machine.{Item, State}
use Rattle.definitions.specs.Saved.{offset_of, place_in}
use Rattle.definitions.specs.Sound.{state_sound}
use Rattle.definitions.specs.Calls.{Checked, constants_of}
use Rattle.laws.specs.Typings.{Fits}

-- ── what reading gives ──────────────────────────────────────────────────────────────────────

-- variables are below 16, and constants below the number of terms
module _ (terms : ℕ) where
  abbrev pub NameBounded : Name → Type 0
  NameBounded (var v) = v < variable_limit
  NameBounded (const c) = c < terms

  abbrev pub ExprBounded : Expr → Type 0
  ExprBounded (Expr.name n) = NameBounded n
  ExprBounded Expr.now = Unit {0}
  ExprBounded (Expr.str e) = ExprBounded e
  ExprBounded (Expr.abs e) = ExprBounded e
  ExprBounded (Expr.plus e f) = ExprBounded e × ExprBounded f
  ExprBounded (Expr.minus e f) = ExprBounded e × ExprBounded f

  abbrev pub CondBounded : Cond → Type 0
  CondBounded Cond.no = Unit {0}
  CondBounded Cond.yes = Unit {0}
  CondBounded (Cond.or c d) = CondBounded c × CondBounded d
  CondBounded (Cond.and c d) = CondBounded c × CondBounded d
  CondBounded (Cond.not c) = CondBounded c
  CondBounded (Cond.regex p e) = ExprBounded e
  CondBounded (Cond.lang_matches r e) = ExprBounded e
  CondBounded (Cond.equal e f) = ExprBounded e × ExprBounded f
  CondBounded (Cond.less e f) = ExprBounded e × ExprBounded f

  abbrev pub QueryBounded : Query → Type 0
  QueryBounded (Query.pattern g s p o) = NameBounded g × NameBounded s × NameBounded p × NameBounded o
  QueryBounded (Query.both q r) = QueryBounded q × QueryBounded r
  QueryBounded (Query.union q r) = QueryBounded q × QueryBounded r
  QueryBounded (Query.filter c) = CondBounded c
  QueryBounded Query.empty = Unit {0}

  abbrev pub BindersBounded : List Binder → Type 0
  BindersBounded [] = Unit {0}
  BindersBounded (b ∷ bs) = (b.variable < variable_limit) × BindersBounded bs

  abbrev pub ScriptBounded : Script → Type 0
  ScriptBounded (success at) = Unit {0}
  ScriptBounded (from_named at n c) = NameBounded n × ScriptBounded c
  ScriptBounded (block at each bs q c) = BindersBounded bs × QueryBounded q × ScriptBounded c
  ScriptBounded (sequence at c d) = ScriptBounded c × ScriptBounded d

-- the offsets of records 71 to 74 lie from lo on and below hi, in prefix order
abbrev pub Placed : (lo hi : ℕ) → Script → Type 0
Placed lo hi (success at) = (lo ≤ at) × (at < hi)
Placed lo hi (from_named at n c) = (lo ≤ at) × Placed (suc at) hi c
Placed lo hi (block at each bs q c) = (lo ≤ at) × Placed (suc at) hi c
Placed lo hi (sequence at c d) = (lo ≤ at) × ((mid : ℕ) × Placed (suc at) mid c × Placed mid hi d)

-- how deep records 71 to 74 go
abbrev pub height : Script → ℕ
height (success at) = 1
height (from_named at n c) = suc (height c)
height (block at each bs q c) = suc (height c)
height (sequence at c d) = suc (max (height c) (height d))

-- ── what loading finds ──────────────────────────────────────────────────────────────────────

pub record Accepted (c : Checked) : Type 0 where
  pub apart : T (distinct same_term c.terms)
  pub fits : length c.terms ≤ term_limit
  pub bounded : ScriptBounded (length c.terms) c.root
  pub placed : Placed 0 script_limit c.root
  pub shallow : height c.root ≤ depth_limit
  pub closed : (v : ℕ) → T (is_free v c.root) → ⊥
  pub written : Fits (written_types c.root) c.types
  pub typed : T (script_typed (constants_of c.schema c.terms) (type_at c.types) c.root)

-- ── a state that passes refusal 10's test ───────────────────────────────────────────────────

-- an item is the record of the script that stands at its offset
abbrev pub Own : (root : Script) → List Item → Type 0
Own root [] = Unit {0}
Own root (i ∷ rest) = ((depth : ℕ) × (place_in root (offset_of i.script) ≡ some (record { depth = depth; script = i.script }))) × Own root rest

-- the test speaks of the 16 variables; no other is bound. It finds a record at each item's offset; the item is that record.
pub record Sound (c : Checked) (s : State) : Type 0 where
  pub test : T (state_sound c.schema c.types c.terms c.root s)
  pub few : (v i : ℕ) → s.control.bindings v ≡ some i → v < variable_limit
  pub own : Own c.root s.control.stack
