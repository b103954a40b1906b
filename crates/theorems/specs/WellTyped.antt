-- Demand 3's invariants of a state: each bound variable holds a term of its reported type, each stored triple has a property in the schema and an object of
-- its datatype, each stack item keeps the typing rules.
use Rattle.std.specs.Prelude.{ℕ, ◌≡◌, T, get_or}
use Rattle.std.proofs.Math.Option.{Option, none, some}
use Rattle.definitions.specs.Lists.{is_in}
use Rattle.definitions.specs.Types.{Datatype, Ty, plain, type_of_code}
use Rattle.definitions.specs.Scope.{variables_of, binders_of, is_free}
use Rattle.definitions.specs.Typing.{script_typed}
use Rattle.definitions.specs.Evaluate.{Quad, stored}
use Rattle.definitions.specs.Machine.{Item, State, in_order}
use Rattle.definitions.specs.Saved.{place_in, offset_of}
use Rattle.definitions.specs.Calls.{Checked, constants_of, reported}
use Rattle.laws.specs.Lists.{All}
use Rattle.laws.specs.Bindings.{Holds, Bound}
use Rattle.laws.specs.Quads.{QuadFacts}

-- the type of a code; a variable that no pair binds is reported as 0, which is no type's, and stands in no record: it counts as any_uri
abbrev pub type_or : Option Ty → Ty
type_or none = plain Datatype.any_uri
type_or (some τ) = τ

-- the reported types, by the codes that the load writes into the saved run
abbrev pub reported_type : Checked → ℕ → Ty
reported_type c v = type_or (type_of_code (get_or (reported c) v 0))

-- a bound variable is one that a pair of the script binds; its reported code is a type's, and it holds a term of that type
pub record VariableTyped (c : Checked) (s : State) (v i : ℕ) : Type 0 where
  pub binds : T (is_in v (variables_of (binders_of c.root)))
  pub code : type_of_code (get_or (reported c) v 0) ≡ some (reported_type c v)
  pub holds : Holds c.schema s.store.terms i (reported_type c v)

-- a record of the script, well typed under the reported types, its free variables bound
pub record ItemTyped (c : Checked) (s : State) (i : Item) : Type 0 where
  pub depth : ℕ
  pub place : place_in c.root (offset_of i.script) ≡ some (record { depth = depth; script = i.script })
  pub typed : T (script_typed (constants_of c.schema c.terms) (reported_type c) i.script)
  pub bound : (v : ℕ) → T (is_free v i.script) → Bound s.control.bindings v

pub record WellTyped (c : Checked) (s : State) : Type 0 where
  -- each bound variable holds a term of its reported type
  pub variables : (v i : ℕ) → s.control.bindings v ≡ some i → VariableTyped c s v i
  -- each stored triple has a property in the schema and an object of its datatype
  pub triples : (q : Quad) → T (stored q s.store.quads) → QuadFacts c.schema s.store.terms s.store.fetched q
  -- the quads stand in one order (document 02, Ask 10)
  pub quads_in_order : T (in_order s.store.quads)
  -- each stack item keeps the typing rules
  pub items : All (ItemTyped c s) s.control.stack
