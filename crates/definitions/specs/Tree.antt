-- Document 01, "Records": the script as a tree. Each node of kinds 71 to 74 carries the offset of its record in the script.
use Rattle.std.specs.Prelude.{ℕ, List, Bool}
use Rattle.std.proofs.Math.Option.{Option}
use Rattle.definitions.specs.Types.{Ty}
use Rattle.definitions.specs.Text.{Pattern, LanguageRange}

-- document 01's term of a script: 31 a variable, 32 a constant (a term number)
pub data Name : Type 0 where
  var : ℕ → Name
  const : ℕ → Name

pub data Expr : Type 0 where
  name : Name → Expr
  now : Expr
  str abs : Expr → Expr
  plus minus : Expr → Expr → Expr

pub data Cond : Type 0 where
  no yes : Cond
  or and : Cond → Cond → Cond
  not : Cond → Cond
  regex : Pattern → Expr → Cond
  lang_matches : LanguageRange → Expr → Cond
  equal less : Expr → Expr → Cond

pub data Query : Type 0 where
  pattern : (graph subject property object : Name) → Query
  both union : Query → Query → Query
  filter : Cond → Query
  empty : Query

-- a pair of a block: a variable and its written type, none where it is open
pub record Binder : Type 0 where
  pub variable : ℕ
  pub written : Option Ty

-- a block is the paper's selects and where, mode each its do
pub data Script : Type 0 where
  success : (at : ℕ) → Script
  from_named : (at : ℕ) → Name → Script → Script
  block : (at : ℕ) → (each : Bool) → List Binder → Query → Script → Script
  sequence : (at : ℕ) → Script → Script → Script
