-- What the check of terms, schema and script (refusals 2 to 9) finds.
use Rattle.std.specs.Prelude.{ℕ, List, Ok, Err, map, ◌≡◌, ◌≤◌, length, take}
use Rattle.definitions.specs.Limits.{schema_width}
use Rattle.definitions.specs.Tree.{Script}
use Rattle.definitions.specs.Saved.{term_table}
use Rattle.definitions.specs.Result.{Result, refused, passed, OrRefusal}
use Rattle.definitions.specs.Calls.{Listed, Parsed, Checked, reported}
use Rattle.table.specs.Hashes.{HashedEntries}
use Rattle.card.specs.Leasts.{code_of}
use Rattle.card.specs.declared.refusals.Card.{Card}
use Rattle.card.specs.declared.refusals.Ready.{Ready}

-- what is told of tests: the refusal of the first one broken, or what `says` has of what passes
abbrev pub Tells : {A B : Type 0} → (says : A → B → Type 0) → Result A → OrRefusal B → Type 0
Tells {A = A} says tests (Ok b) = (a : A) × (tests ≡ passed a) × says a b
Tells says tests (Err n) = tests ≡ refused n

-- that the tests pass is all
abbrev pub nothing_more : Script → Unit {0} → Type 0
nothing_more root u = Unit {0}

-- the hashes of the URIs of a schema that has no more than it may
abbrev pub HashesOf : (schema : List ℕ) → Listed → (entries : List ℕ) → Type 0
HashesOf schema l entries = length schema ≤ schema_width → HashedEntries schema entries

-- after a reading that passes: the number of terms, each in its slot of the working table, and the hashes of the schema's URIs
pub record ReadyOf (schema table : List ℕ) (x : Parsed) (r : Ready) : Type 0 where
  pub count : r.count ≡ length x.terms
  pub slots : table ≡ term_table x.terms
  pub entries : HashedEntries schema r.entries

-- and the codes of the terms' least types in front of the other working table
pub record CodedOf (schema table leasts : List ℕ) (x : Parsed) (r : Ready) : Type 0 where
  pub ready : ReadyOf schema table x r
  pub codes : take (length x.terms) leasts ≡ map (code_of x.schema) x.terms

-- after a check that passes: the number of terms and the reported types; each term in its slot of one working table, the code of its least
-- type in the other; and the hashes of the schema's URIs
pub record CardOf (schema table leasts : List ℕ) (c : Checked) (r : Card) : Type 0 where
  pub count : r.count ≡ length c.terms
  pub types : r.types ≡ reported c
  pub slots : table ≡ term_table c.terms
  pub codes : take (length c.terms) leasts ≡ map (code_of c.schema) c.terms
  pub hashes : HashedEntries schema r.entries
