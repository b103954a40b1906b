-- What is lent stands for a store: term table, quads and least types, as the context counts them.
use Rattle.std.specs.Prelude.{ℕ, ◌≤◌, ◌≡◌, List, true, T, length}
use Rattle.std.proofs.Math.Option.{some}
use Rattle.definitions.specs.Limits.{term_table_width}
use Rattle.definitions.specs.Bytes.{signed}
use Rattle.definitions.specs.Terms.{Term, Schema, is_date_time}
use Rattle.definitions.specs.Evaluate.{Setting, Quad}
use Rattle.definitions.specs.Saved.{terms_in}
use Rattle.laws.specs.Sorts.{LeastOf}
use Rattle.keys.specs.Keys.{keys_from, rows_from, rising}
use Rattle.query.specs.declared.Context.{Context}

-- what a tuple is tried under, as the context tells it
unfoldable pub setting_in : Schema → (ranks : List ℕ) → Context → Setting
setting_in S ranks x = record { schema = S; ranks = ranks; clock = signed x.clock }

-- now is a date_time
pub record Told (x : Context) : Type 0 where
  pub clocked : T (is_date_time (signed x.clock))

-- the term table has these terms
pub record Tabled (table : List ℕ) (x : Context) (terms : List Term) : Type 0 where
  pub reads : terms_in table ≡ some terms
  pub counted : length terms ≡ x.count
  pub size : length table ≡ term_table_width

-- the quads, by a key each
abbrev pub rows_of : (quads : List ℕ) → Context → List Quad
rows_of quads x = rows_from x.quads quads 0

pub record Stored (quads : List ℕ) (x : Context) : Type 0 where
  pub room : x.quads ≤ length quads
  pub rises : rising (keys_from x.quads quads 0) ≡ true

-- and the code of each term's least type, under a schema
pub record StoreLent (table quads leasts : List ℕ) (x : Context) (S : Schema) (terms : List Term) (rows : List Quad) : Type 0 where
  pub tabled : Tabled table x terms
  pub stored : Stored quads x
  pub quads_are : rows_of quads x ≡ rows
  pub room : x.count ≤ length leasts
  pub least_of : LeastOf S terms leasts
