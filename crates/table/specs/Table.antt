-- The term table: what it holds, the number of a term, and a term that joins.
use Rattle.std.specs.Prelude.{Some, None}
use Rattle.std.specs.declared.option.Option as Answer
use Rattle.std.specs.Prelude.{ℕ, ◌+◌, ◌*◌, ◌≤◌, ◌<◌, true, cond, List, [], ◌++◌, ◌≡◌, leb, length, take, drop}
use Rattle.std.proofs.Math.Option.{Option, none, some}
use Rattle.definitions.specs.Limits.{slot_width, term_limit, term_table_width}
use Rattle.definitions.specs.Bytes.{part}
use Rattle.definitions.specs.Terms.{Term}
use Rattle.definitions.specs.Machine.{numbered}
use Rattle.definitions.specs.Saved.{term_table, slot_term, terms_in}
use Rattle.laws.specs.Lists.{All}
use Rattle.laws.specs.ReadAnswers.{is_some}
use Rattle.laws.specs.Valid.{Valid}
use Rattle.fields.specs.Answers.{count_of}

-- a table that holds n terms
pub record HoldsTerms (table : List ℕ) (n : ℕ) : Type 0 where
  pub width : length table ≡ term_table_width
  pub count : count_of (terms_in table) ≡ Some n

-- these n
pub record HeldTerms (table : List ℕ) (n : ℕ) (ts : List Term) : Type 0 where
  pub is : table ≡ term_table ts
  pub valid : All Valid ts
  pub count : length ts ≡ n
  pub few : n ≤ term_limit

-- a table of which the first n slots hold terms
pub record Begun (table : List ℕ) (n : ℕ) : Type 0 where
  pub width : length table ≡ term_table_width
  pub few : n ≤ term_limit
  pub each : (i : ℕ) → i < n → is_some (slot_term (part table (i * slot_width) slot_width)) ≡ true

-- a slot that holds a term
pub record GoodSlot (slot : List ℕ) : Type 0 where
  pub width : length slot ≡ slot_width
  pub good : is_some (slot_term slot) ≡ true

-- the number of a term among those from a number on
unfoldable pub number_from : ℕ → Option Term → Option (List Term) → ℕ
number_from from none ts = 0
number_from from (some t) none = 0
number_from from (some t) (some ts) = from + (numbered t (drop from ts)).number

unfoldable pub number_in : Option Term → Option (List Term) → ℕ
number_in none ts = 0
number_in (some t) none = 0
number_in (some t) (some ts) = (numbered t ts).number

-- a table with a slot written
unfoldable pub slot_set : (table : List ℕ) → (n : ℕ) → (slot : List ℕ) → List ℕ
slot_set table n slot = take (n * slot_width) table ++ (slot ++ drop slot_width (drop (n * slot_width) table))

-- the terms with one that joins where it is not there
unfoldable pub with_term : Option Term → Option (List Term) → List Term
with_term none ts = []
with_term (some t) none = []
with_term (some t) (some ts) = (numbered t ts).terms

-- those that were read
unfoldable pub list_of : {A : Type 0} → Option (List A) → List A
list_of none = []
list_of (some xs) = xs

-- how many there are, and the table of those that it has room for
unfoldable pub added_of : List Term → Answer.Option ℕ
added_of ts = cond (leb (length ts) term_limit) (Some (length ts)) None

unfoldable pub table_of : List Term → List ℕ
table_of ts = term_table (take term_limit ts)
