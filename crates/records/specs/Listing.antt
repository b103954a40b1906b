-- Listed terms: what is said of them, and the table that they are left in.
use Rattle.definitions.specs.Result.{OrRefusal}
use Rattle.definitions.specs.declared.Refusal.TheVariants.{BadTerm, TermTwice}
use Rattle.std.specs.Prelude.{ℕ, Ok, Err, ◌+◌, List, cond, ◌≡◌, length}
use Rattle.std.proofs.Math.Option.{Option, none, some}
use Rattle.definitions.specs.Lists.{distinct}
use Rattle.definitions.specs.Terms.{Term, same_term, slot_of, read_terms}
use Rattle.definitions.specs.Saved.{term_table}
use Rattle.table.specs.Hashes.{Hashed}
use Rattle.table.specs.Table.{slot_set, list_of}

-- refusals 2 and 3, or how many there are
unfoldable pub listed_of : Option (List Term) → OrRefusal ℕ
listed_of none = Err BadTerm
listed_of (some ts) = cond (distinct same_term ts) (Ok (length ts)) (Err TermTwice)

-- a term in slot n of a table, with its hash
pub record Written (before : List ℕ) (n : ℕ) (t : Term) (table hashes : List ℕ) : Type 0 where
  pub slot : table ≡ slot_set before n (slot_of t)
  pub hashed : Hashed table (n + 1) hashes

-- so many listed terms stand in a table, with their hashes
pub record Lists (terms table hashes : List ℕ) (n : ℕ) : Type 0 where
  pub tabled : table ≡ term_table (list_of (read_terms terms))
  pub counted : length (list_of (read_terms terms)) ≡ n
  pub hashed : Hashed table n hashes
