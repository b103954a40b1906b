-- The parts of a query, as offsets of the script: each of them holds wherever the query holds.
use Rattle.std.specs.Prelude.{ℕ, zero, suc, ◌<◌, ◌≡◌, List, false, length, get_or}
use Rattle.std.proofs.Math.Option.{some}
use Rattle.definitions.specs.Limits.{depth_limit}
use Rattle.definitions.specs.Tree.{Query}
use Rattle.definitions.specs.Reading.{read_query}
use Rattle.seeking.specs.declared.Part.{Part}

-- parts at most
abbrev pub part_limit : ℕ
part_limit = 16

-- a query is another one, or stands in it below `both` alone
pub data Within (c : Query) : Query → Type 0 where
  itself : Within c c
  first : {q r : Query} → Within c q → Within c (Query.both q r)
  second : {q r : Query} → Within c r → Within c (Query.both q r)

-- the record at an offset is a part of the query
pub record PartOf (script : List ℕ) (loaded at : ℕ) (q : Query) : Type 0 where
  pub part : Query
  pub end : ℕ
  pub read : read_query script loaded depth_limit at ≡ some (part, end)
  pub within : Within part q

-- a place of a list that has no part yet
abbrev pub no_part : Part
no_part = record { «at» = 0; named = 0; filter = false }

-- of what a part may name nothing is asked
abbrev pub PartsOf : (script : List ℕ) (loaded : ℕ) (parts : List Part) → Query → Type 0
PartsOf script loaded parts q = (i : ℕ) → i < length parts → PartOf script loaded (get_or parts i no_part).«at» q

-- so many records, one after the other, are parts of the query
abbrev pub Pending : (script : List ℕ) (loaded : ℕ) → Query → (count at : ℕ) → Type 0
Pending script loaded q zero at = Unit {0}
Pending script loaded q (suc n) at = (p : PartOf script loaded at q) × Pending script loaded q n p.end
