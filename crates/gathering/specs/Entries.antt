-- The entries of subjects, and their records.
use Rattle.std.specs.Prelude.{ℕ, cond, List, [], ◌∷◌, ◌++◌, eqb}
use Rattle.definitions.specs.Terms.{Schema}
use Rattle.definitions.specs.Gathering.{Asking, subjects_after, gathered_of}

-- the entries of all subjects of which something is asked
abbrev pub entries_of : List Asking → Schema
entries_of all = (gathered_of all (subjects_after [] all)).entries

-- the bytes of a URI field's schema record, none where the code is 0
unfoldable pub record_bytes : (field : List ℕ) → (code : ℕ) → List ℕ
record_bytes field code = cond (eqb code 0) [] (0x21 ∷ field ++ (code ∷ []))

-- 1 for a subject that has an entry
unfoldable pub one_for : (code : ℕ) → ℕ
one_for code = cond (eqb code 0) 0 1
