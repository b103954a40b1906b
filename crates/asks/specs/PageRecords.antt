-- A record of a page.
use Rattle.std.specs.Prelude.{ℕ, List}
use Rattle.definitions.specs.Terms.{Triple}
use Rattle.laws.specs.Records.{TripleAt}

-- a good record
abbrev pub RecordAt : List ℕ → (at : ℕ) → Type 0
RecordAt page at = (x : Triple) × (next : ℕ) × TripleAt page at x next
