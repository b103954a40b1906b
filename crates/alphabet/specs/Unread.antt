-- The refusal of bytes that no saved run has.
use Rattle.std.specs.Prelude.{ℕ, List, cond}
use Rattle.definitions.specs.Alphabet.{is_alphabet}
use Rattle.definitions.specs.declared.Refusal.{Refusal}
use Rattle.definitions.specs.declared.Refusal.TheVariants.{Unsound, BadRanks}

-- where no saved run has the bytes: the ranks come first
abbrev pub unread_refusal : (ranks : List ℕ) → Refusal
unread_refusal ranks = cond (is_alphabet ranks) Unsound BadRanks
