-- Document 02, Ask 9: what less on strings keeps, whatever ranks a club lends.
--
--   The law that two different strings are always in exactly one order is to be shown from the permutation rule, so it covers every club.
use Rattle.std.specs.Prelude.{ℕ, ◌≡◌, List, false, not, T, length}
use Rattle.definitions.specs.Lists.{every}
use Rattle.definitions.specs.Limits.{ranks_width}
use Rattle.definitions.specs.Alphabet.{is_alphabet, built_in}
use Rattle.definitions.specs.Terms.{text_byte}
use Rattle.definitions.specs.Values.{Tagged, string_before}

-- a string whose bytes are from 20 to 7E; a tag's are, being small letters and hyphens
abbrev pub TextBytes : Tagged → Type 0
TextBytes s = T (every text_byte s.tag) × T (every text_byte s.text)

pub record OneOrderOfStrings (ranks : List ℕ) : Type 0 where
  pub exactly_one : (a b : Tagged) → TextBytes a → TextBytes b → (a ≡ b → ⊥) → string_before ranks a b ≡ not (string_before ranks b a)
  pub not_itself : (a : Tagged) → string_before ranks a a ≡ false
  pub transitive : (a b c : Tagged) → T (string_before ranks a b) → T (string_before ranks b c) → T (string_before ranks a c)

pub record Alphabets : Type 0 where
  pub every_club : (ranks : List ℕ) → length ranks ≡ ranks_width → T (is_alphabet ranks) → OneOrderOfStrings ranks
  -- what is lent when a club has none is such a list
  pub built_in_width : length built_in ≡ ranks_width
  pub built_in_alphabet : T (is_alphabet built_in)
