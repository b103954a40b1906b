-- Hashes of slots: equal slots have equal hashes.
use Rattle.std.specs.Prelude.{ℕ, zero, suc, ◌+◌, ◌*◌, ◌/◌, ◌%◌, ◌≤◌, ◌<◌, Bool, true, false, cond, List, [], ◌∷◌, ◌≡◌, eqb, ltb, length, get_or, Some, None}
use Rattle.std.specs.declared.option.Option as Answer
use Rattle.definitions.specs.Limits.{entry_width, slot_width, entry_limit, schema_width, text_width}
use Rattle.definitions.specs.Bytes.{byte, word, part, filled}

-- so many words of 2 bytes from an offset on, each as often as its offset and one more say
unfoldable pub hash_sum : (words at : ℕ) → List ℕ → ℕ
hash_sum zero at s = 0
hash_sum (suc k) at s = word s at * (at + 1) + hash_sum k (at + 2) s

-- the whole words of a slot
abbrev pub slot_words : ℕ
slot_words = slot_width / 2

-- the hash of a slot: its whole words, and its last byte as often as a slot has bytes
unfoldable pub hash_of : List ℕ → ℕ
hash_of slot = (hash_sum slot_words 0 slot + byte slot (2 * slot_words) * slot_width) % 65521

-- the place of a number in a list, or the list's length
unfoldable pub place_in : ℕ → List ℕ → ℕ
place_in x [] = 0
place_in x (y ∷ ys) = cond (eqb x y) 0 (1 + place_in x ys)

-- a number where it is below a bound
unfoldable pub below : (n i : ℕ) → Answer.Option ℕ
below n i = cond (ltb i n) (Some i) None

-- none of the numbers from one to another that have a hash passes a test
abbrev pub NoneWith : (Test : ℕ → Bool → Type 0) (hashes : List ℕ) (hash from to : ℕ) → Type 0
NoneWith Test hashes hash from to = (j : ℕ) → from ≤ j → j < to → get_or hashes j 0 ≡ hash → Test j false

-- the first number from one on that has a hash and passes a test
pub record FirstWith (Test : ℕ → Bool → Type 0) (hashes : List ℕ) (hash from : ℕ) (found : Answer.Option ℕ) : Type 0 where
  pub some : (i : ℕ) → found ≡ Some i → (from ≤ i) × (i < length hashes) × (get_or hashes i 0 ≡ hash) × Test i true × NoneWith Test hashes hash from i
  pub none : found ≡ None → NoneWith Test hashes hash from (length hashes)

-- the slot of a number
abbrev pub slot_at : (table : List ℕ) → ℕ → List ℕ
slot_at table i = part table (i * slot_width) slot_width

-- the first n hashes are those of n things, each by its number
abbrev pub HashesOf : (hash : ℕ → ℕ) → (n : ℕ) → (hashes : List ℕ) → Type 0
HashesOf hash n hashes = (i : ℕ) → i < n → get_or hashes i 0 ≡ hash i

-- the hashes of the first n slots
abbrev pub Hashed : (table : List ℕ) → (n : ℕ) → (hashes : List ℕ) → Type 0
Hashed table n hashes = HashesOf (λ i. hash_of (slot_at table i)) n hashes

-- the slot of a URI field
abbrev pub uri_slot : List ℕ → List ℕ
uri_slot field = filled slot_width (0x11 ∷ field)

-- the hashes of a schema's URIs, where it has no more than it may
pub record HashedEntries (schema hashes : List ℕ) : Type 0 where
  pub few : length schema ≤ schema_width
  pub room : length hashes ≡ entry_limit
  pub each : (i : ℕ) → i * entry_width < length schema → get_or hashes i 0 ≡ hash_of (uri_slot (part schema (i * entry_width + 1) text_width))
