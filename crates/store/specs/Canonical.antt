-- A saved run without what means nothing: last tuples of items that have none, numbers of variables that are not bound, places past a count.
use Rattle.std.specs.Prelude.{ℕ, ◌+◌, ◌-◌, Bool, cond, ◌&&◌, false, List, ◌++◌, map, eqb, get_or, take, replicate}
use Rattle.definitions.specs.Bytes.{byte, filled}
use Rattle.definitions.specs.Scope.{variables}
use Rattle.definitions.specs.Saved.{zero_item}
use Rattle.definitions.specs.declared.SavedItem.{SavedItem}
use Rattle.definitions.specs.declared.SavedControl.{SavedControl}
use Rattle.definitions.specs.declared.SavedStore.{SavedStore}
use Rattle.store.specs.Stack.{fresh_item}

-- an each block that has used a tuple: its mark is set, and the script has an each block there
abbrev pub has_last : List ℕ → SavedItem → Bool
has_last s i = i.started && (eqb (byte s i.«at») 0x73 && eqb (byte s (i.«at» + 1)) 1)

-- with the first numbers of the tuple, as many as the block has variables
abbrev pub started_item : List ℕ → SavedItem → SavedItem
started_item s i = record { «at» = i.«at»; started = i.started; last = filled 4 (take (byte s (i.«at» + 2)) i.last) }

unfoldable pub clean_item : List ℕ → SavedItem → SavedItem
clean_item s i = cond (has_last s i) (started_item s i) (fresh_item i.«at»)

unfoldable pub clean_items : List ℕ → (height : ℕ) → List SavedItem → List SavedItem
clean_items s height items = map (clean_item s) (take height items) ++ replicate (24 - height) zero_item

-- a variable's number, zero where it is not bound
abbrev pub number_of : List Bool → List ℕ → ℕ → ℕ
number_of bound bindings v = cond (get_or bound v false) (get_or bindings v 0) 0

unfoldable pub clean_bindings : List Bool → List ℕ → List ℕ
clean_bindings bound bindings = map (number_of bound bindings) variables

abbrev pub canonical_control : List ℕ → SavedControl → SavedControl
canonical_control s c =
    record {
      height = c.height;
      types = c.types;
      bound = c.bound;
      bindings = clean_bindings c.bound c.bindings;
      items = clean_items s c.height c.items;
    }

abbrev pub canonical_store : SavedStore → SavedStore
canonical_store s = record { quads = s.quads; graphs = s.graphs; fetched = filled 64 (take s.graphs s.fetched) }
