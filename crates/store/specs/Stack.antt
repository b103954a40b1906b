-- Operations on the saved control, place by place. What they leave unused is zero.
use Rattle.std.specs.Prelude.{ℕ, ◌+◌, ◌-◌, true, false, List, [], ◌∷◌, set, get_or}
use Rattle.definitions.specs.Saved.{no_item}
use Rattle.definitions.specs.declared.SavedItem.{SavedItem}
use Rattle.definitions.specs.declared.SavedControl.{SavedControl}

-- another stack
abbrev pub with_items : SavedControl → ℕ → List SavedItem → SavedControl
with_items c height items = record { height = height; types = c.types; bound = c.bound; bindings = c.bindings; items = items }

-- an item that has used no tuple
abbrev pub fresh_item : ℕ → SavedItem
fresh_item at = record { «at» = at; started = false; last = 0 ∷ 0 ∷ 0 ∷ 0 ∷ [] }

abbrev pub pushed : SavedControl → SavedItem → SavedControl
pushed c i = with_items c (c.height + 1) (set c.items c.height i)

abbrev pub popped : SavedControl → SavedControl
popped c = with_items c (c.height - 1) (set c.items (c.height - 1) (fresh_item 0))

abbrev pub replaced : SavedControl → SavedItem → SavedControl
replaced c i = with_items c c.height (set c.items (c.height - 1) i)

abbrev pub top_of : SavedControl → SavedItem
top_of c = get_or c.items (c.height - 1) no_item

-- a variable bound to a term
abbrev pub bound_to : SavedControl → ℕ → ℕ → SavedControl
bound_to c v term =
    record { height = c.height; types = c.types; bound = set c.bound v true; bindings = set c.bindings v term; items = c.items }

-- a tuple's terms for a block's variables, the last variable first
unfoldable pub bound_all : SavedControl → (variables tuple : List ℕ) → SavedControl
bound_all c [] t = c
bound_all c (v ∷ vs) [] = c
bound_all c (v ∷ vs) (i ∷ t) = bound_to (bound_all c vs t) v i
