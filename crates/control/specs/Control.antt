-- The control's half of soundness: stack and bindings by the bytes and codes that are lent.
use Rattle.std.specs.Prelude.{ℕ, zero, suc, ◌≡◌, List, Bool, true, false, not, ◌&&◌, ◌||◌, eqb, leb, ltb, length, get_or, take}
use Rattle.std.proofs.Math.Option.{some}
use Rattle.definitions.specs.Limits.{variable_limit}
use Rattle.definitions.specs.Lists.{every}
use Rattle.definitions.specs.Terms.{Term}
use Rattle.definitions.specs.Tree.{Script}
use Rattle.definitions.specs.Reading.{parsed}
use Rattle.definitions.specs.Scope.{variables, is_free}
use Rattle.definitions.specs.Saved.{place_in, last_tuple, no_item, held_control}
use Rattle.definitions.specs.Sound.{last_sound, control_sound}
use Rattle.definitions.specs.Calls.{Checked, reported}
use Rattle.definitions.specs.declared.SavedItem.{SavedItem}
use Rattle.definitions.specs.declared.SavedControl.{SavedControl}
use Rattle.laws.specs.Sorts.{LeastOf}
use Rattle.laws.specs.ReadAnswers.{passes}
use Rattle.codes.specs.TypeCodes.{code_leq}

-- ── the promise ─────────────────────────────────────────────────────────────────────────────

-- what is lent stands for what loading finds, with the reported types, and for terms with their least types
pub record Lends (script : List ℕ) (loaded : ℕ) (saved : SavedControl) (count : ℕ) (leasts : List ℕ) (c : Checked) (terms : List Term) : Type 0 where
  pub parses : parsed loaded script ≡ some c.root
  pub types : saved.types ≡ reported c
  pub each : length c.types ≡ variable_limit
  pub counted : count ≡ length terms
  pub codes : LeastOf c.schema terms leasts

-- the definition's test of the control that is held, whatever is lent stands for
abbrev pub ControlOf : (script : List ℕ) → (loaded : ℕ) → SavedControl → (count : ℕ) → (leasts : List ℕ) → Bool → Type 0
ControlOf script loaded saved count leasts r =
    (c : Checked) (terms : List Term) → Lends script loaded saved count leasts c terms
    → r ≡ passes (control_sound c.schema c.types c.root terms) (held_control c.root saved)

-- ── the stack, by flags and offsets ─────────────────────────────────────────────────────────

-- a variable is not flagged, or bound
abbrev pub bound_at : (free bound : List Bool) → ℕ → Bool
bound_at free bound v = not (get_or free v false) || get_or bound v false

unfoldable pub all_bound : (free bound : List Bool) → Bool
all_bound free bound = every (bound_at free bound) variables

-- a tuple's first numbers are all there, and are numbers of terms
unfoldable pub tuple_fits : (terms n : ℕ) → List ℕ → Bool
tuple_fits terms n last = eqb (length (take n last)) n && every (λ i. ltb i terms) (take n last)

-- an item's last tuple, where it has one, names terms
unfoldable pub last_held : (terms : ℕ) → SavedItem → Script → Bool
last_held terms i c = last_sound terms c (last_tuple c i)

-- an item is a record of the script, deep enough for its place, and passes
unfoldable pub item_held : (terms : ℕ) → (bound : List Bool) → (place : ℕ) → SavedItem → (root : Script) → Bool
item_held terms bound n i root =
    passes (λ p. leb n p.depth && (every (λ v. not (is_free v p.script) || get_or bound v false) variables && last_held terms i p.script)) (place_in root i.«at»)

-- so many items from the bottom, each deep enough for its place
unfoldable pub items_held : (terms : ℕ) → (bound : List Bool) → List SavedItem → (height : ℕ) → (root : Script) → Bool
items_held terms bound items zero root = true
items_held terms bound items (suc n) root = item_held terms bound (suc n) (get_or items n no_item) root && items_held terms bound items n root

-- ── the bindings, by codes ──────────────────────────────────────────────────────────────────

-- a number is that of a term whose least type is below a type
unfoldable pub number_fits : (leasts : List ℕ) → (count number type : ℕ) → Bool
number_fits leasts count i ty = ltb i count && code_leq (get_or leasts i 0) ty

-- a variable is not bound, or a pair binds it and it holds a term of its type
unfoldable pub binding_fits : (leasts : List ℕ) → (count : ℕ) → (bound : Bool) → (number type : ℕ) → Bool
binding_fits leasts count bound i ty = not bound || (not (eqb ty 0) && number_fits leasts count i ty)

abbrev pub binding_at : (leasts : List ℕ) → (count : ℕ) → (bound : List Bool) → (numbers types : List ℕ) → ℕ → Bool
binding_at leasts count bound numbers types v = binding_fits leasts count (get_or bound v false) (get_or numbers v 0) (get_or types v 0)

unfoldable pub bindings_fit : (leasts : List ℕ) → (count : ℕ) → (bound : List Bool) → (numbers types : List ℕ) → Bool
bindings_fit leasts count bound numbers types = every (binding_at leasts count bound numbers types) variables
