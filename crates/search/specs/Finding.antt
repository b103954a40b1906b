-- What the search over a block's variables is given, and what it promises: the first tuple, from a level on, with which the query holds.
use Rattle.std.specs.Prelude.{ℕ, zero, suc, ◌+◌, ◌-◌, ◌≤◌, ◌<◌, min, ◌≡◌, List, [], ◌∷◌, Bool, true, false, cond, ◌&&◌, ◌||◌, T, eqb, leb, length, get_or, Option as Maybe, None, Some}
use Rattle.std.proofs.Math.Option.{Option, none, some}
use Rattle.definitions.specs.Lists.{is_in, distinct}
use Rattle.definitions.specs.Limits.{depth_limit, ranks_width, variable_limit, pair_limit}
use Rattle.definitions.specs.Types.{Ty, type_of_code}
use Rattle.definitions.specs.Terms.{Term, Schema}
use Rattle.definitions.specs.Tree.{Query}
use Rattle.definitions.specs.Reading.{read_query}
use Rattle.definitions.specs.Evaluate.{Setting, Bindings, Quad}
use Rattle.definitions.specs.Outcome.{ok}
use Rattle.definitions.specs.Search.{Typing, Tuple, earlier, bind, answer}
use Rattle.definitions.specs.Sound.{number_has}
use Rattle.codes.specs.TypeCodes.{code_leq}
use Rattle.laws.specs.Bindings.{Holds, Fits}
use Rattle.query.specs.Codes.{bindings_of}
use Rattle.query.specs.StoreLent.{setting_in, Told, StoreLent}
use Rattle.query.specs.declared.Context.{Context}
use Rattle.query.specs.declared.View.{View}
use Rattle.seeking.specs.Seeking.{Keeps, holds}
use Rattle.seeking.specs.Parts.{part_limit, PartsOf}
use Rattle.seeking.specs.declared.Part.{Part}
use Rattle.search.specs.Ready.{Ready}
use Rattle.search.specs.declared.Block.{Block}
use Rattle.search.specs.declared.Search.{Search}
use Rattle.search.specs.declared.Under.{Under}

-- so many numbers of an array, from a place on
unfoldable pub numbers_from : (count : ℕ) → List ℕ → (k : ℕ) → List ℕ
numbers_from zero f k = []
numbers_from (suc count) f k = get_or f k 0 ∷ numbers_from count f (k + 1)

-- a result's tuple from place k on, where there is one
abbrev pub tuple_of : Maybe (List ℕ) → (k count : ℕ) → Option Tuple
tuple_of None k count = none
tuple_of (Some t) k count = some (numbers_from count t k)

-- the last tuple from place k on, where the numbers before it are the last tuple's
abbrev pub last_of : (tight : Bool) → List ℕ → (k count : ℕ) → Option Tuple
last_of tight last k count = cond tight (some (numbers_from count last k)) none

-- a code is one of those
unfoldable pub is_under : Under → (least : ℕ) → Bool
is_under u least = eqb least u.own || (eqb least u.other || (u.ranges && leb 9 least))

-- so many terms are looked at in one go
abbrev pub types_block : ℕ
types_block = 32

-- one of n numbers, from one on
unfoldable pub any_under : (leasts : List ℕ) → Under → (from n : ℕ) → Bool
any_under leasts u from zero = false
any_under leasts u from (suc n) = any_under leasts u from n || is_under u (get_or leasts (from + n) 0)

-- the next of them, n at most
unfoldable pub skip_under : (leasts : List ℕ) → Under → (n i : ℕ) → ℕ
skip_under leasts u zero i = i
skip_under leasts u (suc n) i = cond (is_under u (get_or leasts i 0)) i (skip_under leasts u n (i + 1))

-- the next number, n at most, whose least type is below a type
unfoldable pub skip_types : (leasts : List ℕ) → (type n i : ℕ) → ℕ
skip_types leasts ty zero i = i
skip_types leasts ty (suc n) i = cond (code_leq (get_or leasts i 0) ty) i (skip_types leasts ty n (i + 1))

-- ── bindings, and the next term of a type ───────────────────────────────────────────────────

-- one more variable known
abbrev pub bind_to : (v i : ℕ) → Bindings → Bindings
bind_to v i γ = λ x. cond (eqb x v) (some i) (γ x)

-- a block's variables are not known at first
abbrev pub clear : List ℕ → Bindings → Bindings
clear vs β = λ x. cond (is_in x vs) none (β x)

-- the next number of a term of the type, from i on, n numbers at most
unfoldable pub skip : Schema → Ty → List Term → (n i : ℕ) → ℕ
skip S τ terms zero i = i
skip S τ terms (suc n) i = cond (number_has S terms i τ) i (skip S τ terms n (suc i))

-- what is lent to the search of a block stands for schema, typing, store and query
pub record World (script ranks table quads leasts : List ℕ) (x : Context) (block : Block) : Type 0 where
  pub schema : Schema
  pub typing : Typing
  pub terms : List Term
  pub rows : List Quad
  pub tree : Query
  pub next : ℕ
  pub told : Told x
  pub ranked : length ranks ≡ ranks_width
  pub lent : StoreLent table quads leasts x schema terms rows
  pub read : read_query script x.loaded depth_limit block.«at» ≡ some (tree, next)
  pub types : (k : ℕ) → k < block.size → type_of_code (get_or block.types k 0) ≡ some (typing (get_or block.vars k 0))
  pub size : block.size ≤ pair_limit
  pub small : (j : ℕ) → get_or block.vars j 0 < variable_limit

-- the parts of the block's query are listed
pub record Parted (script : List ℕ) (parts : List Part) (x : Context) (block : Block) : Type 0 where
  pub room : length parts ≤ part_limit
  pub each : (q : Query) (m : ℕ) → read_query script x.loaded depth_limit block.«at» ≡ some (q, m) → PartsOf script x.loaded parts q

-- the same of what a search is given
abbrev pub WorldIn : View → Block → Type 0
WorldIn v block = World v.script.now v.ranks.now v.table.now v.quads.now v.leasts.now v.context block

abbrev pub WorldOf : Search → Type 0
WorldOf s = WorldIn s.view.now s.block

abbrev pub PartedOf : Search → Type 0
PartedOf s = Parted s.view.now.script.now s.parts.now s.view.now.context s.block

-- the block's variables from place k on
abbrev pub later : Block → (k : ℕ) → List ℕ
later block k = numbers_from (block.size - k) block.vars k

-- ── tuples in order ─────────────────────────────────────────────────────────────────────────

-- the first of the good tuples, or none of them
abbrev pub First : (Tuple → Type 0) → Option Tuple → Type 0
First Good none = (u : Tuple) → Good u → ⊥
First Good (some t) = Good t × ((u : Tuple) → Good u → T (earlier u t) → ⊥)

-- a tuple comes after the last one, where there is one
abbrev pub is_after : Option Tuple → Tuple → Bool
is_after none t = true
is_after (some last) t = earlier last t

-- the first number is lo or more
abbrev pub From : (lo : ℕ) → Tuple → Type 0
From lo [] = Unit {0}
From lo (i ∷ t) = lo ≤ i

-- no variable stands twice
abbrev pub Once : List ℕ → Type 0
Once [] = Unit {0}
Once (v ∷ vs) = (T (is_in v vs) → ⊥) × Once vs

-- the variables still to choose are not known
abbrev pub Cleared : List ℕ → Bindings → Type 0
Cleared vs γ = (x : ℕ) → T (is_in x vs) → γ x ≡ none

-- ── promises, where soundness holds of what is known ────────────────────────────────────────

module _ {script ranks table quads leasts : List ℕ} {x : Context} {block : Block} (w : World script ranks table quads leasts x block) where
  abbrev pub setting : Setting
  setting = setting_in w.schema ranks x

  -- bindings give the variable at place k a number of its type
  pub record Has (δ : Bindings) (k : ℕ) : Type 0 where
    pub number : ℕ
    pub is : δ (get_or block.vars k 0) ≡ some number
    pub typed : Holds w.schema w.terms number (w.typing (get_or block.vars k 0))

  module _ (known : List ℕ) where
    -- ready for the variables that are still to choose
    abbrev pub ReadyFor : List ℕ → Type 0
    ReadyFor vs = Ready w.schema w.typing w.terms (bindings_of known) vs w.tree

    -- by bindings that keep what is known the query holds
    abbrev pub Passes : Bindings → Type 0
    Passes δ = Keeps (bindings_of known) δ × T (holds setting w.terms w.rows δ w.tree)

    -- every number of place k from lo on with which the query holds is r or more
    abbrev pub PassedTo : (k lo r : ℕ) → Type 0
    PassedTo k lo r = (vs : List ℕ) → ReadyFor vs → (δ : Bindings) → Passes δ → (h : Has δ k) → lo ≤ h.number → r ≤ h.number

    -- and r is of its type; it never goes back
    abbrev pub NextOf : (k lo r : ℕ) → Type 0
    NextOf k lo r = (min lo x.count ≤ r) × (r < x.count → Holds w.schema w.terms r (w.typing (get_or block.vars k 0))) × PassedTo k lo r

    -- without hope the query holds with no number of place j
    abbrev pub HopeAt : (j : ℕ) → Bool → Type 0
    HopeAt j r = r ≡ false → (vs : List ℕ) → ReadyFor vs → (δ : Bindings) → Passes δ → Has δ j → ⊥

    -- nor with numbers of all places from one on
    abbrev pub HopeOf : (from : ℕ) → Bool → Type 0
    HopeOf from r = r ≡ false → (vs : List ℕ) → ReadyFor vs → (δ : Bindings) → Passes δ → ((j : ℕ) → from ≤ j → j < block.size → Has δ j) → ⊥

    -- the same after a number of place k, which is known
    abbrev pub WorthOf : (k number : ℕ) → Bool → Type 0
    WorthOf k number r = bindings_of known (get_or block.vars k 0) ≡ some number → HopeOf (k + 1) r

    -- a tuple of the types with which the query holds
    abbrev pub Good : (vs : List ℕ) → Tuple → Type 0
    Good vs t = Fits w.schema w.typing w.terms vs t × T (holds setting w.terms w.rows (bind vs t (bindings_of known)) w.tree)

    -- the first tuple from place k on that passes a test
    abbrev pub FirstOf : (k : ℕ) (P : Tuple → Type 0) → Maybe (List ℕ) → Type 0
    FirstOf k P r =
        Once (later block k) → ReadyFor (later block k) → Cleared (later block k) (bindings_of known)
        → First (λ t. Good (later block k) t × P t) (tuple_of r k (block.size - k))

    abbrev pub FindOf : (k lo : ℕ) → Maybe (List ℕ) → Type 0
    FindOf k lo r = FirstOf k (From lo) r

    abbrev pub AfterOf : (k : ℕ) → Maybe (List ℕ) → Type 0
    AfterOf k r = FirstOf k (λ t. T (is_after (last_of true block.last k (block.size - k)) t)) r

    -- the machine's answer, for distinct variables
    abbrev pub AnswerOf : (started : Bool) → Maybe (List ℕ) → Type 0
    AnswerOf started r =
        T (distinct eqb (numbers_from block.size block.vars 0)) → ReadyFor (numbers_from block.size block.vars 0)
        → answer setting w.typing w.terms w.rows (bindings_of known) (numbers_from block.size block.vars 0) w.tree
        (last_of started block.last 0 block.size)
        ≡ ok (tuple_of r 0 block.size)
