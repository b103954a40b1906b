-- Stack items: the record that stands at an item's offset, its free variables and its last tuple; and the stack item by item.
use Prim.Native.Nat.{ℕ, zero, suc, ◌+◌, ◌-◌, ◌≤◌, ◌<◌}
use native.Mathlib.Omega.{arith}
use mathlib.Core.Path.{◌≡◌, refl, sym, ◌∙◌, ap, ap₂}
use mathlib.Core.List.{List, ◌∷◌}
use mathlib.Core.Bool.{Bool, true, false, cond, not, ◌&&◌, ◌||◌, and-false}
use mathlib.Core.Option.{Option, none, some}
use lib.Dec.{ltb, leb}
use lib.ListN.{length, get_or}
use borrow.Author.Tests.{eq-eqb, eqb-true, le-leb, lt-leb}
use Rattle.definitions.specs.Limits.{variable_limit}
use Rattle.definitions.specs.Lists.{every}
use Rattle.definitions.specs.Bytes.{byte, onward}
use Rattle.definitions.specs.Tree.{Script, success, from_named, block, sequence}
use Rattle.definitions.specs.Reading.{read_script, parsed}
use Rattle.definitions.specs.Scope.{variables, is_free}
use Rattle.definitions.specs.Evaluate.{Bindings}
use Rattle.definitions.specs.Machine.{Item}
use Rattle.definitions.specs.Saved.{place_in, offset_of, last_tuple, no_item, stack_from, bindings_in, is_bound}
use Rattle.definitions.specs.Saved as Saved
use Rattle.definitions.specs.Sound.{deep_enough, free_bound, last_sound, item_sound, stack_sound}
use Rattle.definitions.specs.declared.SavedItem.{SavedItem}
use Rattle.definitions.specs.declared.SavedControl.{SavedControl}
use Rattle.laws.proofs.Options.{some_is, onward-inv}
use Rattle.laws.proofs.Levels.{script-more}
use Rattle.laws.proofs.Places as Places
use Rattle.laws.proofs.Places.{found}
use Rattle.laws.proofs.ReadBounds.{binders-bounded}
use Rattle.laws.proofs.ScriptReads.{script-reads, parsed-reads}
use Rattle.laws.specs.Walks.{Loads}
use Rattle.laws.specs.ReadAnswers.{is_some, passes}
use Rattle.scope.specs.Uses.{free_in}
use Rattle.places.specs.Places.{place_of, place_at}
use Rattle.std.specs.Prelude.{Some, None}
use Rattle.std.specs.declared.option.Option as Answer
use Rattle.laws.proofs.ReadAnswers.{is-some}
use Rattle.control.specs.Control.{all_bound, tuple_fits, last_held, item_held, items_held}
use Rattle.control.proofs.BindingLaws.{every-same}

-- ── an item's last tuple ────────────────────────────────────────────────────────────────────

module _ (terms : ℕ) (i : SavedItem) where
  idle : i.started ≡ false → (c : Script) → last_held terms i c ≡ true
  unfolding last_held last_sound last_tuple
  idle e (success at) = refl
  idle e (from_named at n c) = refl
  idle e (block at false bs q c) = refl
  idle e (block at true bs q c) = rw e
  idle e (sequence at c d) = refl

  module _ (s : List ℕ) (loaded n : ℕ) where
    abbrev ReadHere : Script → Type 0
    ReadHere c = read_script s loaded 24 i.«at» ≡ some (c, n)

    no_block : (byte s i.«at» ≡ 0x73 → ⊥) → (c : Script) → ReadHere c → last_held terms i c ≡ true
    unfolding last_held last_sound last_tuple
    no_block k (success at) e = refl
    no_block k (from_named at m c) e = refl
    no_block k (block at each bs q c) e = absurd (k (script-reads s loaded 23 i.«at» (block at each bs q c) n e).kind)
    no_block k (sequence at c d) e = refl

    no-each : (byte s (i.«at» + 1) ≡ 1 → ⊥) → (c : Script) → ReadHere c → last_held terms i c ≡ true
    unfolding last_held last_sound last_tuple
    no-each k (success at) e = refl
    no-each k (from_named at m c) e = refl
    no-each k (block at false bs q c) e = refl
    no-each k (block at true bs q c) e = absurd (k (eqb-true (byte s (i.«at» + 1)) 1 (script-reads s loaded 23 i.«at» (block at true bs q c) n e).is_mode))
    no-each k (sequence at c d) e = refl

    each : i.started ≡ true → byte s i.«at» ≡ 0x73 → byte s (i.«at» + 1) ≡ 1 → (c : Script) → ReadHere c
        → last_held terms i c ≡ tuple_fits terms (byte s (i.«at» + 2)) i.last
    unfolding last_held last_sound last_tuple tuple_fits
    each st k m (success at) e = absurd (let h = (script-reads s loaded 23 i.«at» (success at) n e).kind in omega arith)
    each st k m (from_named at x c) e = absurd (let h = (script-reads s loaded 23 i.«at» (from_named at x c) n e).kind in omega arith)
    each st k m (block at false bs q c) e =
        absurd (differ (sym (eq-eqb (byte s (i.«at» + 1)) 1 m) ∙ (script-reads s loaded 23 i.«at» (block at false bs q c) n e).is_mode))
      where
        differ : ◌≡◌ {A = Bool} true false → ⊥
        differ e = let z : ◌≡◌ {A = ℕ} 0 1 = cc in omega arith
    each st k m (block at true bs q c) e =
        let count = (binders-bounded 0 4 (byte s (i.«at» + 2)) s (i.«at» + 3) bs (script-reads s loaded 23 i.«at» (block at true bs q c) n e).binders).1 in
        rw (st, count)
    each st k m (sequence at c d) e = absurd (let h = (script-reads s loaded 23 i.«at» (sequence at c d) n e).kind in omega arith)

-- as the code tests it
module _ (terms : ℕ) (i : SavedItem) (s : List ℕ) (loaded : ℕ) (l : Loads (read_script s loaded 24 i.«at»)) where
  of-read : {r : Bool} → r ≡ last_held terms i l.0 → r ≡ passes (λ p. last_held terms i p.0) (read_script s loaded 24 i.«at»)
  unfolding passes
  of-read e = rw l.2 e

  pub last-idle : i.started ≡ false → true ≡ passes (λ p. last_held terms i p.0) (read_script s loaded 24 i.«at»)
  last-idle h = of-read (sym (idle terms i h l.0))

  pub last-other : (byte s i.«at» ≡ 0x73 → ⊥) → true ≡ passes (λ p. last_held terms i p.0) (read_script s loaded 24 i.«at»)
  last-other k = of-read (sym (no_block terms i s loaded l.1 k l.0 l.2))

  pub last-once : (byte s (i.«at» + 1) ≡ 1 → ⊥) → true ≡ passes (λ p. last_held terms i p.0) (read_script s loaded 24 i.«at»)
  last-once k = of-read (sym (no-each terms i s loaded l.1 k l.0 l.2))

  module _ (st : i.started ≡ true) (k : byte s i.«at» ≡ 0x73) (m : byte s (i.«at» + 1) ≡ 1) where
    pub last-each : {r : Bool} → r ≡ tuple_fits terms (byte s (i.«at» + 2)) i.last → r ≡ passes (λ p. last_held terms i p.0) (read_script s loaded 24 i.«at»)
    last-each e = of-read (e ∙ sym (each terms i s loaded l.1 st k m l.0 l.2))

-- ── the record at an offset ─────────────────────────────────────────────────────────────────

-- it stands in the root at a depth, and reads with all levels left
pub record Standing (s : List ℕ) (loaded at depth : ℕ) : Type 0 where
  pub root : Script
  pub parses : parsed loaded s ≡ some root
  pub script : Script
  pub place : place_in root at ≡ some (record { depth = depth; script = script })
  pub ends : ℕ
  pub read : read_script s loaded 24 at ≡ some (script, ends)

-- a depth is at least the root's
from_one : {root c : Script} {depth : ℕ} → Places.At root depth c → 1 ≤ depth
from_one Places.at_root = omega arith
from_one (Places.under_named a) = omega (arith, from_one a)
from_one (Places.under_block a) = omega (arith, from_one a)
from_one (Places.under_first a) = omega (arith, from_one a)
from_one (Places.under_second a) = omega (arith, from_one a)

place-deep : (root : Script) (at : ℕ) (p : Saved.Place) → place_in root at ≡ some p → 1 ≤ p.depth
place-deep root at p h = from_one (found root at p h).in_root

module _ (s : List ℕ) (loaded at : ℕ) (e : is_some (parsed loaded s) ≡ true) {r : Answer.Option ℕ} (f : r ≡ place_at (parsed loaded s) at) where
  answered : r ≡ place_of (place_in (is-some (parsed loaded s) e).0 at)
  unfolding place_at
  answered = f ∙ ap (λ (o : Option Script). place_at o at) (is-some (parsed loaded s) e).1

  pub standing : {d : ℕ} → r ≡ Some d → Standing s loaded at d
  standing {d} g = go (place_in (is-some (parsed loaded s) e).0 at) refl (sym answered ∙ g)
    where
      go : (o : Option Saved.Place) → place_in (is-some (parsed loaded s) e).0 at ≡ o → place_of o ≡ Some d → Standing s loaded at d
      go none p q = absurd (let z : ◌≡◌ {A = ℕ} 0 1 = cc in omega arith)
      go (some p) h q =
          let w = is-some (parsed loaded s) e in
          let t = parsed-reads loaded s w.0 w.1 at p h in
          let same : p.depth ≡ d = cc in
          record {
            root = w.0;
            parses = w.1;
            script = p.script;
            place = h ∙ ap (λ (n : ℕ). some (record { depth = n; script = p.script })) same;
            ends = t.ends;
            read = script-more s loaded (suc t.left) 24 at (omega (arith, t.depth, place-deep w.0 at p h)) p.script t.ends t.read;
          }

  pub no_place : r ≡ None → place_in (is-some (parsed loaded s) e).0 at ≡ none
  no_place g = go (place_in (is-some (parsed loaded s) e).0 at) refl (sym answered ∙ g)
    where
      go : (o : Option Saved.Place) → place_in (is-some (parsed loaded s) e).0 at ≡ o → place_of o ≡ None → place_in (is-some (parsed loaded s) e).0 at ≡ none
      go none p q = p
      go (some p) h q = absurd (let z : ◌≡◌ {A = ℕ} 0 1 = cc in omega arith)

pub stands-loads : {s : List ℕ} {loaded at d : ℕ} → Standing s loaded at d → Loads (read_script s loaded 24 at)
stands-loads w = (w.script, w.ends, w.read)

-- an item, as the code tests it
module _ (terms : ℕ) (bound : List Bool) (place : ℕ) (i : SavedItem) (s : List ℕ) (loaded : ℕ) where
  pub nowhere : (e : is_some (parsed loaded s) ≡ true) {r : Answer.Option ℕ} → r ≡ place_at (parsed loaded s) i.«at» → r ≡ None
      → false ≡ passes (item_held terms bound place i) (parsed loaded s)
  unfolding passes item_held
  nowhere e f g = rw ((is-some (parsed loaded s) e).1, no_place s loaded i.«at» e f g)

  module _ {d : ℕ} (w : Standing s loaded i.«at» d) where
    abbrev free_held : Bool
    free_held = every (λ v. not (is_free v w.script) || get_or bound v false) variables

    item-is : passes (item_held terms bound place i) (parsed loaded s) ≡ (leb place d && (free_held && last_held terms i w.script))
    unfolding passes item_held
    item-is = rw (w.parses, w.place)

    pub shallow : d < place → false ≡ passes (item_held terms bound place i) (parsed loaded s)
    shallow h = sym (item-is ∙ ap (λ (b : Bool). b && (free_held && last_held terms i w.script)) (lt-leb place d h))

    module _ (deep : place ≤ d) {free : List Bool} (f : free ≡ free_in (read_script s loaded 24 i.«at»)) {b : Bool} (g : b ≡ all_bound free bound) where
      free-is : b ≡ free_held
      unfolding all_bound free_in
      free-is = g ∙ ap (λ (l : List Bool). all_bound l bound) (f ∙ ap free_in w.read)

      tested : passes (item_held terms bound place i) (parsed loaded s) ≡ (b && last_held terms i w.script)
      tested =
          item-is ∙ (ap (λ (x : Bool). x && (free_held && last_held terms i w.script)) (le-leb place d deep)
          ∙ ap (λ (x : Bool). x && last_held terms i w.script) (sym free-is))

      pub unbound-free : b ≡ false → false ≡ passes (item_held terms bound place i) (parsed loaded s)
      unbound-free h = sym (tested ∙ ap (λ (x : Bool). x && last_held terms i w.script) h)

      pub bound-free : b ≡ true → {r : Bool} → r ≡ passes (λ p. last_held terms i p.0) (read_script s loaded 24 i.«at»)
          → r ≡ passes (item_held terms bound place i) (parsed loaded s)
      unfolding passes
      bound-free h q =
          q ∙ (ap (passes (λ (p : Script × ℕ). last_held terms i p.0)) w.read
          ∙ sym (tested ∙ ap (λ (x : Bool). x && last_held terms i w.script) h))

-- ── the stack, item by item ─────────────────────────────────────────────────────────────────

stack-length : (root : Script) (n : ℕ) (items : List SavedItem) (stack : List Item) → stack_from root n items ≡ some stack → length stack ≡ n
unfolding stack_from
stack-length root zero items stack e = ap length (sym (some_is e))
stack-length root (suc n) items stack e =
    let i = get_or items n no_item in
    let item : Saved.Place → Item = λ p. record { script = p.script; last = last_tuple p.script i } in
    let p = onward-inv (place_in root i.«at») (λ p. onward (stack_from root n items) (λ rest. some (item p ∷ rest))) e in
    let q = onward-inv (stack_from root n items) (λ rest. some (item p.0 ∷ rest)) p.2 in
    ap length (sym (some_is q.2)) ∙ ap suc (stack-length root n items q.0 q.1)

bound-is : (saved : SavedControl) (v : ℕ) → is_bound (bindings_in saved v) ≡ (ltb v variable_limit && get_or saved.bound v false)
unfolding bindings_in
bound-is saved v = go (ltb v variable_limit && get_or saved.bound v false)
  where
    go : (b : Bool) → is_bound (cond b (some (get_or saved.bindings v 0)) none) ≡ b
    go true = refl
    go false = refl

free_bound_lem : (saved : SavedControl) (c : Script) → free_bound (bindings_in saved) c ≡ every (λ v. not (is_free v c) || get_or saved.bound v false) variables
unfolding free_bound
free_bound_lem saved c =
    every-same (λ v. not (is_free v c) || is_bound (bindings_in saved v)) (λ v. not (is_free v c) || (ltb v variable_limit && get_or saved.bound v false))
    (λ v h. ap (λ (b : Bool). not (is_free v c) || b) (bound-is saved v))

top_sound : (root : Script) (terms : ℕ) (saved : SavedControl) (n : ℕ) (i : SavedItem) (p : Saved.Place) → place_in root i.«at» ≡ some p → (rest : List Item) → length rest ≡ n
    → stack_sound root terms (bindings_in saved) (record { script = p.script; last = last_tuple p.script i } ∷ rest)
    ≡ ((leb (suc n) p.depth && (every (λ v. not (is_free v p.script) || get_or saved.bound v false) variables && last_held terms i p.script))
    && stack_sound root terms (bindings_in saved) rest)
unfolding stack_sound item_sound last_held
top_sound root terms saved n i p h rest e =
    let there : place_in root (offset_of p.script) ≡ some p = ap (place_in root) (found root i.«at» p h).offset ∙ h in
    let last = last_sound terms p.script (last_tuple p.script i) in
    ap (λ (b : Bool). b && stack_sound root terms (bindings_in saved) rest)
    (ap₂ (λ (a b : Bool). a && (b && last))
    (ap₂ (λ (k : ℕ) (o : Option Saved.Place). deep_enough (suc k) o) e there)
    (free_bound_lem saved p.script))

-- the lowest items of the stack are records of the script, and pass
unfoldable pub stack_held : (root : Script) → (terms : ℕ) → SavedControl → (height : ℕ) → Bool
stack_held root terms saved height = passes (stack_sound root terms (bindings_in saved)) (stack_from root height saved.items)

module _ (root : Script) (terms : ℕ) (saved : SavedControl) (n : ℕ) where
  stack-next : stack_held root terms saved (suc n) ≡ (item_held terms saved.bound (suc n) (get_or saved.items n no_item) root && stack_held root terms saved n)
  unfolding stack_held item_held stack_from passes onward
  stack-next = go (place_in root i.«at») refl (stack_from root n saved.items) refl
    where
      i : SavedItem
      i = get_or saved.items n no_item

      β : Bindings
      β = bindings_in saved

      go : (o : Option Saved.Place) → place_in root i.«at» ≡ o → (st : Option (List Item)) → stack_from root n saved.items ≡ st
          → passes (stack_sound root terms β) (onward o (λ p. onward st (λ rest. some (record { script = p.script; last = last_tuple p.script i } ∷ rest))))
          ≡ (passes (λ p. leb (suc n) p.depth && (every (λ v. not (is_free v p.script) || get_or saved.bound v false) variables && last_held terms i p.script)) o
          && passes (stack_sound root terms β) st)
      go none h st e = refl
      go (some p) h none e = sym (and-false (leb (suc n) p.depth && (every (λ v. not (is_free v p.script) || get_or saved.bound v false) variables && last_held terms i p.script)))
      go (some p) h (some rest) e = top_sound root terms saved n i p h rest (stack-length root n saved.items rest e)

-- the tests of the code are the definition's
pub stack_is : (root : Script) (terms : ℕ) (saved : SavedControl) (n : ℕ) → items_held terms saved.bound saved.items n root ≡ stack_held root terms saved n
unfolding items_held stack_held stack_from passes stack_sound
stack_is root terms saved zero = refl
stack_is root terms saved (suc n) =
    ap (λ (b : Bool). item_held terms saved.bound (suc n) (get_or saved.items n no_item) root && b) (stack_is root terms saved n) ∙ sym (stack-next root terms saved n)

-- as the loop goes through it
module _ (s : List ℕ) (loaded : ℕ) (e : is_some (parsed loaded s) ≡ true) (terms : ℕ) (bound : List Bool) (items : List SavedItem) where
  down : (place : ℕ) → 0 < place
      → passes (items_held terms bound items place) (parsed loaded s)
      ≡ (passes (item_held terms bound place (get_or items (place - 1) no_item)) (parsed loaded s) && passes (items_held terms bound items (place - 1)) (parsed loaded s))
  unfolding passes items_held
  down zero h = absurd (omega arith)
  down (suc n) h = let k : suc n - 1 ≡ n = omega arith in rw ((is-some (parsed loaded s) e).1, k)

  module _ (height place : ℕ) (far : passes (items_held terms bound items height) (parsed loaded s) ≡ passes (items_held terms bound items place) (parsed loaded s)) where
    pub stack-done : place ≤ 0 → true ≡ passes (items_held terms bound items height) (parsed loaded s)
    unfolding passes items_held
    stack-done h = let z : place ≡ 0 = omega arith in sym (far ∙ rw (z, (is-some (parsed loaded s) e).1))

    module _ (h : 0 < place) {b : Bool} (f : b ≡ passes (item_held terms bound (place - 1 + 1) (get_or items (place - 1) no_item)) (parsed loaded s)) where
      here : passes (item_held terms bound place (get_or items (place - 1) no_item)) (parsed loaded s) ≡ b
      here =
          let same : place ≡ place - 1 + 1 = omega arith in
          ap (λ (n : ℕ). passes (item_held terms bound n (get_or items (place - 1) no_item)) (parsed loaded s)) same ∙ sym f

      pub stack-stop : b ≡ false → false ≡ passes (items_held terms bound items height) (parsed loaded s)
      stack-stop g = sym (far ∙ (down place h ∙ ap (λ (x : Bool). x && passes (items_held terms bound items (place - 1)) (parsed loaded s)) (here ∙ g)))

      pub stack-turn : b ≡ true → passes (items_held terms bound items height) (parsed loaded s) ≡ passes (items_held terms bound items (place - 1)) (parsed loaded s)
      stack-turn g = far ∙ (down place h ∙ ap (λ (x : Bool). x && passes (items_held terms bound items (place - 1)) (parsed loaded s)) (here ∙ g))
