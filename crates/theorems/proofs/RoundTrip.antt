-- The saved run, written as bytes and read, is that run again.
use Prim.Native.Nat.{ℕ, zero, suc, ◌+◌, ◌-◌, ◌*◌, ◌≤◌, ◌<◌}
use native.Mathlib.Omega.{arith}
use mathlib.Core.Path.{◌≡◌, refl, sym, ap, ap₂, subst⁻¹, ◌∙◌}
use mathlib.Core.Bool.{Bool, true, false, ◌&&◌}
use mathlib.Core.List.{List, [], ◌∷◌, ◌++◌, map, append_assoc, append-nil}
use mathlib.Core.Option.{some}
use lib.Dec.{T, eqb, leb, le→leb}
use lib.ListN.{length, get_or, take, drop, replicate, length-append, length-drop, length-map}
use lib.Seq.{take_at, drop_at, drop-drop}
use Rattle.definitions.specs.Limits.{variable_limit, graph_limit, depth_limit, pair_limit}
use Rattle.definitions.specs.Lists.{every}
use Rattle.definitions.specs.Bytes.{byte, word, part, little_bytes}
use Rattle.definitions.specs.Saved.{zero_item}
use Rattle.definitions.specs.Limits.{types_offset, bound_offset, bindings_offset, fetched_offset, items_offset, saved_width}
use Rattle.definitions.specs.Exports.{mark_of, words, item_bytes, items_bytes, saved_bytes}
use Rattle.definitions.specs.Exports.{words_from, item_at, items_from, items_good, saved_from}
use Rattle.definitions.specs.declared.SavedItem.{SavedItem}
use Rattle.definitions.specs.declared.SavedRun.{SavedRun}
use Rattle.laws.proofs.Tests.{and_make}
use Rattle.laws.specs.Lists.{All}
use Rattle.laws.proofs.Options.{provided-holds}
use Rattle.laws.proofs.Bytes.{byte-from, word-from, little-length}
use Rattle.laws.proofs.Saved.{Shaped, items-none}

-- ── a saved run that fits its bytes ─────────────────────────────────────────────────────────

abbrev pub TwoBytes : ℕ → Type 0
TwoBytes n = n < 65536

pub record ItemFits (i : SavedItem) : Type 0 where
  pub offset : TwoBytes i.«at»
  pub numbers : All TwoBytes i.last

-- numbers fit two bytes, and the places above the height are zero
pub record Fits (r : SavedRun) : Type 0 where
  pub shaped : Shaped r
  pub height : r.control.height ≤ depth_limit
  pub quads : TwoBytes r.store.quads
  pub graphs : TwoBytes r.store.graphs
  pub bindings : All TwoBytes r.control.bindings
  pub fetched : All TwoBytes r.store.fetched
  pub items : All ItemFits r.control.items
  pub above : drop r.control.height r.control.items ≡ replicate (depth_limit - r.control.height) zero_item

-- ── lengths ─────────────────────────────────────────────────────────────────────────────────

words-length : (ns : List ℕ) → length (words ns) ≡ 2 * length ns
unfolding words
words-length [] = refl
words-length (n ∷ ns) = omega (arith, length-append (little_bytes 2 n) (words ns), little-length 2 n, words-length ns)

abbrev Four : SavedItem → Type 0
Four i = length i.last ≡ pair_limit

item-length : (i : SavedItem) → Four i → length (item_bytes i) ≡ 12
unfolding little_bytes
item-length i four = omega (arith, words-length i.last)

items-bytes : (is : List SavedItem) → All Four is → length (items_bytes is) ≡ 12 * length is
unfolding items_bytes
items-bytes [] fours = refl
items-bytes (i ∷ is) fours =
    omega (arith, length-append (item_bytes i) (items_bytes is), item-length i fours.0, items-bytes is fours.1)

-- ── marks ───────────────────────────────────────────────────────────────────────────────────

mark-good : (m : Bool) → T (leb (mark_of m) 1)
mark-good true = tt
mark-good false = tt

mark-again : (m : Bool) → eqb (mark_of m) 1 ≡ m
mark-again true = refl
mark-again false = refl

marks-good : (ms : List Bool) → T (every (λ m. leb m 1) (map mark_of ms))
marks-good [] = tt
marks-good (m ∷ ms) = and_make (leb (mark_of m) 1) (every (λ m. leb m 1) (map mark_of ms)) (mark-good m) (marks-good ms)

marks-again : (ms : List Bool) → map (eqb 1) (map mark_of ms) ≡ ms
marks-again [] = refl
marks-again (true ∷ ms) = ap (λ (l : List Bool). true ∷ l) (marks-again ms)
marks-again (false ∷ ms) = ap (λ (l : List Bool). false ∷ l) (marks-again ms)

-- ── what stands in bytes at an offset ───────────────────────────────────────────────────────

two-again : (n : ℕ) (rest : List ℕ) → TwoBytes n → word (little_bytes 2 n ++ rest) 0 ≡ n
unfolding little_bytes
two-again n rest h = omega arith

module _ (b : List ℕ) where
  -- after a part of some length comes what is behind it
  behind : (at n : ℕ) (p rest : List ℕ) → length p ≡ n → drop at b ≡ p ++ rest → drop (at + n) b ≡ rest
  behind at n p rest l e = sym (drop-drop n at b) ∙ (ap (drop n) e ∙ drop_at p rest n l)

  part-again : (at n : ℕ) (p rest : List ℕ) → length p ≡ n → drop at b ≡ p ++ rest → part b at n ≡ p
  part-again at n p rest l e = ap (take n) e ∙ take_at p rest n l

  word-again : (at n : ℕ) (rest : List ℕ) → TwoBytes n → drop at b ≡ little_bytes 2 n ++ rest → word b at ≡ n
  word-again at n rest h e =
      let here : at ≡ at + 0 = omega arith in
      ap (λ (k : ℕ). word b k) here ∙ (word-from b at 0 ∙ (ap (λ (s : List ℕ). word s 0) e ∙ two-again n rest h))

  words-again : (ns rest : List ℕ) (at : ℕ) → All TwoBytes ns → drop at b ≡ words ns ++ rest → words_from (length ns) b at ≡ ns
  unfolding words_from words
  words-again [] rest at h e = refl
  words-again (n ∷ ns) rest at h e =
      let k : drop at b ≡ little_bytes 2 n ++ (words ns ++ rest) = e ∙ append_assoc (little_bytes 2 n) (words ns) rest in
      ap₂ ◌∷◌ (word-again at n (words ns ++ rest) h.0 k)
      (words-again ns rest (at + 2) h.1 (behind at 2 (little_bytes 2 n) (words ns ++ rest) (little-length 2 n) k))

  -- ── an item ───────────────────────────────────────────────────────────────────────────────

  module _ (at : ℕ) (i : SavedItem) (rest : List ℕ) (e : drop at b ≡ item_bytes i ++ rest) where
    mark-there : byte b (at + 2) ≡ mark_of i.started
    unfolding little_bytes
    mark-there = byte-from b at 2 ∙ ap (λ (s : List ℕ). byte s 2) e

    zero-there : byte b (at + 3) ≡ 0
    unfolding little_bytes
    zero-there = byte-from b at 3 ∙ ap (λ (s : List ℕ). byte s 3) e

    last-there : drop (at + 4) b ≡ words i.last ++ rest
    unfolding little_bytes
    last-there = behind at 4 (little_bytes 2 i.«at» ++ (mark_of i.started ∷ 0 ∷ [])) (words i.last ++ rest) refl e

    item-again : Four i → ItemFits i → item_at b at ≡ i
    item-again four f =
        let front = mark_of i.started ∷ 0 ∷ words i.last in
        let offset = word-again at i.«at» (front ++ rest) f.offset (e ∙ append_assoc (little_bytes 2 i.«at») front rest) in
        let started = ap (λ (m : ℕ). eqb m 1) mark-there ∙ mark-again i.started in
        let last = ap (λ (n : ℕ). words_from n b (at + 4)) (sym four) ∙ words-again i.last rest (at + 4) f.numbers last-there in
        λ j. record { «at» = offset j; started = started j; last = last j }

  -- ── the items ─────────────────────────────────────────────────────────────────────────────

  -- an item in front of others
  in-front : (i : SavedItem) (is : List SavedItem) (rest : List ℕ) (at : ℕ) → drop at b ≡ items_bytes (i ∷ is) ++ rest
      → drop at b ≡ item_bytes i ++ (items_bytes is ++ rest)
  unfolding items_bytes
  in-front i is rest at e = e ∙ append_assoc (item_bytes i) (items_bytes is) rest

  items-good : (n : ℕ) (is : List SavedItem) (rest : List ℕ) (at : ℕ) → n ≤ length is → All Four is → drop at b ≡ items_bytes is ++ rest
      → T (items_good n b at)
  unfolding items_good
  items-good zero is rest at h fours e = tt
  items-good (suc n) [] rest at h fours e = absurd (omega arith)
  items-good (suc n) (i ∷ is) rest at h fours e =
      let k = in-front i is rest at e in
      let more = items_bytes is ++ rest in
      let mark : T (leb (byte b (at + 2)) 1) = rw (mark-there at i more k) (mark-good i.started) in
      let nought : T (eqb (byte b (at + 3)) 0) = rw (zero-there at i more k) tt in
      and_make (leb (byte b (at + 2)) 1) (eqb (byte b (at + 3)) 0 && items_good n b (at + 12)) mark
      (and_make (eqb (byte b (at + 3)) 0) (items_good n b (at + 12)) nought
      (items-good n is rest (at + 12) (omega arith) fours.1 (behind at 12 (item_bytes i) more (item-length i fours.0) k)))

  items-again : (left n : ℕ) (is : List SavedItem) (rest : List ℕ) (at : ℕ) → length is ≡ left → n ≤ left → All Four is → All ItemFits is
      → drop n is ≡ replicate (left - n) zero_item → drop at b ≡ items_bytes is ++ rest → items_from left n b at ≡ is
  unfolding items_from
  items-again left zero is rest at l h fours fits above e =
      let all : left ≡ left - 0 = omega arith in
      items-none b left at ∙ (ap (λ (m : ℕ). replicate m zero_item) all ∙ sym above)
  items-again zero (suc n) is rest at l h fours fits above e = absurd (omega arith)
  items-again (suc left) (suc n) [] rest at l h fours fits above e = absurd (omega arith)
  items-again (suc left) (suc n) (i ∷ is) rest at l h fours fits above e =
      let k = in-front i is rest at e in
      let more = items_bytes is ++ rest in
      let fewer : suc left - suc n ≡ left - n = omega arith in
      ap₂ ◌∷◌ (item-again at i more k fours.0 fits.0)
      (items-again left n is rest (at + 12) (omega arith) (omega arith) fours.1 fits.1
      (above ∙ ap (λ (m : ℕ). replicate m zero_item) fewer) (behind at 12 (item_bytes i) more (item-length i fours.0) k))

-- ── the whole ───────────────────────────────────────────────────────────────────────────────

module _ (r : SavedRun) (f : Fits r) where
  b : List ℕ
  b = saved_bytes r

  counts : List ℕ
  counts = r.control.height ∷ r.store.quads ∷ r.store.graphs ∷ []

  from-items : List ℕ
  from-items = items_bytes r.control.items

  from-fetched : List ℕ
  from-fetched = words r.store.fetched ++ from-items

  from-bindings : List ℕ
  from-bindings = words r.control.bindings ++ from-fetched

  from-bound : List ℕ
  from-bound = map mark_of r.control.bound ++ from-bindings

  from-types : List ℕ
  from-types = r.control.types ++ from-bound

  -- each part begins where the one before it ended
  at-counts : drop 0 b ≡ words counts ++ from-types
  unfolding saved_bytes b counts from-items from-fetched from-bindings from-bound from-types
  at-counts = refl

  at-types : drop types_offset b ≡ r.control.types ++ from-bound
  unfolding counts from-types words
  at-types = behind b 0 6 (words counts) from-types (words-length counts) at-counts

  at_bound : drop bound_offset b ≡ map mark_of r.control.bound ++ from-bindings
  unfolding from-bound
  at_bound = behind b 6 16 r.control.types from-bound f.shaped.types at-types

  at-bindings : drop bindings_offset b ≡ words r.control.bindings ++ from-fetched
  unfolding from-bindings
  at-bindings = behind b 22 16 (map mark_of r.control.bound) from-bindings (length-map r.control.bound mark_of ∙ f.shaped.bound) at_bound

  at-fetched : drop fetched_offset b ≡ words r.store.fetched ++ from-items
  unfolding from-fetched
  at-fetched = behind b 38 32 (words r.control.bindings) from-fetched (omega (arith, words-length r.control.bindings, f.shaped.bindings)) at-bindings

  at-items : drop items_offset b ≡ items_bytes r.control.items ++ []
  unfolding from-items
  at-items =
      behind b 70 128 (words r.store.fetched) from-items (omega (arith, words-length r.store.fetched, f.shaped.fetched)) at-fetched
      ∙ sym (append-nil from-items)

  -- 486 bytes in all
  pub saved-length : length (saved_bytes r) ≡ saved_width
  unfolding b
  saved-length =
      let items = items-bytes r.control.items f.shaped.lasts in
      let last = ap length (at-items ∙ append-nil (items_bytes r.control.items)) in
      omega (arith, length-drop items_offset b, last, items, f.shaped.items)

  counts-again : words_from 3 b 0 ≡ counts
  unfolding counts
  counts-again = words-again b counts from-types 0 (omega (arith, f.height), (f.quads, (f.graphs, tt))) at-counts

  height-again : word b 0 ≡ r.control.height
  unfolding words_from counts
  height-again = ap (λ (l : List ℕ). get_or l 0 0) counts-again

  quads-again : word b 2 ≡ r.store.quads
  unfolding words_from counts
  quads-again = ap (λ (l : List ℕ). get_or l 1 0) counts-again

  graphs-again : word b 4 ≡ r.store.graphs
  unfolding words_from counts
  graphs-again = ap (λ (l : List ℕ). get_or l 2 0) counts-again

  types-again : part b types_offset variable_limit ≡ r.control.types
  types-again = part-again b 6 16 r.control.types from-bound f.shaped.types at-types

  marks-there : part b bound_offset variable_limit ≡ map mark_of r.control.bound
  marks-there = part-again b 22 16 (map mark_of r.control.bound) from-bindings (length-map r.control.bound mark_of ∙ f.shaped.bound) at_bound

  bindings-again : words_from variable_limit b bindings_offset ≡ r.control.bindings
  bindings-again =
      ap (λ (n : ℕ). words_from n b bindings_offset) (sym f.shaped.bindings)
      ∙ words-again b r.control.bindings from-fetched bindings_offset f.bindings at-bindings

  fetched-again : words_from graph_limit b fetched_offset ≡ r.store.fetched
  fetched-again =
      ap (λ (n : ℕ). words_from n b fetched_offset) (sym f.shaped.fetched)
      ∙ words-again b r.store.fetched from-items fetched_offset f.fetched at-fetched

  all-items : items_from depth_limit (word b 0) b items_offset ≡ r.control.items
  all-items =
      ap (λ (n : ℕ). items_from depth_limit n b items_offset) height-again
      ∙ items-again b depth_limit r.control.height r.control.items [] items_offset f.shaped.items f.height f.shaped.lasts f.items f.above at-items

  -- and every test passes
  abbrev tests : ℕ → List ℕ → Bool
  tests height marks = leb height depth_limit && (every (λ m. leb m 1) marks && items_good height b items_offset)

  tested : T (tests (word b 0) (part b bound_offset variable_limit))
  tested =
      let marks = every (λ m. leb m 1) (map mark_of r.control.bound) in
      let items = items-good b r.control.height r.control.items [] items_offset (omega (arith, f.height, f.shaped.items)) f.shaped.lasts at-items in
      let here : T (tests r.control.height (map mark_of r.control.bound)) =
      and_make (leb r.control.height depth_limit) (marks && items_good r.control.height b items_offset) (le→leb r.control.height depth_limit f.height)
      (and_make marks (items_good r.control.height b items_offset) (marks-good r.control.bound) items) in
      subst⁻¹ (λ (n : ℕ). T (tests n (part b bound_offset variable_limit))) height-again
      (subst⁻¹ (λ (ms : List ℕ). T (tests r.control.height ms)) marks-there here)

  pub saved-again : saved_from (saved_bytes r) ≡ some r
  unfolding saved_from b
  saved-again = provided-holds (tests (word b 0) (part b bound_offset variable_limit)) tested (λ j. some (record {
    control = record {
      height = height-again j;
      types = types-again j;
      bound = (ap (map (eqb 1)) marks-there ∙ marks-again r.control.bound) j;
      bindings = bindings-again j;
      items = all-items j;
    };
    store = record { quads = quads-again j; graphs = graphs-again j; fetched = fetched-again j };
  }))
