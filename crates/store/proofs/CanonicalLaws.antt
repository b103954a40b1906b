-- Saved control and saved store without what means nothing are those of the state that is held.
use Prim.Native.Nat.{ℕ, zero, suc, ◌+◌, ◌-◌, ◌≤◌, ◌<◌}
use native.Mathlib.Omega.{arith}
use mathlib.Core.Path.{◌≡◌, refl, ap, sym, ◌∙◌}
use mathlib.Core.List.{List, [], ◌∷◌, ◌++◌, map, map-append}
use mathlib.Core.Bool.{Bool, true, false, cond, ◌&&◌, and-false}
use mathlib.Core.Option.{none, some}
use lib.Dec.{eqb, ltb, leb→le}
use lib.ListN.{length, get_or, take, replicate, length-take, length-map}
use lib.Seq.{take-suc, ext_get_or}
use borrow.Author.Tests.{eq-eqb, ne_eqb, lt-ltb, eqb-true}
use Rattle.definitions.specs.Limits.{graph_limit, depth_limit, variable_limit}
use Rattle.definitions.specs.Bytes.{byte, filled, onward}
use Rattle.definitions.specs.Tree.{Script, success, from_named, block, sequence, Binder}
use Rattle.definitions.specs.Reading.{read_script, parsed, is_each}
use Rattle.definitions.specs.Scope.{variables}
use Rattle.definitions.specs.Machine.{Item, Control, Store}
use Rattle.definitions.specs.Saved.{Place, place_in, last_tuple, no_item, stack_from, saved_item, saved_items, zero_item, saved_control, saved_store}
use Rattle.definitions.specs.Saved.{bindings_in, is_bound, number_or_zero, has_tuple, last_numbers}
use Rattle.definitions.specs.declared.SavedItem.{SavedItem}
use Rattle.definitions.specs.declared.SavedControl.{SavedControl}
use Rattle.definitions.specs.declared.SavedStore.{SavedStore}
use Rattle.laws.proofs.Options.{some_is, onward-inv}
use Rattle.laws.proofs.ScriptReads.{script-reads, parsed-reads}
use Rattle.laws.proofs.ReadBounds.{binders-bounded}
use Rattle.laws.proofs.Variables.{at-variable}
use Rattle.laws.proofs.Saved.{HoldsControl, HoldsStore, quads-in-count}
use Rattle.store.specs.Stack.{fresh_item}
use Rattle.store.specs.Canonical.{started_item, clean_item, clean_items, number_of, clean_bindings, canonical_control, canonical_store}

-- ── one item ────────────────────────────────────────────────────────────────────────────────

module _ (s : List ℕ) (i : SavedItem) where
  abbrev pick : Bool → SavedItem
  pick b = cond b (started_item s i) (fresh_item i.«at»)

  module _ (r : SavedItem) (e : r ≡ fresh_item i.«at») where
    pub not-started : i.started ≡ false → r ≡ clean_item s i
    unfolding clean_item
    not-started h = e ∙ sym (ap (λ (b : Bool). pick (b && (eqb (byte s i.«at») 0x73 && eqb (byte s (i.«at» + 1)) 1))) h)

    pub no_block : (k : ℕ) → k ≡ byte s i.«at» → (k ≡ 0x73 → ⊥) → r ≡ clean_item s i
    unfolding clean_item
    no_block k f h =
        e ∙ sym (ap (λ (b : Bool). pick (i.started && (b && eqb (byte s (i.«at» + 1)) 1))) (ap (λ (n : ℕ). eqb n 0x73) (sym f) ∙ ne_eqb k 0x73 h)
        ∙ ap pick (and-false i.started))

    pub no-each : (m : ℕ) → m ≡ byte s (i.«at» + 1) → (m ≡ 1 → ⊥) → r ≡ clean_item s i
    unfolding clean_item
    no-each m f h =
        e ∙ sym (ap (λ (b : Bool). pick (i.started && (eqb (byte s i.«at») 0x73 && b))) (ap (λ (n : ℕ). eqb n 1) (sym f) ∙ ne_eqb m 1 h)
        ∙ (ap (λ (b : Bool). pick (i.started && b)) (and-false (eqb (byte s i.«at») 0x73)) ∙ ap pick (and-false i.started)))

  -- an each block that has started
  pub each-started : i.started ≡ true → (k : ℕ) → k ≡ byte s i.«at» → k ≡ 0x73 → (m : ℕ) → m ≡ byte s (i.«at» + 1) → m ≡ 1
      → started_item s i ≡ clean_item s i
  unfolding clean_item
  each-started h k f kind m g mode =
      sym (ap (λ (b : Bool). pick (b && (eqb (byte s i.«at») 0x73 && eqb (byte s (i.«at» + 1)) 1))) h
      ∙ (ap (λ (b : Bool). pick (b && eqb (byte s (i.«at» + 1)) 1)) (eq-eqb (byte s i.«at») 0x73 (sym f ∙ kind))
      ∙ ap pick (eq-eqb (byte s (i.«at» + 1)) 1 (sym g ∙ mode))))

  -- as the code makes it
  pub each-made : (last : List ℕ) (n : ℕ) → last ≡ filled 4 (take n i.last) → n ≡ byte s (i.«at» + 2) → i.started ≡ true
      → (k : ℕ) → k ≡ byte s i.«at» → k ≡ 0x73 → (m : ℕ) → m ≡ byte s (i.«at» + 1) → m ≡ 1
      → record { «at» = i.«at»; started = true; last = last } ≡ clean_item s i
  each-made last n e count h k f kind m g mode =
      (λ t. record { «at» = i.«at»; started = sym h t; last = (e ∙ ap (λ (n : ℕ). filled 4 (take n i.last)) count) t })
      ∙ each-started h k f kind m g mode

-- the item of a record, as it is saved
module _ (s : List ℕ) (terms left : ℕ) (i : SavedItem) where
  abbrev item_of : Script → Item
  item_of c = record { script = c; last = last_tuple c i }

  -- kinds that keep no tuple
  plain-item : (o k : ℕ) → o ≡ i.«at» → k ≡ byte s i.«at» → (k ≡ 0x73 → ⊥) → fresh_item o ≡ clean_item s i
  plain-item o k e f h = no_block s i (fresh_item o) (ap fresh_item e) k f h

  each_item : (o : ℕ) (bs : List Binder) → o ≡ i.«at» → byte s i.«at» ≡ 0x73 → is_each s i.«at» ≡ true → length bs ≡ byte s (i.«at» + 2)
      → (b : Bool) → i.started ≡ b
      → record { «at» = o; started = has_tuple (cond b (some (take (length bs) i.last)) none); last = last_numbers (cond b (some (take (length bs) i.last)) none) } ≡ clean_item s i
  unfolding filled
  each_item o bs e k m n true h =
      (λ t. record { «at» = e t; started = sym h t; last = filled 4 (take (n t) i.last) })
      ∙ each-started s i h (byte s i.«at») refl k (byte s (i.«at» + 1)) refl (eqb-true (byte s (i.«at» + 1)) 1 m)
  each_item o bs e k m n false h = not-started s i (fresh_item o) (ap fresh_item e) h

  item-is : (c : Script) (n : ℕ) → read_script s terms (suc left) i.«at» ≡ some (c, n) → saved_item (item_of c) ≡ clean_item s i
  unfolding saved_item last_tuple filled
  item-is (success o) n e =
      let h = script-reads s terms left i.«at» (success o) n e in
      plain-item o 0x71 h.here (sym h.kind) (λ q. absurd (omega arith))
  item-is (from_named o x c) n e =
      let h = script-reads s terms left i.«at» (from_named o x c) n e in
      plain-item o 0x72 h.here (sym h.kind) (λ q. absurd (omega arith))
  item-is (block o false bs q c) n e =
      let h = script-reads s terms left i.«at» (block o false bs q c) n e in
      no-each s i (fresh_item o) (ap fresh_item h.here) (byte s (i.«at» + 1)) refl (λ m. absurd (differ (sym (eq-eqb (byte s (i.«at» + 1)) 1 m) ∙ h.is_mode)))
    where
      differ : ◌≡◌ {A = Bool} true false → ⊥
      differ e = let z : ◌≡◌ {A = ℕ} 0 1 = cc in omega arith
  item-is (block o true bs q c) n e =
      let h = script-reads s terms left i.«at» (block o true bs q c) n e in
      each_item o bs h.here h.kind h.is_mode (binders-bounded 0 4 (byte s (i.«at» + 2)) s (i.«at» + 3) bs h.binders).1 i.started refl
  item-is (sequence o c d) n e =
      let h = script-reads s terms left i.«at» (sequence o c d) n e in
      plain-item o 0x74 h.here (sym h.kind) (λ q. absurd (omega arith))

-- ── the stack ───────────────────────────────────────────────────────────────────────────────

module _ (terms : ℕ) (s : List ℕ) (root : Script) (reads : parsed terms s ≡ some root) where
  items-are : (n : ℕ) (items : List SavedItem) (stack : List Item) → n ≤ length items → stack_from root n items ≡ some stack
      → (length stack ≡ n) × (saved_items stack ≡ map (clean_item s) (take n items))
  unfolding stack_from saved_items
  items-are zero items [] h e = (refl, refl)
  items-are zero items (i ∷ stack) h e = absurd (let z = ap length (some_is e) in omega arith)
  items-are (suc n) items stack h e =
      let i = get_or items n no_item in
      let item : Place → Item = λ p. record { script = p.script; last = last_tuple p.script i } in
      let p = onward-inv (place_in root i.«at») (λ p. onward (stack_from root n items) (λ rest. some (item p ∷ rest))) e in
      let r = onward-inv (stack_from root n items) (λ rest. some (item p.0 ∷ rest)) p.2 in
      let rest = r.0 in
      let is : item p.0 ∷ rest ≡ stack = some_is r.2 in
      let k = items-are n items rest (omega arith) r.1 in
      let at = parsed-reads terms s root reads i.«at» p.0 p.1 in
      let one : saved_item (item p.0) ≡ clean_item s i = item-is s terms at.left i p.0.script at.ends at.read in (
        ap length (sym is) ∙ ap suc k.0,
        ap saved_items (sym is)
            ∙ ((λ t. k.1 t ++ (one t ∷ []))
            ∙ (sym (map-append (clean_item s) (take n items) (i ∷ [])) ∙ ap (map (clean_item s)) (sym (take-suc items n no_item h)))),
      )

-- ── the whole ───────────────────────────────────────────────────────────────────────────────

bound-is : (a b : Bool) (n : ℕ) → a ≡ true → is_bound (cond (a && b) (some n) none) ≡ b
bound-is true true n e = refl
bound-is true false n e = refl
bound-is false b n e = absurd (let z : ◌≡◌ {A = ℕ} 0 1 = cc in omega arith)

number_is : (a b : Bool) (n : ℕ) → a ≡ true → number_or_zero (cond (a && b) (some n) none) ≡ cond b n 0
number_is true true n e = refl
number_is true false n e = refl
number_is false b n e = absurd (let z : ◌≡◌ {A = ℕ} 0 1 = cc in omega arith)

module _ (terms : ℕ) (script : List ℕ) (root : Script) (reads : parsed terms script ≡ some root) where
  pub control-is : (saved : SavedControl) (c : Control) → length saved.bound ≡ variable_limit → length saved.items ≡ depth_limit → HoldsControl root saved c
      → canonical_control script saved ≡ saved_control saved.types c
  unfolding saved_control clean_items clean_bindings bindings_in
  control-is saved c sixteen levels h =
      let low = leb→le saved.height depth_limit h.height in
      let β = c.bindings in
      let k = items-are terms script root reads saved.height saved.items c.stack (omega (arith, levels)) h.stack in
      let height = k.0 in
      let bound : saved.bound ≡ map (λ v. is_bound (β v)) variables =
      ext_get_or false saved.bound (map (λ v. is_bound (β v)) variables) (sixteen) (λ v l.
      let w : v < 16 = omega (arith, sixteen) in
      sym (at-variable (λ v. is_bound (β v)) false v w
      ∙ (ap (λ b. is_bound (b v)) (sym h.bindings) ∙ bound-is (ltb v 16) (get_or saved.bound v false) (get_or saved.bindings v 0) (lt-ltb v 16 w)))) in
      let number = number_of saved.bound saved.bindings in
      let numbers : map number variables ≡ map (λ v. number_or_zero (β v)) variables =
      ext_get_or 0 (map number variables) (map (λ v. number_or_zero (β v)) variables) refl (λ v w.
      at-variable number 0 v w
      ∙ sym (at-variable (λ v. number_or_zero (β v)) 0 v w
      ∙ (ap (λ b. number_or_zero (b v)) (sym h.bindings) ∙ number_is (ltb v 16) (get_or saved.bound v false) (get_or saved.bindings v 0) (lt-ltb v 16 w)))) in
      let items : map (clean_item script) (take saved.height saved.items) ++ replicate (24 - saved.height) zero_item
      ≡ saved_items c.stack ++ replicate (24 - length (saved_items c.stack)) zero_item =
      let size : saved.height ≡ length (saved_items c.stack) =
      omega (arith, ap length k.1, length-map (take saved.height saved.items) (clean_item script), length-take saved.height saved.items, levels) in
      λ t. sym k.1 t ++ replicate (24 - size t) zero_item in
      λ t. record { height = sym height t; types = saved.types; bound = bound t; bindings = numbers t; items = items t }

pub store_is : (term_bytes quad_bytes : List ℕ) (saved : SavedStore) (s : Store) → length saved.fetched ≡ graph_limit → HoldsStore term_bytes quad_bytes saved s
    → canonical_store saved ≡ saved_store s
unfolding saved_store
store_is term_bytes quad_bytes saved s places h =
    let few = leb→le saved.graphs graph_limit h.graphs in
    let graphs : saved.graphs ≡ length s.fetched = omega (arith, length-take saved.graphs saved.fetched, places, ap length h.fetched) in
    λ t. record { quads = sym (quads-in-count saved.quads quad_bytes s.quads h.quads) t; graphs = graphs t; fetched = filled graph_limit (h.fetched t) }
