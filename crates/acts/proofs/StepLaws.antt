-- Laws of one step: the item on top, its record in the script, and what the saved control becomes.
use Rattle.std.specs.Prelude.{Some, None}
use Rattle.std.specs.declared.option.Option as Answer
use Prim.Native.Nat.{ℕ, zero, suc, ◌+◌, ◌-◌, ◌*◌, ◌≤◌, ◌<◌}
use native.Mathlib.Omega.{arith}
use mathlib.Core.Path.{◌≡◌, refl, ap, ap₂, sym, subst, ◌∙◌}
use mathlib.Core.List.{List, [], ◌∷◌}
use mathlib.Core.Bool.{Bool, true, false, cond, ◌&&◌}
use mathlib.Core.Option.{Option, none, some}
use mathlib.Core.Logic.{⊎_elim}
use lib.IntN.{ℤ}
use lib.Dec.{leb, ltb, leb→le, ltb→lt}
use lib.ListN.{length, get_or, get_elem?, take, replicate}
use lib.Seq.{take_at}
use Rattle.definitions.specs.Limits.{depth_limit, script_limit}
use Rattle.definitions.specs.Bytes.{byte, word, past, filled, Got}
use Rattle.definitions.specs.Lists.{is_in}
use Rattle.definitions.specs.Terms.{Term}
use Rattle.definitions.specs.Scope.{variables_of}
use Rattle.definitions.specs.Evaluate.{Bindings, Named, named, number_of, term_of_number, with_term, is_uri}
use Rattle.definitions.specs.Search.{bind}
use Rattle.definitions.specs.Tree.{Script, success, from_named, block, sequence, Name, var, const, Binder, Query}
use Rattle.definitions.specs.Reading.{read_name, read_script, binders_at, name_rows, NameShape, name_of}
use Rattle.definitions.specs.Typing.{type_at}
use Rattle.definitions.specs.Outcome.{Outcome, ok, ◌>>◌, demand, from_named_no_uri}
use Rattle.definitions.specs.Machine.{State, Item, Next, step, stand, fresh, with_stack, with_answer, act, enter_named, enter_once, enter_each}
use Rattle.definitions.specs.Calls.{setting_of}
use Rattle.definitions.specs.Saved.{offset_of, saved_item, saved_control, saved_store, number_or_zero}
use Rattle.definitions.specs.declared.SavedItem.{SavedItem}
use Rattle.definitions.specs.declared.SavedControl.{SavedControl}
use Rattle.definitions.specs.declared.SavedStore.{SavedStore}
use Rattle.definitions.specs.declared.RunState.TheVariants.{Wanted, Waiting}
use Rattle.laws.proofs.NoFault.{ok-is, then_ok, and_ok}
use Rattle.laws.proofs.Tests.{and_left, and_right}
use Rattle.laws.proofs.Options.{some-not-none, pair_is, provided-inv}
use Rattle.laws.specs.Lists.{All}
use Rattle.laws.specs.Ends.{Ended, after_in}
use Rattle.laws.proofs.Ends.{query-ends}
use Rattle.laws.proofs.Places.{place_found}
use Rattle.laws.proofs.Reading.{script-none, byte-out, row-keys}
use Rattle.laws.proofs.Levels.{name-more, script-more}
use Rattle.laws.proofs.ReadBounds.{script-within, binders-bounded}
use Rattle.laws.proofs.Saved.{stack-low}
use Rattle.laws.proofs.Variables.{at-variable}
use Rattle.laws.proofs.Ranges.{split}
use Rattle.laws.specs.ScriptReads.{ReadsAs, NamedAt, BlockAt, SequenceAt}
use Rattle.laws.proofs.ScriptReads.{script-reads, parsed-reads, ReadAt}
use Rattle.laws.specs.Sound.{BindersBounded}
use Rattle.laws.proofs.SoundMeans.{ItemFacts, StackFacts, facts}
use Rattle.laws.specs.ReadAnswers.{next_of}
use Rattle.std.specs.Prelude.{Option as Maybe, Some, None, Ok, Err}
use Rattle.store.specs.Stack.{pushed, popped, replaced, fresh_item, bound_all}
use Rattle.store.specs.Graphs.{fetched_in}
use Rattle.laws.specs.Pairs.{pair_variables}
use Rattle.acts.specs.Steps.{Stepped, stepped_of, OnTop, Acts, NameReads, NumberOf, BlockReads, BodyAt, answer_of, EntersOnce, EntersEach}
use Rattle.store.proofs.ControlStates.{saved-push, saved-pop, saved-replace, fresh-is}
use Rattle.laws.proofs.Pairs.{pair-variables}
use Rattle.store.proofs.BindLaws.{saved-bind-all}

-- ── what the code reads ─────────────────────────────────────────────────────────────────────

-- a record of kinds 71 to 74 carries its offset
reads-offset : (s : List ℕ) (terms left at : ℕ) (c : Script) (n : ℕ) → read_script s terms left at ≡ some (c, n) → offset_of c ≡ at
reads-offset s terms zero at c n e = absurd (some-not-none e (script-none s terms at))
reads-offset s terms (suc left) at (success o) n e = (script-reads s terms left at (success o) n e).here
reads-offset s terms (suc left) at (from_named o x c) n e = (script-reads s terms left at (from_named o x c) n e).here
reads-offset s terms (suc left) at (block o each bs q c) n e = (script-reads s terms left at (block o each bs q c) n e).here
reads-offset s terms (suc left) at (sequence o c d) n e = (script-reads s terms left at (sequence o c d) n e).here

-- there is a level for it
left-pos : (s : List ℕ) (terms left at : ℕ) (c : Script) (n : ℕ) → read_script s terms left at ≡ some (c, n) → 0 < left
left-pos s terms zero at c n e = absurd (some-not-none e (script-none s terms at))
left-pos s terms (suc left) at c n e = omega arith

-- the end of what was read, as a reader answers it
module _ {A : Type 0} (o : Got A) (a : A) (n : ℕ) (e : o ≡ some (a, n)) (r : Answer.Option ℕ) (f : r ≡ next_of o) where
  pub end_is : (m : ℕ) → r ≡ Some m → m ≡ n
  unfolding next_of
  end_is m g = let h : Some m ≡ Some n = sym g ∙ (f ∙ ap next_of e) in cc

  pub not-lost : r ≡ None → ⊥
  unfolding next_of
  not-lost g = let h : None ≡ Some n = sym g ∙ (f ∙ ap next_of e) in let z : ◌≡◌ {A = ℕ} 0 1 = cc in omega arith

-- ── pairs ───────────────────────────────────────────────────────────────────────────────────

all-below : (terms : ℕ) (bs : List Binder) → BindersBounded terms bs → All (λ v. v < 16) (variables_of bs)
all-below terms [] h = tt
all-below terms (b ∷ bs) h = (h.0, all-below terms bs h.1)

binders-below : (left count : ℕ) (s : List ℕ) (at : ℕ) (bs : List Binder) → binders_at left count s at ≡ some bs → All (λ v. v < 16) (variables_of bs)
binders-below left count s at bs e = all-below 0 bs (binders-bounded 0 left count s at bs e).0

pairs_below : (left count : ℕ) (s : List ℕ) (at : ℕ) (bs : List Binder) → binders_at left count s at ≡ some bs → (k : ℕ) → k < count → byte s (at + 2 * k) < 16
unfolding pair_variables
pairs_below left count s at bs e = go count at (subst (All (λ v. v < 16)) (pair-variables left count s at bs e) (binders-below left count s at bs e))
  where
    go : (count at : ℕ) → All (λ v. v < 16) (pair_variables count s at) → (k : ℕ) → k < count → byte s (at + 2 * k) < 16
    go zero at h k l = absurd (omega arith)
    go (suc count) at h zero l = let e : at + 2 * 0 ≡ at = omega arith in rw e h.0
    go (suc count) at h (suc k) l = let e : at + 2 * suc k ≡ at + 2 + 2 * k = omega arith in rw e (go count (at + 2) h.1 k (omega arith))

-- ── names ───────────────────────────────────────────────────────────────────────────────────

-- a variable or a constant, by its kind
abbrev NameSays : List ℕ → ℕ → Name → ℕ → Type 0
NameSays s at (var v) k = (k ≡ 0x31) × (v ≡ byte s (at + 1)) × (v < 16) × (at + 2 ≤ length s)
NameSays s at (const c) k = (k ≡ 0x32) × (c ≡ word s (at + 1)) × (at + 3 ≤ length s)

name-says : (s : List ℕ) (terms left at : ℕ) (x : Name) (n : ℕ) → read_name s terms left at ≡ some (x, n) → NameSays s at x (byte s at)
unfolding read_name
name-says s terms zero at x n e = absurd (some-not-none e refl)
name-says s terms (suc left) at x n e =
    row-keys (λ k sh. name_of sh s terms at ≡ some (x, n) → NameSays s at x k) (byte s at) name_rows NameShape.unknown
    (is-var, (is-const, tt)) (λ h. absurd (some-not-none h refl)) e
  where
    is-var : name_of NameShape.variable s terms at ≡ some (x, n) → NameSays s at x 0x31
    is-var h =
        let b = byte s (at + 1) in
        let p = provided-inv (leb (past at 1) (length s) && ltb b 16) (some (var b, past at 1)) h in
        let q = pair_is p.1 in
        subst (λ (y : Name). NameSays s at y 0x31) q.0
        (refl, refl, ltb→lt b 16 (and_right (leb (past at 1) (length s)) (ltb b 16) p.0), leb→le (past at 1) (length s) (and_left (leb (past at 1) (length s)) (ltb b 16) p.0))

    is-const : name_of NameShape.constant s terms at ≡ some (x, n) → NameSays s at x 0x32
    is-const h =
        let c = word s (at + 1) in
        let p = provided-inv (leb (past at 2) (length s) && ltb c terms) (some (const c, past at 2)) h in
        let q = pair_is p.1 in
        subst (λ (y : Name). NameSays s at y 0x32) q.0
        (refl, refl, leb→le (past at 2) (length s) (and_left (leb (past at 2) (length s)) (ltb c terms) p.0))

-- what it holds of the bytes at its place
pub record NameBytes (s : List ℕ) (at : ℕ) : Type 0 where
  pub low : at + 2 ≤ length s
  pub variable : byte s at ≡ 0x31 → byte s (at + 1) < 16
  pub constant : (byte s at ≡ 0x31 → ⊥) → at + 3 ≤ length s

pub name-bytes : (s : List ℕ) (at : ℕ) → NameReads s at → NameBytes s at
name-bytes s at n = go n.name (name-says s n.loaded n.left at n.name n.ends n.read)
  where
    go : (x : Name) → NameSays s at x (byte s at) → NameBytes s at
    go (var v) h = record { low = h.3; variable = λ k. omega (arith, h.1, h.2); constant = λ k. absurd (k h.0) }
    go (const c) h = record { low = omega (arith, h.2); variable = λ k. absurd (omega (arith, h.0)); constant = λ k. h.2 }

pub variable-number : (run : SavedControl) (s : List ℕ) (at : ℕ) → byte s at ≡ 0x31 → (v : ℕ) → v ≡ byte s (at + 1) → NumberOf run s at (get_or run.bindings v 0)
unfolding named saved_control
variable-number run s at k v e σ saved n g h = go n.name (name-says s n.loaded n.left at n.name n.ends n.read) h
  where
    β : Bindings
    β = σ.control.bindings

    number : (o : Option ℕ) → term_of_number σ.store.terms o ≡ ok g → o ≡ some g.number
    number none j = absurd (let z : ◌≡◌ {A = ℕ} 0 1 = cc in omega arith)
    number (some i) j = ap some (there (get_elem? σ.store.terms i) j)
      where
        there : (o : Option Term) → with_term i o ≡ ok g → i ≡ g.number
        there none j = absurd (let z : ◌≡◌ {A = ℕ} 0 1 = cc in omega arith)
        there (some t) j = let q : record { number = i; term = t } ≡ g = ok-is j in ap (λ (y : Named). y.number) q

    go : (x : Name) → NameSays s at x (byte s at) → term_of_number σ.store.terms (number_of β x) ≡ ok g → get_or run.bindings v 0 ≡ g.number
    go (var w) y j =
        let same : v ≡ w = e ∙ sym y.1 in
        ap (λ (r : SavedControl). get_or r.bindings v 0) saved
        ∙ (at-variable (λ v. number_or_zero (β v)) 0 v (omega (arith, y.2)) ∙ (ap (λ (u : ℕ). number_or_zero (β u)) same ∙ ap number_or_zero (number (β w) j)))
    go (const c) y j = absurd (omega (arith, y.0))

pub constant_number : (run : SavedControl) (s : List ℕ) (at : ℕ) → (byte s at ≡ 0x31 → ⊥) → (c : ℕ) → c ≡ word s (at + 1) → NumberOf run s at c
unfolding named
constant_number run s at k c e σ saved n g h = go n.name (name-says s n.loaded n.left at n.name n.ends n.read) h
  where
    go : (x : Name) → NameSays s at x (byte s at) → term_of_number σ.store.terms (number_of σ.control.bindings x) ≡ ok g → c ≡ g.number
    go (var w) y j = absurd (k y.0)
    go (const d) y j = e ∙ (sym y.1 ∙ there (get_elem? σ.store.terms d) j)
      where
        there : (o : Option Term) → with_term d o ≡ ok g → d ≡ g.number
        there none j = absurd (let z : ◌≡◌ {A = ℕ} 0 1 = cc in omega arith)
        there (some t) j = let q : record { number = d; term = t } ≡ g = ok-is j in ap (λ (y : Named). y.number) q

abbrev moved_to : SavedControl → Stepped
moved_to control = Ok control

-- ── the item on top ─────────────────────────────────────────────────────────────────────────

module _ {script : List ℕ} {loaded : ℕ} {run : SavedControl} {at : ℕ} (x : OnTop script loaded run at) where
  abbrev s : State
  s = x.here.state

  abbrev types : List ℕ
  types = run.types

  abbrev β : Bindings
  β = s.control.bindings

  abbrev saved_with : Bindings → List Item → SavedControl
  saved_with β stack = saved_control types (record { stack = stack; bindings = β })

  pub run_is : run ≡ saved_with β (x.item ∷ x.rest)
  run_is = x.here.saved ∙ ap (saved_with β) x.stack

  pub height-is : run.height ≡ suc (length x.rest)
  unfolding saved_control
  height-is = ap (λ (r : SavedControl). r.height) run_is

  pub room : length x.rest < 24
  room =
      let low = stack-low x.here.checked x.here.accepted s x.here.sound in
      omega (arith, low, ap length x.stack)

  pub item-facts : ItemFacts x.here.checked.root (length s.store.terms) s.control.bindings (suc (length x.rest)) x.item
  item-facts =
      (subst (StackFacts x.here.checked.root (length s.store.terms) s.control.bindings) x.stack
      (facts x.here.checked x.here.accepted s x.here.sound).stack).0

  top_read : ReadAt script loaded at depth_limit (record { depth = item-facts.depth; script = x.item.script })
  top_read =
      subst (λ (i : ℕ). ReadAt script loaded i depth_limit (record { depth = item-facts.depth; script = x.item.script })) (sym x.place)
      (parsed-reads loaded script x.here.checked.root x.here.reads (offset_of x.item.script) (record { depth = item-facts.depth; script = x.item.script })
      (place_found 0 script_limit x.here.accepted.placed item-facts.in_root))

  -- its record, with the levels that are left below it
  pub record Top : Type 0 where
    pub left : ℕ
    pub ends : ℕ
    pub deep : suc (length x.rest) + left ≤ 24
    pub is : ReadsAs script loaded left at x.item.script ends

  pub top : Top
  top =
      let r = top_read in
      record {
        left = r.left;
        ends = r.ends;
        deep = omega (arith, r.depth, item-facts.deep);
        is = script-reads script loaded r.left at x.item.script r.ends r.read;
      }

  pub inside : (k : ℕ) → byte script at ≡ k → 0 < k → at < length script
  inside k e h = ⊎_elim (λ l. absurd (omega (arith, byte-out script at l))) (λ l. l) (split (length script) at)

  -- by its kind
  module _ (P : Script → Type 0) where
    pub if-success : byte script at ≡ 0x71 → ((o : ℕ) → P (success o)) → P x.item.script
    if-success k f = go x.item.script top.is
      where
        go : (c : Script) → ReadsAs script loaded top.left at c top.ends → P c
        go (success o) r = f o
        go (from_named o y c) r = absurd (let z = r.kind in omega arith)
        go (block o each bs q c) r = absurd (let z = r.kind in omega arith)
        go (sequence o c d) r = absurd (let z = r.kind in omega arith)

    pub if-named : byte script at ≡ 0x72
        → ((o : ℕ) (n : Name) (c : Script) → NamedAt script loaded top.left at o n c top.ends → P (from_named o n c)) → P x.item.script
    if-named k f = go x.item.script top.is
      where
        go : (c : Script) → ReadsAs script loaded top.left at c top.ends → P c
        go (success o) r = absurd (let z = r.kind in omega arith)
        go (from_named o y c) r = f o y c r
        go (block o each bs q c) r = absurd (let z = r.kind in omega arith)
        go (sequence o c d) r = absurd (let z = r.kind in omega arith)

    pub if-block : byte script at ≡ 0x73
        → ((o : ℕ) (each : Bool) (bs : List Binder) (q : Query) (c : Script) → BlockAt script loaded top.left at o each bs q c top.ends → P (block o each bs q c))
        → P x.item.script
    if-block k f = go x.item.script top.is
      where
        go : (c : Script) → ReadsAs script loaded top.left at c top.ends → P c
        go (success o) r = absurd (let z = r.kind in omega arith)
        go (from_named o y c) r = absurd (let z = r.kind in omega arith)
        go (block o each bs q c) r = f o each bs q c r
        go (sequence o c d) r = absurd (let z = r.kind in omega arith)

    pub if-sequence : byte script at ≡ 0x74
        → ((o : ℕ) (c d : Script) → SequenceAt script loaded top.left at o c d top.ends → P (sequence o c d)) → P x.item.script
    if-sequence k f = go x.item.script top.is
      where
        go : (c : Script) → ReadsAs script loaded top.left at c top.ends → P c
        go (success o) r = absurd (let z = r.kind in omega arith)
        go (from_named o y c) r = absurd (let z = r.kind in omega arith)
        go (block o each bs q c) r = absurd (let z = r.kind in omega arith)
        go (sequence o c d) r = f o c d r

  abbrev outcome : (ranks : List ℕ) → ℤ → Script → Outcome Next
  outcome ranks clock c = act (setting_of x.here.checked ranks clock) (type_at x.here.checked.types) s x.rest x.item.last c

  -- ── success ───────────────────────────────────────────────────────────────────────────────

  pub success-acts : byte script at ≡ 0x71 → (saved : SavedControl) → saved ≡ popped run → Acts x (Ok saved)
  unfolding act stepped_of
  success-acts k saved f ranks clock n =
      if-success (λ c. outcome ranks clock c ≡ ok n → Ok saved ≡ stepped_of run n) k (λ o h.
      let is : step (with_stack s x.rest) ≡ n = cc in
      (ap moved_to (f ∙ (ap popped run_is ∙ saved-pop types β x.item x.rest room)) ∙ ap (stepped_of run) is))

  -- ── a sequence ────────────────────────────────────────────────────────────────────────────

  -- what the reader finds of its two scripts
  pub record Two (r : Answer.Option ℕ) : Type 0 where
    pub first : Script
    pub second : Script
    pub next : ℕ
    pub is : x.item.script ≡ sequence at first second
    pub first_at : offset_of first ≡ at + 1
    pub second_at : offset_of second ≡ next
    pub low : next < length script
    pub room2 : suc (length x.rest) < 24
    pub found : (m : ℕ) → r ≡ Some m → m ≡ next
    pub there : r ≡ None → ⊥

  pub two : byte script at ≡ 0x74 → (r : Answer.Option ℕ) → r ≡ next_of (read_script script loaded 24 (at + 1)) → Two r
  two k r f = if-sequence (λ c. x.item.script ≡ c → Two r) k make refl
    where
      make : (o : ℕ) (c d : Script) → SequenceAt script loaded top.left at o c d top.ends → x.item.script ≡ sequence o c d → Two r
      make o c d q e =
          let up : read_script script loaded 24 (at + 1) ≡ some (c, q.next) =
          script-more script loaded top.left 24 (at + 1) (omega (arith, top.deep)) c q.next q.first in
          let pos = left-pos script loaded top.left (at + 1) c q.next q.first in
          let inside = script-within script loaded top.left q.next d top.ends q.second in
          record {
            first = c;
            second = d;
            next = q.next;
            is = e ∙ ap (λ (i : ℕ). sequence i c d) q.here;
            first_at = reads-offset script loaded top.left (at + 1) c q.next q.first;
            second_at = reads-offset script loaded top.left q.next d top.ends q.second;
            low = omega (arith, inside.from, inside.to);
            room2 = omega (arith, top.deep);
            found = λ m g. end_is (read_script script loaded 24 (at + 1)) c q.next up r f m g;
            there = λ g. not-lost (read_script script loaded 24 (at + 1)) c q.next up r f g;
          }

  pub sequence-acts : (r : Answer.Option ℕ) (t : Two r) (m : ℕ) → r ≡ Some m → (below above : SavedItem) → below ≡ fresh_item m → above ≡ fresh_item (at + 1)
      → (saved : SavedControl) → saved ≡ pushed (replaced run below) above → Acts x (Ok saved)
  unfolding act stepped_of
  sequence-acts r t m g below above b a saved f ranks clock n k =
      let item_of : (c : Script) (i : SavedItem) (o : ℕ) → i ≡ fresh_item o → offset_of c ≡ o → i ≡ saved_item (fresh c) =
      λ c i o p q. p ∙ (ap fresh_item (sym q) ∙ sym (fresh-is c)) in
      let lower : replaced run below ≡ saved_with β (fresh t.second ∷ x.rest) =
      ap₂ replaced run_is (item_of t.second below m b (t.second_at ∙ sym (t.found m g)))
      ∙ saved-replace types β x.item x.rest room (fresh t.second) in
      let upper : saved ≡ saved_with β (fresh t.first ∷ fresh t.second ∷ x.rest) =
      f ∙ (ap₂ pushed lower (item_of t.first above (at + 1) a t.first_at)
      ∙ saved-push types β (fresh t.first) (fresh t.second ∷ x.rest) t.room2) in
      let is : step (with_stack s (fresh t.first ∷ fresh t.second ∷ x.rest)) ≡ n =
      (let j : outcome ranks clock (sequence at t.first t.second) ≡ ok n = ap (outcome ranks clock) (sym t.is) ∙ k in cc) in
      ap moved_to upper ∙ ap (stepped_of run) is

  -- ── from named ────────────────────────────────────────────────────────────────────────────

  -- what the reader finds of its name and its script
  pub record From (r : Answer.Option ℕ) : Type 0 where
    pub name : NameReads script (at + 1)
    pub body : Script
    pub next : ℕ
    pub is : x.item.script ≡ from_named at name.name body
    pub body_at : offset_of body ≡ next
    pub low : next < length script
    pub found : (m : ℕ) → r ≡ Some m → m ≡ next
    pub there : r ≡ None → ⊥

  pub from : byte script at ≡ 0x72 → (r : Answer.Option ℕ) → r ≡ next_of (read_name script loaded 24 (at + 1)) → From r
  from k r f = if-named (λ c. x.item.script ≡ c → From r) k make refl
    where
      make : (o : ℕ) (y : Name) (c : Script) → NamedAt script loaded top.left at o y c top.ends → x.item.script ≡ from_named o y c → From r
      make o y c q e =
          let up : read_name script loaded 24 (at + 1) ≡ some (y, q.next) =
          name-more script loaded top.left 24 (at + 1) (omega (arith, top.deep)) y q.next q.name in
          let within = script-within script loaded top.left q.next c top.ends q.script in
          record {
            name = record { loaded = loaded; left = top.left; name = y; ends = q.next; read = q.name };
            body = c;
            next = q.next;
            is = e ∙ ap (λ (i : ℕ). from_named i y c) q.here;
            body_at = reads-offset script loaded top.left q.next c top.ends q.script;
            low = omega (arith, within.from, within.to);
            found = λ m g. end_is (read_name script loaded 24 (at + 1)) y q.next up r f m g;
            there = λ g. not-lost (read_name script loaded 24 (at + 1)) y q.next up r f g;
          }

  -- the fetched list of the saved store is the state's
  fetched-is : (store : SavedStore) → store ≡ saved_store s.store → fetched_in store ≡ s.store.fetched
  unfolding saved_store filled
  fetched-is store stored =
      ap fetched_in stored ∙ take_at s.store.fetched (replicate (64 - length s.store.fetched) 0) (length s.store.fetched) refl

  module _ (r : Answer.Option ℕ) (t : From r) (graph : ℕ) (number : NumberOf run script (at + 1) graph) where
    -- the machine's own way: the graph's number, and what it does
    named-acts : (b : Bool) → is_in graph s.store.fetched ≡ b → (ranks : List ℕ) (clock : ℤ) (n : Next) → outcome ranks clock x.item.script ≡ ok n
        → n ≡ cond b (step (with_stack s (fresh t.body ∷ x.rest))) (stand (Wanted graph))
    unfolding act enter_named
    named-acts b e ranks clock n k =
        let c = t.body in
        let after : Named → Outcome Next = λ g. demand (is_uri g.term) from_named_no_uri >> ok (enter_named s (fresh c ∷ x.rest) g) in
        let g = then_ok {f = after} (ap (outcome ranks clock) (sym t.is) ∙ k) in
        let j : enter_named s (fresh c ∷ x.rest) g.0 ≡ n = ok-is (and_ok (demand (is_uri g.0.term) from_named_no_uri) g.2) in
        let q : graph ≡ g.0.number = number s x.here.saved t.name g.0 g.1 in
        sym j ∙ (ap (λ (i : ℕ). cond (is_in i s.store.fetched) (step (with_stack s (fresh c ∷ x.rest))) (stand (Wanted i))) (sym q)
        ∙ ap (λ (b : Bool). cond b (step (with_stack s (fresh c ∷ x.rest))) (stand (Wanted graph))) e)

    module _ (store : SavedStore) (stored : store ≡ saved_store s.store) where
      pub fetched-acts : (b : Bool) → b ≡ is_in graph (fetched_in store) → b ≡ true → (m : ℕ) → r ≡ Some m → (item : SavedItem) → item ≡ fresh_item m
          → (saved : SavedControl) → saved ≡ replaced run item → Acts x (Ok saved)
      unfolding stepped_of
      fetched-acts b e h m g item i saved f ranks clock n k =
          let c = t.body in
          let is : is_in graph s.store.fetched ≡ true = ap (is_in graph) (sym (fetched-is store stored)) ∙ (sym e ∙ h) in
          let new : item ≡ saved_item (fresh c) = i ∙ (ap fresh_item (t.found m g ∙ sym t.body_at) ∙ sym (fresh-is c)) in
          ap moved_to (f ∙ (ap₂ replaced run_is new ∙ saved-replace types β x.item x.rest room (fresh c)))
          ∙ ap (stepped_of run) (sym (named-acts true is ranks clock n k))

      pub wanted-acts : (b : Bool) → b ≡ is_in graph (fetched_in store) → b ≡ false → Acts x (Err (Wanted graph))
      unfolding stepped_of
      wanted-acts b e h ranks clock n k =
          let is : is_in graph s.store.fetched ≡ false = ap (is_in graph) (sym (fetched-is store stored)) ∙ (sym e ∙ h) in
          ap (stepped_of run) (sym (named-acts false is ranks clock n k))

  -- ── a block ───────────────────────────────────────────────────────────────────────────────

  pub record Blocked : Type 0 where
    pub reads : BlockReads script loaded at
    pub is : x.item.script ≡ block at reads.each reads.binders reads.query reads.body
    pub body_at : offset_of reads.body ≡ reads.reads.next
    pub low : reads.reads.next < length script
    pub room2 : suc (length x.rest) < 24
    pub count : length reads.binders ≡ byte script (at + 2)
    pub four : byte script (at + 2) ≤ 4
    pub variables : variables_of reads.binders ≡ pair_variables (byte script (at + 2)) script (at + 3)
    pub below16 : All (λ v. v < 16) (variables_of reads.binders)
    pub pairs16 : (k : ℕ) → k < byte script (at + 2) → byte script (at + 3 + 2 * k) < 16

  pub blocked : byte script at ≡ 0x73 → Blocked
  blocked k = if-block (λ c. x.item.script ≡ c → Blocked) k make refl
    where
      make : (o : ℕ) (each : Bool) (bs : List Binder) (q : Query) (c : Script) → BlockAt script loaded top.left at o each bs q c top.ends
          → x.item.script ≡ block o each bs q c → Blocked
      make o each bs q c b e =
          let within = script-within script loaded top.left b.next c top.ends b.script in
          let n = byte script (at + 2) in
          let reads : BlockReads script loaded at =
          record { left = top.left; offset = o; each = each; binders = bs; query = q; body = c; ends = top.ends; few = omega (arith, top.deep); reads = b } in
          record {
            reads = reads;
            is = e ∙ ap (λ (i : ℕ). block i each bs q c) b.here;
            body_at = reads-offset script loaded top.left b.next c top.ends b.script;
            low = omega (arith, within.from, within.to);
            room2 = omega (arith, top.deep, left-pos script loaded top.left b.next c top.ends b.script);
            count = (binders-bounded loaded 4 n script (at + 3) bs b.binders).1;
            four = (binders-bounded loaded 4 n script (at + 3) bs b.binders).2;
            variables = pair-variables 4 n script (at + 3) bs b.binders;
            below16 = binders-below 4 n script (at + 3) bs b.binders;
            pairs16 = pairs_below 4 n script (at + 3) bs b.binders;
          }

  -- the run with the block's variables bound
  module _ (b : Blocked) (tuple : List ℕ) where
    abbrev bs : List Binder
    bs = b.reads.binders

    abbrev t : List ℕ
    t = take (byte script (at + 2)) tuple

    abbrev after : Bindings
    after = bind (variables_of bs) t β

    bound-is : (bound : SavedControl) → bound ≡ bound_all run (pair_variables (byte script (at + 2)) script (at + 3)) t → bound ≡ saved_with after (x.item ∷ x.rest)
    bound-is bound e =
        e ∙ ((λ i. bound_all (run_is i) (sym b.variables i) t) ∙ saved-bind-all types (record { stack = x.item ∷ x.rest; bindings = β }) (variables_of bs) t b.below16)

    -- as the code counts
    pub bound_by : (count : ℕ) → count ≡ byte script (at + 2) → (bound : SavedControl) → bound ≡ bound_all run (pair_variables count script (at + 3)) (take count tuple)
        → bound ≡ bound_all run (pair_variables (byte script (at + 2)) script (at + 3)) t
    bound_by count e bound f = f ∙ ap (λ (n : ℕ). bound_all run (pair_variables n script (at + 3)) (take n tuple)) e

    pub bound-height : (bound : SavedControl) → bound ≡ bound_all run (pair_variables (byte script (at + 2)) script (at + 3)) t → bound.height ≡ suc (length x.rest)
    unfolding saved_control
    bound-height bound e = ap (λ (r : SavedControl). r.height) (bound-is bound e)

    fresh-body : (body : ℕ) → BodyAt script loaded at body → (item : SavedItem) → item ≡ fresh_item body → item ≡ saved_item (fresh b.reads.body)
    fresh-body body f item e = e ∙ (ap fresh_item (f b.reads ∙ sym b.body_at) ∙ sym (fresh-is b.reads.body))

    -- the block's parts are those of the item
    parts-of : (each : Bool) (bs' : List Binder) (q : Query) (c : Script) → x.item.script ≡ block at each bs' q c → (bs ≡ bs') × (b.reads.body ≡ c)
    parts-of each bs' q c e = let p : block at b.reads.each bs b.reads.query b.reads.body ≡ block at each bs' q c = sym b.is ∙ e in (cc, cc)

    pub once-enters : (body : ℕ) → BodyAt script loaded at body → (bound : SavedControl) → bound ≡ bound_all run (pair_variables (byte script (at + 2)) script (at + 3)) t
        → (item : SavedItem) → item ≡ fresh_item body → (saved : SavedControl) → saved ≡ replaced bound item
        → (answer : Maybe (List ℕ)) → answer ≡ Some tuple → EntersOnce x (answer_of answer (byte script (at + 2))) (Ok saved)
    unfolding enter_once stepped_of
    once-enters body f bound e item i saved g answer h bs' q c k =
        let p = parts-of false bs' q c k in
        let new : saved ≡ saved_with after (fresh b.reads.body ∷ x.rest) =
        g ∙ (ap₂ replaced (bound-is bound e) (fresh-body body f item i) ∙ saved-replace types after x.item x.rest room (fresh b.reads.body)) in
        ap moved_to new
        ∙ ((λ j. moved_to (saved_control types (with_answer s (variables_of (p.0 j)) t (fresh (p.1 j) ∷ x.rest)).control))
        ∙ ap (λ (a : Maybe (List ℕ)). stepped_of run (enter_once s (variables_of bs') (fresh c ∷ x.rest) (answer_of a (byte script (at + 2))))) (sym h))

    pub each-enters : (body : ℕ) → BodyAt script loaded at body → (bound : SavedControl) → bound ≡ bound_all run (pair_variables (byte script (at + 2)) script (at + 3)) t
        → (last : List ℕ) → last ≡ filled 4 t → (item : SavedItem) → item ≡ fresh_item body
        → (saved : SavedControl) → saved ≡ pushed (replaced bound (record { «at» = at; started = true; last = last })) item
        → (answer : Maybe (List ℕ)) → answer ≡ Some tuple → EntersEach x (answer_of answer (byte script (at + 2))) (Ok saved)
    unfolding enter_each stepped_of saved_item
    each-enters body f bound e last l item i saved g answer h bs' q c k =
        let p = parts-of true bs' q c k in
        let used : Item = record { script = block at true bs' q c; last = some t } in
        let lower : replaced bound (record { «at» = at; started = true; last = last }) ≡ saved_with after (used ∷ x.rest) =
        (λ j. replaced (bound-is bound e j) (record { «at» = at; started = true; last = l j })) ∙ saved-replace types after x.item x.rest room used in
        let new : saved ≡ saved_with after (fresh b.reads.body ∷ used ∷ x.rest) =
        g ∙ (ap₂ pushed lower (fresh-body body f item i) ∙ saved-push types after (fresh b.reads.body) (used ∷ x.rest) b.room2) in
        ap moved_to new
        ∙ ((λ j. moved_to (saved_control types (with_answer s (variables_of (p.0 j)) t (fresh (p.1 j) ∷ used ∷ x.rest)).control))
        ∙ ap (λ (a : Maybe (List ℕ)). stepped_of run
        (enter_each s (variables_of bs') x.rest (λ t. fresh c ∷ record { script = block at true bs' q c; last = some t } ∷ x.rest) (answer_of a (byte script (at + 2))))) (sym h))

  pub once-waits : (answer : Maybe (List ℕ)) → answer ≡ None → EntersOnce x (answer_of answer (byte script (at + 2))) (Err Waiting)
  unfolding enter_once stepped_of
  once-waits answer h bs' q c k =
      ap (λ (a : Maybe (List ℕ)). stepped_of run (enter_once s (variables_of bs') (fresh c ∷ x.rest) (answer_of a (byte script (at + 2))))) (sym h)

  pub each-drops : (saved : SavedControl) → saved ≡ popped run → (answer : Maybe (List ℕ)) → answer ≡ None
      → EntersEach x (answer_of answer (byte script (at + 2))) (Ok saved)
  unfolding enter_each stepped_of
  each-drops saved e answer h bs' q c k =
      ap moved_to (e ∙ (ap popped run_is ∙ saved-pop types β x.item x.rest room))
      ∙ ap (λ (a : Maybe (List ℕ)). stepped_of run
      (enter_each s (variables_of bs') x.rest (λ t. fresh c ∷ record { script = block at true bs' q c; last = some t } ∷ x.rest) (answer_of a (byte script (at + 2))))) (sym h)

-- where a block's script begins
pub body-after : (script ends : List ℕ) (loaded at r : ℕ) → Ended script ends → r ≡ after_in ends (length script) (at + 11) → BodyAt script loaded at r
body-after script ends loaded at r ended e b =
    e ∙ query-ends script ends ended loaded b.left (at + 11) b.query b.reads.next b.reads.query
