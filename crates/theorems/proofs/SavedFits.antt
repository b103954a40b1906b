-- The saved run of a sound state fits its bytes, so what is written is read as that run.
use Prim.Native.Nat.{ℕ, zero, suc, ◌-◌, ◌≤◌, ◌<◌}
use native.Mathlib.Omega.{arith}
use mathlib.Core.Path.{◌≡◌, refl, ap, ◌∙◌}
use mathlib.Core.Bool.{true, false}
use mathlib.Core.List.{List, [], ◌∷◌, ◌++◌, map}
use mathlib.Core.Option.{Option, none, some}
use lib.Dec.{T, eqb, ltb, ltb→lt}
use lib.ListN.{length, drop, replicate}
use lib.Seq.{drop_at}
use Rattle.definitions.specs.Limits.{script_limit, graph_limit, depth_limit, pair_limit}
use Rattle.definitions.specs.Lists.{every}
use Rattle.definitions.specs.Bytes.{filled}
use Rattle.definitions.specs.Tree.{Script, success, from_named, block, sequence}
use Rattle.definitions.specs.Scope.{variables}
use Rattle.definitions.specs.Evaluate.{Bindings}
use Rattle.definitions.specs.Search.{Tuple}
use Rattle.definitions.specs.Machine.{Item, State}
use Rattle.definitions.specs.Saved.{offset_of, saved_item, saved_items, zero_item, last_numbers, number_or_zero, saved_control, saved_store, saved_of}
use Rattle.definitions.specs.Sound.{last_sound}
use Rattle.definitions.specs.Calls.{Checked, check, reported}
use Rattle.definitions.specs.Result.{passed}
use Rattle.definitions.specs.Exports.{saved_bytes, saved_from}
use Rattle.laws.proofs.Tests.{and_right}
use Rattle.laws.specs.Lists.{All}
use Rattle.laws.proofs.All.{all_append, all-weaken, all-of-every}
use Rattle.laws.specs.Bindings.{HoldsURI}
use Rattle.laws.proofs.Bindings.{is_below}
use Rattle.laws.proofs.Places.{At, in-range, inherits}
use Rattle.laws.proofs.ReadBounds.{PairsFit}
use Rattle.laws.proofs.Check.{check-accepted, check-passed, script-in, reported-all}
use Rattle.laws.specs.Sound.{Placed, Accepted, Sound}
use Rattle.laws.proofs.SoundMeans.{StackFacts}
use Rattle.laws.proofs.Saved.{items-length, all-facts, terms-few, quads-few, graphs-few, stack-low, saved-shaped}
use Rattle.theorems.proofs.RoundTrip.{TwoBytes, ItemFits, Fits, saved-again}

-- ── offsets ─────────────────────────────────────────────────────────────────────────────────

-- a script in the root lies in some range below the limit
abbrev Low : Script → Type 0
Low c = (lo : ℕ) × (hi : ℕ) × (hi ≤ script_limit) × Placed lo hi c

low-at : {root c : Script} {depth : ℕ} → At root depth c → Placed 0 script_limit root → offset_of c < script_limit
low-at {root} {c} a p =
    let k = inherits Low
    (λ at n c k. (suc at, k.1, k.2, k.3.1))
    (λ at each bs q c k. (suc at, k.1, k.2, k.3.1))
    (λ at c d k. (suc at, k.3.1.0, omega (arith, k.2, in-range k.3.1.0 k.1 d k.3.1.2), k.3.1.1))
    (λ at c d k. (k.3.1.0, k.1, k.2, k.3.1.2))
    a (0, script_limit, omega arith, p) in
    omega (arith, k.2, in-range k.0 k.1 c k.3)

-- ── numbers ─────────────────────────────────────────────────────────────────────────────────

zeroes-fit : (n : ℕ) → All TwoBytes (replicate n 0)
zeroes-fit zero = tt
zeroes-fit (suc n) = (omega arith, zeroes-fit n)

filled-fits : (width : ℕ) (ns : List ℕ) → All TwoBytes ns → All TwoBytes (filled width ns)
unfolding filled
filled-fits width ns h = all_append TwoBytes ns (replicate (width - length ns) 0) h (zeroes-fit (width - length ns))

last_fits : (terms : ℕ) → terms ≤ 512 → (c : Script) (last : Option Tuple) → T (last_sound terms c last) → All TwoBytes (last_numbers last)
unfolding last_sound
last_fits terms few c none h = filled-fits pair_limit [] tt
last_fits terms few (success at) (some t) h = absurd h
last_fits terms few (from_named at n c) (some t) h = absurd h
last_fits terms few (block at false bs q c) (some t) h = absurd h
last_fits terms few (block at true bs q c) (some t) h =
    filled-fits pair_limit t (all-of-every (λ i. ltb i terms) TwoBytes (λ i l. omega (arith, ltb→lt i terms l)) t
    (and_right (eqb (length t) (length bs)) (every (λ i. ltb i terms) t) h))
last_fits terms few (sequence at c d) (some t) h = absurd h

-- ── stack items ─────────────────────────────────────────────────────────────────────────────

items-fit : (root : Script) (terms : ℕ) (β : Bindings) (stack : List Item) → terms ≤ 512 → Placed 0 script_limit root → StackFacts root terms β stack
    → All ItemFits (saved_items stack)
unfolding saved_items saved_item
items-fit root terms β [] few p f = tt
items-fit root terms β (i ∷ rest) few p f =
    let offset = low-at f.0.in_root p in
    let item : ItemFits (saved_item i) = record { offset = omega (arith, offset); numbers = last_fits terms few i.script i.last f.0.last } in
    all_append ItemFits (saved_items rest) (saved_item i ∷ []) (items-fit root terms β rest few p f.1) (item, tt)

zero-items-fit : (n : ℕ) → All ItemFits (replicate n zero_item)
zero-items-fit zero = tt
zero-items-fit (suc n) = (record { offset = omega arith; numbers = filled-fits pair_limit [] tt }, zero-items-fit n)

above_zero : (stack : List Item)
    → drop (length stack) (saved_items stack ++ replicate (depth_limit - length (saved_items stack)) zero_item) ≡ replicate (depth_limit - length stack) zero_item
above_zero stack =
    drop_at (saved_items stack) (replicate (depth_limit - length (saved_items stack)) zero_item) (length stack) (items-length stack)
    ∙ ap (λ (n : ℕ). replicate (depth_limit - n) zero_item) (items-length stack)

-- ── the whole ───────────────────────────────────────────────────────────────────────────────

module _ (c : Checked) (accepted : Accepted c) (s : State) (sound : Sound c s) where
  number_fits_lem : (o : Option ℕ) (v : ℕ) → s.control.bindings v ≡ o → TwoBytes (number_or_zero o)
  number_fits_lem none v e = omega arith
  number_fits_lem (some i) v e =
      let h = ((all-facts c accepted s sound).bindings v i e).holds in
      omega (arith, is_below s.store.terms i h.term h.there, terms-few c accepted s sound)

  bindings-fit : (vs : List ℕ) → All TwoBytes (map (λ v. number_or_zero (s.control.bindings v)) vs)
  bindings-fit [] = tt
  bindings-fit (v ∷ vs) = (number_fits_lem (s.control.bindings v) v refl, bindings-fit vs)

  fetched-fits : All TwoBytes s.store.fetched
  fetched-fits =
      let terms = s.store.terms in
      all-weaken (HoldsURI c.schema terms) TwoBytes (λ i h. omega (arith, is_below terms i h.term h.there, terms-few c accepted s sound))
      s.store.fetched (all-facts c accepted s sound).fetched

  pub saved-fits : PairsFit c.root → (types : List ℕ) → length types ≡ 16 → Fits (saved_of types s)
  unfolding saved_control saved_store
  saved-fits pairs types n =
      let stack = s.control.stack in
      let after = depth_limit - length (saved_items stack) in
      record {
        shaped = saved-shaped c accepted pairs s sound types n;
        height = stack-low c accepted s sound;
        quads = omega (arith, quads-few c accepted s sound);
        graphs = omega (arith, graphs-few c accepted s sound);
        bindings = bindings-fit variables;
        fetched = filled-fits graph_limit s.store.fetched fetched-fits;
        items = all_append ItemFits (saved_items stack) (replicate after zero_item)
            (items-fit c.root (length s.store.terms) s.control.bindings stack (terms-few c accepted s sound) accepted.placed
            (all-facts c accepted s sound).stack) (zero-items-fit after);
        above = above_zero stack;
      }

-- so what a call hands back is read as the run that it handed back
module _ (terms schema script : List ℕ) (c : Checked) (loads : check terms schema script ≡ passed c) (s : State) (sound : Sound c s) where
  pub sound-fits : Fits (saved_of (reported c) s)
  sound-fits =
      saved-fits c (check-accepted terms schema script c loads) s sound (script-in terms schema script c (check-passed terms schema script c loads)).pairs
      (reported c) (reported-all terms schema script c loads)

  pub sound-again : saved_from (saved_bytes (saved_of (reported c) s)) ≡ some (saved_of (reported c) s)
  sound-again = saved-again (saved_of (reported c) s) sound-fits
