-- The saved store after a page: its graph is fetched, and the quads are counted.
use Prim.Native.Nat.{ℕ, ◌+◌, ◌-◌, ◌≤◌, ◌<◌}
use mathlib.Core.Path.{◌≡◌, refl, ap, sym, ◌∙◌}
use mathlib.Core.List.{List, [], ◌∷◌, ◌++◌}
use mathlib.Core.Bool.{Bool, true, false, cond, ◌||◌}
use lib.Dec.{ltb}
use lib.ListN.{length, set, replicate, length-append}
use lib.Seq.{take_at}
use borrow.Author.Tests.{ltb-true}
use Rattle.definitions.specs.Limits.{graph_limit}
use Rattle.definitions.specs.Lists.{is_in}
use Rattle.definitions.specs.Bytes.{filled}
use Rattle.definitions.specs.Machine.{Store, Taken, with_page, joined}
use Rattle.definitions.specs.Saved.{saved_store}
use Rattle.definitions.specs.declared.SavedStore.{SavedStore}
use Rattle.store.specs.Graphs.{fetched_in, graph_fits, store_with, paged}
use Rattle.store.proofs.FillLaws.{put_next}

module _ (store : SavedStore) (g quads : ℕ) where
  -- by whether the graph is fetched
  abbrev after : Bool → SavedStore
  after b = cond b (store_with quads store.graphs store.fetched) (store_with quads (store.graphs + 1) (set store.fetched store.graphs g))

  pub paged-is : (b : Bool) → is_in g (fetched_in store) ≡ b → paged store g quads ≡ after b
  unfolding paged
  paged-is b e = ap after e

  pub room-left : (b : Bool) → b ≡ is_in g (fetched_in store) → b ≡ false → graph_fits store g ≡ true → store.graphs < graph_limit
  unfolding graph_fits
  room-left b e t f = ltb-true store.graphs graph_limit (sym (ap (λ (b : Bool). b || ltb store.graphs graph_limit) (sym e ∙ t)) ∙ f)

-- it is the saved store of the store after the page
pub saved-paged : (s : Store) (g : ℕ) (k : Taken) → length s.fetched ≤ graph_limit → graph_fits (saved_store s) g ≡ true
    → paged (saved_store s) g (length k.quads) ≡ saved_store (with_page g k s)
unfolding saved_store with_page joined filled
saved-paged s g k few fits = go (is_in g l) refl
  where
    l : List ℕ
    l = s.fetched

    is : fetched_in (saved_store s) ≡ l
    is = take_at l (replicate (graph_limit - length l) 0) (length l) refl

    made : List ℕ → SavedStore
    made m = store_with (length k.quads) (length m) (filled graph_limit m)

    go : (b : Bool) → is_in g l ≡ b → paged (saved_store s) g (length k.quads) ≡ saved_store (with_page g k s)
    go true e =
        paged-is (saved_store s) g (length k.quads) true (ap (is_in g) is ∙ e) ∙ ap (λ (b : Bool). made (cond b l (l ++ (g ∷ [])))) (sym e)
    go false e =
        let absent : is_in g (fetched_in (saved_store s)) ≡ false = ap (is_in g) is ∙ e in
        let room = room-left (saved_store s) g (length k.quads) false (sym absent) refl fits in
        let size = length-append l (g ∷ []) in
        let more : set (filled graph_limit l) (length l) g ≡ filled graph_limit (l ++ (g ∷ [])) =
        put_next 0 g l graph_limit (length l) refl room ∙ ap (λ (n : ℕ). (l ++ (g ∷ [])) ++ replicate (graph_limit - n) 0) (sym size) in
        paged-is (saved_store s) g (length k.quads) false absent
        ∙ ((λ i. store_with (length k.quads) (sym size i) (more i)) ∙ ap (λ (b : Bool). made (cond b l (l ++ (g ∷ [])))) (sym e))
