-- The item on top of a standing run: that there is one, at which offset, of which kind.
use Prim.Native.Nat.{ℕ, ◌≤◌, ◌<◌}
use native.Mathlib.Omega.{arith}
use mathlib.Core.Path.{◌≡◌, refl, ap, ◌∙◌}
use mathlib.Core.List.{List, [], ◌∷◌}
use mathlib.Core.Logic.{◌⊎◌, inl, inr}
use lib.ListN.{length}
use Rattle.definitions.specs.Bytes.{byte}
use Rattle.definitions.specs.Tree.{Script, success, from_named, block, sequence}
use Rattle.definitions.specs.Machine.{State, Item}
use Rattle.definitions.specs.Saved.{offset_of, saved_item, saved_control}
use Rattle.definitions.specs.declared.SavedItem.{SavedItem}
use Rattle.definitions.specs.declared.SavedControl.{SavedControl}
use Rattle.laws.specs.ScriptReads.{ReadsAs}
use Rattle.store.specs.Stack.{top_of}
use Rattle.store.proofs.ControlStates.{saved-top}
use Rattle.acts.specs.Steps.{Standing, OnTop, Top, on_top}
use Rattle.acts.proofs.StepLaws.{run_is, room, height-is, top, inside}

module _ {script : List ℕ} {loaded : ℕ} {run : SavedControl} (h : Standing script loaded run) where
  abbrev s : State
  s = h.state

  height-of : run.height ≡ length s.control.stack
  unfolding saved_control
  height-of = ap (λ (r : SavedControl). r.height) h.saved

  -- the record at the offset that the saved control has for it
  pub first-item : (run.height ≡ 0 → ⊥) → (at : ℕ) → at ≡ (top_of run).«at» → Top h at
  unfolding saved_item
  first-item high at e = go s.control.stack refl
    where
      go : (stack : List Item) → s.control.stack ≡ stack → Top h at
      go [] q = absurd (high (height-of ∙ ap length q))
      go (i ∷ rest) q =
          let x : OnTop script loaded run (offset_of i.script) = record { here = h; item = i; rest = rest; stack = q; place = refl } in
          let on : top_of run ≡ saved_item i =
          ap top_of (run_is x) ∙ saved-top run.types s.control.bindings i rest (room x) in
          record { item = i; rest = rest; stack = q; place = e ∙ ap (λ (y : SavedItem). y.«at») on }

  pub no_item : run.height ≡ 0 → s.control.stack ≡ []
  no_item e = go s.control.stack refl
    where
      go : (stack : List Item) → s.control.stack ≡ stack → stack ≡ []
      go [] q = refl
      go (i ∷ rest) q = absurd (omega (arith, height-of, ap length q))

  pub height-low : (run.height ≡ 0 → ⊥) → (0 < run.height) × (run.height ≤ 24)
  height-low high =
      let t = first-item high (top_of run).«at» refl in
      let x = on_top h t in
      let e = height-is x in
      (omega arith, omega (arith, room x))

  module _ (at : ℕ) (t : Top h at) where
    -- its kind
    kind-of : (byte script at ≡ 0x71) ⊎ ((byte script at ≡ 0x72) ⊎ ((byte script at ≡ 0x73) ⊎ (byte script at ≡ 0x74)))
    kind-of = go t.item.script (top (on_top h t)).is
      where
        go : (c : Script) → ReadsAs script loaded (top (on_top h t)).left at c (top (on_top h t)).ends
            → (byte script at ≡ 0x71) ⊎ ((byte script at ≡ 0x72) ⊎ ((byte script at ≡ 0x73) ⊎ (byte script at ≡ 0x74)))
        go (success o) r = inl r.kind
        go (from_named o y c) r = inr (inl r.kind)
        go (block o each bs q c) r = inr (inr (inl r.kind))
        go (sequence o c d) r = inr (inr (inr r.kind))

    pub item-inside : at < length script
    item-inside = go kind-of
      where
        go : (byte script at ≡ 0x71) ⊎ ((byte script at ≡ 0x72) ⊎ ((byte script at ≡ 0x73) ⊎ (byte script at ≡ 0x74))) → at < length script
        go (inl k) = inside (on_top h t) 0x71 k (omega arith)
        go (inr (inl k)) = inside (on_top h t) 0x72 k (omega arith)
        go (inr (inr (inl k))) = inside (on_top h t) 0x73 k (omega arith)
        go (inr (inr (inr k))) = inside (on_top h t) 0x74 k (omega arith)

    pub is_block : (byte script at ≡ 0x71 → ⊥) → (byte script at ≡ 0x72 → ⊥) → (byte script at ≡ 0x74 → ⊥) → byte script at ≡ 0x73
    is_block a b d = go kind-of
      where
        go : (byte script at ≡ 0x71) ⊎ ((byte script at ≡ 0x72) ⊎ ((byte script at ≡ 0x73) ⊎ (byte script at ≡ 0x74))) → byte script at ≡ 0x73
        go (inl k) = absurd (a k)
        go (inr (inl k)) = absurd (b k)
        go (inr (inr (inl k))) = k
        go (inr (inr (inr k))) = absurd (d k)
