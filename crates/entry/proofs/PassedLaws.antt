-- What has passed refusals 1, 21 and 10: what loading finds, the state that is held, and its saved run without what means nothing.
use Prim.Native.Nat.{ℕ, ◌≤◌}
use mathlib.Core.Path.{◌≡◌, refl, sym, ap, ◌∙◌}
use mathlib.Core.List.{List, map}
use lib.Dec.{leb→le}
use lib.ListN.{length, length-map}
use Rattle.definitions.specs.Limits.{ranks_width, depth_limit, graph_limit, variable_limit, script_limit}
use Rattle.definitions.specs.Saved.{saved_control, saved_store}
use Rattle.definitions.specs.Calls as Calls
use Rattle.definitions.specs.Calls.{Lent, reported, entry_tests, lengths_of, lengths_fit}
use Rattle.definitions.specs.Result.{passed}
use Rattle.definitions.specs.declared.SavedControl.{SavedControl}
use Rattle.definitions.specs.declared.SavedStore.{SavedStore}
use Rattle.definitions.specs.declared.SavedRun.{SavedRun}
use Rattle.laws.proofs.Check.{Passed, check-passed, sizes}
use Rattle.laws.proofs.Tests.{is_true}
use Rattle.laws.specs.Sound.{Accepted}
use Rattle.laws.proofs.SoundIn as Sounds
use Rattle.laws.proofs.SoundIn.{SoundIn, sound-in, is-accepted, entry-inv}
use Rattle.laws.proofs.Saved.{Holding}
use Rattle.lengths.specs.Lent.{lent_of}
use Rattle.lengths.proofs.TableLaws.{fit-ranks}
use Rattle.store.specs.Canonical.{canonical_control, canonical_store}
use Rattle.store.proofs.CanonicalLaws.{control-is, store_is}

-- an array of structs has the length of what is made of each
pub length-mapped : (A B : Type 0) (f : A → B) (l : List A) (n : ℕ) → length (map f l) ≡ n → length l ≡ n
length-mapped A B f l n e = sym (length-map l f) ∙ e

module _ (ranks terms schema script table store : List ℕ) (saved : SavedRun) (x : Calls.Sound) (entered : entry_tests (lent_of ranks terms schema script table store) saved ≡ passed x) where
  abbrev l : Lent
  l = lent_of ranks terms schema script table store

  pub passed-10 : SoundIn l saved x
  passed-10 = sound-in l saved x (entry-inv l saved entered).2

  pub ranked : length ranks ≡ ranks_width
  ranked = fit-ranks (lengths_of l) refl (is_true (lengths_fit l) (entry-inv l saved entered).0)

  pub accepted : Accepted x.checked
  accepted = is-accepted l saved x passed-10

  pub loads : Passed terms schema script x.checked
  loads = check-passed terms schema script x.checked passed-10.loads

  pub script-short : length script ≤ script_limit
  script-short = (sizes terms schema script x.checked loads).2

  pub holding : Holding x.checked.root table store saved x.state
  holding = Sounds.holding l saved x passed-10

  pub stack-low : saved.control.height ≤ depth_limit
  stack-low = leb→le saved.control.height depth_limit holding.control.height

  pub graphs-low : saved.store.graphs ≤ graph_limit
  graphs-low = leb→le saved.store.graphs graph_limit holding.store.graphs

  -- ── without what means nothing ────────────────────────────────────────────────────────────

  pub store-saved : length saved.store.fetched ≡ graph_limit → {kept : SavedStore} → kept ≡ canonical_store saved.store → kept ≡ saved_store x.state.store
  store-saved places e = e ∙ store_is table store saved.store x.state.store places holding.store

  module _ {clean : SavedControl} (e : clean ≡ canonical_control script saved.control) where
    pub types-kept : clean.types ≡ saved.control.types
    types-kept = ap (λ (r : SavedControl). r.types) e

    pub types-reported : clean.types ≡ reported x.checked
    types-reported = types-kept ∙ passed-10.types

    pub control-held : length saved.control.bound ≡ variable_limit → length saved.control.items ≡ depth_limit → clean ≡ saved_control clean.types x.state.control
    control-held sixteen levels =
        e
        ∙ (control-is (length x.checked.terms) script x.checked.root loads.reads.parses saved.control x.state.control sixteen levels holding.control
        ∙ ap (λ (ts : List ℕ). saved_control ts x.state.control) (sym types-kept))

    pub control-saved : length saved.control.bound ≡ variable_limit → length saved.control.items ≡ depth_limit
        → clean ≡ saved_control (reported x.checked) x.state.control
    control-saved sixteen levels = control-held sixteen levels ∙ ap (λ (ts : List ℕ). saved_control ts x.state.control) types-reported
