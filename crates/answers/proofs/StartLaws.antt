-- Where a run sets out: what a run call was lent, past refusal 10, is what a step and a run ask for.
use Prim.Native.Nat.{ℕ}
use mathlib.Core.Path.{◌≡◌, ap, sym, ◌∙◌}
use mathlib.Core.List.{List}
use lib.ListN.{length}
use Rattle.definitions.specs.Limits.{ranks_width}
use Rattle.definitions.specs.Reading.{parsed}
use Rattle.definitions.specs.Saved.{saved_control, saved_store}
use Rattle.definitions.specs.Calls as Calls
use Rattle.definitions.specs.Calls.{Lent}
use Rattle.definitions.specs.declared.SavedControl.{SavedControl}
use Rattle.definitions.specs.declared.SavedStore.{SavedStore}
use Rattle.definitions.specs.declared.SavedRun.{SavedRun}
use Rattle.laws.proofs.Check.{Passed, check-passed, script-fits, types-length}
use Rattle.laws.proofs.SoundIn.{SoundIn, is-accepted}
use Rattle.query.specs.declared.Context.{Context}
use Rattle.query.specs.StoreLent.{Told, StoreLent}
use Rattle.answers.specs.Lends.{LendsStore}

module _ (l : Lent) (saved : SavedRun) (x : Calls.Sound) (h : SoundIn l saved x) (run : SavedControl) (store : SavedStore) where
  pub loads-here : Passed l.terms l.schema l.script x.checked
  loads-here = check-passed l.terms l.schema l.script x.checked h.loads

  -- with what a search is told
  abbrev pub lends_held : {quads leasts : List ℕ} {y : Context} → run.types ≡ saved.control.types → run ≡ saved_control run.types x.state.control
      → store ≡ saved_store x.state.store → length l.ranks ≡ ranks_width → length x.checked.terms ≡ y.loaded → Told y
      → StoreLent l.term_table quads leasts y x.checked.schema x.state.store.terms x.state.store.quads
      → LendsStore l.script l.ranks l.term_table quads leasts y run store
  lends_held types control stored ranked e told holds =
      record {
        lends = record {
          here = record {
            checked = x.checked;
            state = x.state;
            accepted = is-accepted l saved x h;
            short = script-fits l.terms l.schema l.script x.checked loads-here;
            reads = ap (λ (n : ℕ). parsed n l.script) (sym e) ∙ loads-here.reads.parses;
            sound = h.sound;
            saved = control;
          };
          scope = loads-here.reads.scope;
          full = types-length l.terms l.schema l.script x.checked loads-here;
          reports = types ∙ h.types;
          told = told;
          ranked = ranked;
          lent = holds;
        };
        stored = stored;
      }
