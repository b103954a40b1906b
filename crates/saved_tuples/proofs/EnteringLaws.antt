-- Tuples on a saved run: refusals in their order, and what the machine is lent.
use Rattle.definitions.specs.Numbers.{refusal_number}
use Rattle.definitions.specs.declared.Refusal.{Refusal}
use Rattle.definitions.specs.declared.Refusal.TheVariants.{Unsound, BadRun, BadRanks}
use Prim.Native.Nat.{ℕ}
use mathlib.Core.Path.{◌≡◌, refl, sym, ap, ◌∙◌}
use mathlib.Core.List.{List, [], ◌∷◌, ◌++◌}
use mathlib.Core.Bool.{Bool, cond, true, false}
use mathlib.Core.Option.{none, some}
use lib.Dec.{T}
use lib.IntN.{ℤ}
use lib.ListN.{length}
use Rattle.definitions.specs.Limits.{variable_limit, graph_limit, depth_limit}
use Rattle.definitions.specs.Ascii.{ascii}
use Rattle.definitions.specs.Bytes.{signed}
use Rattle.definitions.specs.Terms.{is_date_time}
use Rattle.definitions.specs.Values.{natural_text}
use Rattle.definitions.specs.Result.{Result, refused, passed, ◌>>=◌, ◌>>◌, require, given}
use Rattle.definitions.specs.Calls as Calls
use Rattle.definitions.specs.Calls.{Lent, lengths_fit, entry_tests}
use Rattle.definitions.specs.Alphabet.{is_alphabet}
use Rattle.definitions.specs.Exports.{saved_from}
use Rattle.definitions.specs.Printer.{line}
use Rattle.definitions.specs.declared.SavedControl.{SavedControl}
use Rattle.definitions.specs.declared.SavedRun.{SavedRun}
use Rattle.laws.proofs.Tests.{true_is}
use Rattle.laws.proofs.Results.{given-bind, given-refused, bind-refused, bind-passed, require-after, require-refused}
use Rattle.laws.proofs.SoundIn.{entry-inv, entry-ranks}
use Rattle.store.specs.Canonical.{canonical_control, canonical_store}
use Rattle.answers.specs.Lends.{Lends}
use Rattle.answers.proofs.StartLaws.{lends_held}
use Rattle.entry.specs.declared.Entered.{Entered}
use Rattle.alphabet.specs.Unread.{unread_refusal}
use Rattle.entry.specs.Entry.{context_of, Found}
use Rattle.entry.proofs.PassedLaws.{passed-10, ranked, types-kept, control-held, store-saved}
use Rattle.lengths.specs.Lent.{lent_of}
use Rattle.output.specs.Written.{Written}
use Rattle.output.proofs.WritingLaws.{written_as}
use Rattle.evaluator_input.specs.Input.{tuples_in}
use Rattle.tuples.specs.Asking.{entered, entered_lines}
use Rattle.tuples.specs.Lines.{lines_here}

-- ── refusals ────────────────────────────────────────────────────────────────────────────────

module _ (l : Lent) (saved : List ℕ) (now : ℤ) (tuples : List ℕ) where
  abbrev goes_on : Calls.Sound → Result Calls.Sound
  goes_on x = require BadRun (is_date_time now) >> passed x

  abbrev says : Result Calls.Sound → List ℕ
  says m = entered_lines l.ranks now (tuples_in tuples) m

  abbrev unread : (alphabet : Bool) → Result Calls.Sound
  unread a = refused (cond a Unsound BadRanks)

  -- after the ranks
  abbrev from_run : Result Calls.Sound
  from_run = given Unsound (saved_from saved) >>= λ r. entry_tests l r >>= goes_on

  refusal : {n : Refusal} → entered l saved now ≡ refused n → line (ascii "refused " ++ natural_text (refusal_number n)) ≡ says (entered l saved now)
  unfolding entered_lines
  refusal e = sym (ap says e)

  pub no-saved : saved_from saved ≡ none → {n : Refusal} → n ≡ unread_refusal l.ranks → line (ascii "refused " ++ natural_text (refusal_number n)) ≡ says (entered l saved now)
  unfolding entered
  no-saved e number = refusal (by-ranks (is_alphabet l.ranks) refl ∙ ap refused (sym number))
    where
      by-ranks : (a : Bool) → is_alphabet l.ranks ≡ a → entered l saved now ≡ refused (unread_refusal l.ranks)
      by-ranks true good =
          require-after BadRanks (is_alphabet l.ranks) from_run (true_is (is_alphabet l.ranks) good)
          ∙ (given-refused Unsound (λ r. entry_tests l r >>= goes_on) e ∙ ap unread (sym good))
      by-ranks false bad = require-refused BadRanks from_run bad ∙ ap unread (sym bad)

  module _ (fit : T (lengths_fit l)) (r : SavedRun) (read : saved_from saved ≡ some r) where
    -- of a saved run the entry tests the ranks
    enters : entered l saved now ≡ (entry_tests l r >>= goes_on)
    unfolding entered
    enters = by-ranks (is_alphabet l.ranks) refl
      where
        by-ranks : (a : Bool) → is_alphabet l.ranks ≡ a → entered l saved now ≡ (entry_tests l r >>= goes_on)
        by-ranks true good =
            require-after BadRanks (is_alphabet l.ranks) from_run (true_is (is_alphabet l.ranks) good) ∙ given-bind Unsound (λ r. entry_tests l r >>= goes_on) read
        by-ranks false bad = require-refused BadRanks from_run bad ∙ sym (bind-refused goes_on (entry-ranks l r fit bad))

    pub not_in : {n : Refusal} → entry_tests l r ≡ refused n → line (ascii "refused " ++ natural_text (refusal_number n)) ≡ says (entered l saved now)
    not_in e = refusal (enters ∙ bind-refused goes_on e)

    module _ (x : Calls.Sound) (e : entry_tests l r ≡ passed x) where
      pub bad-now : is_date_time now ≡ false → line (ascii "refused " ++ natural_text (refusal_number BadRun)) ≡ says (entered l saved now)
      bad-now f = refusal (enters ∙ (bind-passed goes_on e ∙ require-refused BadRun (passed x) f))

      pub is-in : is_date_time now ≡ true → entered l saved now ≡ passed x
      is-in t = enters ∙ (bind-passed goes_on e ∙ require-after BadRun (is_date_time now) (passed x) (true_is (is_date_time now) t))

-- ── what the machine is lent ────────────────────────────────────────────────────────────────

module _ (ranks terms schema script table store : List ℕ) (run : SavedRun)
    (x : Calls.Sound) (e : entry_tests (lent_of ranks terms schema script table store) run ≡ passed x) where
  abbrev l : Lent
  l = lent_of ranks terms schema script table store

  module _ (r : Entered) (rows leasts : List ℕ) (f : Found l run rows leasts x r)
      (sixteen : length run.control.bound ≡ variable_limit) (places : length run.store.fetched ≡ graph_limit) (levels : length run.control.items ≡ depth_limit)
      (clean : SavedControl) (c : clean ≡ canonical_control script run.control) (clock : ℕ) (timely : is_date_time (signed clock) ≡ true) where
    abbrev pub lends-now : Lends script ranks table rows leasts (context_of r run clock) clean
    lends-now =
        (lends_held l run x (passed-10 ranks terms schema script table store run x e) clean (canonical_store run.store) (types-kept ranks terms schema script table store run x e c)
        (control-held ranks terms schema script table store run x e c sixteen levels) (store-saved ranks terms schema script table store run x e places refl)
        (ranked ranks terms schema script table store run x e) (sym f.loaded)
        (record { clocked = true_is (is_date_time (signed clock)) timely }) (f.lent clock)).lends

    -- its lines are those of what was entered
    pub lines_now : (saved : List ℕ) → saved_from saved ≡ some run → (tuples : List ℕ) {old new : List ℕ} {end : ℕ}
        → ((w : Lends script ranks table rows leasts (context_of r run clock) clean) → Written (lines_here w tuples) old new 0 end)
        → Written (entered_lines ranks (signed clock) (tuples_in tuples) (entered l saved (signed clock))) old new 0 end
    unfolding entered_lines
    lines_now saved read tuples h =
        written_as (h lends-now)
        (sym (ap (λ (m : Result Calls.Sound). entered_lines ranks (signed clock) (tuples_in tuples) m)
        (is-in l saved (signed clock) tuples (entry-inv l run e).0 run read x e timely)))
