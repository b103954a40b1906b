-- Refusal 10: what has passed it, and that what a call hands back passes it again.
use Rattle.definitions.specs.declared.Refusal.TheVariants.{WrongLength, Unsound, BadRanks}
use Prim.Native.Nat.{ℕ}
use mathlib.Core.List.{List}
use mathlib.Core.Option.{Option, some}
use mathlib.Core.Bool.{true, false}
use mathlib.Core.Path.{◌≡◌, refl, ap, subst, ◌∙◌}
use lib.Dec.{T, eqb}
use lib.ListN.{length}
use Rattle.definitions.specs.Limits.{ranks_width, term_table_width, quad_table_width}
use Rattle.definitions.specs.Alphabet.{is_alphabet}
use Rattle.definitions.specs.Bytes.{same_bytes, provided, onward}
use Rattle.definitions.specs.Machine.{State}
use Rattle.definitions.specs.Saved.{term_table, quad_table, held, saved_control, saved_of}
use Rattle.definitions.specs.Sound.{state_sound}
use Rattle.definitions.specs.Result.{Result, refused, passed, ◌>>◌, require, given}
use Rattle.definitions.specs.Calls as Calls
use Rattle.definitions.specs.Calls.{Checked, check, reported, Lent, tables_fit, lengths_fit, checked_of, sound_in, entry_tests}
use Rattle.definitions.specs.declared.SavedRun.{SavedRun}
use Rattle.laws.proofs.Tests.{and_left, and_make}
use Rattle.laws.proofs.Options.{some_is, some-not-none, onward-inv, provided-inv, provided-holds}
use Rattle.laws.proofs.Results.{given-inv, require-after-inv, require-after, require-refused}
use Rattle.laws.proofs.Equality.{same_bytes_lem, bytes-refl}
use Rattle.laws.specs.Sound.{Accepted, Sound}
use Rattle.laws.proofs.Check.{check-accepted}
use Rattle.laws.proofs.Bytes.{AreBytes}
use Rattle.laws.specs.Valid.{ValidIn}
use Rattle.laws.proofs.Tables.{term-table-length, quad-table-length, terms-in-valid, terms-in-table, quads-in-table}
use Rattle.laws.proofs.Saved.{Holding, held-inv, held-sound, held-again, terms-few, quads-few}

checked-inv : (r : Result Checked) (c : Checked) → checked_of r ≡ some c → r ≡ passed c
unfolding checked_of
checked-inv (refused n) c e = absurd (some-not-none e refl)
checked-inv (passed x) c e = ap passed (some_is e)

checked-of : {r : Result Checked} {c : Checked} → r ≡ passed c → checked_of r ≡ some c
unfolding checked_of
checked-of e = rw e

-- ── what a call on a saved run begins with ──────────────────────────────────────────────────

module _ (l : Lent) (saved : SavedRun) where
  -- the tests after the lengths
  abbrev ranks_on : Result Calls.Sound
  ranks_on = require BadRanks (is_alphabet l.ranks) >> given Unsound (sound_in l saved)

  pub entry-inv : {x : Calls.Sound} → entry_tests l saved ≡ passed x → T (lengths_fit l) × T (is_alphabet l.ranks) × (sound_in l saved ≡ some x)
  unfolding entry_tests
  entry-inv e =
      let i = require-after-inv WrongLength (lengths_fit l) ranks_on e in
      let j = require-after-inv BadRanks (is_alphabet l.ranks) (given Unsound (sound_in l saved)) i.1 in
      (i.0, j.0, given-inv Unsound (sound_in l saved) j.1)

  pub entry_of : {x : Calls.Sound} → T (lengths_fit l) → T (is_alphabet l.ranks) → sound_in l saved ≡ some x → entry_tests l saved ≡ passed x
  unfolding entry_tests given
  entry_of fit good e = require-after WrongLength (lengths_fit l) ranks_on fit ∙ (require-after BadRanks (is_alphabet l.ranks) (given Unsound (sound_in l saved)) good ∙ rw e)

  pub entry-one : lengths_fit l ≡ false → entry_tests l saved ≡ refused WrongLength
  unfolding entry_tests
  entry-one e = require-refused WrongLength ranks_on e

  pub entry-ranks : T (lengths_fit l) → is_alphabet l.ranks ≡ false → entry_tests l saved ≡ refused BadRanks
  unfolding entry_tests
  entry-ranks fit e = require-after WrongLength (lengths_fit l) ranks_on fit ∙ require-refused BadRanks (given Unsound (sound_in l saved)) e

-- ── what has passed ─────────────────────────────────────────────────────────────────────────

-- the records load, the reported types are those worked out, tables and saved run hold a state, and it is sound
pub record SoundIn (l : Lent) (saved : SavedRun) (x : Calls.Sound) : Type 0 where
  pub loads : check l.terms l.schema l.script ≡ passed x.checked
  pub types : saved.control.types ≡ reported x.checked
  pub holds : held x.checked.root l.term_table l.quad_table saved ≡ some x.state
  pub sound : Sound x.checked x.state

module _ (l : Lent) (saved : SavedRun) (x : Calls.Sound) where
  pub sound-in : sound_in l saved ≡ some x → SoundIn l saved x
  unfolding sound_in
  sound-in e =
      let tested : Checked → State → Option Calls.Sound = λ c s.
      provided (state_sound c.schema c.types c.terms c.root s) (some (record { checked = c; state = s })) in
      let holding : Checked → Option Calls.Sound = λ c. onward (held c.root l.term_table l.quad_table saved) (tested c) in
      let typed : Checked → Option Calls.Sound = λ c. provided (same_bytes saved.control.types (reported c)) (holding c) in
      let c = onward-inv (checked_of (check l.terms l.schema l.script)) typed e in
      let p = provided-inv (same_bytes saved.control.types (reported c.0)) (holding c.0) c.2 in
      let s = onward-inv (held c.0.root l.term_table l.quad_table saved) (tested c.0) p.1 in
      let test = state_sound c.0.schema c.0.types c.0.terms c.0.root s.0 in
      let y : Calls.Sound = record { checked = c.0; state = s.0 } in
      let q = provided-inv test (some y) s.2 in
      subst (SoundIn l saved) {x = y} (some_is {a = y} q.1)
      (record {
        loads = checked-inv (check l.terms l.schema l.script) c.0 c.1;
        types = same_bytes_lem saved.control.types (reported c.0) p.0;
        holds = s.1;
        sound = held-sound c.0 l.term_table l.quad_table saved s.0 s.1 q.0;
      })

  pub sound-of : SoundIn l saved x → sound_in l saved ≡ some x
  unfolding sound_in onward
  sound-of h =
      let c = x.checked in
      let same : T (same_bytes saved.control.types (reported c)) = rw h.types (bytes-refl (reported c)) in
      let test = state_sound c.schema c.types c.terms c.root x.state in
      rw (checked-of h.loads) (provided-holds (same_bytes saved.control.types (reported c)) same (rw h.holds (provided-holds test h.sound.test refl)))

  module _ (h : SoundIn l saved x) where
    pub is-accepted : Accepted x.checked
    is-accepted = check-accepted l.terms l.schema l.script x.checked h.loads

    pub holding : Holding x.checked.root l.term_table l.quad_table saved x.state
    holding = held-inv x.checked.root l.term_table l.quad_table saved x.state h.holds

    -- tables of bytes, of their lengths, are the tables of the state, and its terms are valid
    module _ (bytes : AreBytes l.term_table) (size : length l.term_table ≡ term_table_width) where
      pub terms-held : l.term_table ≡ term_table x.state.store.terms
      terms-held = terms-in-table l.term_table bytes size x.state.store.terms holding.store.terms

      pub valid-held : ValidIn x.state
      valid-held = terms-in-valid l.term_table bytes size x.state.store.terms holding.store.terms

    pub quads-held : AreBytes l.quad_table → length l.quad_table ≡ quad_table_width → l.quad_table ≡ quad_table x.state.store.quads
    quads-held bytes size = quads-in-table l.quad_table bytes size saved.store.quads x.state.store.quads holding.store.quads

-- ── what is handed back ─────────────────────────────────────────────────────────────────────

-- the same lent again with a state's tables
abbrev pub lent_with : Lent → State → Lent
lent_with l s =
    record {
      ranks = l.ranks;
      terms = l.terms;
      schema = l.schema;
      script = l.script;
      term_table = term_table s.store.terms;
      quad_table = quad_table s.store.quads;
    }

saved-types : (types : List ℕ) (s : State) → (saved_of types s).control.types ≡ types
unfolding saved_control
saved-types types s = refl

module _ (l : Lent) (c : Checked) (loads : check l.terms l.schema l.script ≡ passed c) (s : State) (sound : Sound c s) (valid : ValidIn s) where
  accepted : Accepted c
  accepted = check-accepted l.terms l.schema l.script c loads

  -- refusal 1
  pub lengths-again : T (lengths_fit l) → T (lengths_fit (lent_with l s))
  unfolding tables_fit
  lengths-again fit =
      let e₀ = term-table-length s.store.terms valid (terms-few c accepted s sound) in
      let e₁ = quad-table-length s.store.quads (quads-few c accepted s sound) in
      rw (e₀, e₁) (and_make (eqb (length l.ranks) ranks_width) true (and_left (eqb (length l.ranks) ranks_width) _ fit) tt)

  -- refusal 10
  pub sound-again : sound_in (lent_with l s) (saved_of (reported c) s) ≡ some (record { checked = c; state = s })
  sound-again =
      sound-of (lent_with l s) (saved_of (reported c) s) (record { checked = c; state = s })
      (record { loads = loads; types = saved-types (reported c) s; holds = held-again c accepted s sound valid (reported c); sound = sound })
