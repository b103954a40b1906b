-- The load call: the length of each table, the check, and a saved run with the root alone on its stack.
use Rattle.definitions.specs.declared.Refusal.TheVariants.{WrongLength, BadRanks}
use Rattle.std.specs.Prelude.{Ok, Err}
use Prim.Native.Nat.{ℕ, suc}
use native.Mathlib.Omega.{arith}
use mathlib.Core.Path.{◌≡◌, sym, ap, ◌∙◌}
use mathlib.Core.List.{List, [], ◌++◌}
use mathlib.Core.Bool.{Bool, true, false, ◌&&◌}
use mathlib.Core.Option.{some}
use lib.Dec.{eqb, leb, leb→le}
use lib.ListN.{length, take, drop, replicate}
use Rattle.definitions.specs.Limits.{depth_limit, term_limit, entry_limit, script_limit, term_table_width, quad_table_width}
use Rattle.definitions.specs.Bytes.{filled, provided}
use Rattle.definitions.specs.Terms.{Term}
use Rattle.definitions.specs.Tree.{Script, success, from_named, block, sequence}
use Rattle.definitions.specs.Reading.{read_script, parsed}
use Rattle.definitions.specs.Machine.{loaded}
use Rattle.definitions.specs.Saved.{term_table, quad_table, quad_bytes, offset_of, saved_item, saved_items, saved_control, saved_store, saved_of}
use Rattle.definitions.specs.declared.Refusal.{Refusal}
use Rattle.definitions.specs.Result.{OrRefusal, Result, refused, passed}
use Rattle.definitions.specs.Calls.{Checked, Lent, LoadResult, tables_fit, load_tests, load_result, check, sizes_fit, reported, lengths_of}
use Rattle.definitions.specs.Alphabet.{is_alphabet}
use Rattle.definitions.specs.Calls as Calls
use Rattle.definitions.specs.declared.Loaded.{Loaded}
use Rattle.definitions.specs.declared.SavedRun.{SavedRun}
use Rattle.laws.proofs.Options.{some_is, provided-inv, onward-inv}
use Rattle.laws.proofs.Check.{check-passed}
use Rattle.laws.proofs.Results.{require-after, require-refused}
use Rattle.laws.proofs.ScriptReads.{script-reads}
use Rattle.laws.proofs.Tables.{term-table-length, quad-table-length}
use Rattle.laws.proofs.Tests.{and_left, true_is}
use Rattle.laws.proofs.Valid.{check-valid}
use Rattle.card.specs.Check.{CardOf}
use Rattle.store.specs.Bare.{bare_run}
use Rattle.loading.specs.Loaded.{handed_back}
use Rattle.card.specs.declared.refusals.Card.{Card}
use Rattle.lengths.proofs.TableLaws.{fit-both}

-- ── the root stands at offset 0 ─────────────────────────────────────────────────────────────

root-offset : (s : List ℕ) (terms left : ℕ) (c : Script) (n : ℕ) → read_script s terms (suc left) 0 ≡ some (c, n) → offset_of c ≡ 0
root-offset s terms left (success at) n e = (script-reads s terms left 0 (success at) n e).here
root-offset s terms left (from_named at x c) n e = (script-reads s terms left 0 (from_named at x c) n e).here
root-offset s terms left (block at each bs q c) n e = (script-reads s terms left 0 (block at each bs q c) n e).here
root-offset s terms left (sequence at c d) n e = (script-reads s terms left 0 (sequence at c d) n e).here

parsed-offset : (terms : ℕ) (s : List ℕ) (c : Script) → parsed terms s ≡ some c → offset_of c ≡ 0
unfolding parsed
parsed-offset terms s c e =
    let r = onward-inv (read_script s terms depth_limit 0) (λ r. provided (eqb r.1 (length s)) (some r.0)) e in
    let q = provided-inv (eqb r.0.1 (length s)) (some r.0.0) r.2 in
    root-offset s terms 23 c r.0.1 (r.1 ∙ ap (λ (d : Script). some (d, r.0.1)) (some_is q.1))

-- the saved run of a state that was just loaded
saved-fresh : (types : List ℕ) (terms : List Term) (root : Script) → offset_of root ≡ 0 → bare_run 1 types ≡ saved_of types (loaded terms root)
unfolding saved_control saved_store loaded saved_items saved_item filled
saved-fresh types terms root e = rw e

-- ── the tests ───────────────────────────────────────────────────────────────────────────────

abbrev pub LoadDone : (l : Lent) → (r : Loaded) → (term_bytes quad_bytes : List ℕ) → Type 0
LoadDone l r term_bytes quad_bytes = (r ≡ (Calls.load l).returned) × (term_bytes ≡ (Calls.load l).term_table) × (quad_bytes ≡ (Calls.load l).quad_table)

module _ (l : Lent) where
  load_is : {m : Result Checked} → load_tests l ≡ m → Calls.load l ≡ load_result l m
  unfolding Calls.load
  load_is e = ap (load_result l) e

  -- a refusal leaves both tables
  pub load-refused : {n : Refusal} {r : OrRefusal (List ℕ)} → load_tests l ≡ refused n → r ≡ Err n → LoadDone l (handed_back r) l.term_table l.quad_table
  unfolding load_result
  load-refused e f =
      let k = load_is e in
      (ap handed_back f ∙ sym (ap (λ (x : LoadResult). x.returned) k), sym (ap (λ (x : LoadResult). x.term_table) k), sym (ap (λ (x : LoadResult). x.quad_table) k))

  module _ {a : Bool} (ea : a ≡ tables_fit (lengths_of l)) where
    pub other_length : a ≡ false → load_tests l ≡ refused WrongLength
    unfolding load_tests
    other_length e = require-refused WrongLength _ (sym ea ∙ e)

    module _ (fit : a ≡ true) {b : Bool} (eb : b ≡ is_alphabet l.ranks) where
      pub other-ranks : b ≡ false → load_tests l ≡ refused BadRanks
      unfolding load_tests
      other-ranks e = require-after WrongLength _ _ (true_is _ (sym ea ∙ fit)) ∙ require-refused BadRanks _ (sym eb ∙ e)

    module _ (fit : a ≡ true) {b : Bool} (eb : b ≡ is_alphabet l.ranks) (good : b ≡ true) where
      only-check : load_tests l ≡ check l.terms l.schema l.script
      unfolding load_tests
      only-check = require-after WrongLength _ _ (true_is _ (sym ea ∙ fit)) ∙ require-after BadRanks _ _ (true_is _ (sym eb ∙ good))

      pub check-refused : {n : Refusal} → check l.terms l.schema l.script ≡ refused n → load_tests l ≡ refused n
      check-refused e = only-check ∙ e

      module _ {card : Card} {table leasts : List ℕ} (told : (c : Checked) × (check l.terms l.schema l.script ≡ passed c) × CardOf l.schema table leasts c card) where
        abbrev c : Checked
        c = told.0

        pub table-width : length table ≡ term_table_width
        unfolding sizes_fit
        table-width =
            let p = check-passed l.terms l.schema l.script c told.1 in
            let few = leb→le (length c.terms) term_limit
            (and_left (leb (length c.terms) term_limit) (leb (length c.schema) entry_limit && leb (length l.script) script_limit) p.reads.sizes) in
            ap length told.2.slots ∙ term-table-length c.terms (check-valid l.terms l.schema l.script c told.1) few

        pub load-accepted : {term_bytes quad_bytes : List ℕ} (empty : List ℕ) → empty ≡ replicate quad_table_width 0
            → term_bytes ≡ table → quad_bytes ≡ empty → LoadDone l (handed_back (Ok card.types)) term_bytes quad_bytes
        unfolding load_result loaded quad_table quad_bytes filled
        load-accepted empty fe ft fq =
            let k = load_is (only-check ∙ told.1) in
            let p = check-passed l.terms l.schema l.script c told.1 in
            let root = parsed-offset (length c.terms) l.script c.root p.reads.parses in (
              ap (λ (types : List ℕ). handed_back (Ok types)) told.2.types
                  ∙ ap (λ (s : SavedRun). record { answer = Ok tt; saved = s }) (saved-fresh (reported c) c.terms c.root root)
                  ∙ sym (ap (λ (x : LoadResult). x.returned) k),
              ft ∙ told.2.slots ∙ sym (ap (λ (x : LoadResult). x.term_table) k),
              fq ∙ fe ∙ sym (ap (λ (x : LoadResult). x.quad_table) k),
            )
