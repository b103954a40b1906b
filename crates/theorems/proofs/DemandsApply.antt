-- The demands are about something: a card as bytes is accepted, and a list of calls on bytes, some of them refused, runs it to its end.
-- By computation; then demand 3 is applied to it, and Asks 12 and 13 to cards like it.
use Rattle.definitions.specs.declared.Refusal.TheVariants.{WrongLength, NoGreatest, BadRun}
use Rattle.std.specs.Prelude.{Ok, Err}
use Prim.Native.Nat.{ℕ}
use mathlib.Core.Path.{◌≡◌, refl, subst}
use mathlib.Core.Bool.{false}
use mathlib.Core.Option as Option
use mathlib.Core.List.{List, [], ◌∷◌, ◌++◌, map}
use lib.IntN.{pos}
use lib.ListN.{replicate, set}
use Rattle.definitions.specs.Ascii.{ascii}
use Rattle.definitions.specs.Types.{Datatype}
use Rattle.definitions.specs.Terms.{Term}
use Rattle.definitions.specs.Tree.{var, const, Query, success, from_named, block}
use Rattle.definitions.specs.Outcome.{Outcome, ok, fault}
use Rattle.definitions.specs.Saved.{no_run}
use Rattle.definitions.specs.Alphabet.{built_in}
use Rattle.definitions.specs.Calls.{Lent, tables_fit, load, suggest}
use Rattle.definitions.specs.CallList.{Answer, ran, paged}
use Rattle.definitions.specs.Limits.{saved_width}
use Rattle.definitions.specs.declared.RunState.TheVariants.{Ended, Wanted, Spent}
use Rattle.definitions.specs.declared.Suggested.TheVariants as Suggests
use Rattle.definitions.proofs.Opened.{opened}
use Rattle.definitions.proofs.Card.{card, uri, number}
use Rattle.theorems.specs.Hosts.{as_left, others, HostCall, running, paging, Handed, kept_after_load, engine_call, engine_calls}
use Rattle.theorems.specs.Demand3.{Demand3}
use Rattle.theorems.proofs.Demand3.{demand-3}
use Rattle.theorems.specs.OnBytes as OnBytes
use Rattle.theorems.specs.OnBytes.{ExportCall, Exported, bytes_of, export_call, export_calls}
use Rattle.theorems.proofs.OnBytes.{on-bytes}
use Rattle.theorems.specs.ExactSteps.{OnceLoad, ExactSteps}
use Rattle.theorems.proofs.ExactSteps.{exact-steps}
use Rattle.theorems.specs.OneType.{with_code, Accepts, Suggested}
use Rattle.theorems.proofs.OneType.{one-types}

-- `Card.card`: from named c:club, an each block; term 1 is c:club
accepted : (load card).returned.answer ≡ Ok tt
unfolding card uri number opened
accepted = refl

-- no records, and tables of no bytes
none : Lent
none = record { ranks = []; terms = []; schema = []; script = []; term_table = []; quad_table = [] }

-- a run; one with tables of no bytes, no records and the saved run of a refused load; one with too large a budget; a page lent in the same way; an empty page; the rest of the run
calls : List HostCall
unfolding tables_fit none
calls =
    running as_left 10 (pos 0)
    ∷ running (others none no_run tt) 10 (pos 0)
    ∷ running as_left 60001 (pos 0)
    ∷ paging (others none no_run tt) 1 []
    ∷ paging as_left 1 []
    ∷ running as_left 1 (pos 0)
    ∷ running as_left 10 (pos 0)
    ∷ []

answers_of : Outcome (List Handed) → List Answer
answers_of (ok hs) = map (λ h. h.answer) hs
answers_of (fault x) = []

answers :
    answers_of (engine_calls card calls (kept_after_load card))
    ≡ ran (Ok (record { steps = 0; state = (Wanted 1) }))
    ∷ ran (Err WrongLength)
    ∷ ran (Err BadRun)
    ∷ paged (Err WrongLength)
    ∷ paged (Ok 0)
    ∷ ran (Ok (record { steps = 1; state = Spent }))
    ∷ ran (Ok (record { steps = 1; state = Ended }))
    ∷ []
unfolding card uri number none calls answers_of engine_call engine_calls opened
answers = refl

applies : Demand3 card calls
applies = demand-3 card accepted calls

-- ── on bytes ────────────────────────────────────────────────────────────────────────────────

-- a run; one lent a saved run of 485 bytes; one a report of 7; a page lent a report of 3; an empty page; the rest of the run
exports_called : List ExportCall
unfolding tables_fit card built_in
exports_called =
    ExportCall.running (OnBytes.as_left (replicate 8 9) refl) 10 (pos 0)
    ∷ ExportCall.running (OnBytes.others card (replicate 485 5) (replicate 8 9) tt) 10 (pos 0)
    ∷ ExportCall.running (OnBytes.others card (replicate 486 5) (replicate 7 9) tt) 10 (pos 0)
    ∷ ExportCall.paging (OnBytes.others card (replicate 486 5) (replicate 3 9) tt) 1 []
    ∷ ExportCall.paging (OnBytes.as_left (replicate 4 9) refl) 1 []
    ∷ ExportCall.running (OnBytes.as_left (replicate 8 9) refl) 10 (pos 0)
    ∷ []

numbers_of : Outcome (List Exported) → List ℕ
numbers_of (ok es) = map (λ e. e.number) es
numbers_of (fault x) = []

numbers : numbers_of (export_calls card exports_called (bytes_of (kept_after_load card))) ≡ 0 ∷ 1 ∷ 1 ∷ 1 ∷ 0 ∷ 0 ∷ []
unfolding card uri number exports_called numbers_of export_call export_calls opened
numbers = refl

applies-on-bytes : OnBytes.OnBytes card (replicate saved_width 9) exports_called
applies-on-bytes = on-bytes card accepted (replicate saved_width 9) refl exports_called

-- ── a script with no each block ─────────────────────────────────────────────────────────────

-- the card with a once block in place of the each block
once : Lent
once = record { ranks = card.ranks; terms = card.terms; schema = card.schema; script = set card.script 5 0; term_table = card.term_table; quad_table = card.quad_table }

once-load : OnceLoad once
unfolding once card uri number opened
once-load = record {
  accepted = refl;
  read = record {
    schema = record { property = ascii "p:speed"; datatype = Datatype.decimal } ∷ [];
    terms = Term.integer (pos 3) ∷ Term.uri (ascii "c:club") ∷ Term.uri (ascii "l:1") ∷ Term.uri (ascii "p:speed") ∷ [];
    root = from_named 0 (const 1) (block 4 false (record { variable = 0; written = Option.none } ∷ record { variable = 1; written = Option.none } ∷ [])
        (Query.pattern (const 1) (var 0) (const 3) (var 1)) (success 26));
  };
  reads = refl;
  no_each = tt;
}

exact : ExactSteps once once-load.read.root
exact = exact-steps once once-load

-- ── a script with a type to write ───────────────────────────────────────────────────────────

-- a block of one open variable, which nothing uses
unused : Lent
unused = record {
  ranks = card.ranks;
  terms = [];
  schema = [];
  script = 0x73 ∷ 0 ∷ 1 ∷ replicate 8 0 ++ (0x65 ∷ 0x71 ∷ []);
  term_table = card.term_table;
  quad_table = card.quad_table;
}

refused-9 : (load unused).returned.answer ≡ Err NoGreatest
unfolding unused card uri number opened
refused-9 = refl

named : suggest unused.terms unused.schema unused.script ≡ Ok (Suggests.Named 0 1)
unfolding unused opened
named = refl

-- with that type written the card is accepted
would-do : (pair : ℕ) × Accepts (with_code unused pair 1)
unfolding unused card opened
would-do =
    let k = (one-types.one unused tt tt).suggested refused-9 in
    let h = subst (Suggested unused k.0.root) named k.2 in
    (h.pair, h.accepted)
