-- The theorems are about something: two scripts as bytes, one with an each block and one without, are accepted, wait for a page, take one in
-- of which two records are skipped, and run to their end. All by computation; then the first is safe by the theorem.
use Rattle.std.specs.Prelude.{Ok}
use Prim.Native.Nat.{ℕ}
use mathlib.Core.Path.{◌≡◌, refl}
use mathlib.Core.List.{List, [], ◌∷◌, ◌++◌, map}
use mathlib.Core.Bool.{Bool, true, false}
use mathlib.Core.Option.{none, some}
use lib.IntN.{pos}
use lib.ListN.{length, replicate}
use Rattle.definitions.specs.Limits.{ranks_width, term_table_width, quad_table_width}
use Rattle.definitions.specs.Ascii.{ascii}
use Rattle.definitions.specs.Types.{Datatype, plain}
use Rattle.definitions.specs.Terms.{Term}
use Rattle.definitions.specs.Tree.{var, const, Query, success, from_named, block}
use Rattle.definitions.specs.Outcome.{Outcome, ok, fault}
use Rattle.definitions.specs.Machine.{loaded}
use Rattle.definitions.specs.Result.{passed}
use Rattle.definitions.specs.Alphabet.{built_in}
use Rattle.definitions.specs.Calls.{Lengths, Checked, check}
use Rattle.definitions.specs.CallList.{Call, running, paging, Answer, ran, paged, Done, machine_calls}
use Rattle.definitions.specs.declared.RunState.TheVariants.{Ended, Wanted, Waiting, Spent}
use Rattle.definitions.proofs.Opened.{opened}
use Rattle.definitions.proofs.Card.{uri, number}
use Rattle.theorems.proofs.Safety.{Safe, safety-from-load}

-- ── terms, schema and page ──────────────────────────────────────────────────────────────────

-- term 0 the integer 3, 1 the graph c:club, and by the schema 2 p:speed, a decimal
terms : List ℕ
terms = 0x13 ∷ number (pos 3) ++ (0x11 ∷ uri (ascii "c:club"))

schema : List ℕ
schema = 0x21 ∷ uri (ascii "p:speed") ++ (3 ∷ [])

triple : (kind : ℕ) → (subject property : List ℕ) → (object : List ℕ) → List ℕ
triple k s p o = k ∷ uri s ++ (uri p ++ o)

-- l:1 goes 3; l:1 goes l:2, a wrong object; l:2 has a property without an entry; l:2 goes 0.000005
page : List ℕ
page =
    triple 0x83 (ascii "l:1") (ascii "p:speed") (number (pos 3))
    ++ (triple 0x81 (ascii "l:1") (ascii "p:speed") (uri (ascii "l:2"))
    ++ (triple 0x83 (ascii "l:2") (ascii "p:power") (number (pos 3))
    ++ triple 0x84 (ascii "l:2") (ascii "p:speed") (number (pos 5))))

-- from named c:club: $0 $1 where { c:club: $0 p:speed $1 }: success; mode 1 each, 0 once; $0 is written any_uri, $1 is open
script : (mode : ℕ) → List ℕ
script mode =
    0x72 ∷ 0x32 ∷ 1 ∷ 0
    ∷ 0x73 ∷ mode ∷ 2 ∷ 0 ∷ 1 ∷ 1 ∷ 0 ∷ 0 ∷ 0 ∷ 0 ∷ 0
    ∷ 0x61 ∷ 0x32 ∷ 1 ∷ 0 ∷ 0x31 ∷ 0 ∷ 0x32 ∷ 2 ∷ 0 ∷ 0x31 ∷ 1
    ∷ 0x71 ∷ []

whole : Lengths
whole = record { ranks = ranks_width; term_table = term_table_width; quad_table = quad_table_width }

run : (budget : ℕ) → Call
run budget = running whole budget (pos 0)

take : (page : List ℕ) → Call
take p = paging whole 1 p

-- ── what loading finds ──────────────────────────────────────────────────────────────────────

found : (each : Bool) → Checked
found each =
    record {
      schema = record { property = ascii "p:speed"; datatype = Datatype.decimal } ∷ [];
      terms = Term.integer (pos 3) ∷ Term.uri (ascii "c:club") ∷ Term.uri (ascii "p:speed") ∷ [];
      root = from_named 0 (const 1)
          (block 4 each (record { variable = 0; written = some (plain Datatype.any_uri) } ∷ record { variable = 1; written = none } ∷ [])
          (Query.pattern (const 1) (var 0) (const 2) (var 1)) (success 26));
      types = plain Datatype.any_uri ∷ plain Datatype.decimal ∷ replicate 14 (plain Datatype.any_uri);
    }

each-accepted : check terms schema (script 1) ≡ passed (found true)
unfolding terms schema script found uri number opened
each-accepted = refl

once-accepted : check terms schema (script 0) ≡ passed (found false)
unfolding terms schema script found uri number opened
once-accepted = refl

-- ── the machine runs ────────────────────────────────────────────────────────────────────────

-- each call's answer, with how many states it passed
told : Outcome (List Done) → List (Answer × ℕ)
told (ok ds) = map (λ d. (d.answer, length d.passed)) ds
told (fault x) = []

-- the graph is wanted; two records are skipped; from named and the first answer, and the budget is spent;
-- then the first script, the second answer, its script and the end of the block
each-calls : List Call
each-calls = run 10 ∷ take page ∷ run 2 ∷ run 10 ∷ []

each-runs :
    told (machine_calls (found true) built_in each-calls (loaded (found true).terms (found true).root))
    ≡ (ran (Ok (record { steps = 0; state = (Wanted 1) })), 0)
    ∷ (paged (Ok 2), 1)
    ∷ (ran (Ok (record { steps = 2; state = Spent })), 2)
    ∷ (ran (Ok (record { steps = 4; state = Ended })), 4)
    ∷ []
unfolding found uri number opened whole run take page triple told each-calls
each-runs = refl

-- an empty page, and the block waits; then the page: three steps in all, as many as it has records of kinds 71 to 74
once-calls : List Call
once-calls = run 10 ∷ take [] ∷ run 10 ∷ take page ∷ run 10 ∷ []

once_runs :
    told (machine_calls (found false) built_in once-calls (loaded (found false).terms (found false).root))
    ≡ (ran (Ok (record { steps = 0; state = (Wanted 1) })), 0)
    ∷ (paged (Ok 0), 1)
    ∷ (ran (Ok (record { steps = 1; state = Waiting })), 1)
    ∷ (paged (Ok 2), 1)
    ∷ (ran (Ok (record { steps = 2; state = Ended })), 2)
    ∷ []
unfolding found uri number opened whole run take page triple told once-calls
once_runs = refl

-- ── the theorem applies ─────────────────────────────────────────────────────────────────────

each-safe : (calls : List Call) → Safe (found true) built_in calls (loaded (found true).terms (found true).root)
each-safe calls = safety-from-load terms schema (script 1) (found true) each-accepted built_in calls
