-- The definitions at work, by computation: a script loaded, run and given pages, call by call on bytes; and refusals 10 to 14.
use Rattle.definitions.specs.declared.Refusal.TheVariants.{Unsound, BadRun, NoGraph, BadPage, NoRoom, NotFetched, ShortBuffer}
use Rattle.std.specs.Prelude.{Ok, Err}
use Prim.Native.Nat.{ℕ, ◌+◌}
use mathlib.Core.Path.{◌≡◌, refl}
use mathlib.Core.List.{List, [], ◌∷◌, ◌++◌}
use lib.IntN.{pos, negsuc}
use lib.ListN.{replicate, set}
use Rattle.definitions.specs.Limits.{ranks_width, term_table_width, quad_table_width, text_width, tag_width}
use Rattle.definitions.specs.Alphabet.{below, built_in}
use Rattle.definitions.specs.Ascii.{ascii}
use Rattle.definitions.specs.Bytes.{filled}
use Rattle.definitions.specs.Outcome.{Outcome, ok, fault}
use Rattle.definitions.specs.Calls.{Lengths, Lent, load, run_call, PageResult, page_call, PublishResult, publish_call}
use Rattle.definitions.specs.CallList.{Call, running, paging, Answer, ran, paged}
use Rattle.definitions.specs.declared.SavedRun.{SavedRun}
use Rattle.definitions.specs.declared.Ran.{Ran}
use Rattle.definitions.specs.declared.RunState.{RunState}
use Rattle.definitions.specs.declared.RunState.TheVariants.{Ended, Wanted, Spent}
use Rattle.definitions.proofs.Opened.{opened}
use Rattle.definitions.proofs.Card.{with_tables, uri, number, card}

-- ── calls one after the other, each with the tables and the saved run as the one before left them ──

-- a call's answer, and what it left; a fault answers nothing
record Left : Type 0 where
  answers : List Answer
  lent : Lent
  saved : SavedRun

after_run : Lent → SavedRun → Outcome Ran → Left
after_run l saved (fault x) = record { answers = []; lent = l; saved = saved }
after_run l saved (ok r) = record { answers = ran r.answer ∷ []; lent = l; saved = r.saved }

after_page : Lent → PageResult → Left
after_page l r =
    record { answers = paged r.returned.answer ∷ []; lent = with_tables l r.term_table r.quad_table; saved = r.returned.saved }

-- the lengths are those of the tables lent
after_call : Lent → SavedRun → Call → Left
after_call l saved (running n budget now) = after_run l saved (run_call l saved budget now)
after_call l saved (paging n g page) = after_page l (page_call l saved g page)

after_calls : List Call → Left → Left
after_calls [] x = x
after_calls (c ∷ cs) x =
    let y = after_call x.lent x.saved c in
    after_calls cs (record { answers = x.answers ++ y.answers; lent = y.lent; saved = y.saved })

after_load : Lent → Left
after_load l = let r = load l in record { answers = []; lent = with_tables l r.term_table r.quad_table; saved = r.returned.saved }

-- ── the pages ───────────────────────────────────────────────────────────────────────────────

triple : (kind : ℕ) → (subject property : List ℕ) → (object : List ℕ) → List ℕ
triple k s p o = k ∷ uri s ++ (uri p ++ o)

-- l:1 goes 3; a speed in words; a property without an entry; l:2 goes -0.000005; l:1 goes 3 again
page : List ℕ
page =
    triple 0x83 (ascii "l:1") (ascii "p:speed") (number (pos 3))
    ++ (triple 0x82 (ascii "l:1") (ascii "p:speed") (filled tag_width (ascii "en") ++ filled text_width (ascii "fast"))
    ++ (triple 0x83 (ascii "l:2") (ascii "p:power") (number (pos 3))
    ++ (triple 0x84 (ascii "l:2") (ascii "p:speed") (number (negsuc 4))
    ++ triple 0x83 (ascii "l:1") (ascii "p:speed") (number (pos 3)))))

whole : Lengths
whole = record { ranks = ranks_width; term_table = term_table_width; quad_table = quad_table_width }

run_for : ℕ → Call
run_for budget = running whole budget (pos 0)

take : (graph : ℕ) → List ℕ → Call
take g p = paging whole g p

ran_for : ℕ → RunState → Answer
ran_for steps state = ran (Ok (record { steps = steps; state = state }))

-- Wanted, with no step. The page: two records skipped. From named and the first answer with its script are three steps; then the second answer, its script and
-- the end of the block. Budget over 60,000, now no date_time; a graph that is an integer, one past the table; a cut page.
season :
    (after_calls (
    run_for 10 ∷ take 1 page ∷ run_for 3 ∷ run_for 10 ∷ run_for 0
    ∷ run_for 60001 ∷ running whole 0 (pos 253402300800) ∷ take 0 [] ∷ take 600 [] ∷ take 1 (0x81 ∷ []) ∷ []
    ) (after_load card)).answers
    ≡ ran_for 0 (Wanted 1) ∷ paged (Ok 2) ∷ ran_for 3 Spent ∷ ran_for 3 Ended ∷ ran_for 0 Ended
    ∷ ran (Err BadRun) ∷ ran (Err BadRun) ∷ paged (Err NoGraph) ∷ paged (Err NoGraph) ∷ paged (Err BadPage) ∷ []
unfolding with_tables after_run after_page after_call after_calls after_load uri number card triple page whole run_for take ran_for opened
season = refl

-- Answers are looked for in the store of that moment: an empty page between two answers, and the block is dropped.
none_left :
    (after_calls (take 1 page ∷ run_for 3 ∷ take 1 [] ∷ run_for 10 ∷ []) (after_load card)).answers
    ≡ paged (Ok 2) ∷ ran_for 3 Spent ∷ paged (Ok 0) ∷ ran_for 1 Ended ∷ []
unfolding with_tables after_run after_page after_call after_calls after_load uri number card triple page whole run_for take ran_for opened
none_left = refl

-- ── longer texts (document 02, Ask 6) ───────────────────────────────────────────────────────

-- l:1 goes 3, in fields of 40 bytes as document 01 had them
old_page : List ℕ
old_page = 0x83 ∷ filled 40 (ascii "l:1") ++ (filled 40 (ascii "p:speed") ++ number (pos 3))

-- a subject of 96 bytes, and one that differs from it in the last
long_page : List ℕ
long_page =
    triple 0x83 (replicate 95 0x61 ++ (0x61 ∷ [])) (ascii "p:speed") (number (pos 3))
    ++ triple 0x83 (replicate 95 0x61 ++ (0x62 ∷ [])) (ascii "p:speed") (number (pos 3))

-- a page of before is bad, alone and four times over; of the long one each subject is an answer: from named, two answers, and each with its script
longer :
    (after_calls (
    take 1 old_page ∷ take 1 (old_page ++ (old_page ++ (old_page ++ old_page))) ∷ take 1 long_page ∷ run_for 10 ∷ []
    ) (after_load card)).answers
    ≡ paged (Err BadPage) ∷ paged (Err BadPage) ∷ paged (Ok 0) ∷ ran_for 6 Ended ∷ []
unfolding with_tables after_run after_page after_call after_calls after_load uri number card triple old_page long_page whole run_for take ran_for opened
longer = refl

-- ── refusal 10: a quad naming term 600 of 4 ─────────────────────────────────────────────────

-- the page is in; its first quad's object becomes term 600
filled_card : Left
filled_card = after_calls (take 1 page ∷ []) (after_load card)

with_object600 : Left → Left
with_object600 x =
    record { answers = []; lent = with_tables x.lent x.lent.term_table (set (set x.lent.quad_table 6 0x58) 7 2); saved = x.saved }

unsound :
    (after_calls (run_for 10 ∷ take 1 [] ∷ []) (with_object600 filled_card)).answers
    ≡ ran (Err Unsound) ∷ paged (Err Unsound) ∷ []
unfolding with_tables after_run after_page after_call after_calls after_load uri number card triple page run_for take filled_card with_object600 opened
unsound = refl

-- ── publishing (document 02, Ask 11) ────────────────────────────────────────────────────────

publish : Left → (graph : ℕ) → (buffer : List ℕ) → PublishResult
publish x g buffer = publish_call x.lent x.saved g buffer

-- what the page left, l:1 once: the rest of the buffer is untouched; a graph that is not fetched; a buffer a byte too short; an unsound table
publishing :
    publish filled_card 1 (replicate 403 7)
    ∷ publish filled_card 2 []
    ∷ publish filled_card 1 (replicate 401 7)
    ∷ publish (with_object600 filled_card) 2 []
    ∷ []
    ≡ record {
      returned = Ok 402;
      page =
          triple 0x83 (ascii "l:1") (ascii "p:speed") (number (pos 3))
          ++ (triple 0x84 (ascii "l:2") (ascii "p:speed") (number (negsuc 4)) ++ (7 ∷ []));
    }
    ∷ record { returned = Err NotFetched; page = [] }
    ∷ record { returned = Err ShortBuffer; page = replicate 401 7 }
    ∷ record { returned = Err Unsound; page = [] }
    ∷ []
unfolding with_tables after_run after_page after_call after_calls after_load uri number card triple page take filled_card with_object600 publish opened
publishing = refl

-- ── refusal 14: a 65th graph ────────────────────────────────────────────────────────────────

-- 65 URIs, and the script success
graph_ur_is : List ℕ → List ℕ
graph_ur_is [] = []
graph_ur_is (n ∷ ns) = 0x11 ∷ uri (0x67 ∷ (0x21 + n) ∷ []) ++ graph_ur_is ns

graph_card : Lent
graph_card =
    record { ranks = built_in; terms = graph_ur_is (below 65); schema = []; script = 0x71 ∷ []; term_table = replicate term_table_width 0; quad_table = replicate quad_table_width 0 }

-- the first 64 are fetched
with64 : Left → Left
with64 x = record { answers = []; lent = x.lent; saved = fetch64 x.saved }
  where
    fetch64 : SavedRun → SavedRun
    fetch64 r = record { control = r.control; store = record { quads = r.store.quads; graphs = 64; fetched = below 64 } }

sixty_fifth :
    (after_calls (take 64 [] ∷ []) (with64 (after_load graph_card))).answers ≡ paged (Err NoRoom) ∷ []
unfolding with_tables after_run after_page after_call after_calls after_load uri take below graph_ur_is graph_card with64 opened
sixty_fifth = refl
