-- The definitions at work, by computation: the calls on bytes.
use Prim.Native.Nat.{ℕ}
use mathlib.Core.Path.{◌≡◌, refl}
use mathlib.Core.List.{List, [], ◌∷◌, ◌++◌}
use lib.IntN.{pos}
use lib.ListN.{replicate, set, take}
use Rattle.definitions.specs.Outcome.{ok}
use Rattle.definitions.specs.Calls.{Lent}
use Rattle.definitions.specs.Ascii.{ascii}
use Rattle.definitions.specs.Exports.{LoadExport, load_export, run_export, total_export, suggest_export}
use Rattle.definitions.specs.Limits.{text_width, saved_width, run_report_width, total_report_width, suggest_report_width}
use Rattle.definitions.specs.Bytes.{filled}
use Rattle.definitions.proofs.Opened.{opened}
use Rattle.definitions.proofs.Card.{card, with_tables}

lent : List ℕ
lent = replicate saved_width 9

first : LoadExport
first = load_export card lent

loaded_card : Lent
loaded_card = with_tables card first.term_table first.quad_table

-- height 1, no quad and no graph; types any_uri and decimal; nothing bound or fetched; the root at offset 0
load-saves : first.saved ≡ 1 ∷ 0 ∷ 0 ∷ 0 ∷ 0 ∷ 0 ∷ 1 ∷ 3 ∷ replicate 478 0
unfolding lent first opened Rattle.definitions.proofs.Card.card Rattle.definitions.proofs.Card.uri Rattle.definitions.proofs.Card.number
load-saves = refl

report : List ℕ
report = replicate run_report_width 9

-- wanted graph 1 with no step; a mark of 2 for a variable; a saved run a byte short
run-reports :
    run_export loaded_card first.saved 10 (pos 0) report
    ∷ run_export loaded_card (set first.saved 22 2) 10 (pos 0) report
    ∷ run_export loaded_card (take 485 first.saved) 10 (pos 0) report
    ∷ []
    ≡ ok (record { number = 0; saved = first.saved; report = 0 ∷ 0 ∷ 0 ∷ 0 ∷ 1 ∷ 0 ∷ 1 ∷ 0 ∷ [] })
    ∷ ok (record { number = 10; saved = set first.saved 22 2; report = report })
    ∷ ok (record { number = 1; saved = take 485 first.saved; report = report })
    ∷ []
unfolding lent first loaded_card report opened Rattle.definitions.proofs.Card.card Rattle.definitions.proofs.Card.uri
    Rattle.definitions.proofs.Card.number Rattle.definitions.proofs.Card.with_tables
run-reports = refl

-- ── total ───────────────────────────────────────────────────────────────────────────────────

-- a sequence of a block, once or each, and success
two_scripts : (mode : ℕ) → List ℕ
two_scripts mode = 0x74 ∷ 0x73 ∷ mode ∷ replicate 9 0 ++ (0x65 ∷ 0x71 ∷ 0x71 ∷ [])

-- a once block with an open variable, which load refuses with 9
open_variable : List ℕ
open_variable = 0x73 ∷ 0 ∷ 1 ∷ replicate 8 0 ++ (0x65 ∷ 0x71 ∷ [])

total_lent : List ℕ
total_lent = replicate total_report_width 9

-- four records; an each block below the root; types are not asked; an empty script; a report a byte short
totals :
    total_export [] [] (two_scripts 0) total_lent
    ∷ total_export [] [] (two_scripts 1) total_lent
    ∷ total_export [] [] open_variable total_lent
    ∷ total_export [] [] [] total_lent
    ∷ total_export [] [] (two_scripts 0) (take 3 total_lent)
    ∷ []
    ≡ record { number = 0; report = 4 ∷ 0 ∷ 0 ∷ 0 ∷ [] }
    ∷ record { number = 0; report = 0 ∷ 0 ∷ 0 ∷ 0 ∷ [] }
    ∷ record { number = 0; report = 2 ∷ 0 ∷ 0 ∷ 0 ∷ [] }
    ∷ record { number = 6; report = total_lent }
    ∷ record { number = 1; report = 9 ∷ 9 ∷ 9 ∷ [] }
    ∷ []
unfolding two_scripts open_variable total_lent opened
totals = refl

-- ── suggest ─────────────────────────────────────────────────────────────────────────────────

-- document 02's `$p $o` with `p:speed $o`, $g and $s written as any_uri
speed_schema : List ℕ
speed_schema = 0x21 ∷ filled text_width (ascii "p:speed") ++ (3 ∷ [])

pattern_on : (property : List ℕ) → List ℕ
pattern_on p = 0x61 ∷ 0x31 ∷ 0 ∷ 0x31 ∷ 1 ∷ p ++ (0x31 ∷ 3 ∷ [])

speed_script : List ℕ
speed_script = 0x73 ∷ 0 ∷ 4 ∷ 0 ∷ 1 ∷ 1 ∷ 1 ∷ 2 ∷ 0 ∷ 3 ∷ 0 ∷ 0x62 ∷ pattern_on (0x31 ∷ 2 ∷ []) ++ (pattern_on (0x32 ∷ 0 ∷ 0 ∷ []) ++ (0x71 ∷ []))

-- two variables that nothing uses
two_open : List ℕ
two_open = 0x73 ∷ 0 ∷ 2 ∷ 0 ∷ 0 ∷ 1 ∷ replicate 5 0 ++ (0x65 ∷ 0x71 ∷ [])

-- from named a string
named_string : List ℕ
named_string = 0x73 ∷ 0 ∷ 1 ∷ 0 ∷ 2 ∷ replicate 6 0 ++ (0x65 ∷ 0x72 ∷ 0x31 ∷ 0 ∷ 0x71 ∷ [])

suggest_lent : List ℕ
suggest_lent = replicate suggest_report_width 9

-- variable 2, code 11; one variable that nothing uses, the lowest code; two of them; nothing to write; no typing; an empty script; a report a byte short
suggestions :
    suggest_export [] speed_schema speed_script suggest_lent
    ∷ suggest_export [] [] open_variable suggest_lent
    ∷ suggest_export [] [] two_open suggest_lent
    ∷ suggest_export [] [] (0x71 ∷ []) suggest_lent
    ∷ suggest_export [] [] named_string suggest_lent
    ∷ suggest_export [] [] [] suggest_lent
    ∷ suggest_export [] [] open_variable (take 3 suggest_lent)
    ∷ []
    ≡ record { number = 0; report = 1 ∷ 2 ∷ 11 ∷ 0 ∷ [] }
    ∷ record { number = 0; report = 1 ∷ 0 ∷ 1 ∷ 0 ∷ [] }
    ∷ record { number = 0; report = 2 ∷ 0 ∷ 0 ∷ 0 ∷ [] }
    ∷ record { number = 0; report = 0 ∷ 0 ∷ 0 ∷ 0 ∷ [] }
    ∷ record { number = 8; report = suggest_lent }
    ∷ record { number = 6; report = suggest_lent }
    ∷ record { number = 1; report = 9 ∷ 9 ∷ 9 ∷ [] }
    ∷ []
unfolding speed_schema pattern_on speed_script open_variable two_open named_string suggest_lent opened
suggestions = refl
