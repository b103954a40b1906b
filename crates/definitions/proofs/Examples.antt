-- The definitions at work, by computation: the type printer's example, and each example of the refusals table as bytes through the call it belongs to.
use Prim.Native.Nat.{ℕ, ◌+◌}
use mathlib.Core.Path.{◌≡◌, refl}
use mathlib.Core.List.{List, [], ◌∷◌, ◌++◌}
use mathlib.Core.Option.{none, some}
use lib.IntN.{negsuc}
use lib.ListN.{replicate}
use Rattle.definitions.specs.Limits.{term_table_width, quad_table_width, text_width}
use Rattle.definitions.specs.Alphabet.{built_in}
use Rattle.definitions.specs.Ascii.{ascii}
use Rattle.definitions.specs.Bytes.{filled, little_bytes}
use Rattle.definitions.specs.Terms.{Term, read_terms}
use Rattle.definitions.specs.Calls.{Lent, load}
use Rattle.definitions.specs.Numbers.{answer_number}
use Rattle.definitions.specs.Printer.{printed}
use Rattle.definitions.proofs.Opened.{opened}

-- ── the type printer ────────────────────────────────────────────────────────────────────────

printer-input : List ℕ
printer-input =
    0x13 ∷ 0x03 ∷ 0x00 ∷ 0x00 ∷ 0x00 ∷ 0x00 ∷ 0x00 ∷ 0x00 ∷ 0x00
    ∷ 0x73 ∷ 0x00 ∷ 0x03 ∷ 0x00 ∷ 0x00 ∷ 0x01 ∷ 0x00 ∷ 0x02 ∷ 0x00 ∷ 0x00 ∷ 0x00
    ∷ 0x61 ∷ 0x31 ∷ 0x00 ∷ 0x31 ∷ 0x01 ∷ 0x31 ∷ 0x02 ∷ 0x32 ∷ 0x00 ∷ 0x00
    ∷ 0x71 ∷ []

printer : printed printer-input ≡ ascii "accepted 3\n0 xsd:anyURI\n1 xsd:anyURI\n2 range(xsd:integer)\n"
unfolding printer-input opened
printer = refl

-- ── refusals 1 to 9: load ───────────────────────────────────────────────────────────────────

-- terms, schema and script, with tables of zeros
lend : (terms schema script : List ℕ) → Lent
lend terms schema script =
    record { ranks = built_in; terms = terms; schema = schema; script = script; term_table = replicate term_table_width 0; quad_table = replicate quad_table_width 0 }

load_of : (terms schema script : List ℕ) → ℕ
load_of terms schema script = answer_number (load (lend terms schema script)).returned.answer

integer-3 : List ℕ
integer-3 = 0x13 ∷ little_bytes 8 3

p-name : (datatype : ℕ) → List ℕ
p-name d = 0x21 ∷ filled text_width (ascii "p:name") ++ (d ∷ [])

success : List ℕ
success = 0x71 ∷ []

-- a once block over a query, with no more than one open variable
block : (count : ℕ) → (query : List ℕ) → List ℕ
block count query = 0x73 ∷ 0 ∷ count ∷ replicate 8 0 ++ (query ++ success)

-- a quad table of 0 bytes
refusal-1 : answer_number (load (record { ranks = built_in; terms = []; schema = []; script = success; term_table = replicate term_table_width 0; quad_table = [] })).returned.answer ≡ 1
unfolding success opened
refusal-1 = refl

refusals-2-to-9 :
    load_of (0x16 ∷ []) [] success  -- the one byte 16
    ∷ load_of (integer-3 ++ integer-3) [] success  -- integer 3 twice
    ∷ load_of [] (p-name 6) success  -- datatype 6
    ∷ load_of [] (p-name 2 ++ p-name 3) success  -- p:name twice
    ∷ load_of [] [] []  -- an empty script
    ∷ load_of [] [] (0x72 ∷ 0x31 ∷ 0x00 ∷ 0x71 ∷ [])  -- 72 31 00 71
    ∷ load_of integer-3 [] (block 0 (0x64 ∷ 0x55 ∷ replicate 16 0 ++ (0x32 ∷ 0 ∷ 0 ∷ [])))  -- regex on an integer
    ∷ load_of [] [] (block 1 (0x65 ∷ []))  -- an unused open variable
    ∷ load_of integer-3 (p-name 2) success
    ∷ []
    ≡ 2 ∷ 3 ∷ 4 ∷ 5 ∷ 6 ∷ 7 ∷ 8 ∷ 9 ∷ 0 ∷ []
unfolding lend load_of integer-3 p-name success block opened
refusals-2-to-9 = refl

-- ── refusal 6, and what it lets pass ────────────────────────────────────────────────────────

-- so many sequences, each the first script of the one before: records one deeper than there are sequences
sequences : ℕ → List ℕ
sequences n = replicate n 0x74 ++ replicate (n + 1) 0x71

-- a once block with no variable and a filter
filtered : (cond : List ℕ) → List ℕ
filtered cond = block 0 (0x64 ∷ cond)

refusals-6 :
    load_of [] [] (sequences 23)  -- 24 deep
    ∷ load_of [] [] (sequences 24)  -- 25 deep
    ∷ load_of [] [] (0x73 ∷ 0 ∷ 0 ∷ 0 ∷ 1 ∷ replicate 6 0 ++ (0x65 ∷ success))  -- an unused pair that is not zero
    ∷ load_of integer-3 [] (filtered (0x57 ∷ 0x32 ∷ 0 ∷ 0 ∷ 0x32 ∷ 0 ∷ 0 ∷ []))  -- the last term's number
    ∷ load_of integer-3 [] (filtered (0x57 ∷ 0x32 ∷ 0 ∷ 0 ∷ 0x32 ∷ 1 ∷ 0 ∷ []))  -- the number of terms
    ∷ load_of [] [] (success ++ success)  -- a byte left over
    ∷ load_of integer-3 [] (filtered (0x55 ∷ filled 16 (ascii "a**") ++ (0x32 ∷ 0 ∷ 0 ∷ [])))  -- a bad pattern
    ∷ load_of integer-3 [] (filtered (0x56 ∷ filled 8 (ascii "en*") ++ (0x32 ∷ 0 ∷ 0 ∷ [])))  -- a bad range
    ∷ []
    ≡ 0 ∷ 6 ∷ 6 ∷ 0 ∷ 6 ∷ 6 ∷ 6 ∷ 6 ∷ []
unfolding lend load_of integer-3 success block sequences filtered opened
refusals-6 = refl

-- ── terms as bytes ──────────────────────────────────────────────────────────────────────────

-- a zero inside a text; the integer -3, two's complement
terms-read :
    read_terms (0x11 ∷ filled text_width (ascii "a" ++ (0 ∷ ascii "b")))
    ∷ read_terms (0x13 ∷ 0xFD ∷ replicate 7 0xFF)
    ∷ []
    ≡ none ∷ some (Term.integer (negsuc 2) ∷ []) ∷ []
unfolding opened
terms-read = refl

refusal-2 : load_of (0x11 ∷ filled text_width (ascii "a" ++ (0 ∷ ascii "b"))) [] success ≡ 2
unfolding lend load_of success opened
refusal-2 = refl

-- ── longer texts (document 02, Ask 6) ───────────────────────────────────────────────────────

-- the width of a text in document 01
old_width : ℕ
old_width = 40

-- a URI's record: a text of so many bytes and a last one, in a field of its width
uri-of : (width bytes last : ℕ) → List ℕ
uri-of width n last = 0x11 ∷ filled width (replicate n 0x61 ++ (last ∷ []))

-- a schema record with a property of so many bytes
entry_of : (width bytes : ℕ) → List ℕ
entry_of width n = 0x21 ∷ filled width (replicate n 0x61) ++ (2 ∷ [])

long-texts :
    load_of (uri-of text_width 39 0x61 ++ (uri-of text_width 40 0x61 ++ (uri-of text_width 94 0x61 ++ uri-of text_width 95 0x61))) [] success  -- 40, 41, 95 and 96 bytes
    ∷ load_of (uri-of text_width 95 0x61 ++ uri-of text_width 95 0x62) [] success  -- the 96th tells two terms apart
    ∷ load_of (uri-of text_width 95 0x61 ++ uri-of text_width 95 0x61) [] success  -- one twice
    ∷ load_of (uri-of 97 96 0x61) [] success  -- 97 bytes
    ∷ load_of [] (entry_of text_width 41 ++ entry_of text_width 96) success
    ∷ load_of [] (entry_of 97 97) success
    ∷ load_of (uri-of old_width 5 0x61) [] success  -- a term's record and a schema record of before
    ∷ load_of [] (entry_of old_width 6) success
    ∷ []
    ≡ 0 ∷ 0 ∷ 3 ∷ 2 ∷ 0 ∷ 4 ∷ 2 ∷ 4 ∷ []
unfolding lend load_of success uri-of entry_of old_width opened
long-texts = refl

-- a term table of before: 512 slots of 49 bytes
old-table :
    answer_number (load (record { ranks = built_in; terms = []; schema = []; script = success; term_table = replicate 25088 0; quad_table = replicate quad_table_width 0 })).returned.answer ≡ 1
unfolding success opened
old-table = refl
