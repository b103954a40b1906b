-- The definitions at work, by computation: a schema out of a page.
use Prim.Native.Nat.{ℕ}
use mathlib.Core.Path.{◌≡◌, refl}
use mathlib.Core.List.{List, [], ◌∷◌, ◌++◌}
use lib.ListN.{replicate, take, drop}
use Rattle.definitions.specs.Limits.{text_width, schema_width, schema_report_width}
use Rattle.definitions.specs.Ascii.{ascii}
use Rattle.definitions.specs.Bytes.{filled, little_bytes}
use Rattle.definitions.specs.Types.{any_uri, string, decimal, integer}
use Rattle.definitions.specs.Terms.{Text, Term, Triple}
use Rattle.definitions.specs.Gathering.{Gathered, gathered}
use Rattle.definitions.specs.Exports.{schema_export}
use Rattle.definitions.proofs.Opened.{opened}

-- ── what records ask ────────────────────────────────────────────────────────────────────────

ranges : (subject object : Text) → Triple
ranges s o = record { subject = s; property = ascii "rdfs:range"; object = Term.uri o }

is_a : (subject object : Text) → Triple
is_a s o = record { subject = s; property = ascii "rdf:type"; object = Term.uri o }

a : Text
a = ascii "p:a"

b : Text
b = ascii "p:b"

-- integer with decimal, in either order; the order of the first asking record
least : gathered (ranges a (ascii "xsd:integer") ∷ ranges b (ascii "xsd:integer") ∷ ranges a (ascii "xsd:decimal") ∷ [])
    ≡ record { entries = record { property = a; datatype = decimal } ∷ record { property = b; datatype = integer } ∷ []; left_out = 0 }
unfolding ranges a b opened
least = refl

least-turned : gathered (ranges a (ascii "xsd:decimal") ∷ ranges a (ascii "xsd:integer") ∷ [])
    ≡ record { entries = record { property = a; datatype = decimal } ∷ []; left_out = 0 }
unfolding ranges a opened
least-turned = refl

-- decimal with string, and integer once more: left out, and counted once
conflict : gathered (ranges a (ascii "xsd:decimal") ∷ ranges a (ascii "xsd:string") ∷ ranges b (ascii "xsd:string") ∷ ranges a (ascii "xsd:integer") ∷ [])
    ≡ record { entries = record { property = b; datatype = string } ∷ []; left_out = 1 }
unfolding ranges a b opened
conflict = refl

-- another URI, a name in another case, an object property: any_uri
any-uri : gathered (ranges a (ascii "p:Town") ∷ ranges b (ascii "xsd:Decimal") ∷ is_a (ascii "p:c") (ascii "owl:ObjectProperty") ∷ [])
    ≡ record {
      entries =
          record { property = a; datatype = any_uri }
          ∷ record { property = b; datatype = any_uri }
          ∷ record { property = ascii "p:c"; datatype = any_uri }
          ∷ [];
      left_out = 0;
    }
unfolding ranges is_a a b opened
any-uri = refl

-- another class, another property, a property's name in another case, a text that is no URI: nothing is asked
nothing : gathered (
    is_a a (ascii "owl:DatatypeProperty")
    ∷ is_a a (ascii "xsd:decimal")
    ∷ record { subject = a; property = ascii "p:range"; object = Term.uri (ascii "xsd:decimal") }
    ∷ record { subject = a; property = ascii "rdfs:Range"; object = Term.uri (ascii "xsd:decimal") }
    ∷ record { subject = a; property = ascii "rdfs:range"; object = Term.string [] (ascii "xsd:decimal") }
    ∷ [])
    ≡ record { entries = []; left_out = 0 }
unfolding is_a a opened
nothing = refl

-- ── the call on bytes ───────────────────────────────────────────────────────────────────────

field : Text → List ℕ
field t = filled text_width t

-- p:a has range xsd:integer
page : List ℕ
page = 0x81 ∷ field a ++ (field (ascii "rdfs:range") ++ field (ascii "xsd:integer"))

buffer : List ℕ
buffer = replicate schema_width 9

report : List ℕ
report = replicate schema_report_width 9

-- an entry at the front, the rest untouched
one_entry : schema_export page buffer report
    ≡ record { number = 0; schema = 0x21 ∷ field a ++ (5 ∷ drop 98 buffer); report = little_bytes 4 1 ++ little_bytes 4 0 }
unfolding field a page buffer report opened
one_entry = refl

-- a buffer a byte short, with a bad page; a report a byte short; the one byte 81
refusals :
    schema_export (0x81 ∷ []) (drop 1 buffer) report
    ∷ schema_export page buffer (drop 1 report)
    ∷ schema_export (0x81 ∷ []) buffer report
    ∷ []
    ≡ record { number = 1; schema = drop 1 buffer; report = report }
    ∷ record { number = 1; schema = buffer; report = drop 1 report }
    ∷ record { number = 13; schema = buffer; report = report }
    ∷ []
unfolding field a page buffer report opened
refusals = refl
