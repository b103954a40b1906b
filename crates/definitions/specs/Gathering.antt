-- Document 02, Ask 7: a schema out of a page, by section 4.2 of source 000.
use Rattle.std.specs.Prelude.{ℕ, suc, List, [], ◌∷◌, ◌++◌, map, Bool, true, false, not, ◌&&◌, ◌||◌}
use Rattle.std.proofs.Math.Option.{Option, none, some}
use Rattle.std.proofs.Math.ListN.{get_elem?}
use Rattle.definitions.specs.Ascii.{ascii}
use Rattle.definitions.specs.Lists.{every, some?, keep}
use Rattle.definitions.specs.Bytes.{same_bytes, provided}
use Rattle.definitions.specs.Types.{Datatype, any_uri, datatype_name, leq_datatype, all_datatypes}
use Rattle.definitions.specs.Terms.{Text, Term, Schema, Triple}

-- ── what a record asks ──────────────────────────────────────────────────────────────────────

-- the datatype that a text names, whole and by case
unfoldable pub named : Text → Option Datatype
named u = get_elem? (keep (λ d. same_bytes u (datatype_name d)) all_datatypes) 0

-- another URI asks for any_uri
abbrev pub named_or_uri : Option Datatype → Datatype
named_or_uri none = any_uri
named_or_uri (some d) = d

unfoldable pub asks_of_uri : (property object : Text) → Option Datatype
asks_of_uri p u =
    elim (same_bytes p (ascii "rdfs:range")) [
      | true ↦ some (named_or_uri (named u))
      | false ↦ provided (same_bytes p (ascii "rdf:type") && same_bytes u (ascii "owl:ObjectProperty")) (some any_uri)
    ]

-- at least this datatype; an object that is no URI asks nothing
unfoldable pub asks : (property : Text) → (object : Term) → Option Datatype
asks p (Term.uri u) = asks_of_uri p u
asks p (Term.string g t) = none
asks p (Term.integer n) = none
asks p (Term.decimal n) = none
asks p (Term.date_time n) = none

-- of a subject at least a datatype is asked
pub record Asking : Type 0 where
  pub subject : Text
  pub least : Datatype

abbrev pub asking : Text → Option Datatype → List Asking
asking u none = []
asking u (some d) = record { subject = u; least = d } ∷ []

-- what a page asks, record by record
unfoldable pub askings : List Triple → List Asking
askings [] = []
askings (r ∷ rs) = asking r.subject (asks r.property r.object) ++ askings rs

-- ── the least datatype that meets all of it ─────────────────────────────────────────────────

-- what is asked of a subject
unfoldable pub asked_of : Text → List Asking → List Datatype
asked_of u all = map (λ a. a.least) (keep (λ a. same_bytes u a.subject) all)

-- at least each datatype that is asked
unfoldable pub meets : List Datatype → Datatype → Bool
meets asked e = every (λ d. leq_datatype d e) asked

-- a datatype that passes a test and is below or equal to each that does
abbrev pub is_least : (Datatype → Bool) → Datatype → Bool
is_least ok e = ok e && every (λ f. not (ok f) || leq_datatype e f) all_datatypes

unfoldable pub least_that : (Datatype → Bool) → Option Datatype
least_that ok = get_elem? (keep (is_least ok) all_datatypes) 0

-- none where there is none
unfoldable pub least_asked : Text → List Asking → Option Datatype
least_asked u all = least_that (meets (asked_of u all))

-- ── entries ─────────────────────────────────────────────────────────────────────────────────

-- a subject joins those before it, where it is not there
unfoldable pub with_subject : Text → List Text → List Text
with_subject u us = elim (some? (same_bytes u) us) [ true ↦ us | false ↦ us ++ (u ∷ []) ]

-- subjects, each once, in the order of their first asking record, after those before
unfoldable pub subjects_after : List Text → List Asking → List Text
subjects_after us [] = us
subjects_after us (a ∷ all) = subjects_after (with_subject a.subject us) all

-- entries, and how many subjects are left out
pub record Gathered : Type 0 where
  pub entries : Schema
  pub left_out : ℕ

-- a subject in front of those after it: its entry, or one more that is left out
abbrev pub entering : Text → Option Datatype → Gathered → Gathered
entering u (some d) g = record { entries = record { property = u; datatype = d } ∷ g.entries; left_out = g.left_out }
entering u none g = record { entries = g.entries; left_out = suc g.left_out }

unfoldable pub gathered_of : List Asking → List Text → Gathered
gathered_of all [] = record { entries = []; left_out = 0 }
gathered_of all (u ∷ us) = entering u (least_asked u all) (gathered_of all us)

unfoldable pub gathered : List Triple → Gathered
gathered page = let all = askings page in gathered_of all (subjects_after [] all)
