-- What a record at an offset holds, and the records from an offset on.
use Rattle.std.specs.Prelude.{ℕ, suc, ◌+◌, ◌≤◌, List, ◌≡◌, length}
use Rattle.std.proofs.Math.Option.{Option, some}
use Rattle.definitions.specs.Limits.{text_width, uri_width, entry_width, property_offset, object_offset}
use Rattle.definitions.specs.Bytes.{Got, byte, part, records_from}
use Rattle.definitions.specs.Types.{Datatype, datatype_of_code}
use Rattle.definitions.specs.Terms.{Term, Entry, Triple, body_width, term_of_body, uri_text, of_term_kind, of_page_kind}

pub record TermAt (s : List ℕ) (at : ℕ) (t : Term) (next : ℕ) : Type 0 where
  pub datatype : Datatype
  pub kind : of_term_kind (byte s at) ≡ some datatype
  pub body : term_of_body datatype (part s (at + 1) (body_width datatype)) ≡ some t
  pub ends : next ≡ at + 1 + body_width datatype
  pub fits : next ≤ length s

pub record EntryAt (s : List ℕ) (at : ℕ) (x : Entry) (next : ℕ) : Type 0 where
  pub property : uri_text (part s (at + 1) text_width) ≡ some x.property
  pub datatype : datatype_of_code (byte s (at + uri_width)) ≡ some x.datatype
  pub ends : next ≡ at + entry_width
  pub fits : next ≤ length s

pub record TripleAt (s : List ℕ) (at : ℕ) (x : Triple) (next : ℕ) : Type 0 where
  pub datatype : Datatype
  pub kind : of_page_kind (byte s at) ≡ some datatype
  pub subject : uri_text (part s (at + 1) text_width) ≡ some x.subject
  pub property : uri_text (part s (at + property_offset) text_width) ≡ some x.property
  pub object : term_of_body datatype (part s (at + object_offset) (body_width datatype)) ≡ some x.object
  pub ends : next ≡ at + object_offset + body_width datatype
  pub fits : next ≤ length s

-- the records from an offset on
unfoldable pub records_at : {A : Type 0} → (List ℕ → ℕ → Got A) → List ℕ → ℕ → Option (List A)
records_at read s at = records_from read (suc (length s)) s at
