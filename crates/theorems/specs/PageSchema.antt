-- Document 02, Ask 7: what a schema call leaves at the front of its buffer.
--
--   The records read back as a schema with distinct properties, which a load takes past 4 and 5. The datatype of each entry is the least that meets all
--   that is asked of its subject, and a subject is left out exactly where there is no such datatype. Entries stand in the order of the subjects.
use Rattle.std.specs.Prelude.{Ok}
use Rattle.std.specs.Prelude.{ℕ, ◌+◌, ◌*◌, ◌≤◌, ◌≡◌, ◌↔◌, List, [], map, T, length, take, drop}
use Rattle.std.proofs.Math.Option.{some}
use Rattle.definitions.specs.Limits.{entry_width, entry_limit}
use Rattle.definitions.specs.Lists.{keep, distinct}
use Rattle.definitions.specs.Bytes.{same_bytes}
use Rattle.definitions.specs.Types.{Datatype, leq_datatype}
use Rattle.definitions.specs.Terms.{Text, Term, Entry, Schema, Triple, same_term, same_property, read_terms, read_schema}
use Rattle.definitions.specs.Gathering.{askings, asked_of, meets, least_asked, subjects_after}
use Rattle.definitions.specs.Result.{passed}
use Rattle.definitions.specs.Calls.{Listed, record_tests, page_in, SchemaResult, schema_call}
use Rattle.laws.specs.Lists.{◌∈◌}
use Rattle.laws.specs.ReadAnswers.{is_some}

-- a datatype that meets all that is asked, and is below or equal to every other that does
pub record IsLeast (asked : List Datatype) (d : Datatype) : Type 0 where
  pub met : T (meets asked d)
  pub below : (e : Datatype) → T (meets asked e) → T (leq_datatype d e)

abbrev pub subjects : List Triple → List Text
subjects rs = subjects_after [] (askings rs)

abbrev pub asked_in : List Triple → Text → List Datatype
asked_in rs u = asked_of u (askings rs)

pub record PageSchema (page before after : List ℕ) (entries left_out : ℕ) : Type 0 where
  pub triples : List Triple
  pub reads : page_in page ≡ some triples
  -- the schema that the front of the buffer is; the rest is untouched
  pub schema : Schema
  pub back : read_schema (take (entries * entry_width) after) ≡ some schema
  pub count : length schema ≡ entries
  pub few : entries ≤ entry_limit
  pub apart : T (distinct same_property schema)
  pub rest : drop (entries * entry_width) after ≡ drop (entries * entry_width) before
  -- beside terms that pass 2 and 3 a load takes it past 4 and 5
  pub taken : (terms : List ℕ) (listed : List Term) → read_terms terms ≡ some listed → T (distinct same_term listed)
      → record_tests terms (take (entries * entry_width) after) ≡ passed (record { terms = listed; schema = schema })
  -- the subjects are those of which something is asked, each once
  pub asked : (u : Text) → (u ∈ subjects triples) ↔ (asked_in triples u ≡ [] → ⊥)
  pub once : T (distinct same_bytes (subjects triples))
  -- those with a least datatype have an entry, in their order; the others are counted
  pub order : map (λ e. e.property) schema ≡ keep (λ u. is_some (least_asked u (askings triples))) (subjects triples)
  pub least : (e : Entry) → e ∈ schema → IsLeast (asked_in triples e.property) e.datatype
  pub entered : (u : Text) → u ∈ subjects triples → (d : Datatype) → IsLeast (asked_in triples u) d → record { property = u; datatype = d } ∈ schema
  pub others : entries + left_out ≡ length (subjects triples)

abbrev pub PageSchemas : Type 0
PageSchemas = (page schema : List ℕ) (entries left_out : ℕ) → (schema_call page schema).answer ≡ Ok (record { entries = entries; left_out = left_out })
    → PageSchema page schema (schema_call page schema).schema entries left_out
