-- `records::schema::least_type` meets its contract.
use native.Mathlib.Omega.{arith}
use mathlib.Core.Path.{refl, ap, ◌∙◌}
use Rattle.definitions.specs.Limits.{text_width}
use Rattle.definitions.specs.Bytes.{part}
use Rattle.definitions.specs.Terms.{uri_text, read_schema}
use Rattle.definitions.specs.Types.{Datatype}
use Rattle.table.specs.Hashes.{hash_of}
use Rattle.fields.proofs.NumberLaws.{code-is, code-not}
use Rattle.records.proofs.SchemaLaws.{uri-field, uri-slot, no-schema-uri, schema-uri, least-literal, least-last, code-small}
use Rattle.records.proofs.schema.least_type.Goals as goal

pub datatype_of-datatype-requires : goal.datatype_of-datatype-requires
datatype_of-datatype-requires c = record {
  schema_value = c.requires.schema_value;
  uri_value = uri-field c.args.slot.now c.requires.good_slot.good c.in-17.is;
  hashed_entries = c.requires.hashed_entries;
  hash_value = c.hash_of.ensures
      ∙ ap hash_of (uri-slot c.args.slot.now c.requires.good_slot.good c.in-17.is c.requires.good_slot.width (λ k. omega (arith, c.type_inv.slot k)));
}

pub returns-in-None : goal.returns-in-None
returns-in-None c =
    no-schema-uri _ c.requires.schema_value c.args.slot.now c.requires.good_slot.good c.in-17.is refl (code-not _ c.datatype_of-datatype.ensures c.in-None.is)

pub overflow_add-result : goal.overflow_add-result
overflow_add-result c =
    omega (arith, code-is _ c.datatype_of-datatype.ensures c.in-Some.is, code-small (read_schema c.args.schema.now) (uri_text (part c.args.slot.now 1 text_width)))

pub returns-in-Some : goal.returns-in-Some
returns-in-Some c =
    let k = code-is _ c.datatype_of-datatype.ensures c.in-Some.is in
    schema-uri _ c.requires.schema_value c.args.slot.now c.requires.good_slot.good c.in-17.is k.0 (λ e. omega (arith, k))

pub returns-in-18 : goal.returns-in-18
returns-in-18 c =
    least-literal _ c.requires.schema_value c.args.slot.now c.requires.good_slot.good 0x12 Datatype.string c.in-18.is refl (λ e. omega arith)

pub returns-in-19 : goal.returns-in-19
returns-in-19 c =
    least-literal _ c.requires.schema_value c.args.slot.now c.requires.good_slot.good 0x13 Datatype.integer c.in-19.is refl (λ e. omega arith)

pub returns-in-20 : goal.returns-in-20
returns-in-20 c =
    least-literal _ c.requires.schema_value c.args.slot.now c.requires.good_slot.good 0x14 Datatype.decimal c.in-20.is refl (λ e. omega arith)

pub returns-in_default : goal.returns-in_default
returns-in_default c =
    least-last _ c.requires.schema_value c.args.slot.now c.requires.good_slot.good c.in_default.in_default-own.rest.0.0.0.1 c.in_default.in_default-own.rest.0.0.1 c.in_default.in_default-own.rest.0.1 c.in_default.in_default-own.rest.1
