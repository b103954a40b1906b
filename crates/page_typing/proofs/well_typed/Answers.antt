-- `page_typing::well_typed` meets its contract.
use mathlib.Core.Path.{ap, ◌∙◌}
use Rattle.table.specs.Hashes.{hash_of}
use Rattle.fields.proofs.NumberLaws.{code-is, code-not}
use Rattle.page_typing.proofs.TypingLaws.{property-uri, typed-is, untyped}
use Rattle.page_typing.proofs.well_typed.Goals as goal

pub datatype_of-requires : goal.datatype_of-requires
datatype_of-requires c = record { schema_value = c.requires.schema_value; uri_value = property-uri c.args.page.now c.args.at c.args.next c.requires.triple_at.0 c.requires.triple_at.1; hashed_entries = c.requires.hashed_entries; hash_value = c.hash_of-hash.ensures ∙ ap hash_of c.slot_of-slot.ensures }

pub returns-in_default : goal.returns-in_default
returns-in_default c =
    λ S x e r. untyped c.args.schema.now c.args.page.now S c.args.at c.args.next x e r (code-not _ c.datatype_of.ensures c.in_default.is)

pub returns : goal.returns
returns c =
    λ S x e r. c.has_type.ensures
    ∙ typed-is c.args.schema.now c.args.page.now S c.args.at c.args.next x e r _ _ (code-is _ c.datatype_of.ensures c.in-Some.is).0
    (c.object_code-given.ensures r.datatype r.kind)
