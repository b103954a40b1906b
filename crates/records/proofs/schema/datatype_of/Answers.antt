-- `records::schema::datatype_of` meets its contract.
use Prim.Native.Nat.{◌/◌}
use native.Mathlib.Omega.{arith}
use borrow.Author.Rules.{rules}
use mathlib.Core.Path.{sym, ◌∙◌}
use lib.ListN.{length}
use lib.Seq.{length-take-le}
use Rattle.definitions.specs.Limits.{entry_width}
use Rattle.records.proofs.EntryLaws.{found-inside, found-code, none-code}
use Rattle.records.proofs.schema.datatype_of.Goals as goal

pub slice_bounds-find-end : goal.slice_bounds-find-end
slice_bounds-find-end c =
    sym (length-take-le (length c.args.schema.now / entry_width) c.args.hashes.now (omega (arith, c.requires.hashed_entries.few, c.requires.hashed_entries.room)))

pub returns-in_err-i : goal.returns-in_err-i
returns-in_err-i c =
    c.from_residual.ensures
    ∙ none-code c.args.schema.now c.args.hashes.now c.args.uri.now c.requires.schema_value c.requires.uri_value c.requires.hashed_entries c.requires.hash_value c.find.ensures
    (λ i l t p. search rules) c.in_err-i.was

pub overflow_mul-result : goal.overflow_mul-result
overflow_mul-result c =
    omega (
      arith,
      c.requires.hashed_entries.few,
      found-inside c.args.schema.now c.args.hashes.now c.args.uri.now c.requires.schema_value c.requires.uri_value c.requires.hashed_entries c.requires.hash_value c.find.ensures
          (λ i l t p. search rules) c.in_ok-i.was,
    )

pub overflow_add-result : goal.overflow_add-result
overflow_add-result c =
    omega (
      arith,
      c.requires.hashed_entries.few,
      found-inside c.args.schema.now c.args.hashes.now c.args.uri.now c.requires.schema_value c.requires.uri_value c.requires.hashed_entries c.requires.hash_value c.find.ensures
          (λ i l t p. search rules) c.in_ok-i.was,
    )

pub bounds-schema-i : goal.bounds-schema-i
bounds-schema-i c =
    omega (
      arith,
      found-inside c.args.schema.now c.args.hashes.now c.args.uri.now c.requires.schema_value c.requires.uri_value c.requires.hashed_entries c.requires.hash_value c.find.ensures
          (λ i l t p. search rules) c.in_ok-i.was,
    )

pub returns : goal.returns
returns c =
    found-code c.args.schema.now c.args.hashes.now c.args.uri.now c.requires.schema_value c.requires.uri_value c.requires.hashed_entries c.requires.hash_value c.find.ensures
    (λ i l t p. search rules) c.in_ok-i.was
