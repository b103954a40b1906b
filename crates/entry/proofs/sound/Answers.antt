-- `entry::sound` meets its contract: a law of EntryLaws for each test.
use native.Mathlib.Omega.{arith}
use mathlib.Core.Path.{◌≡◌, sym, ◌∙◌}
use mathlib.Core.List.{[]}
use lib.ListN.{length}
use Rattle.definitions.specs.Limits.{variable_limit}
use Rattle.table.proofs.TableLaws.{holds-few}
use Rattle.entry.proofs.EntryLaws.{not-checked, no-terms, other-types, other-terms, other-store, other-control, all_found, schema-good, schema-hashed, script-good}
use Rattle.entry.proofs.EntryLaws.{loading-holds, loading-apart, table-holds, loaded-in, codes-stand, leasts-length}
use borrow.Author.Rules.{rules}
use Rattle.entry.proofs.sound.Goals as goal

pub check_card-requires : goal.check_card-requires
check_card-requires c = record { table_value = search rules; leasts_len = search rules }

pub returns-in_default : goal.returns-in_default
returns-in_default c = λ ranks. not-checked ranks _ _ _ c.args.table.now c.args.store.now c.args.saved c.in_default.ensures

pub counted-requires : goal.counted-requires
counted-requires c = record { holds_terms = loading-holds [] _ _ _ c.args.table.now c.args.store.now c.args.saved c.in-Ok.ensures; table_len = c.requires.table_len }

pub returns-in_default-counted : goal.returns-in_default-counted
returns-in_default-counted c =
    λ ranks. no-terms ranks _ _ _ c.args.table.now c.args.store.now c.args.saved c.in-Ok.ensures c.counted.ensures
    c.in_default-counted.is

pub slice_bounds-same-end : goal.slice_bounds-same-end
slice_bounds-same-end c =
    let types_long : length c.args.saved.control.types ≡ variable_limit = search rules in
    sym types_long

pub returns-then-not-same : goal.returns-then-not-same
returns-then-not-same c =
    λ ranks. other-types ranks _ _ _ c.args.table.now c.args.store.now c.args.saved c.in-Ok.ensures
    c.same.ensures.1 c.if-not-same.true

pub terms_sound-requires : goal.terms_sound-requires
terms_sound-requires c = record {
  holds_terms = loading-holds [] _ _ _ c.args.table.now c.args.store.now c.args.saved c.in-Ok.ensures;
  holds_terms_2 = table-holds [] _ _ _ c.args.table.now c.args.store.now c.args.saved c.in-Ok.ensures c.requires.table_len
      c.counted.ensures c.in-Some.is;
  loading_value = loading-apart [] _ _ _ c.args.table.now c.args.store.now c.args.saved c.in-Ok.ensures;
}

pub returns-then-not-terms_sound : goal.returns-then-not-terms_sound
returns-then-not-terms_sound c =
    λ ranks. other-terms ranks _ _ _ c.args.table.now c.args.store.now c.args.saved c.in-Ok.ensures c.requires.table_len
    c.counted.ensures c.in-Some.is c.terms_sound.ensures c.if-not-terms_sound.true

pub slice_bounds-least_codes-end : goal.slice_bounds-least_codes-end
slice_bounds-least_codes-end c =
    sym (schema-hashed [] _ _ _ c.args.table.now c.args.store.now c.args.saved c.in-Ok.ensures).room

pub least_codes-requires : goal.least_codes-requires
least_codes-requires c = record {
  schema_value = schema-good [] _ _ _ c.args.table.now c.args.store.now c.args.saved c.in-Ok.ensures;
  hashed_entries = schema-hashed [] _ _ _ c.args.table.now c.args.store.now c.args.saved c.in-Ok.ensures;
  holds_terms = table-holds [] _ _ _ c.args.table.now c.args.store.now c.args.saved c.in-Ok.ensures c.requires.table_len
      c.counted.ensures c.in-Some.is;
  count_in_bounds = omega (
    arith,
    holds-few _ _
        (table-holds [] _ _ _ c.args.table.now c.args.store.now c.args.saved c.in-Ok.ensures c.requires.table_len
        c.counted.ensures c.in-Some.is),
    c.leasts-1.given,
    c.requires.leasts_len,
  );
  from_le_count = loaded-in [] _ _ _ c.args.table.now c.args.store.now c.args.saved c.in-Ok.ensures c.requires.table_len
      c.counted.ensures c.in-Some.is c.terms_sound.ensures c.if-not-terms_sound.false;
  out_value = codes-stand [] _ _ _ c.args.table.now c.args.store.now
      c.args.saved c.in-Ok.ensures c.requires.table_len c.counted.ensures c.in-Some.is c.terms_sound.ensures
      c.if-not-terms_sound.false;
}

pub store_sound-requires : goal.store_sound-requires
store_sound-requires c = record {
  quads_len = c.requires.store_len;
  count_in_bounds = omega (
    arith,
    holds-few _ _
        (table-holds [] _ _ _ c.args.table.now c.args.store.now c.args.saved c.in-Ok.ensures c.requires.table_len
        c.counted.ensures c.in-Some.is),
    leasts-length [] _ _ _ c.args.table.now c.args.store.now c.args.saved c.in-Ok.ensures c.requires.table_len c.counted.ensures c.in-Some.is c.terms_sound.ensures c.if-not-terms_sound.false
        (omega (arith, c.leasts-1.given, c.requires.leasts_len)) c.least_codes.ensures,
  );
  quad_limit_in_bounds = omega (arith, c.requires.keys_len);
}

pub shape_of-leasts-then-not-store_sound : goal.shape_of-leasts-then-not-store_sound
shape_of-leasts-then-not-store_sound c =
    leasts-length [] _ _ _ c.args.table.now c.args.store.now c.args.saved c.in-Ok.ensures c.requires.table_len
    c.counted.ensures c.in-Some.is c.terms_sound.ensures c.if-not-terms_sound.false (omega (arith, c.leasts-1.given, c.requires.leasts_len))
    c.least_codes.ensures ∙ sym c.requires.leasts_len

pub returns-then-not-store_sound : goal.returns-then-not-store_sound
returns-then-not-store_sound c =
    λ ranks. other-store ranks _ _ _ c.args.table.now c.args.store.now c.args.saved c.in-Ok.ensures c.requires.table_len
    c.counted.ensures c.in-Some.is c.terms_sound.ensures c.if-not-terms_sound.false (omega (arith, c.leasts-1.given, c.requires.leasts_len))
    c.least_codes.ensures c.store_sound.ensures.value c.if-not-store_sound.true

pub control_sound-requires : goal.control_sound-requires
control_sound-requires c = record {
  script_value = script-good [] _ _ _ c.args.table.now c.args.store.now c.args.saved c.in-Ok.ensures;
  count_in_bounds = omega (
    arith,
    holds-few _ _
        (table-holds [] _ _ _ c.args.table.now c.args.store.now c.args.saved c.in-Ok.ensures c.requires.table_len
        c.counted.ensures c.in-Some.is),
    leasts-length [] _ _ _ c.args.table.now c.args.store.now c.args.saved c.in-Ok.ensures c.requires.table_len c.counted.ensures c.in-Some.is c.terms_sound.ensures c.if-not-terms_sound.false
        (omega (arith, c.leasts-1.given, c.requires.leasts_len)) c.least_codes.ensures,
  );
}

pub shape_of-leasts-then-not-control_sound : goal.shape_of-leasts-then-not-control_sound
shape_of-leasts-then-not-control_sound c =
    leasts-length [] _ _ _ c.args.table.now c.args.store.now c.args.saved c.in-Ok.ensures c.requires.table_len
    c.counted.ensures c.in-Some.is c.terms_sound.ensures c.if-not-terms_sound.false (omega (arith, c.leasts-1.given, c.requires.leasts_len))
    c.least_codes.ensures ∙ sym c.requires.leasts_len

pub returns-then-not-control_sound : goal.returns-then-not-control_sound
returns-then-not-control_sound c =
    λ ranks. other-control ranks _ _ _ c.args.table.now c.args.store.now c.args.saved c.in-Ok.ensures
    c.requires.table_len c.counted.ensures c.in-Some.is c.terms_sound.ensures c.if-not-terms_sound.false (omega (arith, c.leasts-1.given, c.requires.leasts_len))
    c.least_codes.ensures c.store_sound.ensures.value c.if-not-store_sound.false c.same.ensures.0 c.if-not-same.false c.control_sound.ensures
    c.if-not-control_sound.true

pub shape_of-leasts : goal.shape_of-leasts
shape_of-leasts c =
    leasts-length [] _ _ _ c.args.table.now c.args.store.now c.args.saved c.in-Ok.ensures c.requires.table_len
    c.counted.ensures c.in-Some.is c.terms_sound.ensures c.if-not-terms_sound.false (omega (arith, c.leasts-1.given, c.requires.leasts_len))
    c.least_codes.ensures ∙ sym c.requires.leasts_len

pub returns : goal.returns
returns c =
    λ ranks. all_found ranks _ _ _ c.args.table.now c.args.store.now c.args.saved c.in-Ok.ensures c.requires.table_len
    c.counted.ensures c.in-Some.is c.terms_sound.ensures c.if-not-terms_sound.false (omega (arith, c.leasts-1.given, c.requires.leasts_len))
    c.least_codes.ensures c.store_sound.ensures.value c.if-not-store_sound.false c.same.ensures.0 c.if-not-same.false c.control_sound.ensures
    c.if-not-control_sound.false _ (omega (arith, c.keys-1.given, c.requires.keys_len)) c.store_sound.ensures.in_order
