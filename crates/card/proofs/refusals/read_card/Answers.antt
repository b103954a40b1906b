-- `card::refusals::read_card` meets its contract.
use mathlib.Core.Path.{refl, ◌∙◌}
use Rattle.table.specs.Table.{added_of, table_of}
use Rattle.records.proofs.NumberingLaws.{listed-holds, listed_same}
use Rattle.card.proofs.Told.{told-refusal}
use Rattle.card.proofs.ReadyLaws.{terms-refused, records-refused, terms-good, schema-good, many-listed, too_many, script-refused, ready, listed-so}
use borrow.Author.Rules.{rules}
use Rattle.card.proofs.refusals.read_card.Goals as goal

pub returns-in_err-n : goal.returns-in_err-n
returns-in_err-n c = told-refusal _ _ (search rules) (terms-refused _ _ _ c.in_err-n.ensures.value)

pub returns-in_err-entries : goal.returns-in_err-entries
returns-in_err-entries c = told-refusal _ _ (search rules) (records-refused _ _ _ (c.in_err-entries.ensures _ _ c.in_ok-n.ensures.value))

pub returns-then-n-gt-TERM_LIMIT : goal.returns-then-n-gt-TERM_LIMIT
returns-then-n-gt-TERM_LIMIT c =
    let l = c.in_ok-entries.ensures _ _ c.in_ok-n.ensures.value in
    many-listed _ _ _ (l.0, l.1) c.in_ok-n.ensures.value c.if-n-gt-TERM_LIMIT.true

pub add_properties-requires : goal.add_properties-requires
add_properties-requires c =
    let e = c.in_ok-entries.ensures _ _ c.in_ok-n.ensures.value in
    let l = c.in_ok-n.ensures.lists _ refl c.if-n-gt-TERM_LIMIT.false in record {
      schema_value = schema-good _ _ c.args.script.now (e.0, e.1);
      holds_terms = listed-holds (terms-good _ _ c.args.script.now (e.0, e.1)) c.if-n-gt-TERM_LIMIT.false l;
      hashes_len = search rules;
      hashed = l.hashed;
    }

pub returns-in_default : goal.returns-in_default
returns-in_default c =
    let e = c.in_ok-entries.ensures _ _ c.in_ok-n.ensures.value in
    let same = listed_same (terms-good _ _ c.args.script.now (e.0, e.1)) c.if-n-gt-TERM_LIMIT.false (c.in_ok-n.ensures.lists _ refl c.if-n-gt-TERM_LIMIT.false) in
    too_many _ _ c.args.script.now (e.0, e.1) (c.add_properties.ensures.0 ∙ listed-so _ added_of same) (c.add_properties.ensures.1 ∙ listed-so _ table_of same) c.in_default.is

pub test_script-requires : goal.test_script-requires
test_script-requires c = let e = c.in_ok-entries.ensures _ _ c.in_ok-n.ensures.value in schema-good _ _ c.args.script.now (e.0, e.1)

pub returns-in_err-test_script : goal.returns-in_err-test_script
returns-in_err-test_script c =
    let e = c.in_ok-entries.ensures _ _ c.in_ok-n.ensures.value in
    let same = listed_same (terms-good _ _ c.args.script.now (e.0, e.1)) c.if-n-gt-TERM_LIMIT.false (c.in_ok-n.ensures.lists _ refl c.if-n-gt-TERM_LIMIT.false) in
    told-refusal _ _ (search rules)
    (script-refused _ _ c.args.script.now (e.0, e.1) (c.add_properties.ensures.0 ∙ listed-so _ added_of same) (c.add_properties.ensures.1 ∙ listed-so _ table_of same) c.in-Some.is
    c.in_err-test_script.ensures)

pub returns : goal.returns
returns c =
    let e = c.in_ok-entries.ensures _ _ c.in_ok-n.ensures.value in
    let same = listed_same (terms-good _ _ c.args.script.now (e.0, e.1)) c.if-n-gt-TERM_LIMIT.false (c.in_ok-n.ensures.lists _ refl c.if-n-gt-TERM_LIMIT.false) in
    ready _ _ c.args.script.now (e.0, e.1) (c.add_properties.ensures.0 ∙ listed-so _ added_of same) (c.add_properties.ensures.1 ∙ listed-so _ table_of same) c.in-Some.is
    c.in_ok-test_script.ensures _ e.2
