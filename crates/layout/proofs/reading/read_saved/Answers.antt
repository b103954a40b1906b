-- A law for each test that fails, and one where all pass.
use mathlib.Core.Path.{ap, sym, ◌∙◌}
use mathlib.Core.Bool.{true}
use lib.Dec.{leb}
use Rattle.definitions.specs.Bytes.{part}
use Rattle.definitions.specs.Limits.{bound_offset, variable_limit}
use Rattle.layout.specs.ReadSaved.{read_of}
use Rattle.layout.proofs.SavedTests.{all-every, too-high, bad-marks, bad-items, all-good}
use Rattle.layout.proofs.reading.read_saved.Goals as goal

pub returns-then-height-gt-ITEM_LIMIT : goal.returns-then-height-gt-ITEM_LIMIT
returns-then-height-gt-ITEM_LIMIT c =
    c.unsound.ensures ∙ ap read_of (sym (too-high _ _ c.number_at-height.ensures c.if-height-gt-ITEM_LIMIT.true))

pub returns-then-not-marks_good : goal.returns-then-not-marks_good
returns-then-not-marks_good c =
    let m = sym (c.marks_good.ensures ∙ all-every (λ m. leb m 1) (part c.args.b.now bound_offset variable_limit)) ∙ c.if-not-marks_good.true in
    c.unsound-then-not-marks_good.ensures ∙ ap read_of (sym (bad-marks _ _ c.number_at-height.ensures c.if-height-gt-ITEM_LIMIT.false m))

pub returns-then-not-items_good : goal.returns-then-not-items_good
returns-then-not-items_good c =
    let m = sym (c.marks_good.ensures ∙ all-every (λ m. leb m 1) (part c.args.b.now bound_offset variable_limit)) ∙ c.if-not-marks_good.false in
    let i = sym c.items_good.ensures ∙ c.if-not-items_good.true in
    c.unsound-then-not-items_good.ensures ∙ ap read_of (sym (bad-items _ _ c.number_at-height.ensures c.if-height-gt-ITEM_LIMIT.false m i))

pub returns : goal.returns
returns c =
    let m = sym (c.marks_good.ensures ∙ all-every (λ m. leb m 1) (part c.args.b.now bound_offset variable_limit)) ∙ c.if-not-marks_good.false in
    let i = sym c.items_good.ensures ∙ c.if-not-items_good.false in
    let h = all-good _ _ c.number_at-height.ensures c.if-height-gt-ITEM_LIMIT.false m i in
    (λ k. record { ok = true; saved = record { control = c.read_control-control.ensures k; store = c.read_store-store.ensures k } }) ∙ ap read_of (sym h)
