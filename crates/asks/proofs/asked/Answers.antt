-- `asks::asked` meets its contract: by the kind of the record, its property and its object.
use native.Mathlib.Omega.{arith}
use Rattle.definitions.specs.Ascii.{ascii}
use Rattle.asks.proofs.AskLaws.{asks-none, asks-some, no-uri, uri-inside, range-asks, no_kind, kind-yes, kind-no}
use mathlib.Core.Path.{ap}
use mathlib.Core.Bool.{not}
use Rattle.asks.proofs.asked.Goals as goal

pub returns-then-page-at : goal.returns-then-page-at
returns-then-page-at c = λ x next h. asks-none (no-uri _ _ _ x h c.if-page-at.true)

pub slice_bounds-range_code-end : goal.slice_bounds-range_code-end
slice_bounds-range_code-end c = uri-inside _ _ _ _ c.requires.2 c.if-page-at.false

pub returns-then-is_text : goal.returns-then-is_text
unfolding ascii
returns-then-is_text c =
    λ x next h. range-asks _ _ _ x h c.if-page-at.false c.is_text.ensures c.if-is_text.true c.range_code.ensures

pub returns-then-not-is_text : goal.returns-then-not-is_text
unfolding ascii
returns-then-not-is_text c =
    λ x next h. asks-none (no_kind _ _ _ x h c.if-page-at.false c.is_text.ensures c.if-is_text.false c.is_text-2.ensures (ap not c.if-not-is_text.true))

pub slice_bounds-is_text-end-5 : goal.slice_bounds-is_text-end-5
slice_bounds-is_text-end-5 c =
    uri-inside _ _ _ _ c.requires.2 c.if-page-at.false

pub returns-then-is_text-2 : goal.returns-then-is_text-2
unfolding ascii
returns-then-is_text-2 c =
    λ x next h. asks-some (omega arith) (kind-yes _ _ _ x h c.if-page-at.false c.is_text.ensures c.if-is_text.false c.is_text-2.ensures (ap not c.if-not-is_text.false) c.is_text-3.ensures c.if-is_text-2.true)

pub returns : goal.returns
unfolding ascii
returns c =
    λ x next h. asks-none (kind-no _ _ _ x h c.if-page-at.false c.is_text.ensures c.if-is_text.false c.is_text-2.ensures (ap not c.if-not-is_text.false) c.is_text-3.ensures c.if-is_text-2.false)
