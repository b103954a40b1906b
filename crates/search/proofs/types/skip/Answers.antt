-- `search::types::skip` meets its contract. Assumes nothing.
use native.Mathlib.Omega.{arith}
use mathlib.Core.Path.{sym, ◌∙◌}
use Rattle.search.proofs.TypeLaws.{skip_by, skip-none, near-one, none-near}
use Rattle.search.proofs.types.skip.Goals as goal

pub returns-then-count-from : goal.returns-then-count-from
returns-then-count-from c = skip-none _ _ _ _ c.if-count-from.true

pub first_under-found-requires : goal.first_under-found-requires
first_under-found-requires c = record { from_le_count = c.near_end-near.ensures.0; count_in_bounds = omega (arith, c.near_end-near.ensures, c.requires) }

pub returns-then-found-near : goal.returns-then-found-near
returns-then-found-near c =
    near-one _ _ _ _ _ c.near_end-near.ensures.0 c.near_end-near.ensures.1 _ c.first_under-found.ensures c.if-found-near.true ∙ skip_by _ _ _ c.under-below.ensures _ _

pub past_blocks-far-requires : goal.past_blocks-far-requires
past_blocks-far-requires c = record { from_le_count = c.near_end-near.ensures.1; count_in_bounds = c.requires }

pub first_under-requires : goal.first_under-requires
first_under-requires c = record { from_le_count = c.past_blocks-far.ensures.0; count_in_bounds = c.requires }

pub returns : goal.returns
returns c =
    let near = none-near _ _ _ _ _ c.near_end-near.ensures.0 c.near_end-near.ensures.1 _ c.first_under-found.ensures c.if-found-near.false in
    c.first_under.ensures ∙ (sym (near ∙ c.past_blocks-far.ensures.1) ∙ skip_by _ _ _ c.under-below.ensures _ _)
