use native.Mathlib.Omega.{arith}
use Rattle.acts.proofs.StepLaws.{height-is, room, inside, from, fetched-acts, wanted-acts}
use Rattle.acts.proofs.enter_named.Goals as goal

pub overflow_add-name : goal.overflow_add-name
overflow_add-name c = let l = inside c.requires.on_top _ c.requires.at_value (omega arith) in omega (arith, c.requires.on_top.here.short)

pub returns-in_default : goal.returns-in_default
returns-in_default c =
    absurd ((from c.requires.on_top c.requires.at_value _ c.read_name.ensures).there c.in_default.is)

pub number_of-graph-requires : goal.number_of-graph-requires
number_of-graph-requires c = (from c.requires.on_top c.requires.at_value _ c.read_name.ensures).name

pub overflow_cast-body : goal.overflow_cast-body
overflow_cast-body c =
    let t = from c.requires.on_top c.requires.at_value _ c.read_name.ensures in
    let e = t.found _ c.in-Some.is in
    omega (arith, t.low, c.requires.on_top.here.short)

pub replace-requires : goal.replace-requires
replace-requires c = record { height_nonzero = omega (arith, height-is c.requires.on_top); height_le_depth_limit = omega (arith, height-is c.requires.on_top, room c.requires.on_top) }

pub returns-then-is_fetched : goal.returns-then-is_fetched
returns-then-is_fetched c =
    λ x stored. fetched-acts x _ (from x c.requires.at_value _ c.read_name.ensures) _ c.number_of-graph.ensures _ stored _ c.is_fetched.ensures c.if-is_fetched.true _
    c.in-Some.is _ c.fresh_item-item.ensures _ c.replace.ensures

pub returns : goal.returns
returns c =
    λ x stored. wanted-acts x _ (from x c.requires.at_value _ c.read_name.ensures) _ c.number_of-graph.ensures _ stored _ c.is_fetched.ensures c.if-is_fetched.false
