-- `query::may::pair_open` meets its contract: the table says where the first expression ends. Assumes nothing.
use mathlib.Core.Path.{◌∙◌, subst⁻¹}
use Rattle.definitions.specs.Reading.{read_expr}
use Rattle.laws.specs.Walks.{Loads}
use Rattle.laws.proofs.Ends.{expr-ends}
use Rattle.query.proofs.MayLaws.{first-waits, second-waits}
use Rattle.query.proofs.may.pair_open.Goals as goal

pub is_open-requires : goal.is_open-requires
is_open-requires c = record { loads = c.requires.pair_loads.0; known_len = c.requires.known_len }

pub returns-then-is_open : goal.returns-then-is_open
returns-then-is_open c = λ e. first-waits _ (read_expr _ _ _) _ (c.is_open.ensures c.if-is_open.true)

pub after-second-requires : goal.after-second-requires
after-second-requires c = c.args.view.now.ends_lent.room

pub is_open-requires-2 : goal.is_open-requires-2
is_open-requires-2 c =
    let (e, m, r) = c.requires.pair_loads.0 in
    let ends = c.after-second.ensures ∙ expr-ends _ _ c.args.view.now.ends_lent.ended _ _ _ e m r in record { loads = subst⁻¹ (λ k. Loads (read_expr c.args.view.now.script.now c.args.view.now.context.loaded c.args.left k)) ends (c.requires.pair_loads.1 e m r); known_len = c.requires.known_len }

pub returns : goal.returns
returns c =
    λ h. second-waits _ (read_expr _ _ _) _ (λ e m r. c.after-second.ensures ∙ expr-ends _ _ c.args.view.now.ends_lent.ended _ _ _ e m r) (c.is_open-2.ensures h)
