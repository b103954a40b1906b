-- `query::may::is_open` meets its contract: a name is known where its code is a term's. Assumes nothing.
use mathlib.Core.Path.{refl, sym, ◌∙◌, ap}
use mathlib.Core.Bool.{true≢false}
use lib.Dec.{ltb}
use Rattle.laws.proofs.Productions.{expr-at}
use Rattle.query.specs.Known.{expr_known}
use Rattle.scan.specs.Codes.{sought_code}
use Rattle.query.proofs.CodeLaws.{code-bound}
use Rattle.query.proofs.MayLaws.{code-waits}
use Rattle.query.proofs.may.is_open.Goals as goal

pub bounds-script-at : goal.bounds-script-at
bounds-script-at c = (expr-at _ _ _ _ _ refl c.requires.loads).inside

pub returns-then-script-at-ge65 : goal.returns-then-script-at-ge65
returns-then-script-at-ge65 c = λ e. absurd (true≢false (sym e))

pub name_at-name-requires : goal.name_at-name-requires
name_at-name-requires c = record { loads = ((expr-at _ _ _ _ _ refl c.requires.loads).name c.if-script-at-ge65.false).child; known_len = c.requires.known_len }

pub returns : goal.returns
unfolding expr_known
returns c =
    let n = (expr-at _ _ _ _ _ refl c.requires.loads).name c.if-script-at-ge65.false in
    code-waits _ c.name_at-name.result.code (n.node c.name_at-name.ensures (λ m h. ap (λ x. ltb x sought_code) h.0 ∙ code-bound _ m h.1))
