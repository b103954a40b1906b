-- `query::names::names_at` meets its contract: four names, one after the other. Assumes nothing.
use mathlib.Core.Path.{refl}
use Rattle.laws.proofs.Productions.{four-at}
use Rattle.query.proofs.CodeLaws.{four-codes}
use Rattle.query.proofs.names.names_at.Goals as goal

pub name_at-g-requires : goal.name_at-g-requires
name_at-g-requires c = record { loads = (four-at c.requires.loads refl).first; known_len = c.requires.known_len }

pub name_at-s-requires : goal.name_at-s-requires
name_at-s-requires c = record { loads = (four-at c.requires.loads refl).second c.name_at-g.ensures; known_len = c.requires.known_len }

pub name_at-p-requires : goal.name_at-p-requires
name_at-p-requires c = record { loads = (four-at c.requires.loads refl).third c.name_at-g.ensures c.name_at-s.ensures; known_len = c.requires.known_len }

pub name_at-o-requires : goal.name_at-o-requires
name_at-o-requires c = record { loads = (four-at c.requires.loads refl).fourth c.name_at-g.ensures c.name_at-s.ensures c.name_at-p.ensures; known_len = c.requires.known_len }

pub returns : goal.returns
returns c =
    (four-at c.requires.loads refl).node c.name_at-g.ensures c.name_at-s.ensures c.name_at-p.ensures
    c.name_at-o.ensures (λ a b d e ha hb hd he. four-codes _ _ a b d e ha hb hd he)
