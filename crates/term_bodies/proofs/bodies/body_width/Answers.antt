-- `term_bodies::bodies::body_width` meets its contract.
use native.Mathlib.Omega.{arith}
use Rattle.fields.specs.Answers.{width_of}
use Rattle.term_bodies.proofs.BodyLaws.{kind-numbers, kind-below, kind-above}
use Rattle.term_bodies.proofs.bodies.body_width.Goals as goal

pub returns-in-17 : goal.returns-in-17
unfolding width_of
returns-in-17 c = rw c.in-17.is

pub returns-in-18 : goal.returns-in-18
unfolding width_of
returns-in-18 c = rw c.in-18.is

pub returns-in-19-to-21 : goal.returns-in-19-to-21
returns-in-19-to-21 c = kind-numbers c.args.kind (omega arith) (omega arith)

pub returns-in_default : goal.returns-in_default
unfolding width_of
returns-in_default c = rw (kind-below c.args.kind (omega arith) (omega arith) (omega arith))

pub returns-in_default-2 : goal.returns-in_default-2
unfolding width_of
returns-in_default-2 c = rw (kind-above c.args.kind (omega arith))
