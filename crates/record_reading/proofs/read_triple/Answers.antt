-- `record_reading::read_triple` meets its contract.
use native.Mathlib.Omega.{arith}
use mathlib.Core.Path.{◌∙◌}
use mathlib.Core.Logic.{inl, inr}
use Rattle.record_reading.proofs.ReadLaws.{triple-out, triple-kind, triple-subject, triple-property, triple-object}
use Rattle.record_reading.proofs.read_triple.Goals as goal

pub returns-then-s-at : goal.returns-then-s-at
returns-then-s-at c = triple-out _ _ c.if-s-at.true

pub returns-in_err-property-in-129-to-133 : goal.returns-in_err-property-in-129-to-133
returns-in_err-property-in-129-to-133 c = c.from_residual.ensures ∙ triple-subject _ _ c.read_uri.ensures c.in_err-property-in-129-to-133.was

pub returns-in_err-object-in-129-to-133 : goal.returns-in_err-object-in-129-to-133
returns-in_err-object-in-129-to-133 c =
    c.from_residual-in_err-object-in-129-to-133.ensures
    ∙ triple-property _ _ c.read_uri.ensures c.in_ok-property-in-129-to-133.was c.read_uri-in-129-to-133.ensures c.in_err-object-in-129-to-133.was

pub returns-in_ok-object-in-129-to-133 : goal.returns-in_ok-object-in-129-to-133
returns-in_ok-object-in-129-to-133 c =
    triple-object _ _ c.read_uri.ensures c.in_ok-property-in-129-to-133.was c.read_uri-in-129-to-133.ensures c.in_ok-object-in-129-to-133.was (omega arith) c.read_body.ensures

pub returns-in_default : goal.returns-in_default
returns-in_default c = triple-kind _ _ (inl (omega arith))

pub returns-in_default-2 : goal.returns-in_default-2
returns-in_default-2 c = triple-kind _ _ (inr (omega arith))
