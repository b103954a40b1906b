use mathlib.Core.Path.{refl}
use Rattle.definitions.specs.Types.{Datatype}
use Rattle.page_typing.proofs.TypingLaws.{code_is, code-last}
use Rattle.page_typing.proofs.object_code.Goals as goal

pub returns-in-129 : goal.returns-in-129
returns-in-129 c = code_is _ 0x81 Datatype.any_uri c.in-129.is refl

pub returns-in-130 : goal.returns-in-130
returns-in-130 c = code_is _ 0x82 Datatype.string c.in-130.is refl

pub returns-in-131 : goal.returns-in-131
returns-in-131 c = code_is _ 0x83 Datatype.integer c.in-131.is refl

pub returns-in-132 : goal.returns-in-132
returns-in-132 c = code_is _ 0x84 Datatype.decimal c.in-132.is refl

pub returns-in_default : goal.returns-in_default
returns-in_default c = code-last _ c.in_default.in_default-own.rest.0.0.0.1 c.in_default.in_default-own.rest.0.0.1 c.in_default.in_default-own.rest.0.1 c.in_default.in_default-own.rest.1
