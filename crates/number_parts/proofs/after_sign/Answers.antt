-- By the byte that stands there.
use Rattle.std.proofs.Common.{rules}
use Rattle.number_parts.proofs.PartLaws.{is-sign, other_sign, sign-there, no_sign}
use Rattle.number_parts.proofs.after_sign.Goals as goal

pub returns-in-43 : goal.returns-in-43
returns-in-43 c = sign-there _ _ _ c.byte_at.ensures (is-sign c.in-43.is)

pub returns-in_default : goal.returns-in_default
returns-in_default c = no_sign _ _ _ c.byte_at.ensures (other_sign c.byte_at.result (search rules))
