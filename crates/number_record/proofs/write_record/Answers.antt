-- Kind and number are put one after the other.
use native.Mathlib.Omega.{arith}
use mathlib.Core.Path.{ap, ◌∙◌}
use mathlib.Core.List.{◌∷◌}
use lib.ListN.{length-set}
use Rattle.definitions.specs.Bytes.{little_bytes}
use Rattle.laws.proofs.Writing.{put-none, put_one, put-part, put_all}
use Rattle.number_record.proofs.write_record.Goals as goal

pub slice_bounds-write_number-end : goal.slice_bounds-write_number-end
slice_bounds-write_number-end c = simp length-set (omega arith)

pub shape_of-out : goal.shape_of-out
shape_of-out c = simp length-set at c.out-1.given.1

pub returns : goal.returns
returns c =
    let first = put_one {old = c.args.out.now} c.args.kind put-none (omega (arith, c.requires)) in
    put_all (put-part c.write_number.new.out 9 first (omega arith) (omega (arith, c.requires)) c.write_number.auto.out) (omega (arith, c.requires))
    ∙ ap (λ l. c.args.kind ∷ l) (c.write_number.ensures ∙ ap (λ k. little_bytes k c.args.n) c.write_number-arg-1.given.2)
