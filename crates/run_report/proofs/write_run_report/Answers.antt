-- Steps, state, zero and graph are put one after the other.
use native.Mathlib.Omega.{arith}
use mathlib.Core.Path.{ap, ◌∙◌}
use lib.ListN.{length-set}
use Rattle.definitions.specs.Bytes.{little_bytes}
use Rattle.laws.proofs.Writing.{put-none, put_one, put-part, put_all, two-between}
use Rattle.run_report.proofs.RunReport.{run-refused, ran}
use Rattle.run_report.proofs.write_run_report.Goals as goal

pub returns-in_default : goal.returns-in_default
returns-in_default c = run-refused _ c.in_default.is

pub bounds-out-5 : goal.bounds-out-5
bounds-out-5 c = simp length-set (omega arith)

pub slice_bounds-write_word-end : goal.slice_bounds-write_word-end
slice_bounds-write_word-end c = simp length-set (omega arith)

pub shape_of-out : goal.shape_of-out
shape_of-out c =
    simp length-set at c.out-2-1.given.1 ∙ c.out-1.given.1

pub returns : goal.returns
returns c =
    let first = put-part {old = c.args.out.now} c.write_number.new.out 4 put-none (omega arith) (omega (arith, c.requires)) c.write_number.auto.out in
    let both = put_one 0 (put_one c.state_number.result first (omega (arith, c.requires))) (omega (arith, c.requires)) in
    let steps = c.write_number.ensures ∙ ap (λ k. little_bytes k c.in-Ok.end.steps) c.write_number-arg-1.given.2 in
    put_all (put-part c.write_word.new.out 8 both (omega arith) (omega (arith, c.requires)) c.write_word.auto.out) (omega (arith, c.requires))
    ∙ (two-between c.write_number.new.out c.write_word.new.out c.state_number.result 0 ∙ ran _ c.in-Ok.is steps c.state_number.ensures c.write_word.ensures c.wanted_graph.ensures)
