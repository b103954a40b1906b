-- The six parts are put one after the other.
use native.Mathlib.Omega.{arith}
use mathlib.Core.Path.{◌≡◌, sym, ◌∙◌}
use mathlib.Core.List.{◌++◌}
use borrow.Author.Rules.{rules}
use lib.ListN.{length}
use Rattle.definitions.specs.Exports.{saved_bytes}
use Rattle.laws.proofs.Writing.{put-none, put-part, put_all}
use Rattle.layout.proofs.JoinedBytes.{six-parts}
use Rattle.layout.proofs.writing.write_saved.Goals as goal

pub write_marks-requires : goal.write_marks-requires
write_marks-requires c =
    let bound-length : length c.args.run.control.bound ≡ 16 = search rules in
    c.write_marks-arg-1.given.2 ∙ sym bound-length

pub slice_bounds-write_words-end-3 : goal.slice_bounds-write_words-end-3
slice_bounds-write_words-end-3 c =
    let bindings-length : length c.args.run.control.bindings ≡ 16 = search rules in
    sym bindings-length

pub write_words-requires-2 : goal.write_words-requires-2
write_words-requires-2 c =
    let bindings-length : length c.args.run.control.bindings ≡ 16 = search rules in
    omega (arith, c.write_words-arg-2-1.given.2, bindings-length)

pub slice_bounds-write_words-end-5 : goal.slice_bounds-write_words-end-5
slice_bounds-write_words-end-5 c =
    let fetched-length : length c.args.run.store.fetched ≡ 64 = search rules in
    sym fetched-length

pub write_words-requires-3 : goal.write_words-requires-3
write_words-requires-3 c =
    let fetched-length : length c.args.run.store.fetched ≡ 64 = search rules in
    omega (arith, c.write_words-arg-3-1.given.2, fetched-length)

pub returns : goal.returns
unfolding saved_bytes
returns c =
    let types-length : length c.args.run.control.types ≡ 16 = search rules in
    let a = put-part {old = c.args.out.now} c.write_words.new.out 6 put-none (omega arith) (omega (arith, c.requires)) c.write_words.auto.out in
    let b = put-part c.copy_from_slice.new.self 22 a (omega arith) (omega (arith, c.requires)) c.copy_from_slice.auto.self in
    let d = put-part c.write_marks.new.out 38 b (omega arith) (omega (arith, c.requires)) c.write_marks.auto.out in
    let e = put-part c.write_words-2.new.out 70 d (omega arith) (omega (arith, c.requires)) c.write_words-2.auto.out in
    let f = put-part c.write_words-3.new.out 198 e (omega arith) (omega (arith, c.requires)) c.write_words-3.auto.out in
    let g = put-part c.write_items.new.out 486 f (omega arith) (omega (arith, c.requires)) c.write_items.auto.out in
    let types = c.copy_from_slice.ensures.after in
    put_all g (omega (arith, c.requires))
    ∙ (six-parts c.write_words.new.out c.copy_from_slice.new.self c.write_marks.new.out c.write_words-2.new.out c.write_words-3.new.out c.write_items.new.out
    ∙ λ k. c.write_words.ensures k ++ (types k ++ (c.write_marks.ensures k
    ++ (c.write_words-2.ensures k ++ (c.write_words-3.ensures k ++ c.write_items.ensures k)))))
