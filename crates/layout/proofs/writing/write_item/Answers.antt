-- Offset, mark, zero and last tuple are put one after the other.
use native.Mathlib.Omega.{arith}
use mathlib.Core.Path.{◌≡◌, ◌∙◌}
use mathlib.Core.List.{◌++◌, ◌∷◌}
use borrow.Author.Rules.{rules}
use lib.ListN.{length, length-set, length-take, length-drop}
use Rattle.laws.proofs.Writing.{put-none, put_one, put-part, put_all, two-between}
use Rattle.layout.proofs.writing.write_item.Goals as goal

pub bounds-out-3 : goal.bounds-out-3
bounds-out-3 c = simp length-set (omega arith)

pub slice_bounds-write_words-end-2 : goal.slice_bounds-write_words-end-2
slice_bounds-write_words-end-2 c = simp length-set (omega arith)

pub write_words-requires : goal.write_words-requires
write_words-requires c =
    let last-length : length c.args.item.last ≡ 4 = search rules in
    simp (length-take, length-drop, length-set) (omega (arith, c.out-1.given.1, last-length, c.requires))

pub shape_of-out : goal.shape_of-out
shape_of-out c =
    simp length-set at c.out-2-1.given.1 ∙ c.out-1.given.1

pub returns : goal.returns
returns c =
    let first = put-part {old = c.args.out.now} c.write_word.new.out 2 put-none (omega arith) (omega arith) c.write_word.auto.out in
    let p = put_one 0 (put_one c.from.result first (omega arith)) (omega arith) in
    put_all (put-part c.write_words.new.out 12 p (omega arith) (omega arith) c.write_words.auto.out) (omega arith)
    ∙ (two-between c.write_word.new.out c.write_words.new.out c.from.result 0 ∙ λ k. c.write_word.ensures k ++ (c.from.ensures k ∷ 0 ∷ c.write_words.ensures k))
