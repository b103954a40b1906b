-- `subjects::find_subject` meets its contract.
use borrow.Author.Rules.{rules}
use mathlib.Core.Path.{sym}
use lib.Seq.{length-take-le}
use Rattle.subjects.proofs.NotedLaws.{place_found}
use Rattle.subjects.proofs.find_subject.Goals as goal

pub slice_bounds-find-end : goal.slice_bounds-find-end
slice_bounds-find-end c = sym (length-take-le c.args.n c.args.hashes.now c.requires.n_in_bounds_2)

pub returns : goal.returns
returns c =
    place_found c.args.page.now c.args.offsets.now c.args.hashes.now c.args.n c.args.uri.now c.args.hash c.requires.n_in_bounds_2 c.requires.fields_hashed
    c.requires.hash_value c.find.ensures (λ i l t p. search rules)
