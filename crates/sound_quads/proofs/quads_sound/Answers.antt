-- `sound_quads::quads_sound` meets its contract: what is asked of each key is asked of its quad. Assumes nothing.
use native.Mathlib.Omega.{arith}
use Rattle.std.proofs.Common.{rules, take}
use borrow.Author.Tests.{tests}
use Rattle.std.proofs.lemmas.Grind.{common_steps}
use Rattle.std.proofs.lemmas.Iterator.{YieldsList-from_slice}
use Rattle.std.proofs.lemmas.Iterator.Search.{all_from_yields_List}
use Rattle.keys.specs.Keys.{quad_of}
use Rattle.sound_quads.specs.TermNumbers.{quad_numbers}
use Rattle.sound_quads.proofs.QuadLaws.{all-rows}
use Rattle.sound_quads.proofs.quads_sound.Goals as goal

pub returns : goal.returns
returns c =
    let sound = quad_numbers c.args.leasts.now c.args.count c.args.fetched.now in
    all-rows sound c.args.keys.now c.args.n _ c.requires.n_in_bounds
    (all_from_yields_List (λ k. sound (quad_of k)) _ _ c.all.result c.all.ensures.ran (YieldsList-from_slice (take c.args.n c.args.keys.now) (grind (arith, common_steps))) (λ x b q k. search (rules, tests)))
