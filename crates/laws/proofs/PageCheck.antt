-- What the machine's part of a page call (refusals 12 to 14) finds where nothing is refused.
use Rattle.definitions.specs.declared.Refusal.TheVariants.{NoGraph, BadPage, NoRoom}
use Prim.Native.Nat.{ℕ}
use mathlib.Core.List.{List}
use mathlib.Core.Option.{some}
use mathlib.Core.Path.{◌≡◌, sym}
use lib.Dec.{T}
use lib.ListN.{get_elem?}
use Rattle.definitions.specs.Terms.{Triple}
use Rattle.definitions.specs.Machine.{State, taken, with_page, in_limits}
use Rattle.definitions.specs.Result.{Result, passed, ◌>>=◌, ◌>>◌, require, given}
use Rattle.definitions.specs.Calls.{Checked, is_graph, page_in, PageTaken, page_taken, take_in}
use Rattle.laws.proofs.Results.{given-bind-inv, require-after-inv, passed_is}

pub record PagePassed (c : Checked) (g : ℕ) (page : List ℕ) (s : State) (x : PageTaken) : Type 0 where
  pub graph : T (is_graph (get_elem? s.store.terms g))
  pub triples : List Triple
  pub read : page_in page ≡ some triples
  pub limits : T (in_limits (with_page g (taken c.schema g triples s.store) s.store))
  pub result : x ≡ page_taken g (taken c.schema g triples s.store) s

module _ (c : Checked) (g : ℕ) (s : State) where
  from14 : List Triple → Result PageTaken
  from14 triples =
      let k = taken c.schema g triples s.store in
      require NoRoom (in_limits (with_page g k s.store)) >> passed (page_taken g k s)

  pub page-passed : (page : List ℕ) (x : PageTaken) → take_in c g page s ≡ passed x → PagePassed c g page s x
  unfolding take_in from14
  page-passed page x e =
      let i₁₂ = require-after-inv NoGraph (is_graph (get_elem? s.store.terms g)) (given BadPage (page_in page) >>= from14) e in
      let i₁₃ = given-bind-inv BadPage (page_in page) from14 i₁₂.1 in
      let k = taken c.schema g i₁₃.0 s.store in
      let i₁₄ = require-after-inv NoRoom (in_limits (with_page g k s.store)) (passed (page_taken g k s)) i₁₃.2 in
      record { graph = i₁₂.0; triples = i₁₃.0; read = i₁₃.1; limits = i₁₄.0; result = sym (passed_is i₁₄.1) }
