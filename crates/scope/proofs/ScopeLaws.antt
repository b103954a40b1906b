-- Whether a whole script is in scope, from the flags of its free variables and the pairs that bind.
use Prim.Native.Nat.{ℕ}
use mathlib.Core.Bool.{Bool, true, false, not, ◌&&◌}
use mathlib.Core.List.{List, [], ◌∷◌}
use mathlib.Core.Path.{◌≡◌, refl, sym, ap, ap₂, ◌∙◌}
use lib.ListN.{replicate}
use Rattle.std.specs.List.{list_all}
use Rattle.definitions.specs.Limits.{depth_limit, variable_limit}
use Rattle.definitions.specs.Lists.{every}
use Rattle.definitions.specs.Scope.{variables_of, is_free, binders_of, in_scope}
use Rattle.definitions.specs.Reading.{read_script, parsed}
use Rattle.laws.proofs.ReadBounds.{parsed-bounded}
use Rattle.laws.specs.Walks.{Walked}
use Rattle.laws.specs.ReadAnswers.{is_some, passes}
use Rattle.walks.proofs.RootLaws.{whole_of, of-root}
use Rattle.scope.specs.Uses.{with_uses}
use Rattle.scope.specs.Bindings.{bind_all, unbound}
use Rattle.scope.specs.declared.scope.Bound.{Bound}
use Rattle.scope.proofs.BindLaws.{free-uses, once_is, script-small}

-- std's word for a test of each element is the definitions'
pub all-every : {A : Type 0} (p : A → Bool) (l : List A) → list_all p l ≡ every p l
all-every p [] = refl
all-every p (x ∷ l) = ap (λ (b : Bool). p x && b) (all-every p l)

-- ── the whole script ────────────────────────────────────────────────────────────────────────

module _ (terms : ℕ) (s : List ℕ) (e : is_some (parsed terms s) ≡ true) where
  pub scope-is : {free : List Bool} {b : Bound} {t : Bool} {m n : ℕ}
      → Walked (λ c. free ≡ with_uses (replicate variable_limit false) (replicate variable_limit false) (λ v. is_free v c)) (read_script s terms depth_limit 0) m
      → Walked (λ c. b ≡ bind_all (variables_of (binders_of c)) (unbound (replicate variable_limit false))) (read_script s terms depth_limit 0) n
      → t ≡ list_all not free → (t && not b.twice) ≡ passes in_scope (parsed terms s)
  unfolding in_scope passes
  scope-is {free} x y h =
      let w = whole_of terms s e in
      let vs = variables_of (binders_of w.root) in
      ap₂ ◌&&◌ (h ∙ all-every not free ∙ ap (every not) (of-root terms s e x ∙ free-uses (λ v. is_free v w.root)))
      (ap (λ (b : Bound). not b.twice) (of-root terms s e y) ∙ once_is vs (script-small terms w.root (parsed-bounded terms s w.root w.parses)))
      ∙ ap (passes in_scope) (sym w.parses)
