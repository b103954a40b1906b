-- With four fixed places the scan is the test: it stays at the floor where the quad is stored, and goes to the end where it is not.
use Prim.Native.Nat.{ℕ, ◌≤◌}
use native.Mathlib.Omega.{arith}
use mathlib.Core.Path.{◌≡◌, refl, subst}
use mathlib.Core.List.{List, [], ◌∷◌}
use mathlib.Core.Bool.{Bool, true, false, cond, not, ◌&&◌, ◌||◌}
use lib.Dec.{T, ltb, nltb→le}
use borrow.Author.Tests.{le-leb, le-ltb}
use Rattle.definitions.specs.Evaluate.{Quad, same_quad, stored}
use Rattle.laws.proofs.TestEquations.{eqb_swap}
use Rattle.scan.specs.Scan.{fixed, Places, candidate, fits, better, scan}

module _ (q : Quad) (lo end : ℕ) (low : lo ≤ end) where
  abbrev four : Places
  four = record { graph = fixed q.graph; subject = fixed q.subject; property = fixed q.property; object = fixed q.object }

  row_same : (r : Quad) → fits four lo r ≡ same_quad q r
  unfolding fits candidate
  row_same r =
      rw (
        le-leb lo lo (omega arith),
        eqb_swap r.graph q.graph,
        eqb_swap r.subject q.subject,
        eqb_swap r.property q.property,
        eqb_swap r.object q.object,
      ) refl

  at-floor : (rs : List Quad) → scan four lo lo rs ≡ lo
  unfolding scan better candidate
  at-floor [] = refl
  at-floor (r ∷ rs) = rw (le-ltb lo lo (omega arith)) (go (fits four lo r) (at-floor rs))
    where
      go : (b : Bool) → scan four lo lo rs ≡ lo → scan four lo (cond (b && false) lo lo) rs ≡ lo
      go true h = h
      go false h = h

  pub scan-exact : (rs : List Quad) → scan four lo end rs ≡ cond (stored q rs) lo end
  unfolding scan better candidate stored
  scan-exact [] = refl
  scan-exact (r ∷ rs) = rw (row_same r) (go (same_quad q r) (ltb lo end) (nltb→le lo end) (scan-exact rs))
    where
      go : (b c : Bool) → (T (not c) → end ≤ lo) → scan four lo end rs ≡ cond (stored q rs) lo end
          → scan four lo (cond (b && c) lo end) rs ≡ cond (b || stored q rs) lo end
      go true true k h = at-floor rs
      go true false k h = let e : lo ≡ end = (let y = k tt in omega arith) in subst (λ z. scan four lo z rs ≡ lo) e (at-floor rs)
      go false c k h = h
