-- One pattern over the quads: a stored quad that fits keeps the scan at what it gives or before, and the scan never goes below its floor.
use Prim.Native.Nat.{ℕ, ◌≤◌, ◌<◌}
use native.Mathlib.Omega.{arith}
use mathlib.Core.Path.{◌≡◌, sym, ◌∙◌, ap}
use mathlib.Core.List.{List, [], ◌∷◌}
use mathlib.Core.Bool.{Bool, true, false, cond, not, ◌&&◌, ◌||◌}
use lib.Dec.{T, leb, ltb, eqb_refl, le→leb, nltb→le, leb→le, ltb→lt}
use Rattle.definitions.specs.Evaluate.{Quad, same_quad, stored}
use Rattle.laws.proofs.Tests.{and_left, and_make, by-test}
use Rattle.laws.proofs.Equality.{same-quad}
use Rattle.scan.specs.Scan.{Place, fixed, sought, free, Places, agrees, pick, candidate, fits, better, scan}

-- ── one place ───────────────────────────────────────────────────────────────────────────────

-- a number that stands at a place, where the variable sought is j
abbrev pub Meets : ℕ → Place → ℕ → Type 0
Meets j (fixed n) x = x ≡ n
Meets j sought x = x ≡ j
Meets j free x = Unit {0}

abbrev Seeks : Place → Type 0
Seeks (fixed n) = ⊥
Seeks sought = Unit {0}
Seeks free = ⊥

module _ (j lo : ℕ) (low : lo ≤ j) where
  pick-floor : (p : Place) (x d : ℕ) → Meets j p x → lo ≤ d → lo ≤ pick p x d
  pick-floor (fixed n) x d m h = h
  pick-floor sought x d m h = omega arith
  pick-floor free x d m h = h

  pick-top : (p : Place) (x d : ℕ) → Meets j p x → d ≤ j → pick p x d ≤ j
  pick-top (fixed n) x d m h = h
  pick-top sought x d m h = omega arith
  pick-top free x d m h = h

module _ (j : ℕ) where
  pick-keep : (p : Place) (x d : ℕ) → Meets j p x → d ≡ j → pick p x d ≡ j
  pick-keep (fixed n) x d m h = h
  pick-keep sought x d m h = m
  pick-keep free x d m h = h

  pick-here : (p : Place) (x d : ℕ) → Meets j p x → Seeks p → pick p x d ≡ j
  pick-here (fixed n) x d m h = absurd h
  pick-here sought x d m h = m
  pick-here free x d m h = absurd h

  agree : (c : ℕ) (p : Place) (x : ℕ) → Meets j p x → (Seeks p → c ≡ j) → T (agrees p c x)
  agree c (fixed n) x m h = rw m (eqb_refl n)
  agree c sought x m h = let e : x ≡ c = m ∙ sym (h tt) in rw e (eqb_refl c)
  agree c free x m h = tt

-- ── one row ─────────────────────────────────────────────────────────────────────────────────

-- a quad that stands at the four places, where the variable sought is j
pub record Matches (P : Places) (j : ℕ) (r : Quad) : Type 0 where
  pub graph : Meets j P.graph r.graph
  pub subject : Meets j P.subject r.subject
  pub property : Meets j P.property r.property
  pub object : Meets j P.object r.object

module _ (P : Places) (lo j : ℕ) (low : lo ≤ j) (r : Quad) (m : Matches P j r) where
  pub row-top : candidate P lo r ≤ j
  unfolding candidate
  row-top =
      pick-top j lo low P.graph _ _ m.graph (pick-top j lo low P.subject _ _ m.subject
      (pick-top j lo low P.property _ _ m.property (pick-top j lo low P.object _ _ m.object low)))

  row-floor : lo ≤ candidate P lo r
  unfolding candidate
  row-floor =
      pick-floor j lo low P.graph _ _ m.graph (pick-floor j lo low P.subject _ _ m.subject
      (pick-floor j lo low P.property _ _ m.property (pick-floor j lo low P.object _ _ m.object (omega arith))))

  pub row_fits : T (fits P lo r)
  unfolding fits candidate
  row_fits =
      let c = candidate P lo r in
      let g = P.graph in
      let s = P.subject in
      let p = P.property in
      let o = P.object in
      let d₃ = pick o r.object lo in
      let d₂ = pick p r.property d₃ in
      let d₁ = pick s r.subject d₂ in
      let e₁ : d₁ ≡ j → c ≡ j = pick-keep j g r.graph d₁ m.graph in
      let e₂ : d₂ ≡ j → c ≡ j = λ h. e₁ (pick-keep j s r.subject d₂ m.subject h) in
      let e₃ : d₃ ≡ j → c ≡ j = λ h. e₂ (pick-keep j p r.property d₃ m.property h) in
      and_make (leb lo c) _ (le→leb lo c row-floor)
      (and_make (agrees g c r.graph) _ (agree j c g r.graph m.graph (pick-here j g r.graph d₁ m.graph))
      (and_make (agrees s c r.subject) _ (agree j c s r.subject m.subject (λ h. e₁ (pick-here j s r.subject d₂ m.subject h)))
      (and_make (agrees p c r.property) _ (agree j c p r.property m.property (λ h. e₂ (pick-here j p r.property d₃ m.property h)))
      (agree j c o r.object m.object (λ h. e₃ (pick-here j o r.object lo m.object h))))))

-- ── the scan ────────────────────────────────────────────────────────────────────────────────

module _ (P : Places) (lo : ℕ) where
  pub better-top : (best : ℕ) (r : Quad) → better P lo best r ≤ best
  unfolding better
  better-top best r = go (fits P lo r) (ltb (candidate P lo r) best) (ltb→lt (candidate P lo r) best)
    where
      go : (a b : Bool) → (T b → candidate P lo r < best) → cond (a && b) (candidate P lo r) best ≤ best
      go true true k = omega (arith, k tt)
      go true false k = omega arith
      go false b k = omega arith

  better-here : (best : ℕ) (r : Quad) → T (fits P lo r) → better P lo best r ≤ candidate P lo r
  unfolding better
  better-here best r h = go (fits P lo r) (ltb (candidate P lo r) best) h (nltb→le (candidate P lo r) best)
    where
      go : (a b : Bool) → T a → (T (not b) → best ≤ candidate P lo r) → cond (a && b) (candidate P lo r) best ≤ candidate P lo r
      go true true h k = omega arith
      go true false h k = k tt
      go false b h k = absurd h

  fits-floor : (r : Quad) → T (fits P lo r) → lo ≤ candidate P lo r
  unfolding fits
  fits-floor r h = leb→le lo (candidate P lo r) (and_left (leb lo (candidate P lo r)) _ h)

  better-floor : (m best : ℕ) (r : Quad) → m ≤ lo → m ≤ best → m ≤ better P lo best r
  unfolding better
  better-floor m best r l h =
      by-test (λ x. m ≤ x) (fits P lo r && ltb (candidate P lo r) best) (candidate P lo r) best
      (λ k. omega (arith, fits-floor r (and_left (fits P lo r) (ltb (candidate P lo r) best) k))) (λ k. h)

  pub scan-top : (best : ℕ) (rs : List Quad) → scan P lo best rs ≤ best
  unfolding scan
  scan-top best [] = omega arith
  scan-top best (r ∷ rs) = omega (arith, scan-top (better P lo best r) rs, better-top best r)

  pub scan-floor : (m best : ℕ) (rs : List Quad) → m ≤ lo → m ≤ best → m ≤ scan P lo best rs
  unfolding scan
  scan-floor m best [] l h = h
  scan-floor m best (r ∷ rs) l h = scan-floor m (better P lo best r) rs l (better-floor m best r l h)

  pub scan-here : (best : ℕ) (r : Quad) (rs : List Quad) → T (stored r rs) → T (fits P lo r) → scan P lo best rs ≤ candidate P lo r
  unfolding scan stored
  scan-here best r [] s h = absurd s
  scan-here best r (x ∷ rs) s h = go (same_quad r x) (same-quad r x) s (λ k. scan-here (better P lo best x) r rs k h)
    where
      here : r ≡ x → scan P lo (better P lo best x) rs ≤ candidate P lo r
      here e =
          let f : T (fits P lo x) = rw e at h in
          let c : candidate P lo r ≡ candidate P lo x = ap (candidate P lo) e in
          omega (arith, scan-top (better P lo best x) rs, better-here best x f)

      go : (b : Bool) → (T b → r ≡ x) → T (b || stored r rs) → (T (stored r rs) → scan P lo (better P lo best x) rs ≤ candidate P lo r)
          → scan P lo (better P lo best x) rs ≤ candidate P lo r
      go true e t k = here (e tt)
      go false e t k = k t
