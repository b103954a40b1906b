-- One pattern over the quads: the least number that a quad gives the variable sought.
use Rattle.std.specs.Prelude.{ℕ, List, [], ◌∷◌, Bool, true, cond, ◌&&◌, eqb, leb, ltb}
use Rattle.definitions.specs.Evaluate.{Quad}

-- a place of a pattern: of a known number, of the variable sought, of a variable still to choose
pub data Place : Type 0 where
  fixed : ℕ → Place
  sought free : Place

pub record Places : Type 0 where
  pub graph : Place
  pub subject : Place
  pub property : Place
  pub object : Place

-- a quad's number x at a place, where the variable sought is c
abbrev pub agrees : Place → (c x : ℕ) → Bool
agrees (fixed n) c x = eqb x n
agrees sought c x = eqb x c
agrees free c x = true

-- the number x at the place sought, or else d
abbrev pub pick : Place → (x d : ℕ) → ℕ
pick (fixed n) x d = d
pick sought x d = x
pick free x d = d

module _ (P : Places) (lo : ℕ) where
  -- what a quad gives the variable; the floor, where no place is sought
  unfoldable pub candidate : Quad → ℕ
  candidate r = pick P.graph r.graph (pick P.subject r.subject (pick P.property r.property (pick P.object r.object lo)))

  unfoldable pub fits : Quad → Bool
  fits r =
      let c = candidate r in
      leb lo c
      && (agrees P.graph c r.graph
      && (agrees P.subject c r.subject
      && (agrees P.property c r.property
      && agrees P.object c r.object)))

  unfoldable pub better : (best : ℕ) → Quad → ℕ
  better best r = cond (fits r && ltb (candidate r) best) (candidate r) best

  -- the least that a quad gives, below the best so far
  unfoldable pub scan : (best : ℕ) → List Quad → ℕ
  scan best [] = best
  scan best (r ∷ rs) = scan (better best r) rs
