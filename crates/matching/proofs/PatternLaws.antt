-- What a pattern accepts, read from the front of a text on: `accepts` of the definitions, byte by byte.
use Prim.Native.Nat.{ℕ}
use mathlib.Core.Bool.{Bool, true, false, not, ◌&&◌, ◌||◌, or-false, and_assoc, or_assoc, and-or_distrib_right}
use mathlib.Core.List.{List, [], ◌∷◌}
use mathlib.Core.Path.{◌≡◌, refl, sym, ap, ap₂, ◌∙◌}
use Rattle.definitions.specs.Lists.{every, is_empty}
use Rattle.definitions.specs.Terms.{Text}
use Rattle.definitions.specs.Text.{Atom, Piece, one, many, Pattern, is_atom, one_byte, some_cut, made_of, accepts}
use Rattle.matching.specs.Matching.{fits, anywhere}

-- ── cuts ────────────────────────────────────────────────────────────────────────────────────

cut-ext : (f g : Text → Text → Bool) → ((x y : Text) → f x y ≡ g x y) → (t : Text) → some_cut f t ≡ some_cut g t
unfolding some_cut
cut-ext f g e [] = e [] []
cut-ext f g e (b ∷ t) = ap₂ ◌||◌ (e [] (b ∷ t)) (cut-ext (λ x y. f (b ∷ x) y) (λ x y. g (b ∷ x) y) (λ x y. e (b ∷ x) y) t)

cut-none : (t : Text) → some_cut (λ x y. false) t ≡ false
unfolding some_cut
cut-none [] = refl
cut-none (b ∷ t) = cut-none t

cut-and : (p : Bool) (f : Text → Text → Bool) (t : Text) → some_cut (λ x y. p && f x y) t ≡ (p && some_cut f t)
cut-and true f t = refl
cut-and false f t = cut-none t

cut_or : (f g : Text → Text → Bool) (t : Text) → some_cut (λ x y. f x y || g x y) t ≡ (some_cut f t || some_cut g t)
unfolding some_cut
cut_or f g [] = refl
cut_or f g (b ∷ t) =
    ap (λ r. (f [] (b ∷ t) || g [] (b ∷ t)) || r) (cut_or (λ x y. f (b ∷ x) y) (λ x y. g (b ∷ x) y) t)
    ∙ go (f [] (b ∷ t)) (g [] (b ∷ t)) (some_cut (λ x y. f (b ∷ x) y) t) (some_cut (λ x y. g (b ∷ x) y) t)
  where
    go : (p q r s : Bool) → ((p || q) || (r || s)) ≡ ((p || r) || (q || s))
    go true q r s = refl
    go false true true s = refl
    go false true false s = refl
    go false false r s = refl

-- an empty first part leaves the whole
cut-front : (g : Text → Bool) (t : Text) → some_cut (λ x y. is_empty x && g y) t ≡ g t
unfolding some_cut
cut-front g [] = refl
cut-front g (b ∷ t) = ap (λ r. g (b ∷ t) || r) (cut-none t) ∙ or-false (g (b ∷ t))

-- ── what pieces stand for, by the first byte ────────────────────────────────────────────────

one_more : (p : ℕ → Bool) (m : Text → Bool) (b : ℕ) (t : Text) → some_cut (λ x y. one_byte p (b ∷ x) && m y) t ≡ (p b && m t)
unfolding some_cut one_byte
one_more p m b [] = refl
one_more p m b (c ∷ t) = ap (λ r. (p b && m (c ∷ t)) || r) (cut-none t) ∙ or-false (p b && m (c ∷ t))

module _ (a : Atom) (ps : List Piece) where
  one_none : made_of (one a ∷ ps) [] ≡ false
  unfolding made_of some_cut one_byte
  one_none = refl

  one_byte_lem : (b : ℕ) (t : Text) → made_of (one a ∷ ps) (b ∷ t) ≡ (is_atom a b && made_of ps t)
  unfolding made_of some_cut one_byte
  one_byte_lem b t = one_more (is_atom a) (made_of ps) b t

  many-none : made_of (many a ∷ ps) [] ≡ made_of ps []
  unfolding made_of some_cut
  many-none = refl

  many-byte : (b : ℕ) (t : Text) → made_of (many a ∷ ps) (b ∷ t) ≡ (made_of ps (b ∷ t) || (is_atom a b && made_of (many a ∷ ps) t))
  unfolding made_of some_cut
  many-byte b t =
      ap (λ r. made_of ps (b ∷ t) || r)
      (cut-ext (λ x y. (is_atom a b && every (is_atom a) x) && made_of ps y) (λ x y. is_atom a b && (every (is_atom a) x && made_of ps y))
      (λ x y. and_assoc (is_atom a b) (every (is_atom a) x) (made_of ps y)) t
      ∙ cut-and (is_atom a b) (λ x y. every (is_atom a) x && made_of ps y) t)

-- ── a beginning of a text that fits ─────────────────────────────────────────────────────────

module _ (end : Bool) where
  -- what the definitions say of it
  abbrev stops : Text → Bool
  stops y = not end || is_empty y

  fitting : List Piece → Text → Bool
  fitting ps t = some_cut (λ x y. made_of ps x && stops y) t

  made_none : (t : Text) → made_of [] t ≡ is_empty t
  unfolding made_of
  made_none t = refl

  by_one : (a : Atom) (ps : List Piece) (b : ℕ) (t : Text) → some_cut (λ x y. made_of (one a ∷ ps) (b ∷ x) && stops y) t ≡ (is_atom a b && fitting ps t)
  unfolding fitting
  by_one a ps b t =
      cut-ext (λ x y. made_of (one a ∷ ps) (b ∷ x) && stops y) (λ x y. is_atom a b && (made_of ps x && stops y))
      (λ x y. ap (λ m. m && stops y) (one_byte_lem a ps b x) ∙ and_assoc (is_atom a b) (made_of ps x) (stops y)) t
      ∙ cut-and (is_atom a b) (λ x y. made_of ps x && stops y) t

  by-many : (a : Atom) (ps : List Piece) (b : ℕ) (t : Text)
      → some_cut (λ x y. made_of (many a ∷ ps) (b ∷ x) && stops y) t ≡ (some_cut (λ x y. made_of ps (b ∷ x) && stops y) t || (is_atom a b && fitting (many a ∷ ps) t))
  unfolding fitting
  by-many a ps b t =
      cut-ext (λ x y. made_of (many a ∷ ps) (b ∷ x) && stops y) (λ x y. (made_of ps (b ∷ x) && stops y) || (is_atom a b && (made_of (many a ∷ ps) x && stops y)))
      (λ x y. ap (λ m. m && stops y) (many-byte a ps b x)
      ∙ (and-or_distrib_right (made_of ps (b ∷ x)) (is_atom a b && made_of (many a ∷ ps) x) (stops y)
      ∙ ap (λ r. (made_of ps (b ∷ x) && stops y) || r) (and_assoc (is_atom a b) (made_of (many a ∷ ps) x) (stops y)))) t
      ∙ (cut_or (λ x y. made_of ps (b ∷ x) && stops y) (λ x y. is_atom a b && (made_of (many a ∷ ps) x && stops y)) t
      ∙ ap (λ r. some_cut (λ x y. made_of ps (b ∷ x) && stops y) t || r) (cut-and (is_atom a b) (λ x y. made_of (many a ∷ ps) x && stops y) t))

  fitting-is : (ps : List Piece) (t : Text) → fitting ps t ≡ fits ps end t
  unfolding fitting fits some_cut made_of
  fitting-is [] t = cut-front stops t
  fitting-is (one a ∷ ps) [] = rw (one_none a ps)
  fitting-is (one a ∷ ps) (b ∷ t) = rw (one_none a ps, by_one a ps b t) (ap (λ r. is_atom a b && r) (fitting-is ps t))
  fitting-is (many a ∷ ps) [] = rw (many-none a ps) (fitting-is ps [])
  fitting-is (many a ∷ ps) (b ∷ t) =
      rw (many-none a ps, by-many a ps b t)
      (sym (or_assoc (made_of ps [] && stops (b ∷ t)) (some_cut (λ x y. made_of ps (b ∷ x) && stops y) t) (is_atom a b && fitting (many a ∷ ps) t))
      ∙ ap₂ (λ p q. p || (is_atom a b && q)) (fitting-is ps (b ∷ t)) (fitting-is (many a ∷ ps) t))

-- ── anywhere in a text ──────────────────────────────────────────────────────────────────────

cut-anywhere : (f : Text → Bool) (t : Text) → some_cut (λ x y. f y) t ≡ anywhere f t
unfolding some_cut anywhere
cut-anywhere f [] = refl
cut-anywhere f (b ∷ t) = ap (λ r. f (b ∷ t) || r) (cut-anywhere f t)

pub accepts-front : (p : Pattern) (t : Text) → p.from_start ≡ true → accepts p t ≡ fits p.pieces p.to_end t
unfolding accepts fitting
accepts-front p t e =
    rw e (cut-ext (λ x y. is_empty x && fitting p.to_end p.pieces y) (λ x y. is_empty x && fits p.pieces p.to_end y) (λ x y. ap (λ r. is_empty x && r) (fitting-is p.to_end p.pieces y)) t
    ∙ cut-front (fits p.pieces p.to_end) t)

pub accepts-anywhere : (p : Pattern) (t : Text) → p.from_start ≡ false → accepts p t ≡ anywhere (fits p.pieces p.to_end) t
unfolding accepts fitting
accepts-anywhere p t e =
    rw e (cut-ext (λ x y. fitting p.to_end p.pieces y) (λ x y. fits p.pieces p.to_end y) (λ x y. fitting-is p.to_end p.pieces y) t
    ∙ cut-anywhere (fits p.pieces p.to_end) t)
