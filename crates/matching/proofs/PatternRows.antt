-- Rows of a pattern: one place of a row from the places after it and from the row of the text after its first byte.
use Prim.Native.Nat.{ℕ, suc, ◌+◌, ◌-◌, ◌≤◌, ◌<◌}
use mathlib.Core.Bool.{Bool, true, false, cond, not, ◌&&◌, ◌||◌, or-false}
use mathlib.Core.List.{List, [], ◌∷◌}
use mathlib.Core.Logic.{⊎_elim}
use mathlib.Core.Option.{Option, some}
use mathlib.Core.Path.{◌≡◌, refl, sym, ap, ap₂, ◌∙◌, subst}
use native.Mathlib.Nat.{eq-or-lt_of_le}
use native.Mathlib.Omega.{arith}
use lib.Dec.{eqb}
use lib.ListN.{length, get_or, set}
use lib.Seq.{get_or-set_same, get_or-set_other}
use borrow.Author.Tests.{ne_eqb, eqb-true, eqb-false}
use Rattle.definitions.specs.Limits.{pattern_width}
use Rattle.definitions.specs.Bytes.{byte, unfilled, provided, onward}
use Rattle.definitions.specs.Terms.{Text, field_text, text_byte}
use Rattle.definitions.specs.Text.{Atom, any, literal, Piece, one, many, is_atom, atom_of, no_literal, pieces_of, with_piece, star, dot, dollar, caret, Pattern, pattern_of}
use Rattle.definitions.specs.Text.{pattern_of_text, with_start, accepts}
use Rattle.laws.proofs.Options.{some_is, provided-inv, onward-inv}
use Rattle.laws.proofs.Bytes.{byte-within}
use Rattle.matching.specs.Matching.{fits, anywhere, ahead, hits, RowFrom, Finds}
use Rattle.matching.proofs.FieldLaws.{rest, rest_more, first-is, field-text, text-fits, text-byte, text-end}
use Rattle.matching.proofs.Booleans.{or-swap}
use Rattle.matching.proofs.PatternLaws.{accepts-front, accepts-anywhere}

-- ── pieces of a pattern's text ──────────────────────────────────────────────────────────────

abbrev Pieces : Type 0
Pieces = List Piece × Bool

atom-is : (a b : ℕ) {x : Atom} → atom_of a ≡ some x → (eqb a dot || eqb a b) ≡ is_atom x b
unfolding atom_of is_atom
atom-is a b {x} e = go (eqb a dot) e
  where
    go : (t : Bool) → cond t (some any) (provided (not (no_literal a)) (some (literal a))) ≡ some x → (t || eqb a b) ≡ is_atom x b
    go true h = rw (← some_is h)
    go false h = rw (← some_is (provided-inv (not (no_literal a)) (some (literal a)) h).1)

pieces_end : {r : Pieces} → pieces_of [] ≡ some r → r ≡ ([], false)
unfolding pieces_of
pieces_end e = sym (some_is e)

pieces-dollar : (a : ℕ) {r : Pieces} → a ≡ dollar → pieces_of (a ∷ []) ≡ some r → r ≡ ([], true)
unfolding pieces_of
pieces-dollar a d e = sym (some_is (rw d at e))

pub record OnePiece (make : Atom → Piece) (a : ℕ) (next : Option Pieces) (r : Pieces) : Type 0 where
  pub atom : Atom
  pub others : Pieces
  pub is-atom : atom_of a ≡ some atom
  pub are-others : next ≡ some others
  pub whole : r ≡ with_piece (make atom) others

pieces-last : (a : ℕ) {r : Pieces} → (a ≡ dollar → ⊥) → pieces_of (a ∷ []) ≡ some r → OnePiece one a (pieces_of []) r
unfolding pieces_of
pieces-last a n e =
    let o = onward-inv (atom_of a) (λ x. some (one x ∷ [], false)) (rw (ne_eqb a dollar n) at e) in
    record { atom = o.0; others = ([], false); is-atom = o.1; are-others = refl; whole = sym (some_is o.2) }

module _ (a c : ℕ) (u : Text) {r : Pieces} (e : pieces_of (a ∷ c ∷ u) ≡ some r) where
  pieces-many : c ≡ star → OnePiece many a (pieces_of u) r
  unfolding pieces_of
  pieces-many s =
      let o = onward-inv (atom_of a) (λ x. onward (pieces_of u) (λ q. some (with_piece (many x) q))) (rw s at e) in
      let p = onward-inv (pieces_of u) (λ q. some (with_piece (many o.0) q)) o.2 in
      record { atom = o.0; others = p.0; is-atom = o.1; are-others = p.1; whole = sym (some_is p.2) }

  pieces-one : (c ≡ star → ⊥) → OnePiece one a (pieces_of (c ∷ u)) r
  unfolding pieces_of
  pieces-one n =
      let o = onward-inv (atom_of a) (λ x. onward (pieces_of (c ∷ u)) (λ q. some (with_piece (one x) q))) (rw (ne_eqb c star n) at e) in
      let p = onward-inv (pieces_of (c ∷ u)) (λ q. some (with_piece (one o.0) q)) o.2 in
      record { atom = o.0; others = p.0; is-atom = o.1; are-others = p.1; whole = sym (some_is p.2) }

-- ── one place ───────────────────────────────────────────────────────────────────────────────

-- a piece at a text's first byte, or at its end
module _ (a b : ℕ) (t : Text) (x : Atom) (is : atom_of a ≡ some x) (ps : List Piece) (end o : Bool) where
  place-one : ((b ≡ 0 → ⊥) → o ≡ fits ps end t) → (hits a b && o) ≡ fits (one x ∷ ps) end (ahead b t)
  unfolding fits
  place-one h = go (eqb b 0) refl
    where
      go : (p : Bool) → eqb b 0 ≡ p → ((not p && (eqb a dot || eqb a b)) && o) ≡ fits (one x ∷ ps) end (cond p [] (b ∷ t))
      go true e = refl
      go false e = ap₂ ◌&&◌ (atom-is a b is) (h (eqb-false b 0 e))

  place-many : (s : Bool) → s ≡ fits ps end (ahead b t) → ((b ≡ 0 → ⊥) → o ≡ fits (many x ∷ ps) end t) → (s || (hits a b && o)) ≡ fits (many x ∷ ps) end (ahead b t)
  unfolding fits
  place-many s q h = go (eqb b 0) refl q
    where
      go : (p : Bool) → eqb b 0 ≡ p → s ≡ fits ps end (cond p [] (b ∷ t)) → (s || ((not p && (eqb a dot || eqb a b)) && o)) ≡ fits (many x ∷ ps) end (cond p [] (b ∷ t))
      go true e q = or-false s ∙ q
      go false e q = ap₂ ◌||◌ q (ap₂ ◌&&◌ (atom-is a b is) (h (eqb-false b 0 e)))

place-dollar : (b : ℕ) (t : Text) → eqb b 0 ≡ fits [] true (ahead b t)
unfolding fits
place-dollar b t = go (eqb b 0)
  where
    go : (p : Bool) → p ≡ fits [] true (cond p [] (b ∷ t))
    go true = refl
    go false = refl

place_end : (t : Text) → true ≡ fits [] false t
unfolding fits
place_end t = refl

module _ (f : List ℕ) (k b : ℕ) (lt : k < length (unfilled f)) (t : Text) (later row : List Bool) (found : Bool) (hit : found ≡ hits (byte f k) b)
    (after : (b ≡ 0 → ⊥) → RowFrom f 0 t later) (beside : RowFrom f (k + 1) (ahead b t) row) (r : Pieces) (e : pieces_of (rest f k) ≡ some r) where
  first : rest f k ≡ byte f k ∷ rest f (k + 1)
  first = rest_more f k (omega (arith, text-fits f)) (text-byte f k lt)

  last_byte : k + 1 ≡ length (unfilled f) → rest f (k + 1) ≡ []
  last_byte l = ap (rest f) l ∙ text-end f

  -- the last byte
  module _ (l : k + 1 ≡ length (unfilled f)) where
    alone : pieces_of (byte f k ∷ []) ≡ some r
    alone = sym (ap pieces_of (first ∙ ap (λ u. byte f k ∷ u) (last_byte l))) ∙ e

    pub cell-dollar : byte f k ≡ dollar → eqb b 0 ≡ fits r.0 r.1 (ahead b t)
    cell-dollar d = place-dollar b t ∙ ap (λ (q : Pieces). fits q.0 q.1 (ahead b t)) (sym (pieces-dollar (byte f k) d alone))

    pub cell-last : (byte f k ≡ dollar → ⊥) → (found && get_or later (k + 1) false) ≡ fits r.0 r.1 (ahead b t)
    cell-last n =
        let p = pieces-last (byte f k) n alone in
        ap (λ h. h && get_or later (k + 1) false) hit
        ∙ (place-one (byte f k) b t p.atom p.is-atom p.others.0 p.others.1 (get_or later (k + 1) false)
        (λ m. after m (k + 1) (omega arith) (omega arith) p.others (ap pieces_of (last_byte l) ∙ p.are-others))
        ∙ ap (λ (q : Pieces). fits q.0 q.1 (ahead b t)) (sym p.whole))

  -- a byte before others
  module _ (l : k + 1 < length (unfilled f)) where
    second : rest f (k + 1) ≡ byte f (k + 1) ∷ rest f (k + 1 + 1)
    second = rest_more f (k + 1) (omega (arith, text-fits f)) (text-byte f (k + 1) l)

    both : pieces_of (byte f k ∷ byte f (k + 1) ∷ rest f (k + 1 + 1)) ≡ some r
    both = sym (ap pieces_of (first ∙ ap (λ u. byte f k ∷ u) second)) ∙ e

    pub cell-many : byte f (k + 1) ≡ star → (get_or row (k + 1 + 1) false || (found && get_or later k false)) ≡ fits r.0 r.1 (ahead b t)
    cell-many s =
        let p = pieces-many (byte f k) (byte f (k + 1)) (rest f (k + 1 + 1)) both s in
        ap (λ h. get_or row (k + 1 + 1) false || (h && get_or later k false)) hit
        ∙ (place-many (byte f k) b t p.atom p.is-atom p.others.0 p.others.1 (get_or later k false) (get_or row (k + 1 + 1) false)
        (beside (k + 1 + 1) (omega arith) (omega arith) p.others p.are-others)
        (λ m. after m k (omega arith) (omega arith) r e ∙ ap (λ (q : Pieces). fits q.0 q.1 t) p.whole)
        ∙ ap (λ (q : Pieces). fits q.0 q.1 (ahead b t)) (sym p.whole))

    pub cell-one : (byte f (k + 1) ≡ star → ⊥) → (found && get_or later (k + 1) false) ≡ fits r.0 r.1 (ahead b t)
    cell-one n =
        let p = pieces-one (byte f k) (byte f (k + 1)) (rest f (k + 1 + 1)) both n in
        ap (λ h. h && get_or later (k + 1) false) hit
        ∙ (place-one (byte f k) b t p.atom p.is-atom p.others.0 p.others.1 (get_or later (k + 1) false)
        (λ m. after m (k + 1) (omega arith) (omega arith) p.others (ap pieces_of second ∙ p.are-others))
        ∙ ap (λ (q : Pieces). fits q.0 q.1 (ahead b t)) (sym p.whole))

-- ── a row ───────────────────────────────────────────────────────────────────────────────────

-- at the pattern's end everything fits
pub row-start : (f : List ℕ) (t : Text) (row : List Bool) (n : ℕ) → n ≡ length (unfilled f) → n < length row → RowFrom f n t (set row n true)
row-start f t row n e l k from to r p =
    let same : k ≡ n = omega arith in
    let none_left : rest f k ≡ [] = ap (rest f) (same ∙ e) ∙ text-end f in
    rw same (get_or-set_same row n true false l ∙ (place_end t ∙ ap (λ (q : Pieces). fits q.0 q.1 t) (sym (pieces_end (sym (ap pieces_of none_left) ∙ p)))))

-- one place more
pub row_more : (f : List ℕ) (t : Text) (row : List Bool) (k : ℕ) (x : Bool) → 0 < k → k ≤ length row → RowFrom f k t row
    → (RowFrom f (k - 1 + 1) t row → (r : Pieces) → pieces_of (rest f (k - 1)) ≡ some r → x ≡ fits r.0 r.1 t) → RowFrom f (k - 1) t (set row (k - 1) x)
row_more f t row k x pos l old new j from to r p = ⊎_elim here there (eq-or-lt_of_le from)
  where
    back : k - 1 + 1 ≡ k
    back = omega arith

    here : k - 1 ≡ j → get_or (set row (k - 1) x) j false ≡ fits r.0 r.1 t
    here e = rw (← e) (get_or-set_same row (k - 1) x false (omega arith) ∙ new (rw back old) r (rw e p))

    there : k - 1 < j → get_or (set row (k - 1) x) j false ≡ fits r.0 r.1 t
    there h = get_or-set_other row (k - 1) j x false (λ e. omega arith) ∙ old j (omega arith) to r p

-- ── rows from the end of a text to its start ────────────────────────────────────────────────

-- a row of what is left of a field's text, and what was found in it
pub record Swept (f : List ℕ) (start : ℕ) (g : List ℕ) (i : ℕ) (row : List Bool) (found : Bool) : Type 0 where
  pub within : i ≤ length (unfilled g)
  pub rows : RowFrom f 0 (rest g i) row
  pub any : (r : Pieces) → pieces_of (rest f start) ≡ some r → found ≡ anywhere (fits r.0 r.1) (rest g i)

module _ (f : List ℕ) (start : ℕ) (low : start ≤ length (unfilled f)) (g : List ℕ) where
  pub sweep-start : (i : ℕ) (row : List Bool) → i ≡ length (unfilled g) → RowFrom f 0 [] row → Swept f start g i row (get_or row start false)
  unfolding anywhere
  sweep-start i row e h =
      let over : rest g i ≡ [] = ap (rest g) e ∙ text-end g in
      record {
        within = omega arith;
        rows = subst (λ u. RowFrom f 0 u row) (sym over) h;
        any = λ r p. h start (omega arith) low r p ∙ sym (ap (anywhere (fits r.0 r.1)) over);
      }

  module _ (i : ℕ) (row : List Bool) (found : Bool) (s : Swept f start g i row found) where
    pub sweep-end : i ≡ 0 → (r : Pieces) → pieces_of (rest f start) ≡ some r → Finds r (unfilled g) (get_or row start false) found
    sweep-end e r p =
        let whole : rest g i ≡ unfilled g = ap (rest g) e in
        record { start = s.rows start (omega arith) low r p ∙ ap (fits r.0 r.1) whole; any = s.any r p ∙ ap (anywhere (fits r.0 r.1)) whole }

    pub sweep-more : 0 < i → (new : List Bool) → ((t : Text) → ((byte g (i - 1) ≡ 0 → ⊥) → RowFrom f 0 t row) → RowFrom f 0 (ahead (byte g (i - 1)) t) new)
        → Swept f start g (i - 1) new (found || get_or new start false)
    unfolding anywhere
    sweep-more h new step =
        let nonzero = text-byte g (i - 1) (omega (arith, s.within)) in
        let back : i - 1 + 1 ≡ i = omega arith in
        let next : rest g (i - 1) ≡ byte g (i - 1) ∷ rest g i = rest_more g (i - 1) (omega (arith, s.within, text-fits g)) nonzero ∙ ap (λ n. byte g (i - 1) ∷ rest g n) back in
        let fresh : RowFrom f 0 (byte g (i - 1) ∷ rest g i) new = subst (λ p. RowFrom f 0 (cond p [] (byte g (i - 1) ∷ rest g i)) new) (ne_eqb (byte g (i - 1)) 0 nonzero)
        (step (rest g i) (λ n. s.rows)) in
        record {
          within = omega (arith, s.within);
          rows = subst (λ u. RowFrom f 0 u new) (sym next) fresh;
          any = λ r p. or-swap found (get_or new start false) ∙ (ap₂ ◌||◌ (fresh start (omega arith) low r p) (s.any r p) ∙ sym (ap (anywhere (fits r.0 r.1)) next));
        }

-- ── a pattern in its field ──────────────────────────────────────────────────────────────────

pattern-text : (f : List ℕ) (p : Pattern) → pattern_of f ≡ some p → pattern_of_text (unfilled f) ≡ some p
unfolding pattern_of
pattern-text f p e = let o = onward-inv (field_text text_byte pattern_width f) pattern_of_text e in rw (field-text text_byte pattern_width f o.1) o.2

text-caret : (t : Text) (p : Pattern) → pattern_of_text (caret ∷ t) ≡ some p → (r : Pieces) × (pieces_of t ≡ some r) × (p ≡ with_start true r)
unfolding pattern_of_text
text-caret t p e = let o = onward-inv (pieces_of t) (λ r. some (with_start true r)) e in (o.0, o.1, sym (some_is o.2))

text-other : (t : Text) (p : Pattern) → ((u : Text) → t ≡ caret ∷ u → ⊥) → pattern_of_text t ≡ some p → (r : Pieces) × (pieces_of t ≡ some r) × (p ≡ with_start false r)
unfolding pattern_of_text pieces_of
text-other [] p n e = (([], false), refl, sym (some_is e))
text-other (b ∷ t) p n e = go (eqb b caret) refl e
  where
    go : (q : Bool) → eqb b caret ≡ q
        → elim q as (λ c. Option Pattern) [ true ↦ onward (pieces_of t) (λ r. some (with_start true r)) | false ↦ onward (pieces_of (b ∷ t)) (λ r. some (with_start false r)) ] ≡ some p
        → (r : Pieces) × (pieces_of (b ∷ t) ≡ some r) × (p ≡ with_start false r)
    go true h c = absurd (n t (ap (λ a. a ∷ t) (eqb-true b caret h)))
    go false h c = let o = onward-inv (pieces_of (b ∷ t)) (λ r. some (with_start false r)) c in (o.0, o.1, sym (some_is o.2))

caret-first : (f : List ℕ) → byte f 0 ≡ caret → rest f 0 ≡ caret ∷ rest f 1
caret-first f c = let n : byte f 0 ≡ 0 → ⊥ = λ z. omega (arith, c, z) in rest_more f 0 (byte-within f 0 n) n ∙ ap (λ a. a ∷ rest f 1) c

module _ (f g : List ℕ) (at-start somewhere : Bool) where
  pub with-caret : byte f 0 ≡ caret → ((r : Pieces) → pieces_of (rest f 1) ≡ some r → Finds r (unfilled g) at-start somewhere)
      → (p : Pattern) → pattern_of f ≡ some p → at-start ≡ accepts p (unfilled g)
  with-caret c find p e =
      let (r, a, b) = text-caret (rest f 1) p (sym (ap pattern_of_text (caret-first f c)) ∙ pattern-text f p e) in
      (find r a).start ∙ (ap (λ q. fits q.pieces q.to_end (unfilled g)) (sym b) ∙ sym (accepts-front p (unfilled g) (ap (λ q. q.from_start) b)))

  pub no-caret : (byte f 0 ≡ caret → ⊥) → ((r : Pieces) → pieces_of (rest f 0) ≡ some r → Finds r (unfilled g) at-start somewhere)
      → (p : Pattern) → pattern_of f ≡ some p → somewhere ≡ accepts p (unfilled g)
  no-caret n find p e =
      let (r, a, b) = text-other (unfilled f) p (λ u h. n (first-is f caret u h)) (pattern-text f p e) in
      (find r a).any ∙ (ap (λ q. anywhere (fits q.pieces q.to_end) (unfilled g)) (sym b) ∙ sym (accepts-anywhere p (unfilled g) (ap (λ q. q.from_start) b)))

-- a pattern that begins with `^` has a byte
pub caret-there : (f : List ℕ) → byte f 0 ≡ caret → 1 ≤ length (unfilled f)
caret-there f c = let e : length (unfilled f) ≡ suc (length (rest f 1)) = ap length (caret-first f c) in omega arith
