-- Patterns and language ranges, byte by byte: what is left to check of a field, from each place on.
use Prim.Native.Nat.{ℕ, suc, ◌+◌, ◌-◌, ◌≤◌, ◌<◌}
use mathlib.Core.Bool.{Bool, true, false, cond, not, ◌&&◌, ◌||◌, and-true, and-false, and_comm, or-false, or_assoc}
use mathlib.Core.List.{List, [], ◌∷◌}
use mathlib.Core.Option.{Option, none, some}
use mathlib.Core.Path.{◌≡◌, refl, sym, ap, ap₂, ◌∙◌, subst}
use native.Mathlib.Omega.{arith}
use native.Mathlib.Numerals.{add-one}
use lib.Dec.{eqb, leb}
use lib.ListN.{length}
use Rattle.std.specs.List.{list_any}
use Rattle.laws.proofs.TestEquations.{eqb_swap}
use lib.Seq.{drop-cons}
use borrow.Author.Tests.{ne_eqb}
use Rattle.definitions.specs.Limits.{pattern_width, language_range_width}
use Rattle.definitions.specs.Lists.{every, some?, is_empty}
use Rattle.definitions.specs.Bytes.{byte, part, all_zero, unfilled, provided, onward, same_bytes}
use Rattle.definitions.specs.Ascii.{ascii}
use Rattle.definitions.specs.Terms.{Text, text_byte, tag_byte, small_letter, hyphen}
use Rattle.definitions.specs.Text.{Atom, Piece, one, many, with_piece, with_start, star, caret, dollar, dot, no_literal, atom_of, pieces_of, pattern_of_text, pattern_of, any_tag}
use Rattle.definitions.specs.Text.{beginning, without_star, range_of_text, language_range_of}
use Rattle.laws.proofs.Bytes.{part_length}
use Rattle.laws.proofs.Fields.{by-same, filled_by, filled-byte, unfilled-byte, no_text, field-text}
use Rattle.laws.specs.ReadAnswers.{is_some}
use Rattle.patterns.specs.Fields.{is_literal, may_follow, are_pieces}
use Rattle.laws.proofs.ReadAnswers.{onward-is, provided-is, provided-then, cond-is, elim-is}

-- ── parts of a slice ────────────────────────────────────────────────────────────────────────

-- the bytes from an offset up to an end, the first of them apart
module _ (s : List ℕ) (i end : ℕ) where
  pub part-cons : i < end → end ≤ length s → part s i (end - i) ≡ byte s i ∷ part s (i + 1) (end - (i + 1))
  part-cons h l = let e : end - i ≡ suc (end - (i + 1)) = omega arith in rw (e, add-one, drop-cons s i 0 (omega arith))

  pub part-done : end ≤ i → part s i (end - i) ≡ []
  part-done h = let e : end - i ≡ 0 = omega arith in rw e

  pub zeros-turn : i < end → end ≤ length s → byte s i ≡ 0 → all_zero (part s i (end - i)) ≡ all_zero (part s (i + 1) (end - (i + 1)))
  zeros-turn h l e = rw (part-cons h l, e)

  pub zeros-stop : i < end → end ≤ length s → (byte s i ≡ 0 → ⊥) → all_zero (part s i (end - i)) ≡ false
  zeros-stop h l n = rw (part-cons h l, ne_eqb 0 (byte s i) (λ e. n (sym e)))

-- a field, its first byte apart
field-cons : (s : List ℕ) (at n : ℕ) → 0 < n → at + n ≤ length s → part s at n ≡ byte s at ∷ part s (at + 1) (at + n - (at + 1))
field-cons s at n p h =
    let e : n ≡ at + n - at = omega arith in
    ap (λ (k : ℕ). part s at k) e ∙ part-cons s at (at + n) (omega arith) h

-- ── patterns: the bytes ─────────────────────────────────────────────────────────────────────

swap : (a b c d : Bool) → ((a && b) && (c && d)) ≡ ((a && c) && (b && d))
swap true true c d = refl
swap true false true d = refl
swap true false false d = refl
swap false b c d = refl

among : (b : ℕ) (xs : List ℕ) → list_any (λ y. eqb y b) xs ≡ some? (eqb b) xs
among b [] = refl
among b (x ∷ xs) = ap₂ ◌||◌ (eqb_swap x b) (among b xs)

pub no-literal : (b : ℕ) → list_any (λ y. eqb y b) (ascii "\\|?+()[]{}*^$") ≡ no_literal b
unfolding no_literal ascii
no-literal b = among b (ascii "\\|?+()[]{}*^$") ∙ simp (or_assoc, or-false)

atom-is : (b : ℕ) → is_some (atom_of b) ≡ not (no_literal b)
unfolding atom_of no_literal ascii provided
atom-is b =
    by-same b dot (λ e. rw e) (λ e. rw e (provided-is (not (no_literal b)) _))

pub literal-is : (b : ℕ) {n : Bool} → n ≡ no_literal b → ((leb 0x20 b && leb b 0x7E) && not n) ≡ is_literal b
unfolding is_literal
literal-is b e = rw (e, atom-is b)

-- ── patterns: the pieces ────────────────────────────────────────────────────────────────────

-- `*` only after an atom
abbrev next_atom : (atom : Bool) → ℕ → Bool
next_atom atom b = cond (eqb b star) atom (is_some (atom_of b))

-- the rest of a text, and the rest of a field; `atom`: the byte before may take a `*`
abbrev text_from : (atom : Bool) → Text → Bool
text_from atom [] = true
text_from atom (b ∷ t) = cond (eqb b dollar) (is_empty t) (next_atom atom b && text_from (not (eqb b star)) t)

unfoldable pub good_from : (atom : Bool) → List ℕ → Bool
good_from atom [] = true
good_from atom (b ∷ bs) = cond (eqb b 0) (all_zero bs) (cond (eqb b dollar) (all_zero bs) (may_follow atom b && good_from (not (eqb b star)) bs))

-- where it is no `*`, it does not matter whether one may stand there
not-star : (b : ℕ) (t : Text) → eqb b star ≡ false → text_from true (b ∷ t) ≡ text_from false (b ∷ t)
not-star b t e = rw e

atom-star : atom_of star ≡ none
unfolding atom_of no_literal ascii provided
atom-star = refl

atom-dollar : atom_of dollar ≡ none
unfolding atom_of no_literal ascii provided
atom-dollar = refl

pieces_are : (t : Text) → is_some (pieces_of t) ≡ text_from false t
unfolding pieces_of onward
pieces_are [] = refl
pieces_are (b ∷ []) =
    by-same b dollar (λ e. rw e) (λ n.
    by-same b star (λ e. rw (e, atom-star)) (λ m.
    rw (n, m) (onward-is {B = List Piece × Bool} (atom_of b) (λ a. some (one a ∷ [], false)) true (λ a. refl))))
pieces_are (b ∷ c ∷ t) =
    by-same b dollar (λ e. rw (e, atom-dollar)) (λ n.
    by-same b star (λ e. rw (e, atom-star)) (λ m.
    rw (n, m) (onward-is (atom_of b) _ (text_from true (c ∷ t)) (λ a. then a (pieces_are t) (pieces_are (c ∷ t))))))
  where
    then : (a : Atom) → is_some (pieces_of t) ≡ text_from false t → is_some (pieces_of (c ∷ t)) ≡ text_from false (c ∷ t)
        → is_some {A = List Piece × Bool} (elim (eqb c star) as (λ x. Option (List Piece × Bool)) [
          | true ↦ onward (pieces_of t) (λ r. some (with_piece (many a) r))
          | false ↦ onward (pieces_of (c ∷ t)) (λ r. some (with_piece (one a) r))
        ]) ≡ text_from true (c ∷ t)
    then a h k =
        let x = onward (pieces_of t) (λ r. some (with_piece (many a) r)) in
        let y = onward (pieces_of (c ∷ t)) (λ r. some (with_piece (one a) r)) in
        let hx : is_some x ≡ text_from false t = onward-is (pieces_of t) (λ r. some (with_piece (many a) r)) true (λ r. refl) ∙ (and-true (is_some (pieces_of t)) ∙ h) in
        let hy : is_some y ≡ text_from false (c ∷ t) =
        onward-is (pieces_of (c ∷ t)) (λ r. some (with_piece (one a) r)) true (λ r. refl) ∙ (and-true (is_some (pieces_of (c ∷ t))) ∙ k) in
        elim-is (eqb c star) x y
        ∙ by-same c star
        (λ e. rw e hx)
        (λ e. ap (λ (s : Bool). cond s (is_some x) (is_some y)) e ∙ (hy ∙ sym (not-star c t e)))

-- a byte that may stand next is a byte of a text
follows : (atom : Bool) (b : ℕ) → (text_byte b && next_atom atom b) ≡ may_follow atom b
unfolding may_follow is_literal
follows atom b = by-same b star (λ e. rw e) (λ e. rw e)

module _ (atom : Bool) (b : ℕ) (bs : List ℕ) where
  pub good-zero : b ≡ 0 → good_from atom (b ∷ bs) ≡ all_zero (b ∷ bs)
  unfolding good_from
  good-zero e = rw e

  pub good-end : b ≡ dollar → good_from atom (b ∷ bs) ≡ all_zero bs
  unfolding good_from
  good-end e = rw e

  pub good-next : eqb b 0 ≡ false → eqb b dollar ≡ false → good_from atom (b ∷ bs) ≡ (may_follow atom b && good_from (not (eqb b star)) bs)
  unfolding good_from
  good-next z d = rw (z, d)

  text-next : eqb b dollar ≡ false → text_from atom (b ∷ bs) ≡ (next_atom atom b && text_from (not (eqb b star)) bs)
  text-next d = rw d

field-from : (atom : Bool) (field : List ℕ) → (filled_by text_byte field && text_from atom (unfilled field)) ≡ good_from atom field
unfolding good_from filled_by unfilled
field-from atom [] = refl
field-from atom (b ∷ bs) =
    by-same b 0 (λ e. rw e (and-true (all_zero bs))) (λ z.
    by-same b dollar (λ e. rw e (no_text text_byte bs)) (λ d.
    ap₂ ◌&&◌ (filled-byte text_byte b bs z) (ap (text_from atom) (unfilled-byte b bs z) ∙ text-next atom b (unfilled bs) d)
    ∙ (swap (text_byte b) (filled_by text_byte bs) (next_atom atom b) (text_from (not (eqb b star)) (unfilled bs))
    ∙ (ap₂ ◌&&◌ (follows atom b) (field-from (not (eqb b star)) bs) ∙ sym (good-next atom b bs z d)))))

pub pieces-from : (field : List ℕ) → are_pieces field ≡ good_from false field
unfolding are_pieces
pieces-from field =
    ap (λ (o : Option Text). is_some (onward o pieces_of)) (field-text text_byte (length field) field refl)
    ∙ (provided-then (filled_by text_byte field) (unfilled field) pieces_of
    ∙ (ap (λ t. filled_by text_byte field && t) (pieces_are (unfilled field)) ∙ field-from false field))

-- one byte further in the bytes that are left
module _ (s : List ℕ) (i end : ℕ) (atom : Bool) (inside : i < end) (fits : end ≤ length s) where
  pub pieces-zero : byte s i ≡ 0 → good_from atom (part s i (end - i)) ≡ all_zero (part s i (end - i))
  pieces-zero e = rw (part-cons s i end inside fits) (good-zero atom (byte s i) (part s (i + 1) (end - (i + 1))) e)

  pub pieces_end : byte s i ≡ dollar → good_from atom (part s i (end - i)) ≡ all_zero (part s (i + 1) (end - (i + 1)))
  pieces_end e = rw (part-cons s i end inside fits) (good-end atom (byte s i) (part s (i + 1) (end - (i + 1))) e)

  module _ (z : byte s i ≡ 0 → ⊥) (d : byte s i ≡ dollar → ⊥) where
    pieces-next : good_from atom (part s i (end - i)) ≡ (may_follow atom (byte s i) && good_from (not (eqb (byte s i) star)) (part s (i + 1) (end - (i + 1))))
    pieces-next =
        rw (part-cons s i end inside fits) (good-next atom (byte s i) (part s (i + 1) (end - (i + 1))) (ne_eqb (byte s i) 0 z) (ne_eqb (byte s i) dollar d))

    pub pieces-bad : may_follow atom (byte s i) ≡ false → good_from atom (part s i (end - i)) ≡ false
    pieces-bad e = pieces-next ∙ rw e

    pub pieces-turn : may_follow atom (byte s i) ≡ true
        → good_from atom (part s i (end - i)) ≡ good_from (not (eqb (byte s i) star)) (part s (i + 1) (end - (i + 1)))
    pieces-turn e = pieces-next ∙ rw e

pub pieces-done : (s : List ℕ) (i end : ℕ) (atom : Bool) → end ≤ i → good_from atom (part s i (end - i)) ≡ true
unfolding good_from
pieces-done s i end atom h = rw (part-done s i end h)

pattern-text : (field : List ℕ) → length field ≡ pattern_width → is_some (pattern_of field) ≡ (filled_by text_byte field && is_some (pattern_of_text (unfilled field)))
unfolding pattern_of
pattern-text field l =
    ap (λ (o : Option Text). is_some (onward o pattern_of_text)) (field-text text_byte pattern_width field l)
    ∙ provided-then (filled_by text_byte field) (unfilled field) pattern_of_text

made : (o : Option (List Piece × Bool)) (start : Bool) → is_some (onward o (λ r. some (with_start start r))) ≡ is_some o
made o start = onward-is o (λ r. some (with_start start r)) true (λ r. refl) ∙ and-true (is_some o)

-- `^` only first
pub pattern-caret : (b : ℕ) (bs : List ℕ) → length (b ∷ bs) ≡ pattern_width → b ≡ caret → is_some (pattern_of (b ∷ bs)) ≡ are_pieces bs
unfolding pattern_of_text filled_by unfilled
pattern-caret b bs l e =
    pattern-text (b ∷ bs) l
    ∙ (rw e (ap (λ t. filled_by text_byte bs && t) (made (pieces_of (unfilled bs)) true ∙ pieces_are (unfilled bs)) ∙ field-from false bs)
    ∙ sym (pieces-from bs))

no-caret : (b : ℕ) (t : Text) → eqb b caret ≡ false → is_some (pattern_of_text (b ∷ t)) ≡ is_some (pieces_of (b ∷ t))
unfolding pattern_of_text
no-caret b t e =
    elim-is (eqb b caret) (onward (pieces_of t) (λ r. some (with_start true r))) (onward (pieces_of (b ∷ t)) (λ r. some (with_start false r)))
    ∙ (ap (λ (s : Bool). cond s (is_some (onward (pieces_of t) (λ r. some (with_start true r)))) (is_some (onward (pieces_of (b ∷ t)) (λ r. some (with_start false r))))) e
    ∙ made (pieces_of (b ∷ t)) false)

pub pattern-plain : (b : ℕ) (bs : List ℕ) → length (b ∷ bs) ≡ pattern_width → eqb b caret ≡ false → is_some (pattern_of (b ∷ bs)) ≡ are_pieces (b ∷ bs)
unfolding pattern_of_text unfilled pieces_of
pattern-plain b bs l e =
    let zf = filled_by text_byte (b ∷ bs) in
    pattern-text (b ∷ bs) l
    ∙ (by-same b 0
    (λ z. rw z)
    (λ z.
    let u = unfilled-byte b bs z in
    ap (λ (t : Text). zf && is_some (pattern_of_text t)) u
    ∙ (ap (λ t. zf && t) (no-caret b (unfilled bs) e) ∙ ap (λ (t : Text). zf && is_some (pieces_of t)) (sym u)))
    ∙ (ap (λ t. zf && t) (pieces_are (unfilled (b ∷ bs))) ∙ (field-from false (b ∷ bs) ∙ sym (pieces-from (b ∷ bs)))))

module _ (s : List ℕ) (at : ℕ) (h : at + pattern_width ≤ length s) where
  pub anchored : byte s at ≡ caret → is_some (pattern_of (part s at pattern_width)) ≡ are_pieces (part s (at + 1) (at + pattern_width - (at + 1)))
  anchored e =
      let w = field-cons s at pattern_width (omega arith) h in
      ap (λ (f : List ℕ). is_some (pattern_of f)) w
      ∙ pattern-caret (byte s at) (part s (at + 1) (at + pattern_width - (at + 1))) (sym (ap length w) ∙ part_length s at pattern_width h) e

  pub unanchored : (byte s at ≡ caret → ⊥) → is_some (pattern_of (part s at pattern_width)) ≡ are_pieces (part s at (at + pattern_width - at))
  unanchored e =
      let w = field-cons s at pattern_width (omega arith) h in
      ap (λ (f : List ℕ). is_some (pattern_of f)) w
      ∙ (pattern-plain (byte s at) (part s (at + 1) (at + pattern_width - (at + 1))) (sym (ap length w) ∙ part_length s at pattern_width h) (ne_eqb (byte s at) caret e)
      ∙ ap are_pieces (sym (part-cons s at (at + pattern_width) (omega arith) h)))

-- ── language ranges ─────────────────────────────────────────────────────────────────────────

-- the rest of a text, and the rest of a field: whether a letter was there, whether the byte before is a hyphen
abbrev range_text : (letter hyph : Bool) → Text → Bool
range_text letter hyph [] = letter
range_text letter hyph (c ∷ t) = cond (eqb c star) ((letter && hyph) && is_empty t) (tag_byte c && range_text (letter || not (eqb c hyphen)) (eqb c hyphen) t)

unfoldable pub range_from : (letter hyph : Bool) → List ℕ → Bool
range_from letter hyph [] = letter
range_from letter hyph (c ∷ bs) =
    cond (eqb c 0) (letter && all_zero bs)
    (cond (eqb c star) ((letter && hyph) && all_zero bs) (tag_byte c && range_from (letter || not (eqb c hyphen)) (eqb c hyphen) bs))

-- what is left of a text without `-*` at its end
abbrev tagged : (letter : Bool) → Text → Bool
tagged letter t = every tag_byte t && (letter || some? small_letter t)

and_left : (a b c : Bool) → a ≡ false → ((a && b) && c) ≡ false
and_left a b c e = rw e

first-bad : (letter : Bool) (a : ℕ) (t : Text) → tag_byte a ≡ false → tagged letter (without_star (a ∷ t)) ≡ false
unfolding without_star
first-bad letter a [] e = and_left (tag_byte a) true (letter || (small_letter a || false)) e
first-bad letter a (b ∷ t) e =
    by-same a hyphen
    (λ h. absurd (let z : true ≡ false = rw h at e in let w : ◌≡◌ {A = ℕ} 0 1 = cc in omega arith))
    (λ n. rw n (and_left (tag_byte a) (every tag_byte (without_star (b ∷ t))) (letter || (small_letter a || some? small_letter (without_star (b ∷ t)))) e))

letter-is : (c : ℕ) → tag_byte c ≡ true → small_letter c ≡ not (eqb c hyphen)
letter-is c e = by-same c hyphen (λ h. rw h) (λ n. sym (or-false (small_letter c)) ∙ rw n (rw n at e))

one_more : (letter : Bool) (a : ℕ) (t : Text) → tag_byte a ≡ true → tagged letter (a ∷ t) ≡ tagged (letter || small_letter a) t
one_more letter a t e = rw e (ap (λ (x : Bool). every tag_byte t && x) (sym (or_assoc letter (small_letter a) (some? small_letter t))))

last-star : (l : Bool) → (l || false) ≡ ((l || false) && true && true)
last-star true = refl
last-star false = refl

star-bad : (letter : Bool) (t : Text) → tagged letter (without_star (star ∷ t)) ≡ false
star-bad letter t = first-bad letter star t refl

-- a `*` that stands next ends a range, after a hyphen
after-star : (letter : Bool) (a : ℕ) (t : Text) → tag_byte a ≡ true
    → tagged letter (without_star (a ∷ star ∷ t)) ≡ (((letter || small_letter a) && eqb a hyphen) && is_empty t)
unfolding without_star
after-star letter a [] e =
    by-same a hyphen
    (λ h. rw h (last-star letter))
    (λ n. rw n (one_more letter a (star ∷ []) e ∙ sym (and-true ((letter || small_letter a) && false) ∙ and-false (letter || small_letter a))))
after-star letter a (b ∷ t) e =
    by-same a hyphen
    (λ h. rw h (one_more letter hyphen (without_star (star ∷ b ∷ t)) refl ∙ (star-bad (letter || false) (b ∷ t) ∙ sym (and-false ((letter || false) && true)))))
    (λ n. rw n (one_more letter a (without_star (star ∷ b ∷ t)) e ∙ (star-bad (letter || small_letter a) (b ∷ t) ∙ sym (and-false ((letter || small_letter a) && false)))))

range-tagged : (letter : Bool) (a : ℕ) (t : Text) → tag_byte a ≡ true → tagged letter (without_star (a ∷ t)) ≡ range_text (letter || small_letter a) (eqb a hyphen) t
unfolding without_star
range-tagged letter a [] e = rw e (ap (λ (x : Bool). letter || x) (or-false (small_letter a)))
range-tagged letter a (b ∷ t) e =
    by-same b star
    (λ h. subst (λ (x : ℕ). tagged letter (without_star (a ∷ x ∷ t)) ≡ range_text (letter || small_letter a) (eqb a hyphen) (x ∷ t)) (sym h) (after-star letter a t e))
    (λ n.
    rw (n, and-false)
    (one_more letter a (without_star (b ∷ t)) e
    ∙ next (tag_byte b) refl (range-tagged (letter || small_letter a) b t)))
  where
    next : (y : Bool) → tag_byte b ≡ y → (tag_byte b ≡ true → tagged (letter || small_letter a) (without_star (b ∷ t)) ≡ range_text (letter || small_letter a || small_letter b) (eqb b hyphen) t)
        → tagged (letter || small_letter a) (without_star (b ∷ t)) ≡ (tag_byte b && range_text ((letter || small_letter a) || not (eqb b hyphen)) (eqb b hyphen) t)
    next true y f = f y ∙ rw (y, letter-is b y)
    next false y f = first-bad (letter || small_letter a) b t y ∙ rw y

same-empty : (t : Text) → same_bytes t [] ≡ is_empty t
same-empty [] = refl
same-empty (b ∷ t) = refl

range-star : (t : Text) → is_some (range_of_text (star ∷ t)) ≡ is_empty t
unfolding range_of_text
range-star t =
    cond-is (same_bytes t []) (some any_tag) (provided (tagged false (without_star (star ∷ t))) (some (beginning (without_star (star ∷ t)))))
    ∙ (rw (provided-is (tagged false (without_star (star ∷ t))) (beginning (without_star (star ∷ t))), star-bad false t, same-empty t) (both (is_empty t)))
  where
    both : (b : Bool) → cond b true false ≡ b
    both true = refl
    both false = refl

range-text : (a : ℕ) (t : Text) → eqb a star ≡ false → is_some (range_of_text (a ∷ t)) ≡ range_text false false (a ∷ t)
unfolding range_of_text
range-text a t n =
    cond-is (eqb a star && same_bytes t []) (some any_tag) (provided (tagged false (without_star (a ∷ t))) (some (beginning (without_star (a ∷ t)))))
    ∙ rw n (provided-is (tagged false (without_star (a ∷ t))) (beginning (without_star (a ∷ t))) ∙ first (tag_byte a) refl)
  where
    first : (y : Bool) → tag_byte a ≡ y → tagged false (without_star (a ∷ t)) ≡ (tag_byte a && range_text (not (eqb a hyphen)) (eqb a hyphen) t)
    first true y = range-tagged false a t y ∙ rw (y, letter-is a y)
    first false y = first-bad false a t y ∙ rw y

-- a byte of a language range's text
abbrev range_byte : ℕ → Bool
range_byte b = tag_byte b || eqb b star

module _ (letter hyph : Bool) (c : ℕ) (bs : List ℕ) where
  pub range-zero : c ≡ 0 → range_from letter hyph (c ∷ bs) ≡ (letter && all_zero (c ∷ bs))
  unfolding range_from
  range-zero e = rw e

  pub range-end : c ≡ star → range_from letter hyph (c ∷ bs) ≡ ((letter && hyph) && all_zero bs)
  unfolding range_from
  range-end e = rw e

  pub range-next : eqb c 0 ≡ false → eqb c star ≡ false → range_from letter hyph (c ∷ bs) ≡ (tag_byte c && range_from (letter || not (eqb c hyphen)) (eqb c hyphen) bs)
  unfolding range_from
  range-next z n = rw (z, n)

  text-range : eqb c star ≡ false → range_text letter hyph (c ∷ bs) ≡ (tag_byte c && range_text (letter || not (eqb c hyphen)) (eqb c hyphen) bs)
  text-range n = rw n

move : (f l e : Bool) → (f && (l && e)) ≡ (l && (f && e))
move true l e = refl
move false true e = refl
move false false e = refl

twice : (a f r : Bool) → (((a || false) && f) && (a && r)) ≡ (a && (f && r))
twice true true r = refl
twice true false r = refl
twice false f r = refl

range-field : (letter hyph : Bool) (field : List ℕ) → (filled_by range_byte field && range_text letter hyph (unfilled field)) ≡ range_from letter hyph field
unfolding range_from filled_by unfilled
range-field letter hyph [] = refl
range-field letter hyph (c ∷ bs) =
    by-same c 0 (λ e. rw e (and_comm (all_zero bs) letter)) (λ z.
    by-same c star
    (λ e. rw e (move (filled_by range_byte bs) (letter && hyph) (is_empty (unfilled bs)) ∙ ap (λ (t : Bool). (letter && hyph) && t) (no_text range_byte bs)))
    (λ n.
    let l = letter || not (eqb c hyphen) in
    ap₂ ◌&&◌ (filled-byte range_byte c bs z ∙ ap (λ (t : Bool). (tag_byte c || t) && filled_by range_byte bs) n)
    (ap (range_text letter hyph) (unfilled-byte c bs z) ∙ text-range letter hyph c (unfilled bs) n)
    ∙ (twice (tag_byte c) (filled_by range_byte bs) (range_text l (eqb c hyphen) (unfilled bs))
    ∙ (ap (λ (t : Bool). tag_byte c && t) (range-field l (eqb c hyphen) bs) ∙ sym (range-next letter hyph c bs z n)))))

language-text : (field : List ℕ) → length field ≡ language_range_width
    → is_some (language_range_of field) ≡ (filled_by range_byte field && is_some (range_of_text (unfilled field)))
unfolding language_range_of
language-text field l =
    ap (λ (o : Option Text). is_some (onward o range_of_text)) (field-text range_byte language_range_width field l)
    ∙ provided-then (filled_by range_byte field) (unfilled field) range_of_text

-- `*` alone
pub language-star : (b : ℕ) (bs : List ℕ) → length (b ∷ bs) ≡ language_range_width → b ≡ star → is_some (language_range_of (b ∷ bs)) ≡ all_zero bs
unfolding filled_by unfilled
language-star b bs l e =
    language-text (b ∷ bs) l ∙ rw e (ap (λ (t : Bool). filled_by range_byte bs && t) (range-star (unfilled bs)) ∙ no_text range_byte bs)

pub language-plain : (b : ℕ) (bs : List ℕ) → length (b ∷ bs) ≡ language_range_width → eqb b star ≡ false → is_some (language_range_of (b ∷ bs)) ≡ range_from false false (b ∷ bs)
unfolding filled_by unfilled range_from range_of_text without_star provided
language-plain b bs l n =
    language-text (b ∷ bs) l
    ∙ by-same b 0
    (λ z. rw z (and-false (all_zero bs)))
    (λ z.
    let f = filled_by range_byte (b ∷ bs) in
    let u = unfilled-byte b bs z in
    ap (λ (t : Text). f && is_some (range_of_text t)) u
    ∙ (ap (λ (t : Bool). f && t) (range-text b (unfilled bs) n)
    ∙ (ap (λ (t : Text). f && range_text false false t) (sym u) ∙ range-field false false (b ∷ bs))))

module _ (s : List ℕ) (i end : ℕ) (letter hyph : Bool) (inside : i < end) (fits : end ≤ length s) where
  pub tag-zero : byte s i ≡ 0 → range_from letter hyph (part s i (end - i)) ≡ (letter && all_zero (part s i (end - i)))
  tag-zero e = rw (part-cons s i end inside fits) (range-zero letter hyph (byte s i) (part s (i + 1) (end - (i + 1))) e)

  pub tag-end : byte s i ≡ star → range_from letter hyph (part s i (end - i)) ≡ ((letter && hyph) && all_zero (part s (i + 1) (end - (i + 1))))
  tag-end e = rw (part-cons s i end inside fits) (range-end letter hyph (byte s i) (part s (i + 1) (end - (i + 1))) e)

  module _ (z : byte s i ≡ 0 → ⊥) (n : byte s i ≡ star → ⊥) where
    tag-next : range_from letter hyph (part s i (end - i))
        ≡ (tag_byte (byte s i) && range_from (letter || not (eqb (byte s i) hyphen)) (eqb (byte s i) hyphen) (part s (i + 1) (end - (i + 1))))
    tag-next =
        rw (part-cons s i end inside fits) (range-next letter hyph (byte s i) (part s (i + 1) (end - (i + 1))) (ne_eqb (byte s i) 0 z) (ne_eqb (byte s i) star n))

    pub tag-bad : tag_byte (byte s i) ≡ false → range_from letter hyph (part s i (end - i)) ≡ false
    tag-bad e = tag-next ∙ ap (λ (t : Bool). t && range_from (letter || not (eqb (byte s i) hyphen)) (eqb (byte s i) hyphen) (part s (i + 1) (end - (i + 1)))) e

    pub tag-turn : tag_byte (byte s i) ≡ true → range_from letter hyph (part s i (end - i))
        ≡ range_from (letter || not (eqb (byte s i) hyphen)) (eqb (byte s i) hyphen) (part s (i + 1) (end - (i + 1)))
    tag-turn e = tag-next ∙ ap (λ (t : Bool). t && range_from (letter || not (eqb (byte s i) hyphen)) (eqb (byte s i) hyphen) (part s (i + 1) (end - (i + 1)))) e

pub tag-done : (s : List ℕ) (i end : ℕ) (letter hyph : Bool) → end ≤ i → range_from letter hyph (part s i (end - i)) ≡ letter
unfolding range_from
tag-done s i end letter hyph h = rw (part-done s i end h)

module _ (s : List ℕ) (at : ℕ) (h : at + language_range_width ≤ length s) where
  pub star-alone : byte s at ≡ star → is_some (language_range_of (part s at language_range_width)) ≡ all_zero (part s (at + 1) (at + language_range_width - (at + 1)))
  star-alone e =
      let w = field-cons s at language_range_width (omega arith) h in
      ap (λ (f : List ℕ). is_some (language_range_of f)) w
      ∙ language-star (byte s at) (part s (at + 1) (at + language_range_width - (at + 1))) (sym (ap length w) ∙ part_length s at language_range_width h) e

  pub tag-begins : (byte s at ≡ star → ⊥) → is_some (language_range_of (part s at language_range_width)) ≡ range_from false false (part s at (at + language_range_width - at))
  tag-begins e =
      let w = field-cons s at language_range_width (omega arith) h in
      ap (λ (f : List ℕ). is_some (language_range_of f)) w
      ∙ (language-plain (byte s at) (part s (at + 1) (at + language_range_width - (at + 1))) (sym (ap length w) ∙ part_length s at language_range_width h) (ne_eqb (byte s at) star e)
      ∙ ap (range_from false false) (sym (part-cons s at (at + language_range_width) (omega arith) h)))
