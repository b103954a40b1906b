-- A text has a numeral exactly where that is written so.
use Prim.Native.Nat.{ℕ, suc, ◌+◌, ◌-◌, ◌≤◌, ◌<◌}
use native.Mathlib.Nat.{add-zero, zero-add}
use native.Mathlib.Numerals.{add-one}
use native.Mathlib.Omega.{arith}
use mathlib.Core.Bool.{Bool, true, false, cond, ◌||◌}
use mathlib.Core.List.{[], ◌∷◌, ◌++◌, append-nil, append_assoc}
use mathlib.Core.Logic.{◌⊎◌, inl, inr, ⊎_elim}
use mathlib.Core.Option.{Option, none, some}
use mathlib.Core.Path.{◌≡◌, refl, sym, ap, ◌∙◌, subst}
use lib.Dec.{T, eqb, eqb→eq}
use lib.ListN.{length, drop, length-append, take-append-drop}
use lib.Seq.{drop-cons, drop-drop, drop-length, drop-append_seam}
use borrow.Author.Tests.{le-leb, ne_eqb, eqb-true}
use Rattle.definitions.specs.Limits.{number_text_limit}
use Rattle.definitions.specs.Bytes.{byte, provided, onward}
use Rattle.definitions.specs.Terms.{Text}
use Rattle.definitions.specs.Numerals.{exponent_digits, Exponent, Numeral, is_minus, is_point, is_e, is_digit, leading, after_sign, digits_at, fraction_at, exponent_at, numeral_of}
use Rattle.laws.proofs.Tests.{and_left, or_cases}
use Rattle.laws.proofs.Bytes.{byte-from, byte-within}
use Rattle.laws.proofs.Numerals.{no_digit, digit-range, leading-other, leading-append, DigitsAt, digits_are, FractionAt, without-point, with-point, fraction-is}
use Rattle.laws.proofs.Numerals.{ExponentAt, without-exponent, with-exponent, exponent-is, numeral-made, numeral-in}
use Rattle.theorems.specs.NumberTexts.{Digits, WritesSign, no_sign, plus, minus, WritesFraction, no-point, point, WritesExponent, no-exponent, exponent, Writes, parts}

-- ── from an offset on ───────────────────────────────────────────────────────────────────────

first_byte : (t : Text) (at : ℕ) {u : Text} → drop at t ≡ u → byte t at ≡ byte u 0
first_byte t at e = ap (byte t) (sym (add-zero at)) ∙ (byte-from t at 0 ∙ ap (λ v. byte v 0) e)

onwards : (t : Text) (at : ℕ) (x u : Text) → drop at t ≡ x ++ u → drop (at + length x) t ≡ u
onwards t at x u e = sym (drop-drop (length x) at t) ∙ (ap (drop (length x)) e ∙ drop-append_seam x u)

-- ── what is written is read ─────────────────────────────────────────────────────────────────

digit-first : (most : ℕ) (d u : Text) → Digits most d → T (is_digit (byte (d ++ u) 0))
digit-first most [] u h = absurd (omega (arith, h.some))
digit-first most (b ∷ d) u h = and_left (is_digit b) _ h.all

module _ (t : Text) where
  digits-made : (at most : ℕ) (d u : Text) → drop at t ≡ d ++ u → leading u ≡ [] → Digits most d → digits_at most t at ≡ some (d, at + length d)
  unfolding digits_at provided
  digits-made at most d u e z h =
      let l : leading (drop at t) ≡ d = ap leading e ∙ leading-append d u h.all z in
      rw (l, le-leb 1 (length d) h.some, le-leb (length d) most h.few)

  sign-made : (at : ℕ) (m : Bool) (s u : Text) → drop at t ≡ s ++ u → T (is_digit (byte u 0)) → WritesSign m s → (after_sign t at ≡ at + length s) × (is_minus (byte t at) ≡ m)
  unfolding after_sign
  sign-made at m s u e h no_sign =
      let r = digit-range (byte u 0) h in
      let b = first_byte t at e in
      let p = ne_eqb (byte t at) 0x2B (λ z. omega arith) in
      let q = ne_eqb (byte t at) 0x2D (λ z. omega arith) in
      (rw (p, q) (sym (add-zero at)), q)
  sign-made at m s u e h plus = let b : byte t at ≡ 0x2B = first_byte t at e in rw b (refl, refl)
  sign-made at m s u e h minus = let b : byte t at ≡ 0x2D = first_byte t at e in rw b (refl, refl)

  fraction-made : (at : ℕ) (f : Option Text) (x u : Text) → drop at t ≡ x ++ u → leading u ≡ [] → is_point (byte u 0) ≡ false → WritesFraction f x → fraction_at t at ≡ some (f, at + length x)
  unfolding fraction_at onward
  fraction-made at f x u e z n no-point = rw (first_byte t at e, n) (ap (λ k. some (none, k)) (sym (add-zero at)))
  fraction-made at f x u e z n (point {d} h) =
      let after = onwards t at (0x2E ∷ []) (d ++ u) e in
      let b : byte t at ≡ 0x2E = first_byte t at e in
      let k : at + 1 + length d ≡ at + suc (length d) = omega arith in
      rw (b, digits-made (at + 1) number_text_limit d u after z h) (ap (λ j. some (some d, j)) k)

is-e : (b : ℕ) → (b ≡ 0x65) ⊎ (b ≡ 0x45) → is_e b ≡ true
is-e b (inl e) = rw e
is-e b (inr e) = rw e

no-digits : leading [] ≡ []
unfolding leading
no-digits = refl

exponent-made : (t : Text) (at : ℕ) (e : Option Exponent) (y : Text) → drop at t ≡ y → WritesExponent e y → exponent_at t at ≡ some (e, at + length y)
unfolding exponent_at onward
exponent-made t at e y k no-exponent = rw (first_byte t at k) (ap (λ j. some (none, j)) (sym (add-zero at)))
exponent-made t at e y k (exponent {b} {m} {s} {d} h w ds) =
    let q : is_e (byte t at) ≡ true = ap is_e (first_byte t at k) ∙ is-e b h in
    let after : drop (at + 1) t ≡ s ++ d = onwards t at (b ∷ []) (s ++ d) k in
    let sign = sign-made t (at + 1) m s d after (subst (λ u. T (is_digit (byte u 0))) (append-nil d) (digit-first exponent_digits d [] ds)) w in
    let rest : drop (at + 1 + length s) t ≡ d ++ [] = onwards t (at + 1) s d after ∙ sym (append-nil d) in
    let read = digits-made t (at + 1 + length s) exponent_digits d [] rest no-digits ds in
    let n : at + 1 + length s + length d ≡ at + suc (length (s ++ d)) = omega (arith, length-append s d) in
    rw (q, sign.0, sign.1, read) (ap (λ j. some (some (record { minus = m; digits = d }), j)) n)

-- what follows the digits does not begin with one
fraction-leading : (f : Option Text) (x u : Text) → leading u ≡ [] → WritesFraction f x → leading (x ++ u) ≡ []
fraction-leading f x u z no-point = z
fraction-leading f x u z (point {d} h) = leading-other 0x2E (d ++ u) (no_digit 0x2E (inl (omega arith)))

e-high : (b : ℕ) → (b ≡ 0x65) ⊎ (b ≡ 0x45) → 0x39 < b
e-high b (inl e) = omega arith
e-high b (inr e) = omega arith

exponent-leading : (e : Option Exponent) (y : Text) → WritesExponent e y → (leading y ≡ []) × (is_point (byte y 0) ≡ false)
exponent-leading e y no-exponent = (no-digits, refl)
exponent-leading e y (exponent {b} {m} {s} {d} h w ds) = let l = e-high b h in (leading-other b (s ++ d) (no_digit b (inr l)), ne_eqb b 0x2E (λ z. omega arith))

pub written_read : (t : Text) (x : Numeral) → Writes x t → length t ≤ number_text_limit → numeral_of t ≡ some x
written_read t n (parts {m} {s} {w} {x} {y} {f} {e} sg ds fr ex) few =
    let z = exponent-leading e y ex in
    let lead = fraction-leading f x y z.0 fr in
    let sign = sign-made t 0 m s (w ++ (x ++ y)) refl (digit-first number_text_limit w (x ++ y) ds) sg in
    let p = length s + length w in
    let q = p + length x in
    let at-w = drop-append_seam s (w ++ (x ++ y)) in
    let at_x = onwards t (length s) w (x ++ y) at-w in
    let at_y = onwards t p x y at_x in
    let total : q + length y ≡ length t = omega (arith, length-append s (w ++ (x ++ y)), length-append w (x ++ y), length-append x y) in
    numeral-made t n (record {
      few = few;
      minus = sym sign.1;
      point = p;
      whole = ap (digits_at number_text_limit t) (sign.0 ∙ zero-add (length s)) ∙ digits-made t (length s) number_text_limit w (x ++ y) at-w lead ds;
      tail = q;
      fraction = fraction-made t p f x y at_x z.0 z.1 fr;
      exponent = exponent-made t q e y at_y ex ∙ ap (λ k. some (e, k)) total;
    })

-- ── what is read is written ─────────────────────────────────────────────────────────────────

digits_of : {most at n : ℕ} {t d : Text} → DigitsAt most t at d n → Digits most d
digits_of h = record { all = h.all; some = h.some; few = h.few }

-- one of the ways to write a part, and the text from an offset on as that part and the rest
pub record Part (t : Text) (at n : ℕ) (Way : Text → Type 0) : Type 0 where
  pub text : Text
  pub way : Way text
  pub cut : drop at t ≡ text ++ drop n t

module _ (t : Text) where
  digits-cut : {most at n : ℕ} {d : Text} → DigitsAt most t at d n → drop at t ≡ d ++ drop n t
  digits-cut {at = at} {d = d} h =
      sym (take-append-drop (length d) (drop at t)) ∙ (λ i. h.here i ++ (drop-drop (length d) at t ∙ ap (λ k. drop k t) (sym h.next)) i)

  byte_cut : (at : ℕ) {b : ℕ} → byte t at ≡ b → 0 < b → drop at t ≡ b ∷ drop (at + 1) t
  byte_cut at e h = drop-cons t at 0 (byte-within t at (λ z. omega arith)) ∙ (λ i. e i ∷ drop (sym (add-one at) i) t)

  sign_read : (at : ℕ) → Part t at (after_sign t at) (WritesSign (is_minus (byte t at)))
  unfolding after_sign
  sign_read at = go (eqb (byte t at) 0x2B) (eqb (byte t at) 0x2D) refl refl
    where
      go : (a b : Bool) → eqb (byte t at) 0x2B ≡ a → eqb (byte t at) 0x2D ≡ b → Part t at (cond (a || b) (at + 1) at) (WritesSign b)
      go true true e f = record { text = 0x2D ∷ []; way = minus; cut = byte_cut at (eqb-true (byte t at) 0x2D f) (omega arith) }
      go false true e f = record { text = 0x2D ∷ []; way = minus; cut = byte_cut at (eqb-true (byte t at) 0x2D f) (omega arith) }
      go true false e f = record { text = 0x2B ∷ []; way = plus; cut = byte_cut at (eqb-true (byte t at) 0x2B e) (omega arith) }
      go false false e f = record { text = []; way = no_sign; cut = refl }

  fraction-read : (at : ℕ) (f : Option Text) (n : ℕ) → FractionAt t at f n → Part t at n (WritesFraction f)
  fraction-read at f n without-point = record { text = []; way = no-point; cut = refl }
  fraction-read at f n (with-point {d} p h) =
      record { text = 0x2E ∷ d; way = point (digits_of h); cut = byte_cut at (eqb→eq (byte t at) 0x2E p) (omega arith) ∙ ap (λ u. 0x2E ∷ u) (digits-cut h) }

  e-bytes : (b : ℕ) → T (is_e b) → (b ≡ 0x65) ⊎ (b ≡ 0x45)
  e-bytes b h = ⊎_elim (λ k. inl (eqb→eq b 0x65 k)) (λ k. inr (eqb→eq b 0x45 k)) (or_cases (eqb b 0x65) (eqb b 0x45) h)

  exponent-read : (at : ℕ) (e : Option Exponent) (n : ℕ) → ExponentAt t at e n → Part t at n (WritesExponent e)
  exponent-read at e n without-exponent = record { text = []; way = no-exponent; cut = refl }
  exponent-read at e n (with-exponent {d} p h) =
      let s = sign_read (at + 1) in
      let m = e-bytes (byte t at) p in
      let more = s.cut ∙ (ap (λ u. s.text ++ u) (digits-cut h) ∙ sym (append_assoc s.text d (drop n t))) in
      record {
        text = byte t at ∷ s.text ++ d;
        way = exponent m s.way (digits_of h);
        cut = byte_cut at refl (⊎_elim (λ k. omega arith) (λ k. omega arith) m) ∙ ap (λ u. byte t at ∷ u) more;
      }

pub read-written : (t : Text) (x : Numeral) → numeral_of t ≡ some x → Writes x t × (length t ≤ number_text_limit)
read-written t x e =
    let p = numeral-in t x e in
    let s = sign_read t 0 in
    let w = digits_are number_text_limit t (after_sign t 0) x.whole p.point p.whole in
    let f = fraction-read t p.point x.fraction p.tail (fraction-is t p.point x.fraction p.tail p.fraction) in
    let g = exponent-read t p.tail x.exponent (length t) (exponent-is t p.tail x.exponent (length t) p.exponent) in
    let last : g.text ++ drop (length t) t ≡ g.text = ap (λ u. g.text ++ u) (drop-length t) ∙ append-nil g.text in
    let whole : t ≡ s.text ++ (x.whole ++ (f.text ++ g.text)) =
    s.cut ∙ ap (λ u. s.text ++ u) (digits-cut t w ∙ ap (λ u. x.whole ++ u) (f.cut ∙ ap (λ u. f.text ++ u) (g.cut ∙ last))) in
    let sign : WritesSign x.minus s.text = subst (λ m. WritesSign m s.text) (sym p.minus) s.way in
    (subst (Writes x) (sym whole) (parts sign (digits_of w) f.way g.way), p.few)
