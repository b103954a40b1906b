-- Laws of reading a number: 16 by the part that is not there, and else the numeral by the offsets of its parts.
use Rattle.definitions.specs.declared.Refusal.TheVariants.{BadNumberText, NoSuchNumber}
use Rattle.std.specs.Prelude.{Some, None}
use Rattle.std.specs.declared.option.Option as Answer
use Prim.Native.Nat.{ℕ, ◌+◌, ◌-◌, ◌≤◌, ◌<◌}
use native.Mathlib.Nat.{pow-le-pow_right}
use native.Mathlib.Omega.{arith}
use mathlib.Core.Bool.{Bool, true, false, cond}
use mathlib.Core.List.{◌++◌}
use mathlib.Core.Option.{Option, none, some}
use mathlib.Core.Path.{◌≡◌, refl, sym, ap, ◌∙◌, subst}
use lib.Dec.{T, eqb, leb}
use lib.ListN.{length, take, drop, length-append}
use borrow.Author.Tests.{lt-ltb, le-ltb, le-leb, lt-leb, eq-eqb, ne_eqb}
use Rattle.definitions.specs.Limits.{number_text_limit}
use Rattle.definitions.specs.Lists.{every}
use Rattle.definitions.specs.Bytes.{byte, provided, onward}
use Rattle.definitions.specs.Terms.{Text}
use Rattle.definitions.specs.Result.{refused, given}
use Rattle.definitions.specs.Calls.{number_call}
use Rattle.definitions.specs.Numerals.{exponent_digits, Exponent, Numeral, is_sign, is_minus, is_digit, after_sign, digits_at, fraction_at, exponent_at, numeral_of}
use Rattle.definitions.specs.Numerals.{natural_of, fraction_digits, raised, lowered, is_plain, term_of}
use Rattle.laws.specs.ReadAnswers.{next_of}
use Rattle.laws.proofs.Tests.{and_make, by-test}
use Rattle.laws.proofs.Lists.{every_append}
use Rattle.laws.proofs.ReadAnswers.{next-got, next-lost}
use Rattle.laws.proofs.Results.{given-refused, given-bind}
use Rattle.laws.proofs.Numerals.{FractionAt, without-point, with-point, fraction-is, ExponentAt, without-exponent, with-exponent, exponent-is, numeral-made}
use Rattle.number_parts.specs.declared.Shift.{Shift}
use Rattle.number_parts.specs.Parts.{Digits, places_limit, after_point, shift_of}
use Rattle.number_terms.specs.Amounts.{term_with}
use Rattle.number_parts.proofs.PartLaws.{Found}
use Rattle.number_terms.proofs.AmountLaws.{natural-less}

-- ── a fraction and an exponent by their offsets ─────────────────────────────────────────────

pub record FractionIn (t : Text) (at : ℕ) (f : Option Text) (n : ℕ) : Type 0 where
  pub text : take (n - after_point at n) (drop (after_point at n) t) ≡ fraction_digits f
  pub all : T (every is_digit (fraction_digits f))
  pub from : after_point at n ≤ n
  pub size : at + length (fraction_digits f) ≤ n
  pub after : at ≤ n
  pub inside : at ≤ length t → n ≤ length t

fraction-in : (t : Text) (at : ℕ) (f : Option Text) (n : ℕ) → FractionAt t at f n → FractionIn t at f n
fraction-in t at f n without-point =
    let l = le-ltb at at (omega arith) in
    let z : at - at ≡ 0 = omega arith in
    record { text = rw (l, z); all = tt; from = rw l (omega arith); size = omega arith; after = omega arith; inside = λ h. h }
fraction-in t at f n (with-point {d} p h) =
    let l = lt-ltb at n (omega (arith, h.next)) in
    let k : n - (at + 1) ≡ length d = omega (arith, h.next) in
    record { text = rw (l, k) h.here; all = h.all; from = rw l (omega (arith, h.next)); size = omega (arith, h.next); after = omega (arith, h.next); inside = λ i. h.inside }

after-sign : (t : Text) (at : ℕ) → at ≤ after_sign t at
unfolding after_sign
after-sign t at = by-test (λ n. at ≤ n) (is_sign (byte t at)) (at + 1) at (λ h. omega arith) (λ h. omega arith)

pub record ExponentIn (t : Text) (at : ℕ) (e : Option Exponent) (n : ℕ) : Type 0 where
  pub few : (raised e < places_limit) × (lowered e < places_limit)
  pub after : at ≤ n

small : (minus : Bool) (d : Text) → T (every is_digit d) → length d ≤ exponent_digits → (cond minus 0 (natural_of d) < places_limit) × (cond minus (natural_of d) 0 < places_limit)
small minus d h l = go minus (omega (arith, natural-less d h, pow-le-pow_right {n = 10} (omega arith) l))
  where
    go : (b : Bool) → natural_of d < places_limit → (cond b 0 (natural_of d) < places_limit) × (cond b (natural_of d) 0 < places_limit)
    go true k = (omega arith, k)
    go false k = (k, omega arith)

exponent-in : (t : Text) (at : ℕ) (e : Option Exponent) (n : ℕ) → ExponentAt t at e n → ExponentIn t at e n
exponent-in t at e n without-exponent = record { few = (omega arith, omega arith); after = omega arith }
exponent-in t at e n (with-exponent {d} p h) =
    record { few = small (is_minus (byte t (at + 1))) d h.all h.few; after = omega (arith, h.next, after-sign t (at + 1)) }

-- neither point nor exponent, where the digits go to the end
plain-is : (t : Text) (at mid n : ℕ) (f : Option Text) (e : Option Exponent) → FractionAt t at f mid → ExponentAt t mid e n → eqb at n ≡ is_plain f e
plain-is t at mid n f e without-point without-exponent = eq-eqb at at refl
plain-is t at mid n f e without-point (with-exponent p h) = ne_eqb at n (λ z. omega (arith, h.next, after-sign t (at + 1), h.some))
plain-is t at mid n f e (with-point p h) x = ne_eqb at n (λ z. omega (arith, h.next, (exponent-in t mid e n x).after))

-- ── 16 ──────────────────────────────────────────────────────────────────────────────────────

unread : (t : Text) → numeral_of t ≡ none → refused BadNumberText ≡ number_call t
unfolding number_call
unread t e = sym (given-refused BadNumberText (λ x. given NoSuchNumber (term_of x)) e)

pub too_long : (t : Text) → number_text_limit < length t → refused BadNumberText ≡ number_call t
unfolding numeral_of provided
too_long t h = unread t (rw (lt-leb (length t) number_text_limit h))

shift-lost : (o : Option (Option Exponent × ℕ)) → shift_of o ≡ None → o ≡ none
unfolding shift_of
shift-lost none e = refl
shift-lost (some x) e = let z : ◌≡◌ {A = ℕ} 0 1 = cc in absurd (omega arith)

-- what was read: the digits before the point, those after it, the exponent
pub record WholeRead (t : Text) (start point : ℕ) : Type 0 where
  pub few : length t ≤ number_text_limit
  pub from : start ≡ after_sign t 0
  pub found : Found number_text_limit t start point

pub record FractionRead (t : Text) (start point tail : ℕ) : Type 0 where
  pub whole : WholeRead t start point
  pub fraction : Option Text
  pub read : fraction_at t point ≡ some (fraction, tail)

pub record ExponentRead (t : Text) (tail up down end : ℕ) : Type 0 where
  pub exponent : Option Exponent
  pub read : exponent_at t tail ≡ some (exponent, end)
  pub up_is : up ≡ raised exponent
  pub down_is : down ≡ lowered exponent

pub fraction-read : {t : Text} {start point tail : ℕ} {r : Answer.Option ℕ} → WholeRead t start point → r ≡ next_of (fraction_at t point) → r ≡ Some tail → FractionRead t start point tail
fraction-read {t} {point = point} w e h = let g = next-got (fraction_at t point) (sym e ∙ h) in record { whole = w; fraction = g.0; read = g.1 }

pub exponent-read : {t : Text} {tail up down end : ℕ} {r : Answer.Option Shift} → r ≡ shift_of (exponent_at t tail) → r ≡ Some (record { up = up; down = down; after = end }) → ExponentRead t tail up down end
unfolding shift_of
exponent-read {t} {tail} {up} {down} {end} {r} e h = go (exponent_at t tail) refl (sym e ∙ h)
  where
    go : (o : Option (Option Exponent × ℕ)) → exponent_at t tail ≡ o → shift_of o ≡ Some (record { up = up; down = down; after = end }) → ExponentRead t tail up down end
    go none q k = let z : ◌≡◌ {A = ℕ} 0 1 = cc in absurd (omega arith)
    go (some x) q k =
        let same : ◌≡◌ {A = Shift} (record { up = raised x.0; down = lowered x.0; after = x.1 }) (record { up = up; down = down; after = end }) = cc in
        record {
          exponent = x.0;
          read = q ∙ ap (λ (r : Shift). some (x.0, r.after)) same;
          up_is = sym (ap (λ (r : Shift). r.up) same);
          down_is = sym (ap (λ (r : Shift). r.down) same);
        }

pub no_whole : (t : Text) {start : ℕ} {r : Answer.Option ℕ} → length t ≤ number_text_limit → start ≡ after_sign t 0 → r ≡ next_of (digits_at number_text_limit t start) → r ≡ None
    → refused BadNumberText ≡ number_call t
unfolding numeral_of provided onward
no_whole t {start} l s e h =
    let z = ap (digits_at number_text_limit t) (sym s) ∙ next-lost (digits_at number_text_limit t start) (sym e ∙ h) in
    unread t (rw (le-leb (length t) number_text_limit l, z))

module _ {t : Text} {start point : ℕ} (w : WholeRead t start point) where
  short : leb (length t) number_text_limit ≡ true
  short = le-leb (length t) number_text_limit w.few

  whole_is : digits_at number_text_limit t (after_sign t 0) ≡ some (w.found.digits, point)
  whole_is = ap (digits_at number_text_limit t) (sym w.from) ∙ w.found.read

  pub bad-fraction : {r : Answer.Option ℕ} → r ≡ next_of (fraction_at t point) → r ≡ None → refused BadNumberText ≡ number_call t
  unfolding numeral_of provided onward
  bad-fraction e h = unread t (rw (short, whole_is, next-lost (fraction_at t point) (sym e ∙ h)))

module _ {t : Text} {start point tail : ℕ} (f : FractionRead t start point tail) where
  pub bad-exponent : {r : Answer.Option Shift} → r ≡ shift_of (exponent_at t tail) → r ≡ None → refused BadNumberText ≡ number_call t
  unfolding numeral_of provided onward
  bad-exponent e h = unread t (rw (short f.whole, whole_is f.whole, f.read, shift-lost (exponent_at t tail) (sym e ∙ h)))

  pub more-after : {up down end : ℕ} → ExponentRead t tail up down end → (end ≡ length t → ⊥) → refused BadNumberText ≡ number_call t
  unfolding numeral_of provided onward
  more-after {end = end} x h = unread t (rw (short f.whole, whole_is f.whole, f.read, x.read, ne_eqb end (length t) h))

-- ── the numeral ─────────────────────────────────────────────────────────────────────────────

-- what the offsets of a numeral's parts are good for
pub record Placed (t : Text) (start point first tail up down end : ℕ) : Type 0 where
  pub order : (start ≤ point) × (point ≤ length t) × (first ≤ tail) × (tail ≤ length t)
  pub digits : Digits (take (point - start) (drop start t) ++ take (tail - first) (drop first t))
  pub few : (up < places_limit) × (down < places_limit)
  pub is : {b : ℕ} → b ≡ byte t 0
      → given NoSuchNumber (term_with (eqb point end) (is_minus b) (natural_of (take (point - start) (drop start t) ++ take (tail - first) (drop first t))) up
      (length (take (tail - first) (drop first t)) + down)) ≡ number_call t

pub placed : {t : Text} {start point first tail up down end : ℕ} → FractionRead t start point tail → ExponentRead t tail up down end → end ≡ length t
    → first ≡ after_point point tail → Placed t start point first tail up down end
unfolding number_call term_of term_with
placed {t} {point = point} {first = first} {tail = tail} {end = end} f x last q =
    let w = f.whole.found in
    let numeral : Numeral = record { minus = is_minus (byte t 0); whole = w.digits; fraction = f.fraction; exponent = x.exponent } in
    let fraction-at = fraction-is t point f.fraction tail f.read in
    let exponent-at = exponent-is t tail x.exponent end x.read in
    let F = fraction-in t point f.fraction tail fraction-at in
    let X = exponent-in t tail x.exponent end exponent-at in
    let plain = plain-is t point tail end f.fraction x.exponent fraction-at exponent-at in
    let fraction-text : take (tail - first) (drop first t) ≡ fraction_digits f.fraction = rw q F.text in
    let inside = F.inside w.are.inside in
    let read = numeral-made t numeral (record {
      few = f.whole.few;
      minus = refl;
      point = point;
      whole = whole_is f.whole;
      tail = tail;
      fraction = f.read;
      exponent = x.read ∙ ap (λ n. some (x.exponent, n)) last;
    }) in
    record {
      order = (omega (arith, w.are.next), w.are.inside, subst (λ n. n ≤ tail) (sym q) F.from, inside);
      digits = rw (w.between, fraction-text) (record {
        all = rw (every_append is_digit w.digits (fraction_digits f.fraction))
            (and_make (every is_digit w.digits) (every is_digit (fraction_digits f.fraction)) w.are.all F.all);
        few = omega (arith, length-append w.digits (fraction_digits f.fraction), w.are.next, F.size, inside, f.whole.few);
      });
      few = (omega (arith, x.up_is, X.few), omega (arith, x.down_is, X.few));
      is = λ {b} m.
          ap (given NoSuchNumber) (λ i. term_with (plain i) (is_minus (m i)) (natural_of (w.between i ++ fraction-text i)) (x.up_is i) (length (fraction-text i) + x.down_is i))
          ∙ sym (given-bind BadNumberText (λ y. given NoSuchNumber (term_of y)) read);
    }
