-- The texts that str writes: how long they are, and that a string may have their bytes.
use Prim.Native.Nat.{ℕ, zero, suc, ◌+◌, ◌-◌, ◌/◌, ◌%◌, ◌≤◌, ◌<◌}
use mathlib.Core.Bool.{Bool, true, false}
use mathlib.Core.List.{[], ◌∷◌, ◌++◌}
use mathlib.Core.Path.{◌≡◌, refl, sym, ap, ap₂, ◌∙◌, subst}
use native.Mathlib.Omega.{arith}
use lib.Dec.{T, eqb, ltb, leb, le→leb, leb→le}
use lib.IntN.{ℤ, pos, negsuc, nat_abs, neg_ℤ, ◌+ℤ◌}
use lib.ListN.{length, length-append}
use lib.Signed.{lt_z, le_z, non_neg}
use borrow.Author.Tests.{le-ltb, ltb-true}
use mir.Syntax.{w64}
use mir.Val.{Fits, SFits, to_z, of_z}
use mir.Facts.{to_z-of_z}
use Rattle.definitions.specs.Limits.{text_width, seconds_before, seconds_after}
use Rattle.definitions.specs.Lists.{every}
use Rattle.definitions.specs.Ascii.{ascii}
use Rattle.definitions.specs.Bytes.{filled, unfilled}
use Rattle.definitions.specs.Terms.{Text, text_byte, within_limits, is_decimal, is_date_time}
use Rattle.definitions.specs.Calendar.{digits, date_of, date_text, time_text, date_time_text, Date}
use Rattle.definitions.specs.Values.{short_digits, natural_text, sign_text, integer_text, fraction_text, decimal_text}
use Rattle.laws.proofs.Tests.{and_make, and_left, and_right}
use Rattle.laws.proofs.Lists.{every_append}
use Rattle.laws.proofs.Bytes.{filled-length, unfilled-of}
use Rattle.strings.specs.declared.line.Line.{Line}
use Rattle.values.specs.Meaning.{Field}
use Rattle.strings.specs.Lines.{line_of, Puts, Written}
use Rattle.matching.proofs.Booleans.{true-false}
use Rattle.values.proofs.ArithmeticLaws.{plain, date_time-decimal}
use Rattle.strings.proofs.LineLaws.{puts_then, digits-length, short-length}

-- ── bytes of a text ─────────────────────────────────────────────────────────────────────────

abbrev Clean : Text → Type 0
Clean t = T (every text_byte t)

clean-then : (x y : Text) → Clean x → Clean y → Clean (x ++ y)
clean-then x y p q = rw (every_append text_byte x y) (and_make (every text_byte x) (every text_byte y) p q)

digit-clean : (n : ℕ) → Clean ((0x30 + n % 10) ∷ [])
digit-clean n =
    and_make (text_byte (0x30 + n % 10)) true
    (and_make (leb 0x20 (0x30 + n % 10)) (leb (0x30 + n % 10) 0x7E) (le→leb 0x20 (0x30 + n % 10) (omega arith)) (le→leb (0x30 + n % 10) 0x7E (omega arith))) tt

digits-clean : (k n : ℕ) → Clean (digits k n)
unfolding digits
digits-clean zero n = tt
digits-clean (suc k) n = clean-then (digits k (n / 10)) ((0x30 + n % 10) ∷ []) (digits-clean k (n / 10)) (digit-clean n)

small-clean : (n : ℕ) → n < 10 → Clean ((0x30 + n) ∷ [])
small-clean n h = let e : n ≡ n % 10 = omega arith in subst (λ m. Clean ((0x30 + m) ∷ [])) (sym e) (digit-clean n)

short-clean : (k n : ℕ) → Clean (short_digits k n)
unfolding short_digits
short-clean zero n = tt
short-clean (suc k) n = go (ltb n 10) refl (short-clean k (n / 10))
  where
    go : (t : Bool) → ltb n 10 ≡ t → Clean (short_digits k (n / 10)) → Clean (elim t as (λ c. Text) [ true ↦ (0x30 + n) ∷ [] | false ↦ short_digits k (n / 10) ++ ((0x30 + n % 10) ∷ []) ])
    go true e h = small-clean n (ltb-true n 10 e)
    go false e h = clean-then (short_digits k (n / 10)) ((0x30 + n % 10) ∷ []) h (digit-clean n)

-- a fraction's bytes and its length
module _ where
  fraction-clean : (k m : ℕ) → Clean (fraction_text k m)
  unfolding fraction_text ascii
  fraction-clean zero m = tt
  fraction-clean (suc zero) m = digits-clean 1 m
  fraction-clean (suc (suc k)) m = go (eqb (m % 10) 0) (fraction-clean (suc k) (m / 10))
    where
      go : (t : Bool) → Clean (fraction_text (suc k) (m / 10)) → Clean (elim t as (λ c. Text) [ true ↦ fraction_text (suc k) (m / 10) | false ↦ digits (suc (suc k)) m ])
      go true h = h
      go false h = digits-clean (suc (suc k)) m

  fraction-length : (k m : ℕ) → length (fraction_text (suc k) m) ≤ suc k
  unfolding fraction_text
  fraction-length zero m = omega (arith, digits-length 1 m)
  fraction-length (suc k) m = go (eqb (m % 10) 0) (fraction-length k (m / 10))
    where
      go : (t : Bool) → length (fraction_text (suc k) (m / 10)) ≤ suc k → length {A = ℕ} (elim t as (λ c. Text) [ true ↦ fraction_text (suc k) (m / 10) | false ↦ digits (suc (suc k)) m ]) ≤ suc (suc k)
      go true h = omega arith
      go false h = omega (arith, digits-length (suc (suc k)) m)

sign-clean : (n : ℤ) → Clean (sign_text n)
unfolding sign_text ascii
sign-clean (pos n) = tt
sign-clean (negsuc n) = tt

sign-length : (n : ℤ) → length (sign_text n) ≤ 1
unfolding sign_text ascii
sign-length (pos n) = omega arith
sign-length (negsuc n) = omega arith

-- ── a line as a field ───────────────────────────────────────────────────────────────────────

no_zero : (b : ℕ) → T (text_byte b) → b ≡ 0 → ⊥
no_zero b h e = let l = leb→le 0x20 b (and_left (leb 0x20 b) (leb b 0x7E) h) in omega arith

module _ {r : Line} {t : Text} (w : Written r t) where
  pub written-text : unfilled r.bytes ≡ t
  written-text = ap (λ l. unfilled l.bytes) w.is ∙ unfilled-of text_byte no_zero text_width t w.good

  pub written-field : Field text_byte text_width r.bytes
  written-field =
      let b : r.bytes ≡ filled text_width t = ap (λ l. l.bytes) w.is in
      record {
        size = ap length b ∙ filled-length text_width t w.short;
        bytes = rw written-text w.good;
        whole = ap (filled text_width) written-text ∙ sym b;
      }

written : {l r : Line} (x : Text) {y : Text} → l ≡ line_of x → Puts l r y → length (x ++ y) ≤ text_width → Clean (x ++ y) → Written r (x ++ y)
written x e p s g = record { is = p.is x e; short = s; good = g }

-- ── numbers ─────────────────────────────────────────────────────────────────────────────────

-- what an i64 that is not below 0 is as a u64
module _ (r : ℤ) (m : ℕ) (e : r ≡ pos m) (fits : SFits w64 r) where
  pub cast_fits : T (non_neg (to_z w64 (of_z w64 r))) × Fits w64 (nat_abs (to_z w64 (of_z w64 r)))
  cast_fits = let h : SFits w64 (pos m) = subst (SFits w64) e fits in rw (to_z-of_z fits, e) (tt, record { fits = omega (arith, h.sfits) })

  pub cast_is : nat_abs (to_z w64 (of_z w64 r)) ≡ m
  cast_is = rw (to_z-of_z fits, e)

pub amount-is : (n r : ℤ) → T (is_decimal n) → SFits w64 r → r ≡ pos (nat_abs (to_z w64 (of_z w64 n))) → nat_abs (to_z w64 (of_z w64 r)) ≡ nat_abs n
amount-is n r h fits e = cast_is r (nat_abs (to_z w64 (of_z w64 n))) e fits ∙ ap nat_abs (plain n h)

from-pos : (n : ℕ) → T (is_date_time (pos n)) → n + seconds_before ≤ seconds_before + seconds_after
unfolding within_limits
from-pos n h = let l = leb→le n seconds_after (and_right (le_z (neg_ℤ (pos seconds_before)) (pos n)) (leb n seconds_after) h) in omega arith

from-neg : (n : ℕ) → T (is_date_time (negsuc n)) → (negsuc n +ℤ pos seconds_before ≡ pos (nat_abs (negsuc n +ℤ pos seconds_before)))
    × (nat_abs (negsuc n +ℤ pos seconds_before) ≤ seconds_before + seconds_after)
unfolding within_limits
from-neg n h =
    let l = leb→le n (seconds_before - 1) (and_left (leb n (seconds_before - 1)) true h) in
    rw (le-ltb seconds_before (suc n) (omega arith)) (refl, omega arith)

-- a date_time is not before year 1
module _ (n : ℤ) (h : T (is_date_time n)) where
  since : (n +ℤ pos seconds_before ≡ pos (nat_abs (n +ℤ pos seconds_before))) × (nat_abs (n +ℤ pos seconds_before) ≤ seconds_before + seconds_after)
  since = go n h
    where
      go : (n : ℤ) → T (is_date_time n) → (n +ℤ pos seconds_before ≡ pos (nat_abs (n +ℤ pos seconds_before))) × (nat_abs (n +ℤ pos seconds_before) ≤ seconds_before + seconds_after)
      go (pos n) h = (refl, from-pos n h)
      go (negsuc n) h = from-neg n h

  module _ (r : ℤ) (fits : SFits w64 r) (e : r ≡ to_z w64 (of_z w64 n) +ℤ pos seconds_before) where
    seconds-are : r ≡ pos (nat_abs (n +ℤ pos seconds_before))
    seconds-are = e ∙ (ap (λ z. z +ℤ pos seconds_before) (plain n (date_time-decimal n h)) ∙ since.0)

    pub since-fits : T (non_neg (to_z w64 (of_z w64 r))) × Fits w64 (nat_abs (to_z w64 (of_z w64 r)))
    since-fits = cast_fits r (nat_abs (n +ℤ pos seconds_before)) seconds-are fits

    pub since-is : (nat_abs (to_z w64 (of_z w64 r)) ≡ nat_abs (n +ℤ pos seconds_before)) × (nat_abs (to_z w64 (of_z w64 r)) ≤ seconds_before + seconds_after)
    since-is = let i = cast_is r (nat_abs (n +ℤ pos seconds_before)) seconds-are fits in (i, subst (λ m. m ≤ seconds_before + seconds_after) (sym i) since.1)

-- ── lines of numbers and date_times ──────────────────────────────────────────────────────────

pub sign-minus : (n : ℤ) (r : Line) → SFits w64 n → lt_z (to_z w64 (of_z w64 n)) (pos 0) ≡ true → Puts (line_of []) r (45 ∷ []) → (r ≡ line_of (sign_text n)) × (r.len ≤ 1)
unfolding sign_text ascii
sign-minus n r fits e p = go n (sym (ap (λ z. lt_z z (pos 0)) (to_z-of_z fits)) ∙ e)
  where
    go : (n : ℤ) → lt_z n (pos 0) ≡ true → (r ≡ line_of (sign_text n)) × (r.len ≤ 1)
    go (pos n) h = let l = ltb-true n 0 h in absurd (omega arith)
    go (negsuc n) h = let i = p.is [] refl in (i, omega (arith, ap (λ l. l.len) i))

pub sign-none : (n : ℤ) → SFits w64 n → lt_z (to_z w64 (of_z w64 n)) (pos 0) ≡ false → (line_of [] ≡ line_of (sign_text n)) × (0 ≤ 1)
unfolding sign_text
sign-none n fits e = go n (sym (ap (λ z. lt_z z (pos 0)) (to_z-of_z fits)) ∙ e)
  where
    go : (n : ℤ) → lt_z n (pos 0) ≡ false → (line_of [] ≡ line_of (sign_text n)) × (0 ≤ 1)
    go (pos n) h = (refl, omega arith)
    go (negsuc n) h = true-false h

module _ (n : ℤ) (h : T (is_decimal n)) (start : Line) (sign : start ≡ line_of (sign_text (to_z w64 (of_z w64 n)))) (far : ℕ) (is : far ≡ nat_abs (to_z w64 (of_z w64 n))) where
  starts : start ≡ line_of (sign_text n)
  starts = sign ∙ ap (λ z. line_of (sign_text z)) (plain n h)

  amount : far ≡ nat_abs n
  amount = is ∙ ap nat_abs (plain n h)

  pub integer-written : (r : Line) → Puts start r (short_digits 20 far) → Written r (integer_text n)
  unfolding integer_text natural_text
  integer-written r p =
      subst (λ m. Written r (sign_text n ++ short_digits 20 m)) amount
      (written (sign_text n) starts p (omega (arith, length-append (sign_text n) (short_digits 20 far), sign-length n, short-length 20 far))
      (clean-then (sign_text n) (short_digits 20 far) (sign-clean n) (short-clean 20 far)))

  pub decimal-written : (whole point r : Line) → Puts start whole (short_digits 20 (far / 1000000)) → Puts whole point (46 ∷ []) → Puts point r (fraction_text 6 (far % 1000000))
      → Written r (decimal_text n)
  unfolding decimal_text natural_text ascii
  decimal-written whole point r p q s =
      let w = short_digits 20 (far / 1000000) in
      let f = fraction_text 6 (far % 1000000) in
      let long = length-append (sign_text n) (w ++ (46 ∷ f)) in
      let longer = length-append w (46 ∷ f) in
      subst (λ m. Written r (sign_text n ++ (short_digits 20 (m / 1000000) ++ (46 ∷ fraction_text 6 (m % 1000000))))) amount
      (written (sign_text n) starts (puts_then p (puts_then q s)) (omega (arith, long, longer, sign-length n, short-length 20 (far / 1000000), fraction-length 5 (far % 1000000)))
      (clean-then (sign_text n) (w ++ (46 ∷ f)) (sign-clean n) (clean-then w (46 ∷ f) (short-clean 20 (far / 1000000)) (clean-then (46 ∷ []) f tt (fraction-clean 6 (far % 1000000))))))

-- a date and a time of day
pub date-puts : {l a b c d r : Line} (x : Date) → Puts l a (digits 4 x.year) → Puts a b (45 ∷ []) → Puts b c (digits 2 x.month) → Puts c d (45 ∷ [])
    → Puts d r (digits 2 x.day) → Puts l r (date_text x)
unfolding date_text ascii
date-puts x p q s t u = puts_then p (puts_then q (puts_then s (puts_then t u)))

pub time-puts : {l a b c d r : Line} (x : ℕ) → Puts l a (digits 2 (x / 3600)) → Puts a b (58 ∷ []) → Puts b c (digits 2 (x / 60 % 60)) → Puts c d (58 ∷ [])
    → Puts d r (digits 2 (x % 60)) → Puts l r (time_text x)
unfolding time_text ascii
time-puts x p q s t u = puts_then p (puts_then q (puts_then s (puts_then t u)))

pub date-length : (x : Date) → length (date_text x) ≡ 10
unfolding date_text ascii
date-length x =
    let y = digits 4 x.year in
    let m = digits 2 x.month in
    let d = digits 2 x.day in
    omega (arith, length-append y (45 ∷ (m ++ (45 ∷ d))), length-append m (45 ∷ d), digits-length 4 x.year, digits-length 2 x.month, digits-length 2 x.day)

pub time-length : (x : ℕ) → length (time_text x) ≡ 8
unfolding time_text ascii
time-length x =
    let h = digits 2 (x / 3600) in
    let m = digits 2 (x / 60 % 60) in
    let s = digits 2 (x % 60) in
    omega (arith, length-append h (58 ∷ (m ++ (58 ∷ s))), length-append m (58 ∷ s), digits-length 2 (x / 3600), digits-length 2 (x / 60 % 60), digits-length 2 (x % 60))

date-clean : (x : Date) → Clean (date_text x)
unfolding date_text ascii
date-clean x =
    let y = digits 4 x.year in
    let m = digits 2 x.month in
    let d = digits 2 x.day in
    clean-then y (45 ∷ (m ++ (45 ∷ d))) (digits-clean 4 x.year)
    (clean-then (45 ∷ []) (m ++ (45 ∷ d)) tt (clean-then m (45 ∷ d) (digits-clean 2 x.month) (clean-then (45 ∷ []) d tt (digits-clean 2 x.day))))

time-clean : (x : ℕ) → Clean (time_text x)
unfolding time_text ascii
time-clean x =
    let h = digits 2 (x / 3600) in
    let m = digits 2 (x / 60 % 60) in
    let s = digits 2 (x % 60) in
    clean-then h (58 ∷ (m ++ (58 ∷ s))) (digits-clean 2 (x / 3600))
    (clean-then (58 ∷ []) (m ++ (58 ∷ s)) tt (clean-then m (58 ∷ s) (digits-clean 2 (x / 60 % 60)) (clean-then (58 ∷ []) s tt (digits-clean 2 (x % 60)))))

pub date_time-written : (n : ℤ) → T (is_date_time n) → (seconds : ℕ) (date : Date) {day mark time r : Line} → seconds ≡ nat_abs (to_z w64 (of_z w64 n) +ℤ pos seconds_before) → date ≡ date_of (seconds / 86400)
    → Puts (line_of []) day (date_text date) → Puts day mark (84 ∷ []) → Puts mark time (time_text (seconds % 86400)) → Puts time r (90 ∷ []) → Written r (date_time_text n)
unfolding date_time_text ascii
date_time-written n h seconds date {r = r} noisy d p q s u =
    let e : seconds ≡ nat_abs (n +ℤ pos seconds_before) = noisy ∙ ap (λ z. nat_abs (z +ℤ pos seconds_before)) (plain n (date_time-decimal n h)) in
    let x = date_text date in
    let y = time_text (seconds % 86400) in
    let text = x ++ (84 ∷ (y ++ (90 ∷ []))) in
    let all : Written r text =
    written [] {y = text} refl (puts_then p (puts_then q (puts_then s u)))
    (omega (arith, length-append x (84 ∷ (y ++ (90 ∷ []))), length-append y (90 ∷ []), date-length date, time-length (seconds % 86400)))
    (clean-then x (84 ∷ (y ++ (90 ∷ []))) (date-clean date) (clean-then (84 ∷ []) (y ++ (90 ∷ [])) tt (clean-then y (90 ∷ []) (time-clean (seconds % 86400)) tt))) in
    subst (Written r) (ap₂ (λ a b. date_text a ++ (84 ∷ (time_text b ++ (90 ∷ [])))) (d ∙ ap (λ m. date_of (m / 86400)) e) (ap (λ m. m % 86400) e)) all
