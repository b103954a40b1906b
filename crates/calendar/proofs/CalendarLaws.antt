-- The calendar by cycles: the year that the definition finds by counting.
use Prim.Native.Nat.{ℕ, zero, suc, ◌+◌, ◌-◌, ◌*◌, ◌/◌, ◌%◌, ◌≤◌, ◌<◌, min, suc-le-suc}
use mathlib.Core.Bool.{Bool, true, false, cond, not, ◌&&◌, ◌||◌}
use mathlib.Core.List.{List, [], ◌∷◌}
use mathlib.Core.Logic.{⊎_elim}
use mathlib.Core.Path.{◌≡◌, refl, sym, ap, ap₂, ◌∙◌, subst}
use native.Mathlib.Omega.{arith}
use native.Mathlib.Numerals.{add-one}
use native.Mathlib.Nat.{eq-or-lt_of_le}
use lib.Dec.{eqb}
use lib.ListN.{length, get_or, drop, drop_of_length-le}
use lib.Seq.{drop-cons}
use borrow.Author.Tests.{eqb-true, eqb-false, eq-eqb, ne_eqb, lt-ltb, le-ltb}
use Rattle.definitions.specs.Calendar.{is_leap, year_length, month_lengths, month_from, year_from, date_of, Date}
use Rattle.calendar.specs.declared.Date.{Date as Found}
use Rattle.calendar.specs.Dates.{DateIs, meant_date}

-- ── how long years are ──────────────────────────────────────────────────────────────────────

-- a year's length, by the multiples of 4, 100 and 400 up to it
leap-step : (k : ℕ) → year_length (suc k) + suc k / 100 + (k / 4 + k / 400) ≡ 365 + k / 100 + (suc k / 4 + suc k / 400)
unfolding year_length is_leap
leap-step k = go (eqb (suc k % 4) 0) refl (eqb (suc k % 100) 0) refl (eqb (suc k % 400) 0) refl
  where
    go : (p : Bool) → eqb (suc k % 4) 0 ≡ p → (q : Bool) → eqb (suc k % 100) 0 ≡ q → (r : Bool) → eqb (suc k % 400) 0 ≡ r
        → cond (p && (not q || r)) 366 365 + suc k / 100 + (k / 4 + k / 400) ≡ 365 + k / 100 + (suc k / 4 + suc k / 400)
    go true a true b true c = let x = eqb-true (suc k % 4) 0 a in let y = eqb-true (suc k % 100) 0 b in let z = eqb-true (suc k % 400) 0 c in omega arith
    go true a true b false c = let x = eqb-true (suc k % 4) 0 a in let y = eqb-true (suc k % 100) 0 b in let z = eqb-false (suc k % 400) 0 c in omega (arith, z)
    go true a false b true c = let y = eqb-false (suc k % 100) 0 b in let z = eqb-true (suc k % 400) 0 c in absurd (omega (arith, y))
    go true a false b false c = let x = eqb-true (suc k % 4) 0 a in let y = eqb-false (suc k % 100) 0 b in let z = eqb-false (suc k % 400) 0 c in omega (arith, y, z)
    go false a true b r c = let x = eqb-false (suc k % 4) 0 a in let y = eqb-true (suc k % 100) 0 b in absurd (omega (arith, x))
    go false a false b true c = let y = eqb-false (suc k % 100) 0 b in let z = eqb-true (suc k % 400) 0 c in absurd (omega (arith, y))
    go false a false b false c = let x = eqb-false (suc k % 4) 0 a in let y = eqb-false (suc k % 100) 0 b in let z = eqb-false (suc k % 400) 0 c in omega (arith, x, y, z)

-- the days of k years from a year on
days_of : (year k : ℕ) → ℕ
days_of y zero = 0
days_of y (suc k) = year_length y + days_of (suc y) k

days-closed : (k j : ℕ) → days_of (suc j) k + (365 * j + j / 4 + j / 400) + (j + k) / 100 ≡ 365 * (j + k) + (j + k) / 4 + (j + k) / 400 + j / 100
unfolding days_of
days-closed zero j = let e : j + 0 ≡ j = omega arith in rw e (omega arith)
days-closed (suc k) j =
    let e : j + suc k ≡ suc j + k = omega arith in
    let ih = days-closed k (suc j) in
    rw e (omega (arith, ih, leap-step j))

-- ── the year of a day ───────────────────────────────────────────────────────────────────────

counted : (k left y e : ℕ) → k ≤ left → e < year_length (y + k) → year_from left y (days_of y k + e) ≡ month_from (y + k) 1 (month_lengths (y + k)) e
unfolding year_from days_of
counted zero left y e h l =
    let a : y + 0 ≡ y = omega arith in
    let b : 0 + e ≡ e = omega arith in
    let l' : e < year_length y = subst (λ n. e < year_length n) a l in
    rw (a, b) (go left l')
  where
    go : (left : ℕ) → e < year_length y → year_from left y e ≡ month_from y 1 (month_lengths y) e
    go zero h = refl
    go (suc left) h = rw (lt-ltb e (year_length y) h, year_from)
counted (suc k) zero y e h l = absurd (omega arith)
counted (suc k) (suc left) y e h l =
    let past : year_length y ≤ year_length y + days_of (suc y) k + e = omega arith in
    let less : year_length y + days_of (suc y) k + e - year_length y ≡ days_of (suc y) k + e = omega arith in
    let same : y + suc k ≡ suc y + k = omega arith in
    rw (le-ltb (year_length y + days_of (suc y) k + e) (year_length y) past, year_from, less, same) (counted k left (suc y) e (omega arith) (subst (λ n. e < year_length n) same l))

year-least : (y : ℕ) → 365 ≤ year_length y
unfolding year_length
year-least y = go (is_leap y)
  where
    go : (t : Bool) → 365 ≤ cond t 366 365
    go true = omega arith
    go false = omega arith

year-most : (y : ℕ) → year_length y ≤ 366
unfolding year_length
year-most y = go (is_leap y)
  where
    go : (t : Bool) → cond t 366 365 ≤ 366
    go true = omega arith
    go false = omega arith

leap-four : (y : ℕ) → y % 4 ≡ 0 → (y % 100 ≡ 0 → ⊥) → year_length y ≡ 366
unfolding year_length is_leap
leap-four y a b = rw (eq-eqb (y % 4) 0 a, ne_eqb (y % 100) 0 b)

leap-cycle : (y : ℕ) → y % 400 ≡ 0 → year_length y ≡ 366
unfolding year_length is_leap
leap-cycle y a =
    let p : y % 4 ≡ 0 = omega arith in
    let q : y % 100 ≡ 0 = omega arith in
    rw (eq-eqb (y % 4) 0 p, eq-eqb (y % 100) 0 q, eq-eqb (y % 400) 0 a)

-- a day by cycles, centuries, fours, years and a rest
module _ (a b c f e : ℕ) (hb : b ≤ 3) (hc : c ≤ 24) (hf : f ≤ 3) where
  years_passed : ℕ
  years_passed = 400 * a + 100 * b + 4 * c + f

  days-passed : days_of 1 years_passed ≡ 146097 * a + 36524 * b + 1461 * c + 365 * f
  unfolding years_passed
  days-passed =
      let closed = days-closed (400 * a + 100 * b + 4 * c + f) 0 in
      let zero-add : 0 + (400 * a + 100 * b + 4 * c + f) ≡ 400 * a + 100 * b + 4 * c + f = omega arith in
      let by4 : (400 * a + 100 * b + 4 * c + f) / 4 ≡ 100 * a + 25 * b + c = omega arith in
      let by100 : (400 * a + 100 * b + 4 * c + f) / 100 ≡ 4 * a + b = omega arith in
      let by400 : (400 * a + 100 * b + 4 * c + f) / 400 ≡ a = omega arith in
      omega (arith, rw (zero-add, by4, by100, by400) at closed)

  -- the day after 365 is there only in the last year of four, and only in a leap year
  in-length : e ≤ 365 → (e ≡ 365 → (f ≡ 3) × (c ≡ 24 → b ≡ 3)) → e < year_length (1 + years_passed)
  unfolding years_passed
  in-length h g = ⊎_elim last (λ l. omega (arith, year-least (1 + (400 * a + 100 * b + 4 * c + f)))) (eq-or-lt_of_le h)
    where
      last : e ≡ 365 → e < year_length (1 + (400 * a + 100 * b + 4 * c + f))
      last q = ⊎_elim (λ s. omega (arith, leap-cycle (1 + (400 * a + 100 * b + 4 * c + f)) (cycle s)))
          (λ s. omega (arith, leap-four (1 + (400 * a + 100 * b + 4 * c + f)) (four (g q).0) (no-hundred s (g q).0))) (eq-or-lt_of_le hc)
        where
          cycle : c ≡ 24 → (1 + (400 * a + 100 * b + 4 * c + f)) % 400 ≡ 0
          cycle s = omega (arith, (g q).0, (g q).1 s)

          no-hundred : c < 24 → f ≡ 3 → (1 + (400 * a + 100 * b + 4 * c + f)) % 100 ≡ 0 → ⊥
          no-hundred l s z = let by100 : (1 + (400 * a + 100 * b + 4 * c + f)) / 100 ≡ 4 * a + b = omega arith in omega arith

          four : f ≡ 3 → (1 + (400 * a + 100 * b + 4 * c + f)) % 4 ≡ 0
          four s = omega arith

  passed-most : 146097 * a + 36524 * b + 1461 * c + 365 * f < 3652059 → years_passed ≤ 9998
  unfolding years_passed
  passed-most h =
      let most : a ≤ 24 = omega arith in
      ⊎_elim (λ q. at_last q) (λ l. omega arith) (eq-or-lt_of_le most)
    where
      at_last : a ≡ 24 → 400 * a + 100 * b + 4 * c + f ≤ 9998
      at_last q = omega arith

-- the quotients and rests of the cycles
below-cycle : (day u : ℕ) → u ≡ day % 146097 → u < 146097
below-cycle day u e = omega arith

of-cycles : (day a u : ℕ) → a ≡ day / 146097 → u ≡ day % 146097 → day ≡ 146097 * a + u
of-cycles day a u ea eu = omega arith

in-cycle : (u b v : ℕ) → u < 146097 → b ≡ min (u / 36524) 3 → v ≡ u - b * 36524 → (b ≤ 3) × (u ≡ 36524 * b + v) × (v ≤ 36524) × (v ≡ 36524 → b ≡ 3)
in-cycle u b v h eb ev =
    let small : b ≤ 3 = omega arith in
    let below : 36524 * b ≤ u = omega arith in
    (small, omega arith, omega arith, λ z. omega arith)

in-century : (v c w : ℕ) → v ≤ 36524 → c ≡ v / 1461 → w ≡ v % 1461 → (c ≤ 24) × (v ≡ 1461 * c + w) × (w < 1461)
in-century v c w h ec ew = (omega arith, omega arith, omega arith)

in_four : (w f e : ℕ) → w < 1461 → f ≡ min (w / 365) 3 → e ≡ w - f * 365 → (f ≤ 3) × (w ≡ 365 * f + e) × (e ≤ 365) × (e ≡ 365 → f ≡ 3)
in_four w f e h ef ee =
    let small : f ≤ 3 = omega arith in
    let below : 365 * f ≤ w = omega arith in
    (small, omega arith, omega arith, λ z. omega arith)

last-day : (v c w f e : ℕ) → v ≡ 1461 * c + w → w ≡ 365 * f + e → f ≡ 3 → c ≡ 24 → e ≡ 365 → v ≡ 36524
last-day v c w f e p q r s t = omega arith

regroup : (a b c f : ℕ) → 1 + (400 * a + 100 * b + 4 * c + f) ≡ 1 + 400 * a + 100 * b + 4 * c + f
regroup a b c f = omega arith

below : (a b c f e day : ℕ) → day ≡ 146097 * a + 36524 * b + 1461 * c + 365 * f + e → day < 3652059 → 146097 * a + 36524 * b + 1461 * c + 365 * f < 3652059
below a b c f e day p h = omega arith

-- the date of a day from its parts
module _ (day a u b v c w f e : ℕ) (small : day < 3652059) (hb : b ≤ 3) (hc : c ≤ 24) (hf : f ≤ 3)
    (p : day ≡ 146097 * a + u) (q : u ≡ 36524 * b + v) (r : v ≡ 1461 * c + w) (s : w ≡ 365 * f + e) where
  sum_of : day ≡ 146097 * a + 36524 * b + 1461 * c + 365 * f + e
  sum_of = omega arith

  finish : e ≤ 365 → (e ≡ 365 → (f ≡ 3) × (c ≡ 24 → b ≡ 3))
      → (date_of day ≡ month_from (1 + 400 * a + 100 * b + 4 * c + f) 1 (month_lengths (1 + 400 * a + 100 * b + 4 * c + f)) e) × (e < 366)
  unfolding date_of years_passed
  finish he last =
      let k = years_passed a b c f e hb hc hf in
      let d = days-passed a b c f e hb hc hf in
      let total : day ≡ days_of 1 k + e = sum_of ∙ ap (λ n. n + e) (sym d) in
      let years : 1 + k ≡ 1 + 400 * a + 100 * b + 4 * c + f = regroup a b c f in
      let found = counted k 9998 1 e (passed-most a b c f e hb hc hf (below a b c f e day sum_of small)) (in-length a b c f e hb hc hf he last) in
      (ap (year_from 9998 1) total ∙ subst (λ y. year_from 9998 1 (days_of 1 k + e) ≡ month_from y 1 (month_lengths y) e) years found, suc-le-suc he)

few-cycles : (day : ℕ) → day < 3652059 → day / 146097 ≤ 24
few-cycles day h = omega arith

all_small : (a b c f : ℕ) → a ≤ 24 → b ≤ 3 → c ≤ 24 → f ≤ 3 → 1 + 400 * a + 100 * b + 4 * c + f < 100000
all_small a b c f ha hb hc hf = omega arith

-- the code's way: quotients and rests
pub by-cycles : (day a u b v c w f e : ℕ) → day < 3652059 → a ≡ day / 146097 → u ≡ day % 146097 → b ≡ min (u / 36524) 3 → v ≡ u - b * 36524
    → c ≡ v / 1461 → w ≡ v % 1461 → f ≡ min (w / 365) 3 → e ≡ w - f * 365
    → (date_of day ≡ month_from (1 + 400 * a + 100 * b + 4 * c + f) 1 (month_lengths (1 + 400 * a + 100 * b + 4 * c + f)) e) × (e < 366)
by-cycles day a u b v c w f e small ea eu eb ev ec ew ef ee =
    let (hb, rest₁, hv, century) = in-cycle u b v (below-cycle day u eu) eb ev in
    let (hc, rest₂, hw) = in-century v c w hv ec ew in
    let (hf, rest₃, he, fourth) = in_four w f e hw ef ee in
    let parts = of-cycles day a u ea eu in
    finish day a u b v c w f e small hb hc hf parts rest₁ rest₂ rest₃ he (λ z. (fourth z, λ y. century (last-day v c w f e rest₂ rest₃ (fourth z) y z)))

-- the year is small
pub year-small : (day b f : ℕ) → day < 3652059 → b ≡ min (day % 146097 / 36524) 3 → f ≤ 3 → 1 + 400 * (day / 146097) + 100 * b + 4 * ((day % 146097 - b * 36524) / 1461) + f < 100000
year-small day b f small eb hf =
    let (hb, rest₁, hv, century) = in-cycle (day % 146097) b (day % 146097 - b * 36524) (below-cycle day (day % 146097) refl) eb refl in
    let (hc, rest₂, hw) = in-century (day % 146097 - b * 36524) ((day % 146097 - b * 36524) / 1461) ((day % 146097 - b * 36524) % 1461) hv refl refl in
    all_small (day / 146097) b ((day % 146097 - b * 36524) / 1461) f (few-cycles day small) hb hc hf

-- ── the month of a day ──────────────────────────────────────────────────────────────────────

-- the months' lengths, with February's
abbrev pub months_with : ℕ → List ℕ
months_with second = 31 ∷ second ∷ 31 ∷ 30 ∷ 31 ∷ 30 ∷ 31 ∷ 31 ∷ 30 ∷ 31 ∷ 30 ∷ 31 ∷ []

module _ (year : ℕ) where
  month-here : (month n : ℕ) (ns : List ℕ) (day : ℕ) → day < n → month_from year month (n ∷ ns) day ≡ record { year = year; month = month; day = suc day }
  unfolding month_from
  month-here month n ns day h = rw (lt-ltb day n h, month_from)

  month-later : (month n : ℕ) (ns : List ℕ) (day : ℕ) → n ≤ day → month_from year month (n ∷ ns) day ≡ month_from year (suc month) ns (day - n)
  unfolding month_from
  month-later month n ns day h = rw (le-ltb day n h, month_from)

  pub lengths-are : (second : ℕ) → second ≡ cond (is_leap year) 29 28 → months_with second ≡ month_lengths year
  unfolding month_lengths
  lengths-are second e = ap months_with e

  -- some months passed
  module _ (day : ℕ) (ns : List ℕ) (passed left : ℕ) (same : month_from year 1 (month_lengths year) day ≡ month_from year (suc passed) (drop passed ns) left) where
    month-found : passed < length ns → left < get_or ns passed 0 → month_from year 1 (month_lengths year) day ≡ record { year = year; month = suc passed; day = suc left }
    month-found h l = same ∙ (ap (λ ms. month_from year (suc passed) ms left) (drop-cons ns passed 0 h) ∙ month-here (suc passed) (get_or ns passed 0) (drop (suc passed) ns) left l)

    pub date-found : passed < length ns → left < get_or ns passed 0 → DateIs (record { year = year; month = passed + 1; day = left + 1 }) (month_from year 1 (month_lengths year) day)
    date-found h l = rw (month-found h l) (record { year = refl; month = add-one passed; day = add-one left })

    pub month-passed : passed < length ns → get_or ns passed 0 ≤ left → month_from year 1 (month_lengths year) day ≡ month_from year (suc (passed + 1)) (drop (passed + 1) ns) (left - get_or ns passed 0)
    month-passed h l =
        same ∙ (ap (λ ms. month_from year (suc passed) ms left) (drop-cons ns passed 0 h)
        ∙ (month-later (suc passed) (get_or ns passed 0) (drop (suc passed) ns) left l ∙ ap (λ n. month_from year (suc n) (drop n ns) (left - get_or ns passed 0)) (sym (add-one passed))))

    pub date-after : passed ≡ 12 → length ns ≡ 12 → DateIs (record { year = year; month = 13; day = left + 1 }) (month_from year 1 (month_lengths year) day)
    unfolding month_from
    date-after e l =
        let over : drop passed ns ≡ [] = drop_of_length-le ns {i = passed} (omega arith) in
        let found : month_from year (suc passed) (drop passed ns) left ≡ month_from year 13 [] left = ap₂ (λ p ms. month_from year (suc p) ms left) e over in
        rw (same ∙ found) (record { year = refl; month = refl; day = add-one left })

pub date-is : {r : Found} {d : Date} → DateIs r d → meant_date r ≡ d
date-is i = λ j. record { year = i.year j; month = i.month j; day = i.day j }
