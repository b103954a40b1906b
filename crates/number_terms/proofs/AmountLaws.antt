-- Laws of the number that the first digits of a text write, zeros past its end.
use Rattle.std.specs.Prelude.{Some, None}
use Prim.Native.Nat.{ℕ, zero, suc, ◌+◌, ◌*◌, ◌-◌, ◌^◌, ◌≤◌, ◌<◌}
use native.Mathlib.Nat.{add-zero, add-suc, zero-mul, pow-suc, pow-le-pow_right, mul-le-mul_right, mul-pos}
use native.Mathlib.Numerals.{add-one}
use native.Mathlib.Omega.{arith}
use mathlib.Core.Bool.{Bool, true, false, ◌&&◌, and-true}
use mathlib.Core.List.{[], ◌∷◌, ◌++◌}
use mathlib.Core.Logic.{⊎_elim}
use mathlib.Core.Path.{◌≡◌, refl, sym, ap, ◌∙◌}
use lib.Dec.{T, eqb}
use lib.ListN.{length, take, drop, get_or, replicate, length-append, length-drop, length-replicate, take-append-drop, drop_of_length-le, get_or-replicate}
use lib.ListN.{get_or-append, get_or-eq_default}
use lib.Seq.{take-suc, drop-cons, get_or-append-add}
use borrow.Author.Tests.{le-leb, lt-leb, eq-eqb, ne_eqb, eqb-true, eqb-false}
use Rattle.definitions.specs.Lists.{every}
use Rattle.definitions.specs.Terms.{Text}
use Rattle.definitions.specs.Numerals.{is_digit, natural_of}
use Rattle.laws.proofs.Tests.{and_left, and_right, is_true, true_is}
use Rattle.laws.proofs.Lists.{every_append, every-left, every-right, get_d-inside}
use Rattle.laws.proofs.Ranges.{split}
use Rattle.laws.proofs.Numerals.{digit-range, ten-pos, natural-append}
use Rattle.number_terms.specs.Amounts.{digit_of, front, rest_zero, amount_of}
use Rattle.number_parts.proofs.PartLaws.{digit-in}

-- ── a digit of two texts ────────────────────────────────────────────────────────────────────

module _ (w f : Text) (i : ℕ) where
  pub first-is : i < length w → get_or w i 0 ≡ get_or (w ++ f) i 0x30
  first-is l = get_d-inside w i 0 0x30 l ∙ sym (get_or-append w f 0x30 i l)

  pub second_is : length w ≤ i → i - length w < length f → get_or f (i - length w) 0 ≡ get_or (w ++ f) i 0x30
  second_is l k =
      let e : length w + (i - length w) ≡ i = omega arith in
      get_d-inside f (i - length w) 0 0x30 k ∙ (sym (get_or-append-add w f (i - length w) 0x30) ∙ ap (λ n. get_or (w ++ f) n 0x30) e)

  pub past-digits : length f ≤ i - length w → length w ≤ i → 0 ≡ digit_of (w ++ f) i
  past-digits k l = let e = get_or-eq_default (w ++ f) 0x30 {n = i} (omega (arith, length-append w f)) in omega arith

  module _ (h : T (every is_digit (w ++ f))) where
    pub first-digit : i < length w → T (is_digit (get_or w i 0))
    first-digit l = digit-in w i (every-left is_digit w f h) l

    pub second-digit : i - length w < length f → T (is_digit (get_or f (i - length w) 0))
    second-digit l = digit-in f (i - length w) (every-right is_digit w f h) l

-- ── the first digits, one by one ────────────────────────────────────────────────────────────

pub over : (limit n : ℕ) → limit < n → None ≡ amount_of limit n
unfolding amount_of
over limit n h = rw (lt-leb n limit h)

pub under : (limit n : ℕ) → n ≤ limit → Some n ≡ amount_of limit n
unfolding amount_of
under limit n h = rw (le-leb n limit h)

module _ (ds : Text) where
  -- more digits write no smaller number
  more : (i j : ℕ) → front ds i ≤ front ds (i + j)
  unfolding front
  more i zero = rw (add-zero i) (omega arith)
  more i (suc j) = rw (add-suc i j) (omega (arith, more i j))

  module _ (i n : ℕ) (e : n ≡ front ds i) where
    pub front-next : {d : ℕ} → d ≡ digit_of ds i → n * 10 + d ≡ front ds (i + 1)
    unfolding front
    front-next f = rw (add-one i) (omega arith)

    pub front-over : (limit keep d : ℕ) → d ≡ digit_of ds i → i < keep → limit < n * 10 + d → None ≡ amount_of limit (front ds keep)
    front-over limit keep d f l o =
        let k : i + 1 + (keep - (i + 1)) ≡ keep = omega arith in
        over limit (front ds keep) (omega (arith, front-next f, ap (front ds) k, more (i + 1) (keep - (i + 1))))

    pub front-end : (limit keep : ℕ) → n ≤ limit → i ≤ keep → keep ≤ i → Some n ≡ amount_of limit (front ds keep)
    front-end limit keep l a b =
        let s : i ≡ keep = omega arith in
        let q : n ≡ front ds keep = e ∙ ap (front ds) s in
        ap Some q ∙ under limit (front ds keep) (omega arith)

-- ── the other digits, one by one ────────────────────────────────────────────────────────────

module _ (ds : Text) (i d : ℕ) (l : i < length ds) (e : d ≡ digit_of ds i) where
  pub rest-next : T (every is_digit ds) → d ≡ 0 → rest_zero ds i ≡ rest_zero ds (i + 1)
  rest-next h z =
      let r = digit-range (get_or ds i 0) (digit-in ds i h l) in
      let b : 0x30 ≡ get_or ds i 0x30 = omega (arith, r.0, get_d-inside ds i 0 0x30 l) in
      rw (add-one i, drop-cons ds i 0x30 l, eq-eqb 0x30 (get_or ds i 0x30) b)

  pub rest-stop : (d ≡ 0 → ⊥) → false ≡ rest_zero ds i
  rest-stop z = rw (drop-cons ds i 0x30 l, ne_eqb 0x30 (get_or ds i 0x30) (λ b. z (omega arith)))

pub rest_end : (ds : Text) (i : ℕ) → length ds ≤ i → true ≡ rest_zero ds i
rest_end ds i h = sym (ap (every (eqb 0x30)) (drop_of_length-le ds h))

pub zeros-natural : (y : Text) → every (eqb 0x30) y ≡ true → natural_of y ≡ 0
unfolding natural_of
zeros-natural [] e = refl
zeros-natural (b ∷ t) e =
    let h = true_is (eqb 0x30 b && every (eqb 0x30) t) e in
    let z : b - 0x30 ≡ 0 = omega (arith, eqb-true 0x30 b (is_true (eqb 0x30 b) (and_left (eqb 0x30 b) (every (eqb 0x30) t) h))) in
    rw (z, zero-mul) (omega (arith, zeros-natural t (is_true (every (eqb 0x30) t) (and_right (eqb 0x30 b) (every (eqb 0x30) t) h))))

pub some-natural : (y : Text) → T (every is_digit y) → every (eqb 0x30) y ≡ false → 0 < natural_of y
unfolding natural_of
some-natural [] h e = let z : ◌≡◌ {A = ℕ} 0 1 = cc in absurd (omega arith)
some-natural (b ∷ t) h e = go (eqb 0x30 b) refl e (some-natural t (and_right (is_digit b) (every is_digit t) h))
  where
    go : (c : Bool) → eqb 0x30 b ≡ c → (c && every (eqb 0x30) t) ≡ false → (every (eqb 0x30) t ≡ false → 0 < natural_of t) → 0 < (b - 0x30) * 10 ^ length t + natural_of t
    go true s k ih = omega (arith, ih k)
    go false s k ih =
        let r = digit-range b (and_left (is_digit b) (every is_digit t) h) in
        let n = eqb-false 0x30 b s in
        let p : 0 < b - 0x30 = omega (arith, n, r.0) in
        omega (arith, mul-pos p (ten-pos (length t)))

-- ── the digits with zeros after them ────────────────────────────────────────────────────────

abbrev pub zeros : ℕ → Text
zeros j = replicate j 0x30

zeros-rest : (j k : ℕ) → rest_zero (zeros j) k ≡ true
zeros-rest zero zero = refl
zeros-rest zero (suc k) = refl
zeros-rest (suc j) zero = zeros-rest j zero
zeros-rest (suc j) (suc k) = zeros-rest j k

pub zeros-digits : (j : ℕ) → T (every is_digit (zeros j))
unfolding is_digit
zeros-digits zero = tt
zeros-digits (suc j) = zeros-digits j

module _ (j : ℕ) where
  pub padded-rest : (ds : Text) (k : ℕ) → rest_zero (ds ++ zeros j) k ≡ rest_zero ds k
  padded-rest [] zero = zeros-rest j zero
  padded-rest [] (suc k) = zeros-rest j (suc k)
  padded-rest (b ∷ ds) zero =
      every_append (eqb 0x30) (b ∷ ds) (zeros j) ∙ (ap (λ c. every (eqb 0x30) (b ∷ ds) && c) (zeros-rest j zero) ∙ and-true (every (eqb 0x30) (b ∷ ds)))
  padded-rest (b ∷ ds) (suc k) = padded-rest ds k

  pub padded-natural : (ds : Text) → natural_of (ds ++ zeros j) ≡ natural_of ds * 10 ^ j
  padded-natural ds =
      let z = zeros-natural (zeros j) (zeros-rest j zero) in
      natural-append ds (zeros j) ∙ (ap (λ n. natural_of ds * 10 ^ n + natural_of (zeros j)) (length-replicate j 0x30) ∙ rw z (omega arith))

  padded-get : (ds : Text) (i : ℕ) → get_or (ds ++ zeros j) i 0x30 ≡ get_or ds i 0x30
  padded-get [] i = ⊎_elim (λ l. get_or-eq_default (zeros j) 0x30 {n = i} (omega (arith, length-replicate {A = ℕ} j 0x30))) (λ l. get_or-replicate j i 0x30 0x30 l) (split j i)
  padded-get (b ∷ ds) zero = refl
  padded-get (b ∷ ds) (suc i) = padded-get ds i

  pub front-take : (ds : Text) (k : ℕ) → k ≤ length (ds ++ zeros j) → front ds k ≡ natural_of (take k (ds ++ zeros j))
  unfolding front natural_of
  front-take ds zero l = refl
  front-take ds (suc k) l =
      let p = ds ++ zeros j in
      let e = ap natural_of (take-suc p k 0x30 (omega arith)) ∙ natural-append (take k p) (get_or p k 0x30 ∷ []) in
      omega (arith, e, front-take ds k (omega arith), padded-get ds k)

-- ── a number cut in two ─────────────────────────────────────────────────────────────────────

pub natural-less : (y : Text) → T (every is_digit y) → natural_of y < 10 ^ length y
unfolding natural_of
natural-less [] h = omega arith
natural-less (b ∷ t) h =
    let l = natural-less t (and_right (is_digit b) (every is_digit t) h) in
    let r = digit-range b (and_left (is_digit b) (every is_digit t) h) in
    let m : (b - 0x30) * 10 ^ length t ≤ 9 * 10 ^ length t = mul-le-mul_right (10 ^ length t) (omega (arith, r.1)) in
    omega (arith, pow-suc 10 (length t))

pub drop-digits : (ds : Text) (k : ℕ) → T (every is_digit ds) → T (every is_digit (drop k ds))
drop-digits ds k h = every-right is_digit (take k ds) (drop k ds) (rw (take-append-drop k ds) h)

-- the last k digits (all, if there are fewer)
module _ (ds : Text) (k : ℕ) where
  abbrev keep : ℕ
  keep = length ds - k

  tail-length : length (drop keep ds) ≤ k
  tail-length = omega (arith, length-drop keep ds)

  pub cut : natural_of ds ≡ natural_of (take keep ds) * 10 ^ k + natural_of (drop keep ds)
  unfolding natural_of
  cut =
      ⊎_elim
      (λ l.
      let e : length (drop keep ds) ≡ k = omega (arith, length-drop keep ds) in
      ap natural_of (sym (take-append-drop keep ds))
      ∙ (natural-append (take keep ds) (drop keep ds) ∙ ap (λ n. natural_of (take keep ds) * 10 ^ n + natural_of (drop keep ds)) e))
      (λ (l : length ds < k). let z : keep ≡ 0 = omega arith in rw (z, zero-mul) (omega arith))
      (split k (length ds))

  pub cut-less : T (every is_digit ds) → natural_of (drop keep ds) < 10 ^ k
  cut-less h =
      let m : 10 ^ length (drop keep ds) ≤ 10 ^ k = pow-le-pow_right (omega arith) tail-length in
      omega (arith, natural-less (drop keep ds) (drop-digits ds keep h))
