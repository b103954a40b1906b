-- Laws of the term of a numeral: signs, and the numbers that are within their kind's limits.
use Rattle.definitions.specs.declared.Refusal.TheVariants.{NoSuchNumber}
use Rattle.std.specs.Prelude.{Some, None}
use Rattle.std.specs.declared.option.Option as Answer
use Prim.Native.Nat.{ℕ, zero, suc, ◌+◌, ◌*◌, ◌-◌, ◌%◌, ◌^◌, ◌≤◌, ◌<◌}
use native.Mathlib.Nat.{mul_assoc, mul-add-mod_self_right, mod-eq_of_lt}
use native.Mathlib.Omega.{arith}
use mathlib.Core.Bool.{Bool, true, false, cond, and-true}
use mathlib.Core.List.{◌++◌, append-nil}
use mathlib.Core.Option.{Option, none, some}
use mathlib.Core.Path.{◌≡◌, refl, sym, ap, ◌∙◌}
use lib.Dec.{T, leb, leb→le, leb-suc-suc}
use lib.IntN.{ℤ, pos, negsuc, neg_ℤ}
use lib.ListN.{length, take, drop, length-append, length-replicate}
use lib.Pow.{pow-add}
use lib.Seq.{take_all}
use borrow.Author.Tests.{lt-ltb, le-ltb, ne_eqb}
use Rattle.definitions.specs.Limits.{integer_limit, decimal_limit}
use Rattle.definitions.specs.Lists.{every}
use Rattle.definitions.specs.Bytes.{signed, provided}
use Rattle.definitions.specs.Terms.{Text, Term, within_limits, limited_term}
use Rattle.definitions.specs.Values.{million}
use Rattle.definitions.specs.Numerals.{is_digit, natural_of, with_sign, integer_term, decimal_term}
use Rattle.definitions.specs.Result.{refused, passed, given}
use Rattle.laws.proofs.Tests.{and_make, by-test}
use Rattle.laws.proofs.Lists.{every_append}
use Rattle.laws.proofs.Numerals.{decimal-is}
use Rattle.number_parts.specs.Parts.{Digits}
use Rattle.number_terms.specs.Amounts.{front, rest_zero, amount_of, whole_amount, term_with}
use Rattle.number_terms.proofs.AmountLaws.{zeros, zeros-digits, zeros-natural, some-natural, rest_end, padded-rest, padded-natural, front-take, drop-digits, cut, cut-less}

-- ── signs ───────────────────────────────────────────────────────────────────────────────────

pub zero-signed : {n : ℕ} → n ≡ 0 → (minus : Bool) → signed 0 ≡ with_sign minus n
unfolding signed with_sign
zero-signed e true = rw e
zero-signed e false = rw e

module _ (n : ℕ) (h : n ≤ decimal_limit) {minus : Bool} where
  pub plus-signed : minus ≡ false → signed n ≡ with_sign minus n
  unfolding signed with_sign
  plus-signed e = rw (e, lt-ltb n (2 ^ 63) (omega arith))

  pub minus-signed : (n ≡ 0 → ⊥) → minus ≡ true → signed (2 ^ 64 - 1 - (n - 1)) ≡ with_sign minus n
  unfolding signed with_sign
  minus-signed z e = rw (e, le-ltb (2 ^ 64 - 1 - (n - 1)) (2 ^ 63) (omega arith)) (go n z h)
    where
      go : (n : ℕ) → (n ≡ 0 → ⊥) → n ≤ decimal_limit → negsuc (2 ^ 64 - suc (2 ^ 64 - 1 - (n - 1))) ≡ neg_ℤ (pos n)
      go zero z h = absurd (z refl)
      go (suc n) z h = ap negsuc (omega arith)

-- ── within the limits of a kind ─────────────────────────────────────────────────────────────

sign-within : (l : ℕ) (minus : Bool) (n : ℕ) → within_limits (suc l) (suc l) (with_sign minus n) ≡ leb n (suc l)
unfolding within_limits with_sign
sign-within l true zero = refl
sign-within l true (suc n) = rw (and-true, leb-suc-suc)
sign-within l false n = refl

-- the term that an amount is
unfoldable pub amount_term : (ℤ → Term) → (minus : Bool) → Answer.Option ℕ → Option Term
amount_term make minus (Some n) = some (make (with_sign minus n))
amount_term make minus None = none

limited : (l : ℕ) (make : ℤ → Term) (minus : Bool) (n : ℕ)
    → amount_term make minus (amount_of (suc l) n) ≡ limited_term (within_limits (suc l) (suc l)) make (with_sign minus n)
unfolding amount_of amount_term provided
limited l make minus n = go (leb n (suc l)) (sign-within l minus n)
  where
    go : (b : Bool) → within_limits (suc l) (suc l) (with_sign minus n) ≡ b
        → amount_term make minus (cond b (Some n) None) ≡ limited_term (within_limits (suc l) (suc l)) make (with_sign minus n)
    go true e = rw e
    go false e = rw e

-- no whole count of millionths
decimal-not : (minus : Bool) (m up down q r : ℕ) → m * million * 10 ^ up ≡ q * 10 ^ down + r → 0 < r → r < 10 ^ down → decimal_term minus m up down ≡ none
unfolding decimal_term provided
decimal-not minus m up down q r e p l =
    let z : m * million * 10 ^ up % 10 ^ down ≡ r = rw e (mul-add-mod_self_right q (10 ^ down) r ∙ mod-eq_of_lt l) in
    rw (ne_eqb (m * million * 10 ^ up % 10 ^ down) 0 (λ h. omega arith))

module _ (minus : Bool) (ds : Text) (h : T (every is_digit ds)) where
  integer-amount : amount_term Term.integer minus (whole_amount integer_limit ds (length ds)) ≡ integer_term minus (natural_of ds)
  unfolding whole_amount integer_term
  integer-amount =
      let p = append-nil ds in
      let e : front ds (length ds) ≡ natural_of ds = front-take 0 ds (length ds) (omega (arith, ap length p)) ∙ ap natural_of (ap (take (length ds)) p ∙ take_all (length ds) ds (omega arith)) in
      rw (← rest_end ds (length ds) (omega arith), e) (limited 999999999999 Term.integer minus (natural_of ds))

  module _ (up down keep : ℕ) (k : keep ≡ length ds + (6 + up) - down) where
    padded : Text
    padded = ds ++ zeros (6 + up)

    padded-length : length padded ≡ length ds + (6 + up)
    unfolding padded
    padded-length = length-append ds (zeros (6 + up)) ∙ ap (λ n. length ds + n) (length-replicate (6 + up) 0x30)

    scaled : natural_of ds * million * 10 ^ up ≡ natural_of padded
    unfolding padded
    scaled = mul_assoc (natural_of ds) million (10 ^ up) ∙ (ap (λ n. natural_of ds * n) (sym (pow-add 10 6 up)) ∙ sym (padded-natural (6 + up) ds))

    same-keep : length padded - down ≡ keep
    same-keep = ap (λ n. n - down) padded-length ∙ sym k

    all : T (every is_digit padded)
    unfolding padded
    all = rw (every_append is_digit ds (zeros (6 + up))) (and_make (every is_digit ds) (every is_digit (zeros (6 + up))) h (zeros-digits (6 + up)))

    count : front ds keep ≡ natural_of (take (length padded - down) padded)
    unfolding padded
    count = rw same-keep (front-take (6 + up) ds keep (omega (arith, padded-length)))

    rest : rest_zero padded (length padded - down) ≡ rest_zero ds keep
    unfolding padded
    rest = rw same-keep (padded-rest (6 + up) ds keep)

    decimal-amount : amount_term Term.decimal minus (whole_amount decimal_limit ds keep) ≡ decimal_term minus (natural_of ds) up down
    unfolding whole_amount amount_term
    decimal-amount = go (rest_zero ds keep) rest
      where
        go : (b : Bool) → rest_zero padded (length padded - down) ≡ b
            → amount_term Term.decimal minus (cond b (amount_of decimal_limit (front ds keep)) None) ≡ decimal_term minus (natural_of ds) up down
        go true e =
            let z = zeros-natural (drop (length padded - down) padded) e in
            limited 999999999999999999 Term.decimal minus (front ds keep)
            ∙ sym (decimal-is minus (natural_of ds) up down (front ds keep) (omega (arith, scaled, cut padded down, ap (λ n. n * 10 ^ down) count, z)))
        go false e =
            sym (decimal-not minus (natural_of ds) up down (natural_of (take (length padded - down) padded)) (natural_of (drop (length padded - down) padded))
            (scaled ∙ cut padded down) (some-natural (drop (length padded - down) padded) (drop-digits padded (length padded - down) all) e) (cut-less padded down all))

-- ── as the code answers ─────────────────────────────────────────────────────────────────────

small : (limit : ℕ) (ds : Text) (keep n : ℕ) → whole_amount limit ds keep ≡ Some n → n ≤ limit
unfolding whole_amount amount_of
small limit ds keep n =
    by-test Small (rest_zero ds keep) (amount_of limit (front ds keep)) None
    (λ t. by-test Small (leb (front ds keep) limit) (Some (front ds keep)) None (λ u e. let q : front ds keep ≡ n = cc in omega (arith, leb→le (front ds keep) limit u)) (λ u. none))
    (λ t. none)
  where
    Small : Answer.Option ℕ → Type 0
    Small a = a ≡ Some n → n ≤ limit

    none : Small None
    none e = let z : ◌≡◌ {A = ℕ} 0 1 = cc in absurd (omega arith)

-- what to answer where a term is asked for
pub record Asked (r : Answer.Option ℕ) (make : ℤ → Term) (minus : Bool) (o : Option Term) : Type 0 where
  pub outside : r ≡ None → refused NoSuchNumber ≡ given NoSuchNumber o
  pub fits : {n : ℕ} → r ≡ Some n → n ≤ decimal_limit
  pub within : {n : ℕ} {z : ℤ} → r ≡ Some n → z ≡ with_sign minus n → passed (make z) ≡ given NoSuchNumber o

asked : (make : ℤ → Term) (minus : Bool) (limit : ℕ) (ds : Text) (keep : ℕ) {r : Answer.Option ℕ} {o : Option Term} → limit ≤ decimal_limit → r ≡ whole_amount limit ds keep
    → amount_term make minus (whole_amount limit ds keep) ≡ o → Asked r make minus o
unfolding given amount_term
asked make minus limit ds keep {r = r} l e is =
    record {
      outside = λ k. rw (← is, ← e, k);
      fits = fits;
      within = λ k s. rw (s, ← is, ← e, k);
    }
  where
    fits : {n : ℕ} → r ≡ Some n → n ≤ decimal_limit
    fits {n} k = omega (arith, small limit ds keep n (sym e ∙ k))

module _ (w f : Text) (h : Digits (w ++ f)) (minus : Bool) (up down : ℕ) {plain : Bool} {r : Answer.Option ℕ} where
  pub integer-asked : plain ≡ true → r ≡ whole_amount integer_limit (w ++ f) (length w + length f)
      → Asked r Term.integer minus (term_with plain minus (natural_of (w ++ f)) up (length f + down))
  unfolding term_with
  integer-asked p e =
      asked Term.integer minus integer_limit (w ++ f) (length w + length f) (omega arith) e (rw (p, ← length-append w f) (integer-amount minus (w ++ f) h.all))

  pub decimal-asked : plain ≡ false → {keep : ℕ} → keep ≡ length w + (6 + up) - down → r ≡ whole_amount decimal_limit (w ++ f) keep
      → Asked r Term.decimal minus (term_with plain minus (natural_of (w ++ f)) up (length f + down))
  unfolding term_with
  decimal-asked p {keep} k e =
      asked Term.decimal minus decimal_limit (w ++ f) keep (omega arith) e
      (rw p (decimal-amount minus (w ++ f) h.all up (length f + down) keep (omega (arith, length-append w f))))
