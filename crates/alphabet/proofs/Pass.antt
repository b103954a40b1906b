-- The pass over an alphabet: the flags say which ranks stand before a place, and each counts.
use Prim.Native.Nat.{ℕ, zero, suc, ◌+◌, ◌≤◌, ◌<◌}
use native.Mathlib.Omega.{arith}
use native.Mathlib.Decide.{ℕ_discrete}
use native.Mathlib.Numerals.{add-one}
use mathlib.Core.Path.{◌≡◌, refl, sym, ap, ◌∙◌}
use mathlib.Core.List.{List, [], ◌∷◌}
use mathlib.Core.Bool.{Bool, true, false, cond, not}
use lib.Dec.{T}
use lib.ListN.{length, get_or, set, drop, length-set, drop_of_length-le, length-drop}
use lib.Seq.{drop-cons, get_or-set_same, get_or-set_other}
use Rattle.definitions.specs.Lists.{every}
use Rattle.laws.specs.Lists.{flag}
use Rattle.definitions.specs.Limits.{ranks_width}
use Rattle.definitions.specs.Alphabet.{occurs, is_alphabet}
use Rattle.laws.proofs.Occurs.{occurs-none, occurs-here, occurs-later, total, total-large, total-small, total-length, once-total, total-once, once-alphabet, alphabet-once}

-- a rank that was met stands once before i, any other does not; all before i are ranks
pub record Passed (l : List ℕ) (met : List Bool) (i : ℕ) : Type 0 where
  pub flags : ranks_width ≤ length met
  pub stands : (r : ℕ) → r < ranks_width → occurs r l ≡ cond (flag met r) 1 0 + occurs r (drop i l)
  pub counted : total ranks_width l ≡ i + total ranks_width (drop i l)

none-met : (met : List Bool) → T (every not met) → (r : ℕ) → flag met r ≡ false
none-met [] h r = refl
none-met (true ∷ met) h r = absurd h
none-met (false ∷ met) h zero = refl
none-met (false ∷ met) h (suc r) = none-met met h r

pub pass-start : (l : List ℕ) (met : List Bool) → T (every not met) → ranks_width ≤ length met → Passed l met 0
pass-start l met h w = record { flags = w; stands = λ r k. rw (none-met met h r) (omega arith); counted = omega arith }

not-true : (b : Bool) → (b ≡ true → ⊥) → false ≡ b
not-true true h = absurd (h refl)
not-true false h = refl

module _ (l : List ℕ) (wide : length l ≡ ranks_width) (met : List Bool) (i : ℕ) (p : Passed l met i) where
  pub pass-ends : ranks_width ≤ i → true ≡ is_alphabet l
  pass-ends h = sym (once-alphabet l (total-once l ranks_width few whole))
    where
      none : drop i l ≡ []
      none = drop_of_length-le l {i = i} (omega arith)

      few : (r : ℕ) → r < ranks_width → occurs r l ≤ 1
      few r k = go (flag met r) (p.stands r k ∙ ap (λ t. cond (flag met r) 1 0 + occurs r t) none)
        where
          go : (b : Bool) → occurs r l ≡ cond b 1 0 + occurs r [] → occurs r l ≤ 1
          go true e = omega (arith, e, occurs-none r)
          go false e = omega (arith, e, occurs-none r)

      whole : total ranks_width l ≡ ranks_width
      whole = omega (arith, p.counted, total-length ranks_width l)

  module _ (inside : i < ranks_width) where
    abbrev x : ℕ
    x = get_or l i 0

    abbrev later : List ℕ
    later = drop (i + 1) l

    next : drop i l ≡ x ∷ later
    next = drop-cons l i 0 (omega arith) ∙ ap (λ n. x ∷ drop n l) (sym (add-one i))

    stands-next : (r : ℕ) → r < ranks_width → occurs r l ≡ cond (flag met r) 1 0 + occurs r (x ∷ later)
    stands-next r k = p.stands r k ∙ ap (λ t. cond (flag met r) 1 0 + occurs r t) next

    counted_next : total ranks_width l ≡ i + total ranks_width (x ∷ later)
    counted_next = p.counted ∙ ap (λ t. i + total ranks_width t) next

    pub pass-large : ranks_width ≤ get_or l i 0 → false ≡ is_alphabet l
    pass-large h =
        not-true (is_alphabet l)
        (λ e. omega (arith, counted_next, once-total ranks_width l (alphabet-once l e), total-large ranks_width x later h, total-length ranks_width later, length-drop (i + 1) l))

    module _ (small : get_or l i 0 < ranks_width) where
      pub pass-twice : flag met (get_or l i 0) ≡ true → false ≡ is_alphabet l
      pass-twice h =
          not-true (is_alphabet l)
          (λ e. omega (arith, stands-next x small ∙ ap (λ b. cond b 1 0 + occurs x (x ∷ later)) h, alphabet-once l e x small, occurs-here x x later refl))

      pub pass-turn : flag met (get_or l i 0) ≡ false → Passed l (set met (get_or l i 0) true) (i + 1)
      pass-turn f =
          record {
            flags = omega (arith, length-set met x true, p.flags);
            stands = λ r k. go r k (ℕ_discrete r x);
            counted = omega (arith, counted_next, total-small ranks_width x later small);
          }
        where
          go : (r : ℕ) → r < ranks_width → Dec (r ≡ x) → occurs r l ≡ cond (flag (set met x true) r) 1 0 + occurs r later
          go r k (yes e) =
              rw (e, get_or-set_same met x true false (omega (arith, p.flags)))
              (omega (arith, stands-next x small ∙ ap (λ b. cond b 1 0 + occurs x (x ∷ later)) f, occurs-here x x later refl))
          go r k (no d) =
              rw (get_or-set_other met x r true false d) (stands-next r k ∙ ap (λ n. cond (flag met r) 1 0 + n) (occurs-later r x later d))
