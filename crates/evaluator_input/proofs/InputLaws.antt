-- The evaluator's input: a tuple in it, and whether it is whole.
use Prim.Native.Nat.{ℕ, ◌+◌, ◌-◌, ◌%◌, ◌≤◌, ◌<◌}
use native.Mathlib.Omega.{arith}
use mathlib.Core.Path.{◌≡◌, sym, ap, ◌∙◌}
use mathlib.Core.List.{List, [], ◌∷◌}
use mathlib.Core.Bool.{Bool, true, false, ◌&&◌}
use lib.Dec.{eqb}
use lib.ListN.{length}
use borrow.Author.Tests.{le-leb, lt-leb, eq-eqb, ne_eqb}
use Rattle.definitions.specs.Limits.{pair_limit}
use Rattle.definitions.specs.Bytes.{word}
use Rattle.definitions.specs.Exports.{words_from}
use Rattle.evaluator_input.specs.declared.Shape.TheVariants.{Whole, CutOff, TooLong}
use Rattle.evaluator_input.specs.Input.{tuple_width, input_limit, tuples_at, uncut, shape_of}

pub four-words : (s : List ℕ) (at : ℕ) {a b c d : ℕ} → a ≡ word s at → b ≡ word s (at + 2) → c ≡ word s (at + 4) → d ≡ word s (at + 6)
    → a ∷ b ∷ c ∷ d ∷ [] ≡ words_from pair_limit s at
unfolding words_from
four-words s at a b c d =
    let third : at + 4 ≡ at + 2 + 2 = omega arith in
    let fourth : at + 6 ≡ at + 2 + 2 + 2 = omega arith in
    λ i. a i ∷ b i ∷ (c ∙ ap (word s) third) i ∷ (d ∙ ap (word s) fourth) i ∷ []

-- ── whether it is whole ─────────────────────────────────────────────────────────────────────

module _ (s : List ℕ) where
  pub too_long : input_limit < length s → TooLong ≡ shape_of s
  unfolding shape_of
  too_long h = sym (rw (shape_of, lt-leb (length s) input_limit h))

  module _ (h : length s ≤ input_limit) where
    cut : uncut s ≡ false → CutOff ≡ shape_of s
    unfolding shape_of
    cut e = sym (rw (shape_of, le-leb (length s) input_limit h, e))

    pub cut-before : length s < tuples_at s → CutOff ≡ shape_of s
    cut-before k = cut (ap (λ (b : Bool). b && eqb ((length s - tuples_at s) % tuple_width) 0) (lt-leb (tuples_at s) (length s) k))

    -- the first tuple, where the code has it
    module _ {first : ℕ} (k : first ≤ length s) (begins : first ≡ tuples_at s) where
      pub cut-within : ((length s - first) % tuple_width ≡ 0 → ⊥) → CutOff ≡ shape_of s
      cut-within n =
          let within : (length s - tuples_at s) % tuple_width ≡ 0 → ⊥ = λ e. n (ap (λ (m : ℕ). (length s - m) % tuple_width) begins ∙ e) in
          cut (ap (λ (b : Bool). b && eqb ((length s - tuples_at s) % tuple_width) 0) (le-leb (tuples_at s) (length s) (omega (arith, begins)))
          ∙ ne_eqb ((length s - tuples_at s) % tuple_width) 0 within)

      pub whole : (length s - first) % tuple_width ≡ 0 → Whole ≡ shape_of s
      unfolding shape_of
      whole m =
          let all : uncut s ≡ true =
          ap (λ (b : Bool). b && eqb ((length s - tuples_at s) % tuple_width) 0) (le-leb (tuples_at s) (length s) (omega (arith, begins, k)))
          ∙ eq-eqb ((length s - tuples_at s) % tuple_width) 0 (ap (λ (n : ℕ). (length s - n) % tuple_width) (sym begins) ∙ m) in
          sym (rw (shape_of, le-leb (length s) input_limit h, all))
