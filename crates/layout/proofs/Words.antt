-- Filling an array with 2-byte numbers, one after the other.
use Prim.Native.Nat.{ℕ, zero, suc, ◌+◌, ◌*◌, ◌<◌}
use native.Mathlib.Omega.{arith}
use native.Mathlib.Numerals.{add-one}
use mathlib.Core.Path.{◌≡◌, refl, ap, sym, ◌∙◌}
use mathlib.Core.List.{List, [], ◌∷◌, ◌++◌}
use lib.ListN.{length, set, drop}
use Rattle.definitions.specs.Bytes.{word}
use Rattle.definitions.specs.Exports.{words_from}
use Rattle.laws.proofs.Fill.{write-next, write_done}

module _ (b : List ℕ) where
  length-words : (n at : ℕ) → length (words_from n b at) ≡ n
  unfolding words_from
  length-words zero at = refl
  length-words (suc n) at = ap suc (length-words n (at + 2))

  -- one more at the end
  words-end : (n at : ℕ) → words_from (suc n) b at ≡ words_from n b at ++ (word b (at + 2 * n) ∷ [])
  unfolding words_from
  words-end zero at = let e : at ≡ at + 2 * 0 = omega arith in ap (λ m. word b m ∷ []) e
  words-end (suc n) at =
      let e : at + 2 + 2 * n ≡ at + 2 * suc n = omega arith in
      ap (λ l. word b at ∷ l) (words-end n (at + 2) ∙ ap (λ m. words_from n b (at + 2) ++ (word b m ∷ [])) e)

  -- the next of the numbers is written
  pub words-next : (old array : List ℕ) (at i w : ℕ) → i < length old → w ≡ word b (at + 2 * i) → array ≡ words_from i b at ++ drop i old
      → set array i w ≡ words_from (i + 1) b at ++ drop (i + 1) old
  words-next old array at i w h e k =
      write-next old array (words_from i b at) i 0 w h (length-words i at) k
      ∙ ap (λ (l : List ℕ). l ++ drop (i + 1) old)
      (ap (λ (x : ℕ). words_from i b at ++ (x ∷ [])) e ∙ (sym (words-end i at) ∙ ap (λ (m : ℕ). words_from m b at) (sym (add-one i))))

  -- all of them are
  pub words-all : (old array : List ℕ) (at i : ℕ) → i ≡ length old → array ≡ words_from i b at ++ drop i old → array ≡ words_from (length old) b at
  words-all old array at i e k =
      write_done old array (words_from i b at) i (omega arith) k ∙ ap (λ (m : ℕ). words_from m b at) e
