-- A number's bytes, written one after the other from the lowest.
use Prim.Native.Nat.{ℕ, zero, suc, ◌+◌, ◌/◌, ◌%◌, ◌<◌}
use native.Mathlib.Numerals.{add-one}
use mathlib.Core.Path.{◌≡◌, refl, ap, sym, ◌∙◌}
use mathlib.Core.List.{List, [], ◌∷◌, ◌++◌}
use lib.ListN.{length, set}
use Rattle.definitions.specs.Bytes.{little_bytes}
use Rattle.laws.proofs.Writing.{Put, put_one}

-- what is left of a number after its lowest bytes
abbrev pub after : ℕ → ℕ → ℕ
after zero n = n
after (suc i) n = after i (n / 256)

pub after_next : (i n : ℕ) → after i n / 256 ≡ after (i + 1) n
after_next i n = up i n ∙ ap (λ (k : ℕ). after k n) (sym (add-one i))
  where
    up : (i n : ℕ) → after i n / 256 ≡ after (suc i) n
    up zero n = refl
    up (suc i) n = up i (n / 256)

little-end : (i n : ℕ) → little_bytes i n ++ (after i n % 256 ∷ []) ≡ little_bytes (suc i) n
unfolding little_bytes
little-end zero n = refl
little-end (suc i) n = ap (λ (l : List ℕ). n % 256 ∷ l) (little-end i (n / 256))

-- the next byte is written
pub little-next : {old array : List ℕ} {i : ℕ} (n rest : ℕ) → rest ≡ after i n → Put old array (little_bytes i n) i → i < length old
    → Put old (set array i (rest % 256)) (little_bytes (i + 1) n) (i + 1)
little-next {old} {array} {i} n rest r p h =
    let e : little_bytes i n ++ (rest % 256 ∷ []) ≡ little_bytes (i + 1) n =
    ap (λ (m : ℕ). little_bytes i n ++ (m % 256 ∷ [])) r ∙ (little-end i n ∙ ap (λ (k : ℕ). little_bytes k n) (sym (add-one i))) in
    rw e at (put_one (rest % 256) p h)
