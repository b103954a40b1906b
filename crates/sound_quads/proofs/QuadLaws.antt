-- Quads in bytes and in numbers: the table that holds them, its numbers, a look through them.
use Prim.Native.Nat.{ℕ, zero, suc, ◌+◌, ◌-◌, ◌*◌, ◌≤◌, ◌<◌}
use native.Mathlib.Omega.{arith}
use mathlib.Core.Path.{◌≡◌, refl, sym, ap, ◌∙◌}
use mathlib.Core.List.{List}
use mathlib.Core.Bool.{Bool, true, false, not, ◌&&◌}
use lib.Dec.{leb, leb→le}
use lib.ListN.{length, get_or, take, drop}
use Rattle.std.proofs.Common.{drop-cons}
use Rattle.std.specs.List.{list_all}
use borrow.Author.Tests.{le-leb, lt-leb, not-false}
use Rattle.definitions.specs.Limits.{quad_width, quad_limit}
use Rattle.definitions.specs.Bytes.{part, all_zero, provided}
use Rattle.definitions.specs.Lists.{every}
use Rattle.definitions.specs.Evaluate.{Quad}
use Rattle.definitions.specs.Saved.{quads_from, quads_in}
use Rattle.laws.proofs.Tests.{and_left, true_is}
use Rattle.laws.proofs.Bytes.{AreBytes}
use Rattle.laws.proofs.Tables.{quad-small}
use Rattle.laws.specs.Lists.{All}
use Rattle.laws.specs.Quads.{Small}
use Rattle.laws.specs.ReadAnswers.{is_some}
use Rattle.laws.proofs.ReadAnswers.{provided-is}
use Rattle.fields.proofs.PartLaws.{rest_part}
use Rattle.keys.specs.Keys.{quad_of, keys_from, rows_from, keys_of}
use Rattle.keys.proofs.Quads.{rows_are}

-- ── the table holds so many quads ───────────────────────────────────────────────────────────

module _ (table : List ℕ) (n : ℕ) where
  pub too_many : quad_limit < n → false ≡ is_some (quads_in n table)
  unfolding quads_in provided
  too_many h = rw (lt-leb n quad_limit h)

  pub held-is : n ≤ quad_limit → {z : Bool} → z ≡ all_zero (part table (quad_width * n) (length table - quad_width * n)) → z ≡ is_some (quads_in n table)
  unfolding quads_in
  held-is h e =
      e ∙ ap all_zero (rest_part table (quad_width * n))
      ∙ sym (provided-is (leb n quad_limit && all_zero (drop (quad_width * n) table)) (quads_from n table 0)
      ∙ ap (λ (b : Bool). b && all_zero (drop (quad_width * n) table)) (le-leb n quad_limit h))

  pub held-few : {a : Bool} → a ≡ is_some (quads_in n table) → not a ≡ false → n ≤ quad_limit
  unfolding quads_in
  held-few {a} e t =
      let zeros = all_zero (drop (quad_width * n) table) in
      let both : leb n quad_limit && zeros ≡ true = sym (provided-is (leb n quad_limit && zeros) (quads_from n table 0)) ∙ (sym e ∙ not-false a t) in
      leb→le n quad_limit (and_left (leb n quad_limit) zeros (true_is (leb n quad_limit && zeros) both))

-- ── its keys ────────────────────────────────────────────────────────────────────────────────

module _ (table : List ℕ) (bytes : AreBytes table) where
  quads-small : (n at : ℕ) → All Small (quads_from n table at)
  unfolding quads_from
  quads-small zero at = tt
  quads-small (suc n) at = (quad-small table bytes at, quads-small n (at + quad_width))

  pub rows_of : (keys : List ℕ) (n : ℕ) → keys_from n keys 0 ≡ keys_of (quads_from n table 0) → rows_from n keys 0 ≡ quads_from n table 0
  rows_of keys n e = rows_are keys n 0 (quads_from n table 0) (quads-small n 0) e

-- ── a look through them ─────────────────────────────────────────────────────────────────────

rows-pass : (p : Quad → Bool) (f : List ℕ) (n i : ℕ) → i + n ≤ length f → list_all (λ k. p (quad_of k)) (take n (drop i f)) ≡ every p (rows_from n f i)
unfolding rows_from
rows-pass p f zero i h = refl
rows-pass p f (suc n) i h =
    let e : i + 1 ≡ suc i = omega arith in
    rw (drop-cons f i 0 (omega arith), e) (ap (λ (b : Bool). p (quad_of (get_or f i 0)) && b) (rows-pass p f n (suc i) (omega arith)))

-- what is asked of the first n keys is asked of their quads
pub all-rows : (p : Quad → Bool) (f : List ℕ) (n : ℕ) (r : Bool) → n ≤ length f → r ≡ list_all (λ k. p (quad_of k)) (take n f) → r ≡ every p (rows_from n f 0)
all-rows p f n r h a = a ∙ rows-pass p f n 0 (omega arith)
