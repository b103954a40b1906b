-- A free graph: the whole table is the graphs' stretches, one after the other, and in each of them the graph is known.
use Prim.Native.Nat.{ℕ, zero, suc, ◌+◌, ◌-◌, ◌*◌, ◌/◌, ◌≤◌, ◌<◌}
use native.Mathlib.Omega.{arith}
use mathlib.Core.Path.{◌≡◌, refl, sym, ◌∙◌, ap}
use mathlib.Core.List.{List}
use mathlib.Core.Bool.{Bool, true, false}
use lib.Dec.{ltb}
use lib.ListN.{get_or}
use borrow.Author.Tests.{eq-eqb, ltb-true, ltb-false}
use Rattle.definitions.specs.Evaluate.{Quad}
use Rattle.keys.specs.Keys.{graph_weight, quad_of, keys_from, rising, Splits, rows_from}
use Rattle.keys.proofs.Rise.{from_on}
use Rattle.scan.specs.Scan.{Places, candidate, fits, better, scan}
use Rattle.scan.specs.Codes.{sought_code, places_at}
use Rattle.scan.specs.declared.Four.{Four}
use Rattle.scan.proofs.Places.{at-free, at-fixed, fit}
use Rattle.scan.proofs.ScanLaws.{scan-top}
use Rattle.scan.proofs.StretchScan.{only}

abbrev pub within : Four → (graph : ℕ) → Four
within codes g = record { graph = g; subject = codes.subject; property = codes.property; object = codes.object }

scan-split : (P : Places) (lo : ℕ) (f : List ℕ) (a r i best : ℕ)
    → scan P lo best (rows_from (a + r) f i) ≡ scan P lo (scan P lo best (rows_from a f i)) (rows_from r f (i + a))
unfolding scan rows_from
scan-split P lo f zero r i best =
    let e : i + 0 ≡ i = omega arith in
    let z : 0 + r ≡ r = omega arith in
    rw (e, z) refl
scan-split P lo f (suc a) r i best =
    let e : i + suc a ≡ i + 1 + a = omega arith in
    let z : suc a + r ≡ suc (a + r) = omega arith in
    rw (e, z) (scan-split P lo f a r (i + 1) (better P lo best (quad_of (get_or f i 0))))

module _ (codes : Four) (lo g : ℕ) (known : g < sought_code) (free : sought_code < codes.graph) where
  same-better : (best : ℕ) (q : Quad) → q.graph ≡ g → better (places_at (within codes g)) lo best q ≡ better (places_at codes) lo best q
  unfolding better fits candidate
  same-better best q e = rw (at-free codes.graph (λ z. omega arith) (omega arith), at-fixed g known, eq-eqb q.graph g e) refl

  module _ (f : List ℕ) where
    same-scan : (m i best : ℕ) → ((j : ℕ) → i ≤ j → j < i + m → (quad_of (get_or f j 0)).graph ≡ g)
        → scan (places_at (within codes g)) lo best (rows_from m f i) ≡ scan (places_at codes) lo best (rows_from m f i)
    unfolding scan rows_from
    same-scan zero i best h = refl
    same-scan (suc m) i best h =
        ap (λ b. scan (places_at (within codes g)) lo b (rows_from m f (i + 1))) (same-better best (quad_of (get_or f i 0)) (h i (omega arith) (omega arith)))
        ∙ same-scan m (i + 1) (better (places_at codes) lo best (quad_of (get_or f i 0))) (λ j a b. h j (omega arith) (omega arith))

    module _ (n : ℕ) (rise : rising (keys_from n f 0) ≡ true) (i : ℕ) (inside : i < n) (here : g ≡ (quad_of (get_or f i 0)).graph) (next : ℕ)
        (s : Splits f n (g * graph_weight + (graph_weight - 1) + 1) next) where
      -- the graph's stretch goes on to the next graph
      advances : i < next
      unfolding quad_of
      advances = go (ltb i next) refl
        where
          go : (b : Bool) → ltb i next ≡ b → i < next
          go true e = ltb-true i next e
          go false e = absurd (omega (arith, s.above i (ltb-false i next e) inside))

      apart_next : (j k : ℕ) → j < next → next ≤ k → k < n → get_or f j 0 / graph_weight < get_or f k 0 / graph_weight
      apart_next j k a b c = omega (arith, s.below j a, s.above k b c)

      module _ (apart : (j k : ℕ) → j < i → i ≤ k → k < n → get_or f j 0 / graph_weight < get_or f k 0 / graph_weight) where
        in_graph : (j : ℕ) → i ≤ j → j < next → (quad_of (get_or f j 0)).graph ≡ g
        unfolding quad_of
        in_graph j a b = let w = s.within in omega (arith, s.below j b, from_on f n rise i j a (omega arith))

        before : (j : ℕ) → j < i → fits (places_at (within codes g)) lo (quad_of (get_or f j 0)) ≡ true → ⊥
        unfolding quad_of
        before j a t = omega (arith, (fit (within codes g) lo (quad_of (get_or f j 0)) t).graph known, apart j i a (omega arith) inside)

        after : (j : ℕ) → next ≤ j → j < n → fits (places_at (within codes g)) lo (quad_of (get_or f j 0)) ≡ true → ⊥
        unfolding quad_of
        after j a b t = omega (arith, (fit (within codes g) lo (quad_of (get_or f j 0)) t).graph known, s.above j a b)

        -- the next graph's stretch begins further on, the best so far has not grown, and what is left gives what the whole gives
        pub passed : (whole best r : ℕ) → whole ≡ scan (places_at codes) lo best (rows_from (n - i) f i)
            → r ≡ scan (places_at (within codes g)) lo best (rows_from n f 0)
            → (i < next) × (r ≤ best) × (whole ≡ scan (places_at codes) lo r (rows_from (n - next) f next))
            × ((j k : ℕ) → j < next → next ≤ k → k < n → get_or f j 0 / graph_weight < get_or f k 0 / graph_weight)
        passed whole best r so_far e =
            let o = advances in
            let w = s.within in
            let m : n - i ≡ next - i + (n - next) = omega arith in
            let z : i + (next - i) ≡ next = omega arith in
            let p : r ≡ scan (places_at codes) lo best (rows_from (next - i) f i) =
            e ∙ (only (places_at (within codes g)) lo f n i next best (omega arith) w before after
            ∙ same-scan (next - i) i best (λ j a b. in_graph j a (omega arith))) in (
              o,
              omega (arith, p, scan-top (places_at codes) lo best (rows_from (next - i) f i)),
              so_far ∙ (ap (λ k. scan (places_at codes) lo best (rows_from k f i)) m
                  ∙ (scan-split (places_at codes) lo f (next - i) (n - next) i best
                  ∙ (λ t. scan (places_at codes) lo (sym p t) (rows_from (n - next) f (z t))))),
              apart_next,
            )
