-- The scan of a stretch, and that it gives what the whole table gives.
use Rattle.std.specs.Prelude.{Some}
use Prim.Native.Nat.{ℕ, zero, suc, ◌+◌, ◌-◌, ◌*◌, ◌%◌, ◌≤◌, ◌<◌, min}
use native.Mathlib.Omega.{arith}
use mathlib.Core.Path.{◌≡◌, refl, sym, ◌∙◌, ap}
use mathlib.Core.List.{List}
use mathlib.Core.Bool.{Bool, true, false, cond, ◌&&◌, ◌||◌, false≢true}
use lib.Dec.{leb, ltb}
use lib.ListN.{get_or}
use borrow.Author.Tests.{lt-ltb, le-leb, ltb-true, ltb-false, leb-true, leb-false}
use Rattle.definitions.specs.Evaluate.{Quad}
use Rattle.keys.specs.Keys.{place_limit, key_limit, property_weight, subject_weight, quad_of, keys_from, rising, Splits, rows_from}
use Rattle.keys.proofs.Rise.{from_on}
use Rattle.scan.specs.Scan.{Places, agrees, candidate, fits, better, scan}
use Rattle.scan.specs.Codes.{sought_code, place_at, places_at, row_of, StretchOf, GivenBy, PassedOver}
use Rattle.scan.specs.declared.Four.{Four}
use Rattle.scan.specs.declared.Stretch.{Stretch}
use Rattle.scan.proofs.ScanLaws.{better-top, scan-top, scan-floor}
use Rattle.scan.proofs.Places.{Fit, fit, gives-last}

-- nothing is below the floor
pub idle : (P : Places) (lo best : ℕ) (rs : List Quad) → best ≤ lo → best ≡ scan P lo best rs
idle P lo best rs h = omega (arith, scan-top P lo best rs, scan-floor P lo best best rs h (omega arith))

module _ (P : Places) (lo : ℕ) where
  -- ── one quad ──────────────────────────────────────────────────────────────────────────────

  -- a quad that gives no less
  pub no-better : (best : ℕ) (r : Quad) → (fits P lo r ≡ true → best ≤ candidate P lo r) → better P lo best r ≡ best
  unfolding better
  no-better best r h = go (fits P lo r) (ltb (candidate P lo r) best) refl refl
    where
      go : (a b : Bool) → fits P lo r ≡ a → ltb (candidate P lo r) best ≡ b → cond (a && b) (candidate P lo r) best ≡ best
      go true true e f = omega (arith, h e, ltb-true (candidate P lo r) best f)
      go true false e f = refl
      go false b e f = refl

  -- a quad that gives less fits, and gives it
  pub is-better : (best c : ℕ) (r : Quad) → c ≡ better P lo best r → c < best → (fits P lo r ≡ true) × (c ≡ candidate P lo r)
  unfolding better
  is-better best c r e h = go (fits P lo r) (ltb (candidate P lo r) best) refl e
    where
      go : (a b : Bool) → fits P lo r ≡ a → c ≡ cond (a && b) (candidate P lo r) best → (fits P lo r ≡ true) × (c ≡ candidate P lo r)
      go true true f g = (f, g)
      go true false f g = absurd (omega arith)
      go false b f g = absurd (omega arith)

  pub not-above : (best c : ℕ) (r : Quad) → c ≡ better P lo best r → c ≤ best
  not-above best c r e = omega (arith, better-top P lo best r)

  -- ── a stretch ─────────────────────────────────────────────────────────────────────────────

  module _ (f : List ℕ) where
    -- quads that give no less than the best so far
    pub keeps : (m i best : ℕ) → ((j : ℕ) → i ≤ j → j < i + m → fits P lo (quad_of (get_or f j 0)) ≡ true → best ≤ candidate P lo (quad_of (get_or f j 0)))
        → scan P lo best (rows_from m f i) ≡ best
    unfolding scan rows_from
    keeps zero i best h = refl
    keeps (suc m) i best h =
        ap (λ b. scan P lo b (rows_from m f (i + 1))) (no-better best (quad_of (get_or f i 0)) (h i (omega arith) (omega arith)))
        ∙ keeps m (i + 1) best (λ j a b. h j (omega arith) (omega arith))

    -- such quads before others
    skip : (m r i best : ℕ) → ((j : ℕ) → i ≤ j → j < i + m → fits P lo (quad_of (get_or f j 0)) ≡ true → best ≤ candidate P lo (quad_of (get_or f j 0)))
        → scan P lo best (rows_from (m + r) f i) ≡ scan P lo best (rows_from r f (i + m))
    unfolding scan rows_from
    skip zero r i best h =
        let e : i + 0 ≡ i = omega arith in
        let z : 0 + r ≡ r = omega arith in
        rw (e, z) refl
    skip (suc m) r i best h =
        let e : i + suc m ≡ i + 1 + m = omega arith in
        let z : suc m + r ≡ suc (m + r) = omega arith in
        let n = no-better best (quad_of (get_or f i 0)) (h i (omega arith) (omega arith)) in
        rw (e, z) (ap (λ b. scan P lo b (rows_from (m + r) f (i + 1))) n ∙ skip m r (i + 1) best (λ j a b. h j (omega arith) (omega arith)))

    -- quads that do not fit after others
    stop : (r m i best : ℕ) → ((j : ℕ) → i + r ≤ j → j < i + r + m → fits P lo (quad_of (get_or f j 0)) ≡ true → ⊥)
        → scan P lo best (rows_from (r + m) f i) ≡ scan P lo best (rows_from r f i)
    unfolding scan rows_from
    stop zero m i best h =
        let z : 0 + m ≡ m = omega arith in
        rw z (keeps m i best (λ j a b t. absurd (h j (omega arith) (omega arith) t)))
    stop (suc r) m i best h =
        let z : suc r + m ≡ suc (r + m) = omega arith in
        rw z (stop r m (i + 1) (better P lo best (quad_of (get_or f i 0))) (λ j a b. h j (omega arith) (omega arith)))

    -- the whole is the stretch outside of which no quad fits
    pub only : (n from to end : ℕ) → from ≤ to → to ≤ n → ((j : ℕ) → j < from → fits P lo (quad_of (get_or f j 0)) ≡ true → ⊥)
        → ((j : ℕ) → to ≤ j → j < n → fits P lo (quad_of (get_or f j 0)) ≡ true → ⊥)
        → scan P lo end (rows_from n f 0) ≡ scan P lo end (rows_from (to - from) f from)
    only n from to end a b before after =
        let e : n ≡ from + (n - from) = omega arith in
        let g : n - from ≡ to - from + (n - to) = omega arith in
        let z : 0 + from ≡ from = omega arith in
        ap (λ m. scan P lo end (rows_from m f 0)) e
        ∙ (skip from (n - from) 0 end (λ j k l t. absurd (before j (omega arith) t))
        ∙ (ap (λ i. scan P lo end (rows_from (n - from) f i)) z
        ∙ (ap (λ m. scan P lo end (rows_from m f from)) g
        ∙ stop (to - from) (n - to) from end (λ j k l. after j (omega arith) (omega arith)))))

    -- ── the loop ────────────────────────────────────────────────────────────────────────────

    pub started : (n end : ℕ) → scan P lo end (rows_from n f 0) ≡ scan P lo end (rows_from (n - 0) f 0)
    started n end = let e : n - 0 ≡ n = omega arith in rw e refl

    module _ (n whole best i : ℕ) (so_far : whole ≡ scan P lo best (rows_from (n - i) f i)) where
      pub turn : i < n → (next : ℕ) → next ≡ better P lo best (quad_of (get_or f i 0)) → whole ≡ scan P lo next (rows_from (n - (i + 1)) f (i + 1))
      unfolding rows_from scan
      turn h next e = let m : n - i ≡ suc (n - (i + 1)) = omega arith in so_far ∙ rw (m, e) refl

      pub ends : n ≤ i → best ≡ whole
      unfolding rows_from scan
      ends h = let m : n - i ≡ 0 = omega arith in sym (so_far ∙ rw m refl)

      pub done : best ≤ lo → best ≡ whole
      done h = idle P lo best (rows_from (n - i) f i) h ∙ sym so_far

-- ── one key, as the code has it ─────────────────────────────────────────────────────────────

module _ (codes : Four) (lo best key c : ℕ) (ec : c ≡ candidate (places_at codes) lo (quad_of key)) where
  abbrev result : ℕ
  result = better (places_at codes) lo best (quad_of key)

  -- what it gives is below the floor, or no less than the best
  pub row-far : ltb c lo || leb best c ≡ true → best ≡ result
  row-far = go (ltb c lo) (leb best c) refl refl
    where
      go : (a b : Bool) → ltb c lo ≡ a → leb best c ≡ b → a || b ≡ true → best ≡ result
      go true b p q e =
          sym (no-better (places_at codes) lo best (quad_of key) (λ t. absurd (omega (arith, (fit codes lo (quad_of key) t).floor, ltb-true c lo p))))
      go false true p q e = sym (no-better (places_at codes) lo best (quad_of key) (λ t. omega (arith, leb-true best c q)))
      go false false p q e = absurd (false≢true e)

  module _ (near : ltb c lo || leb best c ≡ false) (row : Four) (er : row_of row ≡ quad_of key) (stands : Bool)
      (es : stands ≡ agrees (place_at codes.graph) c row.graph && (agrees (place_at codes.subject) c row.subject
      && (agrees (place_at codes.property) c row.property && agrees (place_at codes.object) c row.object))) where
    within : (lo ≤ c) × (c < best)
    within = go (ltb c lo) (leb best c) refl refl near
      where
        go : (a b : Bool) → ltb c lo ≡ a → leb best c ≡ b → a || b ≡ false → (lo ≤ c) × (c < best)
        go false false p q e = (ltb-false c lo p, leb-false best c q)
        go false true p q e = absurd (false≢true (sym e))
        go true b p q e = absurd (false≢true (sym e))

    one-row : cond (leb lo c && stands && ltb c best) c best ≡ better (places_at codes) lo best (row_of row)
    unfolding better fits
    one-row = let e = ec ∙ sym (ap (candidate (places_at codes) lo) er) in rw (es, e) refl

    row_is : cond (leb lo c && stands && ltb c best) c best ≡ result
    row_is = one-row ∙ ap (better (places_at codes) lo best) er

    pub row-taken : stands ≡ true → c ≡ result
    row-taken e = rw (e, le-leb lo c within.0, lt-ltb c best within.1) at row_is

    pub row-left : stands ≡ false → best ≡ result
    row-left e = rw (e, le-leb lo c within.0) at row_is

-- ── keys passed over ────────────────────────────────────────────────────────────────────────

-- a known place has its number in a quad that fits
module _ (f : List ℕ) (codes : Four) (lo best from to : ℕ) where
  pub by-subject : codes.subject < sought_code → ((j : ℕ) → from ≤ j → j < to → (quad_of (get_or f j 0)).subject ≡ codes.subject → ⊥) → PassedOver f codes lo best from to
  by-subject h over j a b t = absurd (over j a b ((fit codes lo (quad_of (get_or f j 0)) t).subject h))

  pub by-property : codes.property < sought_code → ((j : ℕ) → from ≤ j → j < to → (quad_of (get_or f j 0)).property ≡ codes.property → ⊥) → PassedOver f codes lo best from to
  by-property h over j a b t = absurd (over j a b ((fit codes lo (quad_of (get_or f j 0)) t).property h))

  pub by-object : codes.object < sought_code → ((j : ℕ) → from ≤ j → j < to → (quad_of (get_or f j 0)).object ≡ codes.object → ⊥) → PassedOver f codes lo best from to
  by-object h over j a b t = absurd (over j a b ((fit codes lo (quad_of (get_or f j 0)) t).object h))

  -- where the object is what a quad gives
  pub by-range : GivenBy codes (Some 0) → ((j : ℕ) → get_or f j 0 < key_limit) → codes.property < sought_code
      → ((j : ℕ) → from ≤ j → j < to → codes.property * property_weight + lo ≤ get_or f j 0 % subject_weight
      → get_or f j 0 % subject_weight < codes.property * property_weight + best → ⊥) → PassedOver f codes lo best from to
  unfolding quad_of
  by-range gives small h over j a b t = go (ltb (candidate (places_at codes) lo (quad_of (get_or f j 0))) best) refl
    where
      k : ℕ
      k = get_or f j 0

      object : k % place_limit ≡ candidate (places_at codes) lo (quad_of k)
      object = omega (arith, gives-last lo k, gives lo k (small j))

      F : Fit codes lo (quad_of k)
      F = fit codes lo (quad_of k) t

      go : (s : Bool) → ltb (candidate (places_at codes) lo (quad_of k)) best ≡ s → best ≤ candidate (places_at codes) lo (quad_of k)
      go true q = absurd (over j a b (omega (arith, object, F.floor, F.property h)) (omega (arith, object, F.property h, ltb-true _ best q)))
      go false q = ltb-false _ best q

-- ── the walk ────────────────────────────────────────────────────────────────────────────────

module _ (codes : Four) (lo : ℕ) (f : List ℕ) (n : ℕ) (small : (j : ℕ) → get_or f j 0 < key_limit) where
  pub passed_over : (whole best i next : ℕ) → whole ≡ scan (places_at codes) lo best (rows_from (n - i) f i) → i ≤ next → next ≤ n → PassedOver f codes lo best i next
      → whole ≡ scan (places_at codes) lo best (rows_from (n - next) f next)
  passed_over whole best i next so_far a b over =
      let m : n - i ≡ next - i + (n - next) = omega arith in
      let z : i + (next - i) ≡ next = omega arith in
      so_far ∙ (ap (λ k. scan (places_at codes) lo best (rows_from k f i)) m
      ∙ (skip (places_at codes) lo f (next - i) (n - next) i best (λ j k l t. over j k (omega arith) t)
      ∙ ap (λ k. scan (places_at codes) lo best (rows_from (n - next) f k)) z))

  module _ (part : Stretch) (holds : StretchOf codes lo part) (r : rising (keys_from n f 0) ≡ true) where
    module _ (whole best i : ℕ) (so_far : whole ≡ scan (places_at codes) lo best (rows_from (n - i) f i)) (inside : i < n) where
      pub past : part.top < get_or f i 0 → best ≡ whole
      past h =
          sym (so_far ∙ keeps (places_at codes) lo f (n - i) i best (λ j a b t.
          absurd (omega (arith, holds.1 (get_or f j 0) (small j) t, from_on f n r i j a (omega arith)))))

      -- the first key of a stretch all of whose keys fit
      module _ (full : part.whole ≡ true) (low : part.low ≤ get_or f i 0) (c : ℕ) (e : c ≡ candidate (places_at codes) lo (quad_of (get_or f i 0))) where
        no_less : (j : ℕ) → i ≤ j → j < n → fits (places_at codes) lo (quad_of (get_or f j 0)) ≡ true → c ≤ candidate (places_at codes) lo (quad_of (get_or f j 0))
        no_less j a b t = omega (arith, (holds.3 full).1 (get_or f i 0) (get_or f j 0) low (from_on f n r i j a b) (holds.1 (get_or f j 0) (small j) t).1)

        pub first-high : best ≤ c → best ≡ whole
        first-high h = sym (so_far ∙ keeps (places_at codes) lo f (n - i) i best (λ j a b t. omega (arith, no_less j a (omega arith) t)))

        taken : get_or f i 0 ≤ part.top → c < best → c ≡ better (places_at codes) lo best (quad_of (get_or f i 0))
        unfolding better
        taken l h =
            let q = quad_of (get_or f i 0) in
            e ∙ rw ((holds.3 full).0 (get_or f i 0) low l, lt-ltb (candidate (places_at codes) lo q) best (omega arith)) refl

        pub first-low : get_or f i 0 ≤ part.top → c < best → c ≡ whole
        first-low l h =
            sym (turn (places_at codes) lo f n whole best i so_far inside c (taken l h)
            ∙ keeps (places_at codes) lo f (n - (i + 1)) (i + 1) c (λ j a b t. no_less j (omega arith) (omega arith) t))

        -- the lesser of the two
        pub first-is : get_or f i 0 ≤ part.top → (m : ℕ) → m ≡ min best c → m ≡ whole
        first-is l m e = go (ltb c best) refl
          where
            go : (s : Bool) → ltb c best ≡ s → m ≡ whole
            go true q = let h = ltb-true c best q in let k : m ≡ c = omega arith in k ∙ first-low l h
            go false q = let h = ltb-false c best q in let k : m ≡ best = omega arith in k ∙ first-high h

      module _ (end c : ℕ) (still : part.rises ≡ true → best ≡ end) (e : c ≡ better (places_at codes) lo best (quad_of (get_or f i 0))) where
        next : whole ≡ scan (places_at codes) lo c (rows_from (n - (i + 1)) f (i + 1))
        next = turn (places_at codes) lo f n whole best i so_far inside c e

        -- the first that fits
        first : part.rises ≡ true → c < end → c ≡ whole
        first up h =
            let b = is-better (places_at codes) lo best c (quad_of (get_or f i 0)) e (omega (arith, still up)) in
            sym (next ∙ keeps (places_at codes) lo f (n - (i + 1)) (i + 1) c (λ j a l t.
            let u = holds.2 up (get_or f i 0) (get_or f j 0) (holds.1 (get_or f i 0) (small i) b.0).0 (from_on f n r i j (omega arith) (omega arith))
            (holds.1 (get_or f j 0) (small j) t).1 in
            omega (arith, b.1)))

        pub settled : leb c lo || part.rises && ltb c end ≡ true → c ≡ whole
        settled = go (leb c lo) part.rises (ltb c end) refl refl refl
          where
            go : (a b d : Bool) → leb c lo ≡ a → part.rises ≡ b → ltb c end ≡ d → a || b && d ≡ true → c ≡ whole
            go true b d p q s t = idle (places_at codes) lo c (rows_from (n - (i + 1)) f (i + 1)) (leb-true c lo p) ∙ sym next
            go false true true p q s t = first q (ltb-true c end s)
            go false true false p q s t = absurd (false≢true t)
            go false false d p q s t = absurd (false≢true t)

        pub unsettled : leb c lo || part.rises && ltb c end ≡ false
            → (whole ≡ scan (places_at codes) lo c (rows_from (n - (i + 1)) f (i + 1))) × (part.rises ≡ true → c ≡ end)
        unsettled u = (next, go (leb c lo) part.rises (ltb c end) refl refl u)
          where
            top : c ≤ best
            top = not-above (places_at codes) lo best c (quad_of (get_or f i 0)) e

            go : (a b d : Bool) → part.rises ≡ b → ltb c end ≡ d → a || b && d ≡ false → part.rises ≡ true → c ≡ end
            go a b false q s t up = omega (arith, top, still up, ltb-false c end s)
            go true b true q s t up = absurd (false≢true (sym t))
            go false true true q s t up = absurd (false≢true (sym t))
            go false false true q s t up = absurd (false≢true (sym q ∙ up))

    -- the whole: before the place of the stretch's low none fits
    pub from-there : (from : ℕ) → Splits f n part.low from → (end res : ℕ)
        → res ≡ scan (places_at codes) lo end (rows_from (n - from) f from) → res ≡ scan (places_at codes) lo end (rows_from n f 0)
    from-there from a end res e =
        e ∙ sym (only (places_at codes) lo f n from n end a.within (omega arith)
        (λ j h t. omega (arith, a.below j h, holds.1 (get_or f j 0) (small j) t)) (λ j h k t. absurd (omega arith)))
