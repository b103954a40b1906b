-- The stretch of each kind of pattern: the keys that fit lie in it; where the next place is sought what they give rises with them; where the places
-- after that one are free they all fit.
use Prim.Native.Nat.{ℕ, ◌+◌, ◌-◌, ◌*◌, ◌≤◌, ◌<◌}
use native.Mathlib.Omega.{arith}
use mathlib.Core.Path.{◌≡◌, refl, sym, subst}
use mathlib.Core.Bool.{Bool, true, false, cond, ◌&&◌, false≢true}
use lib.Dec.{eqb, ltb}
use borrow.Author.Tests.{eq-eqb, ne_eqb, eqb-true, eqb-false, ltb-true}
use Rattle.definitions.specs.Evaluate.{Quad}
use Rattle.laws.proofs.Tests.{is_true}
use Rattle.keys.specs.Keys.{quad_of, key_limit, graph_weight, subject_weight, property_weight}
use Rattle.keys.proofs.Rise.{and_left, and_right}
use Rattle.scan.specs.Scan.{fits}
use Rattle.scan.specs.Codes.{sought_code, place_at, places_at, Covers, Climbs, Fills, StretchOf, open_at}
use Rattle.scan.specs.declared.Four.{Four}
use Rattle.scan.specs.declared.Stretch.{Stretch}
use Rattle.scan.proofs.ScanLaws.{Meets, Matches, row_fits}
use Rattle.scan.proofs.Places.{at-sought, at-fixed, at-free, fit, gives-graph, gives-subject, gives-property, gives-object, gives-floor}

not-sought : {a : ℕ} → a < sought_code → a ≡ sought_code → ⊥
not-sought h e = omega arith

-- ── what stands at a place ──────────────────────────────────────────────────────────────────

module _ (j code x : ℕ) where
  is_known : code < sought_code → x ≡ code → Meets j (place_at code) x
  is_known h e = rw (at-fixed code h) e

  is-sought : code ≡ sought_code → x ≡ j → Meets j (place_at code) x
  is-sought h e = rw (at-sought code h) e

  is_free : sought_code ≤ code → (code ≡ sought_code → ⊥) → Meets j (place_at code) x
  is_free h d = rw (at-free code d h) tt

-- a place that is free
module _ (code : ℕ) (e : ltb sought_code code ≡ true) where
  unsought : code ≡ sought_code → ⊥
  unsought s = omega (arith, ltb-true sought_code code e)

  anything : (j x : ℕ) → Meets j (place_at code) x
  anything j x = is_free j code x (omega (arith, ltb-true sought_code code e)) unsought

matched : (codes : Four) (lo j : ℕ) (q : Quad) → lo ≤ j → Matches (places_at codes) j q → fits (places_at codes) lo q ≡ true
matched codes lo j q low m = is_true (fits (places_at codes) lo q) (row_fits (places_at codes) lo j low q m)

-- ── an open place: sought, or free ──────────────────────────────────────────────────────────

module _ (code base floor top : ℕ) (whole : Bool) where
  pub from-floor : code ≡ sought_code → record { low = floor; top = top; rises = true; whole = whole } ≡ open_at code base floor top whole
  unfolding open_at
  from-floor e = rw (eq-eqb code sought_code e) refl

  pub from-base : (code ≡ sought_code → ⊥) → record { low = base; top = top; rises = false; whole = whole } ≡ open_at code base floor top whole
  unfolding open_at
  from-base d = rw (ne_eqb code sought_code d) refl

module _ (codes : Four) (lo code base floor top : ℕ) (whole : Bool) where
  either : (low : code ≡ sought_code → floor ≤ top) → (base ≤ top) → (code ≡ sought_code → Covers codes lo floor top) → Covers codes lo base top
      → (code ≡ sought_code → Climbs codes lo floor top) → (whole ≡ true → code ≡ sought_code → Fills codes lo floor top)
      → (whole ≡ true → (code ≡ sought_code → ⊥) → Fills codes lo base top × Climbs codes lo base top)
      → (s : Stretch) → s ≡ open_at code base floor top whole → StretchOf codes lo s
  unfolding open_at
  either low under covers all climbs from_low from_all s e = subst (StretchOf codes lo) (sym e) (go (eqb code sought_code) refl)
    where
      go : (b : Bool) → eqb code sought_code ≡ b
          → StretchOf codes lo (cond b (record { low = floor; top = top; rises = true; whole = whole }) (record { low = base; top = top; rises = false; whole = whole }))
      go true f = let k = eqb-true code sought_code f in (low k, covers k, λ t. climbs k, λ t. (from_low t k, climbs k))
      go false f = (under, all, λ t. absurd (false≢true t), λ t. from_all t (eqb-false code sought_code f))

-- ── each kind ───────────────────────────────────────────────────────────────────────────────

module _ (codes : Four) (lo : ℕ) (l : lo < sought_code) where
  -- where no place is sought, every quad gives the floor
  level : (codes.graph ≡ sought_code → ⊥) → (codes.subject ≡ sought_code → ⊥) → (codes.property ≡ sought_code → ⊥) → (codes.object ≡ sought_code → ⊥)
      → (low top : ℕ) → Climbs codes lo low top
  level g s p o low top j k a b d = omega (arith, gives-floor codes lo (quad_of j) g s p o, gives-floor codes lo (quad_of k) g s p o)

  abbrev free_object : Bool
  free_object = ltb sought_code codes.object

  abbrev free_property : Bool
  free_property = ltb sought_code codes.property

  pub open-graph : sought_code ≤ codes.graph → (s : Stretch)
      → s ≡ open_at codes.graph 0 (lo * graph_weight) (key_limit - 1) (ltb sought_code codes.subject && (free_property && free_object)) → StretchOf codes lo s
  unfolding quad_of
  open-graph h =
      either codes lo codes.graph 0 (lo * graph_weight) (key_limit - 1) (ltb sought_code codes.subject && (free_property && free_object)) (λ e. omega arith) (omega arith)
      (λ e k s t. omega (arith, (fit codes lo (quad_of k) t).floor, gives-graph codes lo (quad_of k) e)) (λ k s t. omega arith)
      (λ e j k a b d. omega (arith, gives-graph codes lo (quad_of j) e, gives-graph codes lo (quad_of k) e))
      (λ t e k a b. matched codes lo (quad_of k).graph (quad_of k) (omega arith) (record {
        graph = is-sought _ codes.graph _ e refl;
        subject = anything codes.subject (s t) _ _;
        property = anything codes.property (p t) _ _;
        object = anything codes.object (o t) _ _;
      }))
      (λ t d. (
        λ k a b. matched codes lo lo (quad_of k) (omega arith) (record {
          graph = is_free lo codes.graph _ h d;
          subject = anything codes.subject (s t) _ _;
          property = anything codes.property (p t) _ _;
          object = anything codes.object (o t) _ _;
        }),
        level d (unsought codes.subject (s t)) (unsought codes.property (p t)) (unsought codes.object (o t)) _ _,
      ))
    where
      s : ltb sought_code codes.subject && (free_property && free_object) ≡ true → ltb sought_code codes.subject ≡ true
      s t = and_left (ltb sought_code codes.subject) (free_property && free_object) t

      p : ltb sought_code codes.subject && (free_property && free_object) ≡ true → free_property ≡ true
      p t = and_left free_property free_object (and_right (ltb sought_code codes.subject) (free_property && free_object) t)

      o : ltb sought_code codes.subject && (free_property && free_object) ≡ true → free_object ≡ true
      o t = and_right free_property free_object (and_right (ltb sought_code codes.subject) (free_property && free_object) t)

  module _ (g : codes.graph < sought_code) where
    abbrev graph : ℕ
    graph = codes.graph * graph_weight

    pub open-subject : sought_code ≤ codes.subject → (s : Stretch)
        → s ≡ open_at codes.subject graph (graph + lo * subject_weight) (graph + (graph_weight - 1)) (free_property && free_object) → StretchOf codes lo s
    unfolding quad_of
    open-subject h =
        either codes lo codes.subject graph (graph + lo * subject_weight) (graph + (graph_weight - 1)) (free_property && free_object) (λ e. omega arith) (omega arith)
        (λ e k s t. let F = fit codes lo (quad_of k) t in omega (arith, F.floor, F.graph g, gives-subject codes lo (quad_of k) (not-sought g) e))
        (λ k s t. omega (arith, (fit codes lo (quad_of k) t).graph g))
        (λ e j k a b d. omega (arith, gives-subject codes lo (quad_of j) (not-sought g) e, gives-subject codes lo (quad_of k) (not-sought g) e))
        (λ t e k a b. matched codes lo (quad_of k).subject (quad_of k) (omega arith) (record {
          graph = is_known _ codes.graph _ g (omega arith);
          subject = is-sought _ codes.subject _ e refl;
          property = anything codes.property (p t) _ _;
          object = anything codes.object (o t) _ _;
        }))
        (λ t d. (
          λ k a b. matched codes lo lo (quad_of k) (omega arith) (record {
            graph = is_known lo codes.graph _ g (omega arith);
            subject = is_free lo codes.subject _ h d;
            property = anything codes.property (p t) _ _;
            object = anything codes.object (o t) _ _;
          }),
          level (not-sought g) d (unsought codes.property (p t)) (unsought codes.object (o t)) _ _,
        ))
      where
        p : free_property && free_object ≡ true → free_property ≡ true
        p t = and_left free_property free_object t

        o : free_property && free_object ≡ true → free_object ≡ true
        o t = and_right free_property free_object t

    module _ (h : codes.subject < sought_code) where
      abbrev subject : ℕ
      subject = graph + codes.subject * subject_weight

      pub open-property : sought_code ≤ codes.property → (s : Stretch)
          → s ≡ open_at codes.property subject (subject + lo * property_weight) (subject + (subject_weight - 1)) free_object → StretchOf codes lo s
      unfolding quad_of
      open-property p =
          either codes lo codes.property subject (subject + lo * property_weight) (subject + (subject_weight - 1)) free_object (λ e. omega arith) (omega arith)
          (λ e k s t. let F = fit codes lo (quad_of k) t in omega (arith, F.floor, F.graph g, F.subject h, gives-property codes lo (quad_of k) (not-sought g) (not-sought h) e))
          (λ k s t. let F = fit codes lo (quad_of k) t in omega (arith, F.graph g, F.subject h))
          (λ e j k a b d. omega (arith, gives-property codes lo (quad_of j) (not-sought g) (not-sought h) e, gives-property codes lo (quad_of k) (not-sought g) (not-sought h) e))
          (λ o e k a b. matched codes lo (quad_of k).property (quad_of k) (omega arith) (record {
            graph = is_known _ codes.graph _ g (omega arith);
            subject = is_known _ codes.subject _ h (omega arith);
            property = is-sought _ codes.property _ e refl;
            object = anything codes.object o _ _;
          }))
          (λ o d. (
            λ k a b. matched codes lo lo (quad_of k) (omega arith) (record {
              graph = is_known lo codes.graph _ g (omega arith);
              subject = is_known lo codes.subject _ h (omega arith);
              property = is_free lo codes.property _ p d;
              object = anything codes.object o _ _;
            }),
            level (not-sought g) (not-sought h) d (unsought codes.object o) _ _,
          ))

      module _ (p : codes.property < sought_code) where
        abbrev property : ℕ
        property = subject + codes.property * property_weight

        pub open-object : sought_code ≤ codes.object → (s : Stretch)
            → s ≡ open_at codes.object property (property + lo) (property + (property_weight - 1)) true → StretchOf codes lo s
        unfolding quad_of
        open-object o =
            either codes lo codes.object property (property + lo) (property + (property_weight - 1)) true (λ e. omega arith) (omega arith)
            (λ e k s t.
            let F = fit codes lo (quad_of k) t in
            omega (arith, F.floor, F.graph g, F.subject h, F.property p, gives-object codes lo (quad_of k) (not-sought g) (not-sought h) (not-sought p) e))
            (λ k s t. let F = fit codes lo (quad_of k) t in omega (arith, F.graph g, F.subject h, F.property p))
            (λ e j k a b d.
            let given = gives-object codes lo (quad_of j) (not-sought g) (not-sought h) (not-sought p) e in
            omega (arith, given, gives-object codes lo (quad_of k) (not-sought g) (not-sought h) (not-sought p) e))
            (λ t e k a b. matched codes lo (quad_of k).object (quad_of k) (omega arith) (record {
              graph = is_known _ codes.graph _ g (omega arith);
              subject = is_known _ codes.subject _ h (omega arith);
              property = is_known _ codes.property _ p (omega arith);
              object = is-sought _ codes.object _ e refl;
            }))
            (λ t d. (
              λ k a b. matched codes lo lo (quad_of k) (omega arith) (record {
                graph = is_known lo codes.graph _ g (omega arith);
                subject = is_known lo codes.subject _ h (omega arith);
                property = is_known lo codes.property _ p (omega arith);
                object = is_free lo codes.object _ o d;
              }),
              level (not-sought g) (not-sought h) (not-sought p) d _ _,
            ))

        pub all_known : codes.object < sought_code
            → StretchOf codes lo (record { low = property + codes.object; top = property + codes.object; rises = false; whole = true })
        unfolding quad_of
        all_known o = (
          omega arith,
          λ k s t. let F = fit codes lo (quad_of k) t in omega (arith, F.graph g, F.subject h, F.property p, F.object o),
          λ e. absurd (false≢true e),
          λ t. (
            λ k a b. matched codes lo lo (quad_of k) (omega arith) (record {
              graph = is_known lo codes.graph _ g (omega arith);
              subject = is_known lo codes.subject _ h (omega arith);
              property = is_known lo codes.property _ p (omega arith);
              object = is_known lo codes.object _ o (omega arith);
            }),
            level (not-sought g) (not-sought h) (not-sought p) (not-sought o) _ _,
          ),
        )
