-- One kind of query: what the code's seek gives passes over no number with which the query holds.
use Prim.Native.Nat.{ℕ, ◌≤◌, min}
use native.Mathlib.Omega.{arith}
use mathlib.Core.Path.{◌≡◌, refl, sym, ap, ◌∙◌, subst, subst⁻¹}
use mathlib.Core.List.{List}
use mathlib.Core.Bool.{Bool, true, false, cond, ◌&&◌, ◌||◌}
use mathlib.Core.Option.{Option, none, some}
use lib.Dec.{T, eqb, eqb→eq}
use Rattle.definitions.specs.Tree.{Name, var, const, Cond, Query}
use Rattle.definitions.specs.Outcome.{Outcome, ok, fault, ◌>>=◌}
use Rattle.definitions.specs.Evaluate.{Bindings, Quad, stored, number_of, condition, query}
use Rattle.definitions.specs.Evaluated.{gives}
use Rattle.definitions.specs.Truth.{is_true}
use Rattle.definitions.specs.declared.Truth.{Truth}
use Rattle.laws.proofs.Tests.{and_left, and_right, true_is}
use Rattle.scan.specs.Scan.{sought, scan}
use Rattle.scan.specs.Codes.{places_at}
use Rattle.scan.specs.declared.Four.{Four}
use Rattle.scan.proofs.ScanLaws.{Meets, Matches, row-top, row_fits, scan-floor, scan-here}
use Rattle.query.specs.Known.{passes, known as known_place, place_of, places_of, comes_to}
use Rattle.query.specs.Codes.{bindings_of, Coded}
use Rattle.query.specs.StoreLent.{setting_in}
use Rattle.query.specs.Eval.{MayOf}
use Rattle.query.specs.declared.Context.{Context}
use Rattle.query.proofs.CodeLaws.{code-place}
use Rattle.query.proofs.Outcomes.{passes-ok}
use Rattle.query.proofs.Patterns.{pattern-ok}
use Rattle.seeking.specs.Seeking.{Keeps, SeekOf}
use Rattle.seeking.proofs.Filters.{may-come}

-- ── a name's place ──────────────────────────────────────────────────────────────────────────

module _ (γ δ : Bindings) (u : Keeps γ δ) (v j : ℕ) (is : δ v ≡ some j) where
  place-meets : (n : Name) (x : ℕ) → number_of δ n ≡ some x → Meets j (place_of γ v n) x
  place-meets (const c) x f = cc
  place-meets (var w) x f = go (eqb w v) (eqb→eq w v) (γ w) (u w)
    where
      go : (b : Bool) → (T b → w ≡ v) → (o : Option ℕ) → ((i : ℕ) → o ≡ some i → δ w ≡ some i) → Meets j (cond b sought (known_place o)) x
      go true s o k = let r = s tt in cc
      go false s none k = tt
      go false s (some i) k = let r = k i refl in cc

-- ── both and union, where a fault is no pass ────────────────────────────────────────────────

pub both-pass : (m n : Outcome Bool) → T (passes (m >>= λ a. n >>= λ b. ok (a && b))) → T (passes m) × T (passes n)
unfolding ◌>>=◌
both-pass (fault x) n h = absurd h
both-pass (ok a) (fault x) h = absurd h
both-pass (ok a) (ok b) h = (and_left a b h, and_right a b h)

union-pass : (m n : Outcome Bool) (P : Type 0) → (T (passes m) → P) → (T (passes n) → P) → T (passes (m >>= λ a. n >>= λ b. ok (a || b))) → P
unfolding ◌>>=◌
union-pass (fault x) n P f g h = absurd h
union-pass (ok a) (fault x) P f g h = absurd h
union-pass (ok true) (ok b) P f g h = f tt
union-pass (ok false) (ok b) P f g h = g h

filter-pass : (m : Outcome Truth) → T (passes (m >>= λ a. ok (is_true a))) → T (gives (comes_to true) m)
unfolding ◌>>=◌ comes_to
filter-pass (fault x) h = absurd h
filter-pass (ok a) h = h

-- ── the seek ────────────────────────────────────────────────────────────────────────────────

module _ (ranks table known : List ℕ) (x : Context) (rows : List Quad) (v : ℕ) where
  abbrev Seeks : (lo least : ℕ) → Query → Type 0
  Seeks lo least q = SeekOf ranks table known x rows v lo least q

  -- where nothing is passed over
  pub stays : (lo : ℕ) (q : Query) → Seeks lo lo q
  stays lo q = (omega arith, λ S terms t sure δ u j is low h. low)

  -- where nothing below the count is left
  pub ended : (lo number : ℕ) (q : Query) → x.count ≤ number → Seeks lo number q → Seeks lo x.count q
  ended lo number q h k = (omega arith, λ S terms t sure δ u j is low y. omega (arith, h, k.1 S terms t sure δ u j is low y))

  pub pattern-seeks : (q : Query) (codes : Four) (lo least : ℕ) → Coded known v codes q → least ≡ scan (places_at codes) lo x.count rows → Seeks lo least q
  pattern-seeks (Query.both q r) codes lo least c = absurd c
  pattern-seeks (Query.union q r) codes lo least c = absurd c
  pattern-seeks (Query.filter c) codes lo least d = absurd d
  pattern-seeks Query.empty codes lo least c = absurd c
  pattern-seeks (Query.pattern g s p o) codes lo least c = λ e. (
    rw e (scan-floor (places_at codes) lo (min lo x.count) x.count rows (omega arith) (omega arith)),
    λ S terms t sure δ u j is low h.
        let σ = setting_in S ranks x in
        let γ = bindings_of known in
        let b = c.1 in
        let g' = code-place known v g b.0 in
        let s' = code-place known v s b.1 in
        let p' = code-place known v p b.2 in
        let o' = code-place known v o b.3 in
        let places = places_of γ v g s p o in
        let same : places_at codes ≡ places = ap places_at c.0 ∙ (λ i. record { graph = g' i; subject = s' i; property = p' i; object = o' i }) in
        let m = pattern-ok σ terms rows δ g s p o true (passes-ok (query σ terms rows δ (Query.pattern g s p o)) h) in
        let r = m.quad in
        let fit : Matches places j r = record {
          graph = place-meets γ δ u v j is g r.graph m.graph;
          subject = place-meets γ δ u v j is s r.subject m.subject;
          property = place-meets γ δ u v j is p r.property m.property;
          object = place-meets γ δ u v j is o r.object m.object;
        } in
        let found : scan places lo x.count rows ≤ j =
        omega (arith, scan-here places lo x.count r rows (true_is (stored r rows) m.is_stored) (row_fits places lo j low r fit), row-top places lo j low r fit) in
        subst⁻¹ (λ n. n ≤ j) (e ∙ ap (λ P. scan P lo x.count rows) same) found,
  )

  pub both-seeks : (q r : Query) (lo a b : ℕ) → Seeks lo a q → Seeks a b r → Seeks lo b (Query.both q r)
  unfolding query
  both-seeks q r lo a b h k = (
    omega (arith, h.0, k.0),
    λ S terms t sure δ u j is low p.
        let σ = setting_in S ranks x in
        let g = both-pass (query σ terms rows δ q) (query σ terms rows δ r) p in
        k.1 S terms t sure.1 δ u j is (h.1 S terms t sure.0 δ u j is low g.0) g.1,
  )

  -- the first part alone
  pub first-seeks : (q r : Query) (lo a : ℕ) → Seeks lo a q → Seeks lo a (Query.both q r)
  unfolding query
  first-seeks q r lo a h = (
    h.0,
    λ S terms t sure δ u j is low p.
        let σ = setting_in S ranks x in
        h.1 S terms t sure.0 δ u j is low (both-pass (query σ terms rows δ q) (query σ terms rows δ r) p).0,
  )

  pub union-seeks : (q r : Query) (lo a b least : ℕ) → least ≡ min a b → Seeks lo a q → Seeks lo b r → Seeks lo least (Query.union q r)
  unfolding query
  union-seeks q r lo a b least e h k = (
    omega (arith, h.0, k.0),
    λ S terms t sure δ u j is low p.
        let σ = setting_in S ranks x in
        union-pass (query σ terms rows δ q) (query σ terms rows δ r) (least ≤ j)
        (λ y. omega (arith, e, h.1 S terms t sure.0 δ u j is low y)) (λ y. omega (arith, e, k.1 S terms t sure.1 δ u j is low y)) p,
  )

  -- a filter that cannot hold
  pub cannot-seeks : (c : Cond) (lo : ℕ) {b : Bool} → MayOf ranks table known x true b c → b ≡ false → Seeks lo x.count (Query.filter c)
  unfolding query
  cannot-seeks c lo h e = (
    omega arith,
    λ S terms t sure δ u j is low p.
        let σ = setting_in S ranks x in
        let γ = bindings_of known in
        absurd (subst T (sym (h S terms rows t sure) ∙ e) (may-come σ terms rows γ δ u true c (filter-pass (condition σ terms rows δ c) p))),
  )
