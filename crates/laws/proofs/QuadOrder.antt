-- The order of quads: of two different ones exactly one comes first; a quad put in its place leaves the others in order; quads in order are decided by which they are.
use Prim.Native.Nat.{ℕ, ◌<◌}
use native.Mathlib.Omega.{arith}
use mathlib.Core.Path.{◌≡◌, refl, sym, ◌∙◌, ap, ap₂, subst, subst⁻¹}
use mathlib.Core.Logic.{◌⊎◌, inl, inr, ⊎_elim}
use mathlib.Core.List.{List, [], ◌∷◌}
use mathlib.Core.Bool.{Bool, false, cond, not, ◌&&◌, ◌||◌}
use lib.Dec.{T, eqb, ltb, eqb→eq, eqb_refl, ltb→lt, lt→ltb, nltb→le, T_not, not_T}
use lib.ListN.{get_or}
use Rattle.definitions.specs.Lists.{some?, every, keep, distinct}
use Rattle.definitions.specs.Values.{before}
use Rattle.definitions.specs.Evaluate.{Quad, same_quad, stored}
use Rattle.definitions.specs.Machine.{numbers_of, quad_before, before_first, in_order, with_quad}
use Rattle.laws.specs.Lists.{All}
use Rattle.laws.proofs.Tests.{and_left, and_right, and_make, or_cases, or_left, or_right, decide, is_false, by-test}
use Rattle.laws.proofs.All.{all_keep, all-weaken}
use Rattle.laws.proofs.Equality.{same-quad, quad-refl}

-- ── lists of numbers ────────────────────────────────────────────────────────────────────────

-- one number and the rest
first-cases : (x y : ℕ) (r : Bool) → T (ltb x y || (eqb x y && r)) → (x < y) ⊎ ((x ≡ y) × T r)
first-cases x y r h = ⊎_elim (λ k. inl (ltb→lt x y k)) (λ k. inr (eqb→eq x y (and_left (eqb x y) r k), and_right (eqb x y) r k)) (or_cases (ltb x y) (eqb x y && r) h)

first-less : (x y : ℕ) (r : Bool) → x < y → T (ltb x y || (eqb x y && r))
first-less x y r h = or_left (ltb x y) (eqb x y && r) (lt→ltb x y h)

first-same : (x y : ℕ) (r : Bool) → x ≡ y → T r → T (ltb x y || (eqb x y && r))
first-same x y r e h = or_right (ltb x y) (eqb x y && r) (and_make (eqb x y) r (subst (λ z. T (eqb x z)) e (eqb_refl x)) h)

abbrev comes : List ℕ → List ℕ → Bool
comes a b = before (λ n. n) a b

comes-on : (a b c : List ℕ) → T (comes a b) → T (comes b c) → T (comes a c)
unfolding before
comes-on [] [] c h k = absurd h
comes-on [] (y ∷ b) [] h k = absurd k
comes-on [] (y ∷ b) (z ∷ c) h k = tt
comes-on (x ∷ a) [] c h k = absurd h
comes-on (x ∷ a) (y ∷ b) [] h k = absurd k
comes-on (x ∷ a) (y ∷ b) (z ∷ c) h k = go (first-cases x y (comes a b) h) (first-cases y z (comes b c) k) (comes-on a b c)
  where
    go : ((x < y) ⊎ ((x ≡ y) × T (comes a b))) → ((y < z) ⊎ ((y ≡ z) × T (comes b c))) → (T (comes a b) → T (comes b c) → T (comes a c))
        → T (ltb x z || (eqb x z && comes a c))
    go (inl l) (inl m) r = first-less x z (comes a c) (omega arith)
    go (inl l) (inr m) r = first-less x z (comes a c) (let e = m.0 in omega arith)
    go (inr l) (inl m) r = first-less x z (comes a c) (let e = l.0 in omega arith)
    go (inr l) (inr m) r = first-same x z (comes a c) (l.0 ∙ m.0) (r l.1 m.1)

comes-not : (a : List ℕ) → T (comes a a) → ⊥
unfolding before
comes-not [] h = h
comes-not (x ∷ a) h = ⊎_elim (λ l. omega arith) (λ p. comes-not a p.1) (first-cases x x (comes a a) h)

comes-either : (a b : List ℕ) → (T (comes a b) → ⊥) → (a ≡ b) ⊎ T (comes b a)
unfolding before
comes-either [] [] h = inl refl
comes-either [] (y ∷ b) h = absurd (h tt)
comes-either (x ∷ a) [] h = inr tt
comes-either (x ∷ a) (y ∷ b) h = go (decide (ltb x y)) (decide (ltb y x)) (comes-either a b)
  where
    go : (T (ltb x y) ⊎ T (not (ltb x y))) → (T (ltb y x) ⊎ T (not (ltb y x))) → ((T (comes a b) → ⊥) → (a ≡ b) ⊎ T (comes b a))
        → ((x ∷ a) ≡ (y ∷ b)) ⊎ T (ltb y x || (eqb y x && comes b a))
    go (inl l) m r = absurd (h (first-less x y (comes a b) (ltb→lt x y l)))
    go (inr l) (inl m) r = inr (first-less y x (comes b a) (ltb→lt y x m))
    go (inr l) (inr m) r =
        let u = nltb→le x y l in
        let v = nltb→le y x m in
        let e : x ≡ y = omega arith in
        ⊎_elim (λ f. inl (ap₂ {C = List ℕ} ◌∷◌ e f)) (λ k. inr (first-same y x (comes b a) (sym e) k)) (r (λ k. h (first-same x y (comes a b) e k)))

-- ── quads ───────────────────────────────────────────────────────────────────────────────────

pub quad-on : (p q r : Quad) → T (quad_before p q) → T (quad_before q r) → T (quad_before p r)
unfolding quad_before
quad-on p q r h k = comes-on (numbers_of p) (numbers_of q) (numbers_of r) h k

pub quad-not : (q : Quad) → T (quad_before q q) → ⊥
unfolding quad_before
quad-not q h = comes-not (numbers_of q) h

abbrev quad_in : List ℕ → Quad
quad_in l = record { graph = get_or l 0 0; subject = get_or l 1 0; property = get_or l 2 0; object = get_or l 3 0 }

pub quad-either : (p q : Quad) → (T (quad_before p q) → ⊥) → (p ≡ q) ⊎ T (quad_before q p)
unfolding quad_before
quad-either p q h = ⊎_elim (λ e. inl (ap quad_in e)) inr (comes-either (numbers_of p) (numbers_of q) h)

-- ── quads in order ──────────────────────────────────────────────────────────────────────────

pub in-order-rest : (q : Quad) (qs : List Quad) → T (in_order (q ∷ qs)) → T (in_order qs)
unfolding in_order
in-order-rest q qs h = and_right (before_first q qs) (in_order qs) h

-- the first comes before all others
pub in-order-above : (q : Quad) (qs : List Quad) → T (in_order (q ∷ qs)) → All (λ r. T (quad_before q r)) qs
unfolding in_order
in-order-above q [] h = tt
in-order-above q (r ∷ rs) h =
    let k = and_left (quad_before q r) (in_order (r ∷ rs)) h in
    (k, all-weaken (λ s. T (quad_before r s)) (λ s. T (quad_before q s)) (λ s. quad-on q r s k) rs (in-order-above r rs (and_right (quad_before q r) (in_order (r ∷ rs)) h)))

pub in-order-more : (q : Quad) (qs : List Quad) → All (λ r. T (quad_before q r)) qs → T (in_order qs) → T (in_order (q ∷ qs))
unfolding in_order
in-order-more q [] h k = tt
in-order-more q (r ∷ rs) h k = and_make (quad_before q r) (in_order (r ∷ rs)) h.0 k

pub in-order-keep : (p : Quad → Bool) (qs : List Quad) → T (in_order qs) → T (in_order (keep p qs))
unfolding in_order
in-order-keep p [] h = tt
in-order-keep p (q ∷ qs) h =
    let rest = in-order-keep p qs (in-order-rest q qs h) in
    by-test (λ l. T (in_order l)) (p q) (q ∷ keep p qs) (keep p qs)
    (λ t. in-order-more q (keep p qs) (all_keep (λ r. T (quad_before q r)) p qs (in-order-above q qs h)) rest) (λ t. rest)

apart_above : (q : Quad) (qs : List Quad) → All (λ r. T (quad_before q r)) qs → T (every (λ y. not (same_quad q y)) qs)
apart_above q [] h = tt
apart_above q (r ∷ rs) h =
    and_make (not (same_quad q r)) (every (λ y. not (same_quad q y)) rs)
    (not_T (same_quad q r) (λ k. quad-not q (subst⁻¹ (λ x. T (quad_before q x)) (same-quad q r k) h.0))) (apart_above q rs h.1)

-- each stands once
pub in-order-apart : (qs : List Quad) → T (in_order qs) → T (distinct same_quad qs)
in-order-apart [] h = tt
in-order-apart (q ∷ qs) h =
    and_make (every (λ y. not (same_quad q y)) qs) (distinct same_quad qs) (apart_above q qs (in-order-above q qs h)) (in-order-apart qs (in-order-rest q qs h))

-- ── a quad put in its place ─────────────────────────────────────────────────────────────────

pub with-quad-all : (P : Quad → Type 0) (q : Quad) (quads : List Quad) → All P quads → P q → All P (with_quad q quads)
unfolding with_quad
with-quad-all P q [] h k = (k, tt)
with-quad-all P q (r ∷ rs) h k =
    by-test (All P) (quad_before q r) (q ∷ (r ∷ rs)) (cond (same_quad q r) (r ∷ rs) (r ∷ with_quad q rs)) (λ t. (k, h))
    (λ t. by-test (All P) (same_quad q r) (r ∷ rs) (r ∷ with_quad q rs) (λ u. h) (λ u. (h.0, with-quad-all P q rs h.1 k)))

pub with-quad-order : (q : Quad) (quads : List Quad) → T (in_order quads) → T (in_order (with_quad q quads))
unfolding with_quad in_order
with-quad-order q [] h = tt
with-quad-order q (r ∷ rs) h =
    by-test (λ l. T (in_order l)) (quad_before q r) (q ∷ (r ∷ rs)) (cond (same_quad q r) (r ∷ rs) (r ∷ with_quad q rs)) (λ t. and_make (quad_before q r) (in_order (r ∷ rs)) t h)
    (λ t. by-test (λ l. T (in_order l)) (same_quad q r) (r ∷ rs) (r ∷ with_quad q rs) (λ u. h)
    (λ u. in-order-more r (with_quad q rs) (with-quad-all (λ x. T (quad_before r x)) q rs (in-order-above r rs h) (after t u)) (with-quad-order q rs (in-order-rest r rs h))))
  where
    after : T (not (quad_before q r)) → T (not (same_quad q r)) → T (quad_before r q)
    after t u =
        ⊎_elim (λ e. absurd (T_not (same_quad q r) u (subst (λ x. T (same_quad q x)) e (quad-refl q)))) (λ k. k) (quad-either q r (T_not (quad_before q r) t))

-- those that pass a test stay as they were where the quad does not pass it
pub with-quad-keep : (p : Quad → Bool) (q : Quad) → p q ≡ false → (quads : List Quad) → keep p (with_quad q quads) ≡ keep p quads
unfolding with_quad
with-quad-keep p q e [] = ap (λ b. cond b (q ∷ []) []) e
with-quad-keep p q e (r ∷ rs) =
    by-test (λ l. keep p l ≡ keep p (r ∷ rs)) (quad_before q r) (q ∷ (r ∷ rs)) (cond (same_quad q r) (r ∷ rs) (r ∷ with_quad q rs))
    (λ t. ap (λ b. cond b (q ∷ keep p (r ∷ rs)) (keep p (r ∷ rs))) e)
    (λ t. by-test (λ l. keep p l ≡ keep p (r ∷ rs)) (same_quad q r) (r ∷ rs) (r ∷ with_quad q rs) (λ u. refl)
    (λ u. ap (λ l. cond (p r) (r ∷ l) l) (with-quad-keep p q e rs)))

pub stored-now : (q : Quad) (quads : List Quad) → T (stored q (with_quad q quads))
unfolding stored with_quad
stored-now q [] = or_left (same_quad q q) false (quad-refl q)
stored-now q (r ∷ rs) =
    by-test (λ l. T (some? (same_quad q) l)) (quad_before q r) (q ∷ (r ∷ rs)) (cond (same_quad q r) (r ∷ rs) (r ∷ with_quad q rs))
    (λ t. or_left (same_quad q q) (some? (same_quad q) (r ∷ rs)) (quad-refl q))
    (λ t. by-test (λ l. T (some? (same_quad q) l)) (same_quad q r) (r ∷ rs) (r ∷ with_quad q rs)
    (λ u. or_left (same_quad q r) (some? (same_quad q) rs) u) (λ u. or_right (same_quad q r) (some? (same_quad q) (with_quad q rs)) (stored-now q rs)))

pub stored-still : (p q : Quad) (quads : List Quad) → T (stored p quads) → T (stored p (with_quad q quads))
unfolding stored with_quad
stored-still p q [] m = absurd m
stored-still p q (r ∷ rs) m =
    by-test (λ l. T (some? (same_quad p) l)) (quad_before q r) (q ∷ (r ∷ rs)) (cond (same_quad q r) (r ∷ rs) (r ∷ with_quad q rs))
    (λ t. or_right (same_quad p q) (some? (same_quad p) (r ∷ rs)) m)
    (λ t. by-test (λ l. T (some? (same_quad p) l)) (same_quad q r) (r ∷ rs) (r ∷ with_quad q rs) (λ u. m)
    (λ u. ⊎_elim (or_left (same_quad p r) (some? (same_quad p) (with_quad q rs))) (λ k. or_right (same_quad p r) (some? (same_quad p) (with_quad q rs)) (stored-still p q rs k))
    (or_cases (same_quad p r) (some? (same_quad p) rs) m)))

-- ── which quads there are decides their list ────────────────────────────────────────────────

-- what comes before all quads is none of them
not-stored : (q : Quad) (qs : List Quad) → All (λ r. T (quad_before q r)) qs → T (stored q qs) → ⊥
unfolding stored
not-stored q [] h m = m
not-stored q (r ∷ rs) h m =
    ⊎_elim (λ k. quad-not q (subst⁻¹ (λ x. T (quad_before q x)) (same-quad q r k) h.0)) (not-stored q rs h.1) (or_cases (same_quad q r) (some? (same_quad q) rs) m)

all_from : (q r : Quad) → T (quad_before q r) → (rs : List Quad) → T (in_order (r ∷ rs)) → All (λ s. T (quad_before q s)) (r ∷ rs)
all_from q r k rs h = (k, all-weaken (λ s. T (quad_before r s)) (λ s. T (quad_before q s)) (λ s. quad-on q r s k) rs (in-order-above r rs h))

head-stored : (q : Quad) (qs : List Quad) → T (stored q (q ∷ qs))
unfolding stored
head-stored q qs = or_left (same_quad q q) (some? (same_quad q) qs) (quad-refl q)

same_head : (q r : Quad) (qs rs : List Quad) → T (in_order (q ∷ qs)) → T (in_order (r ∷ rs))
    → T (stored q (r ∷ rs)) → T (stored r (q ∷ qs)) → q ≡ r
same_head q r qs rs h k m n =
    ⊎_elim (λ l. absurd (not-stored q (r ∷ rs) (all_from q r l rs k) m))
    (λ l. ⊎_elim (λ e. e) (λ l'. absurd (not-stored r (q ∷ qs) (all_from r q l' qs h) n)) (quad-either q r (T_not (quad_before q r) l)))
    (decide (quad_before q r))

pub one-order : (qs rs : List Quad) → T (in_order qs) → T (in_order rs) → ((q : Quad) → stored q qs ≡ stored q rs) → qs ≡ rs
unfolding stored
one-order [] [] h k same = refl
one-order [] (r ∷ rs) h k same = absurd (subst⁻¹ T (same r) (head-stored r rs))
one-order (q ∷ qs) [] h k same = absurd (subst T (same q) (head-stored q qs))
one-order (q ∷ qs) (r ∷ rs) h k same =
    let e = same_head q r qs rs h k (subst T (same q) (head-stored q qs)) (subst⁻¹ T (same r) (head-stored r rs)) in
    ap₂ {C = List Quad} ◌∷◌ e (one-order qs rs (in-order-rest q qs h) (in-order-rest r rs k) (λ x. rest e x (decide (same_quad x q))))
  where
    rest : q ≡ r → (x : Quad) → (T (same_quad x q) ⊎ T (not (same_quad x q))) → stored x qs ≡ stored x rs
    rest e x (inl d) =
        let f = same-quad x q d in
        let a : T (not (some? (same_quad x) qs)) = not_T (some? (same_quad x) qs) (λ m. not-stored q qs (in-order-above q qs h) (subst (λ y. T (some? (same_quad y) qs)) f m)) in
        let b : T (not (some? (same_quad x) rs)) =
        not_T (some? (same_quad x) rs) (λ m. not-stored r rs (in-order-above r rs k) (subst (λ y. T (some? (same_quad y) rs)) (f ∙ e) m)) in
        is_false (some? (same_quad x) qs) a ∙ sym (is_false (some? (same_quad x) rs) b)
    rest e x (inr d) =
        let f = is_false (same_quad x q) d in
        let g : same_quad x r ≡ false = subst (λ y. same_quad x y ≡ false) e f in
        ap (λ b. b || some? (same_quad x) qs) (sym f) ∙ (same x ∙ ap (λ b. b || some? (same_quad x) rs) g)
