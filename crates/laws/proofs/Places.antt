-- Where a script stands in the root: the offset of its record finds it again, with its depth, and what the root keeps it keeps.
use Prim.Native.Nat.{ℕ, suc, ◌+◌, ◌≤◌, ◌<◌}
use native.Mathlib.Omega.{arith}
use mathlib.Core.Path.{◌≡◌, refl, sym, ◌∙◌, ap}
use mathlib.Core.Logic.{◌⊎◌, inl, inr, ⊎_elim}
use mathlib.Core.List.{List, [], ◌∷◌, ◌++◌}
use mathlib.Core.Bool.{Bool, true, false}
use mathlib.Core.Option.{Option, none, some, none-ne-some, some-injective}
use lib.Dec.{T, eqb, eqb→eq}
use borrow.Author.Tests.{eq-eqb, ne_eqb}
use Rattle.definitions.specs.Bytes.{provided}
use Rattle.definitions.specs.Lists.{is_in}
use Rattle.definitions.specs.Types.{Datatype, Ty, plain}
use Rattle.definitions.specs.Terms.{Sort}
use Rattle.definitions.specs.Tree.{Name, Query, Binder, Script, success, from_named, block, sequence}
use Rattle.definitions.specs.Scope.{variables_of, binders_of}
use Rattle.definitions.specs.Typing.{name_has, query_typed, script_typed}
use Rattle.definitions.specs.Saved.{Place, offset_of, or_else, place_from, place_in}
use Rattle.laws.proofs.Tests.{and_left, and_right, or_left, or_right, or_cases}
use Rattle.laws.specs.Sound.{ScriptBounded, Placed, height}

-- a script inside the root, at a depth; the root's is 1
pub data At (root : Script) : ℕ → Script → Type 0 where
  at_root : At root 1 root
  under_named : {depth at : ℕ} {n : Name} {c : Script} → At root depth (from_named at n c) → At root (suc depth) c
  under_block : {depth at : ℕ} {each : Bool} {bs : List Binder} {q : Query} {c : Script} → At root depth (block at each bs q c) → At root (suc depth) c
  under_first : {depth at : ℕ} {c d : Script} → At root depth (sequence at c d) → At root (suc depth) c
  under_second : {depth at : ℕ} {c d : Script} → At root depth (sequence at c d) → At root (suc depth) d

-- ── offsets ─────────────────────────────────────────────────────────────────────────────────

pub in-range : (lo hi : ℕ) (c : Script) → Placed lo hi c → (lo ≤ offset_of c) × (offset_of c < hi)
in-range lo hi (success at) h = h
in-range lo hi (from_named at n c) h = let r = in-range (suc at) hi c h.1 in (h.0, omega (arith, r.0, r.1))
in-range lo hi (block at each bs q c) h = let r = in-range (suc at) hi c h.1 in (h.0, omega (arith, r.0, r.1))
in-range lo hi (sequence at c d) h =
    let r = in-range (suc at) h.1.0 c h.1.1 in
    let t = in-range h.1.0 hi d h.1.2 in
    (h.0, omega (arith, r.0, r.1, t.0, t.1))

below : (lo hi : ℕ) (c : Script) → Placed lo hi c → lo < hi
below lo hi c h = let r = in-range lo hi c h in omega (arith, r.0, r.1)

-- at its own offset a script finds itself
finds-itself : (depth : ℕ) (c : Script) → place_from depth c (offset_of c) ≡ some (record { depth = depth; script = c })
unfolding place_from provided
finds-itself depth (success at) = rw (eq-eqb at at refl, place_from)
finds-itself depth (from_named at n c) = rw (eq-eqb at at refl, place_from)
finds-itself depth (block at each bs q c) = rw (eq-eqb at at refl, place_from)
finds-itself depth (sequence at c d) = rw (eq-eqb at at refl, place_from)

-- at another it looks below
module _ (depth at i : ℕ) (other : i ≡ at → ⊥) where
  below-success : place_from depth (success at) i ≡ none
  unfolding place_from provided
  below-success = rw (ne_eqb i at other, place_from)

  below-named : (n : Name) (c : Script) → place_from depth (from_named at n c) i ≡ place_from (suc depth) c i
  unfolding place_from
  below-named n c = rw (ne_eqb i at other, place_from)

  below-block : (each : Bool) (bs : List Binder) (q : Query) (c : Script) → place_from depth (block at each bs q c) i ≡ place_from (suc depth) c i
  unfolding place_from
  below-block each bs q c = rw (ne_eqb i at other, place_from)

  below-sequence : (c d : Script) → place_from depth (sequence at c d) i ≡ or_else (place_from (suc depth) c i) (place_from (suc depth) d i)
  unfolding place_from
  below-sequence c d = rw (ne_eqb i at other, place_from)

-- an offset outside finds nothing
misses : (lo hi depth : ℕ) (c : Script) → Placed lo hi c → (i : ℕ) → (i < lo) ⊎ (hi ≤ i) → place_from depth c i ≡ none
misses lo hi depth (success at) h i (inl x) = below-success depth at i (λ e. omega (arith, h.0, h.1))
misses lo hi depth (success at) h i (inr x) = below-success depth at i (λ e. omega (arith, h.0, h.1))
misses lo hi depth (from_named at n c) h i (inl x) =
    below-named depth at i (λ e. omega (arith, h.0)) n c ∙ misses (suc at) hi (suc depth) c h.1 i (inl (omega (arith, h.0)))
misses lo hi depth (from_named at n c) h i (inr x) =
    below-named depth at i (λ e. omega (arith, below (suc at) hi c h.1)) n c ∙ misses (suc at) hi (suc depth) c h.1 i (inr x)
misses lo hi depth (block at each bs q c) h i (inl x) =
    below-block depth at i (λ e. omega (arith, h.0)) each bs q c ∙ misses (suc at) hi (suc depth) c h.1 i (inl (omega (arith, h.0)))
misses lo hi depth (block at each bs q c) h i (inr x) =
    below-block depth at i (λ e. omega (arith, below (suc at) hi c h.1)) each bs q c ∙ misses (suc at) hi (suc depth) c h.1 i (inr x)
misses lo hi depth (sequence at c d) h i (inl x) =
    let mid = h.1.0 in
    let first = misses (suc at) mid (suc depth) c h.1.1 i (inl (omega (arith, h.0))) in
    let second = misses mid hi (suc depth) d h.1.2 i (inl (omega (arith, h.0, below (suc at) mid c h.1.1))) in
    below-sequence depth at i (λ e. omega (arith, h.0)) c d ∙ (λ j. or_else (first j) (second j))
misses lo hi depth (sequence at c d) h i (inr x) =
    let mid = h.1.0 in
    let later = below mid hi d h.1.2 in
    let first = misses (suc at) mid (suc depth) c h.1.1 i (inr (omega (arith, later))) in
    let second = misses mid hi (suc depth) d h.1.2 i (inr x) in
    below-sequence depth at i (λ e. omega (arith, later, below (suc at) mid c h.1.1)) c d ∙ (λ j. or_else (first j) (second j))

or-none : (a b : Option Place) → b ≡ none → or_else a b ≡ a
or-none none b e = e
or-none (some p) b e = refl

-- the offsets that are a script's own: there the root finds what the script finds
record Stands (root : Script) (depth : ℕ) (c : Script) : Type 0 where
  from : ℕ
  to : ℕ
  placed : Placed from to c
  same : (i : ℕ) → from ≤ i → i < to → place_in root i ≡ place_from depth c i

stands : {root c : Script} {depth : ℕ} (lo hi : ℕ) → Placed lo hi root → At root depth c → Stands root depth c
unfolding place_in
stands lo hi p at_root = record { from = lo; to = hi; placed = p; same = λ i x y. refl }
stands lo hi p (under_named {depth} {at} {n} {c} a) =
    let r = stands lo hi p a in
    record {
      from = suc at;
      to = r.to;
      placed = r.placed.1;
      same = λ i x y. r.same i (omega (arith, r.placed.0)) y ∙ below-named depth at i (λ e. omega arith) n c;
    }
stands lo hi p (under_block {depth} {at} {each} {bs} {q} {c} a) =
    let r = stands lo hi p a in
    record {
      from = suc at;
      to = r.to;
      placed = r.placed.1;
      same = λ i x y. r.same i (omega (arith, r.placed.0)) y ∙ below-block depth at i (λ e. omega arith) each bs q c;
    }
stands lo hi p (under_first {depth} {at} {c} {d} a) =
    let r = stands lo hi p a in
    let mid = r.placed.1.0 in
    let after = r.placed.1.2 in
    record {
      from = suc at;
      to = mid;
      placed = r.placed.1.1;
      same = λ i x y.
          r.same i (omega (arith, r.placed.0)) (omega (arith, below mid r.to d after))
          ∙ (below-sequence depth at i (λ e. omega arith) c d
          ∙ or-none (place_from (suc depth) c i) (place_from (suc depth) d i) (misses mid r.to (suc depth) d after i (inl y)));
    }
stands lo hi p (under_second {depth} {at} {c} {d} a) =
    let r = stands lo hi p a in
    let mid = r.placed.1.0 in
    let before = r.placed.1.1 in
    record {
      from = mid;
      to = r.to;
      placed = r.placed.1.2;
      same = λ i x y.
          r.same i (omega (arith, r.placed.0, below (suc at) mid c before)) y
          ∙ (below-sequence depth at i (λ e. omega (arith, below (suc at) mid c before)) c d
          ∙ ap (λ o. or_else o (place_from (suc depth) d i)) (misses (suc at) mid (suc depth) c before i (inr x)));
    }

-- the offset of a script's record finds it, at its depth
pub place_found : {root c : Script} {depth : ℕ} (lo hi : ℕ) → Placed lo hi root → At root depth c
    → place_in root (offset_of c) ≡ some (record { depth = depth; script = c })
place_found {root} {c} {depth} lo hi p a =
    let r = stands lo hi p a in
    let x = in-range r.from r.to c r.placed in
    r.same (offset_of c) x.0 x.1 ∙ finds-itself depth c

-- ── what is found stands in the root ────────────────────────────────────────────────────────

pub record Found (root : Script) (i : ℕ) (p : Place) : Type 0 where
  pub in_root : At root p.depth p.script
  pub offset : offset_of p.script ≡ i

choice : (b : Bool) (x y : Option Place) (p : Place) → elim b as (λ c. Option Place) [ true ↦ x | false ↦ y ] ≡ some p → (T b × (x ≡ some p)) ⊎ (y ≡ some p)
choice true x y p e = inl (tt, e)
choice false x y p e = inr e

one_of : (a b : Option Place) (p : Place) → or_else a b ≡ some p → (a ≡ some p) ⊎ (b ≡ some p)
one_of none b p e = inr e
one_of (some q) b p e = inl e

module _ (root : Script) (i : ℕ) (p : Place) where
  itself : (depth : ℕ) (c : Script) → At root depth c → T (eqb i (offset_of c)) × (some (record { depth = depth; script = c }) ≡ some p) → Found root i p
  itself depth c a h =
      let q : Place = record { depth = depth; script = c } in
      let found : Found root i q = record { in_root = a; offset = sym (eqb→eq i (offset_of c) h.0) } in
      rw (some-injective q p h.1) at found

  leads : (depth : ℕ) (c : Script) → At root depth c → place_from depth c i ≡ some p → Found root i p
  unfolding place_from provided
  leads depth (success at) a e = go (eqb i at) (itself depth (success at) a) e
    where
      go : (b : Bool) → (T b × (some (record { depth = depth; script = success at }) ≡ some p) → Found root i p)
          → provided b (some (record { depth = depth; script = success at })) ≡ some p → Found root i p
      go true f e = f (tt, e)
      go false f e = absurd (none-ne-some p e)
  leads depth (from_named at n c) a e = ⊎_elim (itself depth (from_named at n c) a) (leads (suc depth) c (under_named a)) (choice (eqb i at) _ _ p e)
  leads depth (block at each bs q c) a e = ⊎_elim (itself depth (block at each bs q c) a) (leads (suc depth) c (under_block a)) (choice (eqb i at) _ _ p e)
  leads depth (sequence at c d) a e =
      ⊎_elim (itself depth (sequence at c d) a)
      (λ k. ⊎_elim (leads (suc depth) c (under_first a)) (leads (suc depth) d (under_second a))
      (one_of (place_from (suc depth) c i) (place_from (suc depth) d i) p k))
      (choice (eqb i at) _ _ p e)

  pub found : place_in root i ≡ some p → Found root i p
  unfolding place_in
  found e = leads 1 root at_root e

-- ── what the root keeps, a script in it keeps ───────────────────────────────────────────────

module _ (P : Script → Type 0)
    (named : (at : ℕ) (n : Name) (c : Script) → P (from_named at n c) → P c)
    (blocked : (at : ℕ) (each : Bool) (bs : List Binder) (q : Query) (c : Script) → P (block at each bs q c) → P c)
    (first : (at : ℕ) (c d : Script) → P (sequence at c d) → P c) (second : (at : ℕ) (c d : Script) → P (sequence at c d) → P d) where
  pub inherits : {root c : Script} {depth : ℕ} → At root depth c → P root → P c
  inherits at_root h = h
  inherits (under_named {at} {n} {c} a) h = named at n c (inherits a h)
  inherits (under_block {at} {each} {bs} {q} {c} a) h = blocked at each bs q c (inherits a h)
  inherits (under_first {at} {c} {d} a) h = first at c d (inherits a h)
  inherits (under_second {at} {c} {d} a) h = second at c d (inherits a h)

module _ {root c : Script} {depth : ℕ} (a : At root depth c) where
  pub bounded_at : (terms : ℕ) → ScriptBounded terms root → ScriptBounded terms c
  bounded_at terms h =
      inherits (ScriptBounded terms) (λ at n c k. k.1) (λ at each bs q c k. k.2) (λ at c d k. k.0) (λ at c d k. k.1) a h

  pub typed_at : (constants : ℕ → Sort) (Γ : ℕ → Ty) → T (script_typed constants Γ root) → T (script_typed constants Γ c)
  unfolding script_typed
  typed_at constants Γ h =
      let typed = script_typed constants Γ in
      inherits (λ c. T (typed c))
      (λ at n c k. and_right (name_has constants Γ n (plain Datatype.any_uri)) (typed c) k)
      (λ at each bs q c k. and_right (query_typed constants Γ q) (typed c) k)
      (λ at c d k. and_left (typed c) (typed d) k) (λ at c d k. and_right (typed c) (typed d) k) a h

-- the variables that a script binds
in-former : (v : ℕ) (bs cs : List Binder) → T (is_in v (variables_of bs)) → T (is_in v (variables_of (bs ++ cs)))
in-former v [] cs h = absurd h
in-former v (b ∷ bs) cs h =
    ⊎_elim (or_left (eqb v b.variable) (is_in v (variables_of (bs ++ cs))))
    (λ k. or_right (eqb v b.variable) (is_in v (variables_of (bs ++ cs))) (in-former v bs cs k))
    (or_cases (eqb v b.variable) (is_in v (variables_of bs)) h)

in-latter : (v : ℕ) (bs cs : List Binder) → T (is_in v (variables_of cs)) → T (is_in v (variables_of (bs ++ cs)))
in-latter v [] cs h = h
in-latter v (b ∷ bs) cs h = or_right (eqb v b.variable) (is_in v (variables_of (bs ++ cs))) (in-latter v bs cs h)

pub binds-at : {root c : Script} {depth : ℕ} → At root depth c → (v : ℕ) → T (is_in v (variables_of (binders_of c))) → T (is_in v (variables_of (binders_of root)))
unfolding binders_of
binds-at {root} {c} a v =
    inherits (λ c. T (is_in v (variables_of (binders_of c))) → T (is_in v (variables_of (binders_of root))))
    (λ at n c f. f) (λ at each bs q c f k. f (in-latter v bs (binders_of c) k))
    (λ at c d f k. f (in-former v (binders_of c) (binders_of d) k)) (λ at c d f k. f (in-latter v (binders_of c) (binders_of d) k)) a (λ k. k)

pub block-binds : {root c : Script} {depth at : ℕ} {each : Bool} {bs : List Binder} {q : Query} → At root depth (block at each bs q c)
    → (v : ℕ) → T (is_in v (variables_of bs)) → T (is_in v (variables_of (binders_of root)))
unfolding binders_of
block-binds {root} {c} {bs = bs} a v h = binds-at a v (in-former v bs (binders_of c) h)

-- ── depths ──────────────────────────────────────────────────────────────────────────────────

height-pos : (c : Script) → 1 ≤ height c
height-pos (success at) = omega arith
height-pos (from_named at n c) = omega arith
height-pos (block at each bs q c) = omega arith
height-pos (sequence at c d) = omega arith

reaches : {root c : Script} {depth : ℕ} → At root depth c → depth + height c ≤ suc (height root)
reaches at_root = omega arith
reaches (under_named a) = omega (arith, reaches a)
reaches (under_block a) = omega (arith, reaches a)
reaches (under_first a) = omega (arith, reaches a)
reaches (under_second a) = omega (arith, reaches a)

pub depth-fits : {root c : Script} {depth : ℕ} → At root depth c → depth ≤ height root
depth-fits {root} {c} {depth} a = omega (arith, reaches a, height-pos c)
