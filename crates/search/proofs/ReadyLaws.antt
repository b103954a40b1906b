-- What is ready stays ready as a variable is chosen; and then no filter that is evaluated, nor the query of a whole tuple, meets a fault.
use Prim.Native.Nat.{ℕ}
use mathlib.Core.Path.{◌≡◌, refl, subst, subst⁻¹}
use mathlib.Core.List.{List, [], ◌∷◌}
use mathlib.Core.Bool.{Bool, true, false, cond, not, ◌&&◌, ◌||◌}
use mathlib.Core.Option.{none, some}
use lib.Dec.{T, eqb, eqb→eq}
use lib.ListN.{length}
use Rattle.definitions.specs.Lists.{is_in}
use Rattle.definitions.specs.Terms.{Term, Schema}
use Rattle.definitions.specs.Tree.{Cond, Query}
use Rattle.definitions.specs.Scope.{in_cond, in_query}
use Rattle.definitions.specs.Typing.{cond_typed, query_typed}
use Rattle.definitions.specs.Evaluate.{Setting, Bindings, Quad, query}
use Rattle.definitions.specs.Search.{Typing}
use Rattle.definitions.specs.Calls.{constants_of}
use Rattle.laws.proofs.Tests.{and_left, and_right}
use Rattle.laws.proofs.Options.{some_is, some-not-none}
use Rattle.laws.specs.Outcomes.{Fine, Any}
use Rattle.laws.specs.Bindings.{Extends, Holds, Bound, WellBound}
use Rattle.laws.proofs.Evaluate.{condition-fine, query-fine}
use Rattle.laws.specs.Sound.{CondBounded, QueryBounded}
use Rattle.query.specs.Known.{SureTests}
use Rattle.seeking.specs.Seeking.{Sure}
use Rattle.search.specs.Ready.{Ready}
use Rattle.search.specs.Finding.{bind_to as set, clear}
use Rattle.seeking.proofs.Filters.{expr-bound, pair-bound}

module _ (σ : Setting) (Γ : Typing) (terms : List Term) (quads : List Quad) where
  module _ (loaded : List Term) (extends : Extends loaded terms) (γ : Bindings) (well_bound : WellBound σ.schema Γ terms γ) where
    -- every test that is known
    tests-sure : (c : Cond) → CondBounded (length loaded) c → T (cond_typed (constants_of σ.schema loaded) Γ c) → SureTests σ terms quads γ c
    unfolding cond_typed in_cond
    tests-sure Cond.no b t = tt
    tests-sure Cond.yes b t = tt
    tests-sure (Cond.or c d) b t =
        let first = cond_typed (constants_of σ.schema loaded) Γ c in
        let second = cond_typed (constants_of σ.schema loaded) Γ d in
        (tests-sure c b.0 (and_left first second t), tests-sure d b.1 (and_right first second t))
    tests-sure (Cond.and c d) b t =
        let first = cond_typed (constants_of σ.schema loaded) Γ c in
        let second = cond_typed (constants_of σ.schema loaded) Γ d in
        (tests-sure c b.0 (and_left first second t), tests-sure d b.1 (and_right first second t))
    tests-sure (Cond.not c) b t = tests-sure c b t
    tests-sure (Cond.regex p e) b t = λ k. condition-fine σ Γ loaded terms extends quads γ well_bound (Cond.regex p e) b (expr-bound γ e k) t
    tests-sure (Cond.lang_matches r e) b t = λ k. condition-fine σ Γ loaded terms extends quads γ well_bound (Cond.lang_matches r e) b (expr-bound γ e k) t
    tests-sure (Cond.equal e f) b t = λ k. condition-fine σ Γ loaded terms extends quads γ well_bound (Cond.equal e f) b (pair-bound γ e f k) t
    tests-sure (Cond.less e f) b t = λ k. condition-fine σ Γ loaded terms extends quads γ well_bound (Cond.less e f) b (pair-bound γ e f k) t

    sure : (q : Query) → QueryBounded (length loaded) q → T (query_typed (constants_of σ.schema loaded) Γ q) → Sure σ terms quads γ q
    unfolding query query_typed in_query
    sure (Query.pattern g s p o) b t = tt
    sure (Query.both q r) b t =
        let first = query_typed (constants_of σ.schema loaded) Γ q in
        let second = query_typed (constants_of σ.schema loaded) Γ r in
        (sure q b.0 (and_left first second t), sure r b.1 (and_right first second t))
    sure (Query.union q r) b t =
        let first = query_typed (constants_of σ.schema loaded) Γ q in
        let second = query_typed (constants_of σ.schema loaded) Γ r in
        (sure q b.0 (and_left first second t), sure r b.1 (and_right first second t))
    sure (Query.filter c) b t = tests-sure c b t
    sure Query.empty b t = tt

  module _ (γ : Bindings) (q : Query) where
    pub ready-sure : (vs : List ℕ) → Ready σ.schema Γ terms γ vs q → Sure σ terms quads γ q
    ready-sure vs r = sure r.loaded r.extends γ r.well_bound q r.bounded r.typed

    pub ready-fine : Ready σ.schema Γ terms γ [] q → Fine Any (query σ terms quads γ q)
    ready-fine r = query-fine σ Γ r.loaded terms r.extends quads γ r.well_bound q r.bounded r.bound r.typed

module _ (S : Schema) (Γ : Typing) (terms : List Term) (γ : Bindings) (q : Query) where
  -- one more variable chosen, of its type
  pub ready-set : (v i : ℕ) (vs : List ℕ) → Ready S Γ terms γ (v ∷ vs) q → Holds S terms i (Γ v) → Ready S Γ terms (set v i γ) vs q
  ready-set v i vs r h = record {
    loaded = r.loaded;
    extends = r.extends;
    well_bound = λ x j e. typed x j (eqb x v) (eqb→eq x v) e;
    bounded = r.bounded;
    bound = λ x m. found x (eqb x v) refl (r.bound x) m;
    typed = r.typed;
  }
    where
      typed : (x j : ℕ) (b : Bool) → (T b → x ≡ v) → cond b (some i) (γ x) ≡ some j → Holds S terms j (Γ x)
      typed x j true same e = subst⁻¹ (λ y. Holds S terms j (Γ y)) (same tt) (subst (λ y. Holds S terms y (Γ v)) (some_is e) h)
      typed x j false same e = r.well_bound x j e

      found : (x : ℕ) (b : Bool) → eqb x v ≡ b → (T (not (b || is_in x vs) && in_query x q) → Bound γ x) → T (not (is_in x vs) && in_query x q) → Bound (set v i γ) x
      found x true e f m = record { number = i; is = rw e refl }
      found x false e f m = let g = f m in record { number = g.number; is = rw e g.is }

  -- one more variable to choose
  pub ready-more : (v : ℕ) (vs : List ℕ) → Ready S Γ terms γ vs q → Ready S Γ terms γ (v ∷ vs) q
  ready-more v vs r = record {
    loaded = r.loaded;
    extends = r.extends;
    well_bound = r.well_bound;
    bounded = r.bounded;
    bound = λ x m. r.bound x (fewer (eqb x v) (is_in x vs) (in_query x q) m);
    typed = r.typed;
  }
    where
      fewer : (a b c : Bool) → T (not (a || b) && c) → T (not b && c)
      fewer true b c h = absurd h
      fewer false b c h = h

  -- the block's own variables not known
  pub ready-clear : (vs : List ℕ) → Ready S Γ terms γ vs q → Ready S Γ terms (clear vs γ) vs q
  ready-clear vs r = record {
    loaded = r.loaded;
    extends = r.extends;
    well_bound = λ x j e. r.well_bound x j (known x j (is_in x vs) e);
    bounded = r.bounded;
    bound = λ x m. kept x (is_in x vs) refl (r.bound x) m;
    typed = r.typed;
  }
    where
      known : (x j : ℕ) (b : Bool) → cond b none (γ x) ≡ some j → γ x ≡ some j
      known x j true e = absurd (some-not-none e refl)
      known x j false e = e

      kept : (x : ℕ) (b : Bool) → is_in x vs ≡ b → (T (not b && in_query x q) → Bound γ x) → T (not b && in_query x q) → Bound (clear vs γ) x
      kept x true e f m = absurd m
      kept x false e f m = let g = f m in record { number = g.number; is = rw e g.is }
