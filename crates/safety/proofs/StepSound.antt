-- One step of a sound state: it meets no fault, and the state after it is sound.
use Prim.Native.Nat.{ℕ, suc, ◌≤◌, ◌<◌}
use native.Mathlib.Omega.{arith}
use mathlib.Core.Path.{◌≡◌, refl}
use mathlib.Core.Logic.{⊎_elim}
use mathlib.Core.List.{List, [], ◌∷◌}
use mathlib.Core.Bool.{Bool, true, false, not, ◌&&◌, ◌||◌}
use mathlib.Core.Option.{Option, none, some}
use lib.Dec.{T, eqb, eqb→eq}
use lib.ListN.{length}
use lib.IntN.{ℤ}
use Rattle.definitions.specs.Limits.{variable_limit}
use Rattle.definitions.specs.Lists.{is_in}
use Rattle.definitions.specs.Types.{Datatype, plain}
use Rattle.definitions.specs.Terms.{Schema, Sort}
use Rattle.definitions.specs.Tree.{Binder, Query, Script, success, from_named, block, sequence}
use Rattle.definitions.specs.Scope.{variables_of, in_name, in_query, is_free}
use Rattle.definitions.specs.Typing.{type_at, name_has, query_typed, script_typed}
use Rattle.definitions.specs.Outcome.{Outcome, ok, ◌>>=◌, from_named_no_uri}
use Rattle.definitions.specs.Evaluate.{Bindings, Named, is_uri}
use Rattle.definitions.specs.Search.{Typing, Tuple, bind, answer}
use Rattle.definitions.specs.Machine.{Item, State, fresh, with_stack, with_answer, Next, step, stand, enter_named, enter_once, enter_each, act, next_of, next, is_each_block, ending_of, look}
use Rattle.definitions.specs.Calls.{Checked, constants_of, setting_of}
use Rattle.definitions.specs.declared.RunState.{RunState}
use Rattle.definitions.specs.declared.RunState.TheVariants.{Ended, Wanted, Waiting, Spent}
use Rattle.laws.proofs.Tests.{and_left, and_right, and_make, or_left, or_right, or_cases, by-test}
use Rattle.laws.proofs.Sorts.{is-uri}
use Rattle.laws.specs.Outcomes.{Fine, fine}
use Rattle.laws.proofs.NoFault.{fine-then, fine-and, fine-demand, fine-map}
use Rattle.laws.specs.Bindings.{WellBound, BoundIn, Fits}
use Rattle.laws.proofs.Bindings.{in_left, in_right}
use Rattle.laws.proofs.Evaluate.{named-fine}
use Rattle.laws.proofs.Answers.{IfSome, answer-fine, bind-typed, bind-cases, bound-stays, bound-reached}
use Rattle.laws.proofs.Places.{At, under_named, under_block, under_first, under_second, bounded_at, typed_at, block-binds}
use Rattle.laws.specs.Sound.{BindersBounded, Accepted, Sound}
use Rattle.laws.proofs.SoundMeans.{ItemFacts, StackFacts, BindingFacts, Facts, facts, sound, no_last, last-answer}

-- a step leads to a sound state; what stands is ended, wanted or waiting
abbrev pub NextSound : Checked → Next → Type 0
NextSound c (step s) = Sound c s
NextSound c (stand r) = r ≡ Spent → ⊥

-- ── a block's variables ─────────────────────────────────────────────────────────────────────

-- the free variables of a block are those of its query and of its script, but for its own
module _ (β : Bindings) (vs : List ℕ) (q : Query) (c : Script) (b : BoundIn β (λ v. not (is_in v vs) && (in_query v q || is_free v c))) where
  in-query : BoundIn β (λ v. not (is_in v vs) && in_query v q)
  in-query v m =
      let other = not (is_in v vs) in
      b v (and_make other (in_query v q || is_free v c) (and_left other (in_query v q) m) (or_left (in_query v q) (is_free v c) (and_right other (in_query v q) m)))

  in-script : BoundIn β (λ v. not (is_in v vs) && is_free v c)
  in-script v m =
      let other = not (is_in v vs) in
      b v (and_make other (in_query v q || is_free v c) (and_left other (is_free v c) m) (or_right (in_query v q) (is_free v c) (and_right other (is_free v c) m)))

binder-below : (terms : ℕ) (bs : List Binder) → BindersBounded terms bs → (v : ℕ) → T (is_in v (variables_of bs)) → v < variable_limit
binder-below terms [] b v m = absurd m
binder-below terms (x ∷ bs) b v m =
    ⊎_elim (λ k. let e = eqb→eq v x.variable k in omega (arith, b.0)) (binder-below terms bs b.1 v)
    (or_cases (eqb v x.variable) (is_in v (variables_of bs)) m)

-- ── states after a step ─────────────────────────────────────────────────────────────────────

module _ (c : Checked) (accepted : Accepted c) where
  abbrev S : Schema
  S = c.schema

  abbrev Γ : Typing
  Γ = type_at c.types

  abbrev constants : ℕ → Sort
  constants = constants_of S c.terms

  abbrev StackIn : State → Bindings → List Item → Type 0
  StackIn s β stack = StackFacts c.root (length s.store.terms) β stack

  with-stack : (s : State) → Facts c s → (stack : List Item) → StackIn s s.control.bindings stack → Facts c (with_stack s stack)
  with-stack s h stack k =
      record {
        terms_apart = h.terms_apart;
        extends = h.extends;
        quads_in_order = h.quads_in_order;
        quads = h.quads;
        fetched_apart = h.fetched_apart;
        fetched = h.fetched;
        limits = h.limits;
        stack = k;
        bindings = h.bindings;
      }

  well-bound : (s : State) → Facts c s → WellBound S Γ s.store.terms s.control.bindings
  well-bound s h v i e = (h.bindings v i e).holds

  -- a block of the script binds an answer
  module _ (s : State) (h : Facts c s) (depth at : ℕ) (each : Bool) (bs : List Binder) (q : Query) (d : Script) (a : At c.root depth (block at each bs q d))
      (t : Tuple) (fits : Fits S Γ s.store.terms (variables_of bs) t) where
    answered : (v i : ℕ) → bind (variables_of bs) t s.control.bindings v ≡ some i → BindingFacts S Γ s.store.terms c.root v i
    answered v i e =
        let b = bounded_at a (length c.terms) accepted.bounded in
        let from = bind-cases s.control.bindings (variables_of bs) t v i e in
        record {
          below = ⊎_elim (binder-below (length c.terms) bs b.0 v) (λ k. (h.bindings v i k).below) from;
          binds = ⊎_elim (block-binds a v) (λ k. (h.bindings v i k).binds) from;
          holds = bind-typed S Γ s.store.terms s.control.bindings (variables_of bs) t fits (well-bound s h) v i e;
        }

    with-answer : (stack : List Item) → StackIn s (bind (variables_of bs) t s.control.bindings) stack → Facts c (with_answer s (variables_of bs) t stack)
    with-answer stack k =
        record {
          terms_apart = h.terms_apart;
          extends = h.extends;
          quads_in_order = h.quads_in_order;
          quads = h.quads;
          fetched_apart = h.fetched_apart;
          fetched = h.fetched;
          limits = h.limits;
          stack = k;
          bindings = answered;
        }

  -- the items below keep their variables bound
  stack-stays : (terms : ℕ) (β : Bindings) (vs : List ℕ) (t : Tuple) (stack : List Item) → StackFacts c.root terms β stack
      → StackFacts c.root terms (bind vs t β) stack
  stack-stays terms β vs t [] h = tt
  stack-stays terms β vs t (i ∷ rest) h =
      let k = h.0 in (
        record { depth = k.depth; in_root = k.in_root; deep = k.deep; bound = λ v m. bound-stays β vs t v (k.bound v m); last = k.last },
        stack-stays terms β vs t rest h.1,
      )

  -- ── one step ──

  abbrev NextFacts : Next → Type 0
  NextFacts (step s) = Facts c s
  NextFacts (stand r) = r ≡ Spent → ⊥

  wanted-stands : (g : ℕ) → Wanted g ≡ Spent → ⊥
  wanted-stands g e = let z : ◌≡◌ {A = ℕ} 0 1 = cc in omega arith

  waiting-stands : Waiting ≡ Spent → ⊥
  waiting-stands e = let z : ◌≡◌ {A = ℕ} 0 1 = cc in omega arith

  ended-stands : Ended ≡ Spent → ⊥
  ended-stands e = let z : ◌≡◌ {A = ℕ} 0 1 = cc in omega arith

  -- a child of an item, put on the stack
  child : {depth place : ℕ} {β : Bindings} {d : Script} (terms : ℕ) → At c.root depth d → place ≤ depth → BoundIn β (λ v. is_free v d)
      → ItemFacts c.root terms β place (fresh d)
  child {depth} {d = d} terms a p b = record { depth = depth; in_root = a; deep = p; bound = b; last = no_last terms d }

  named-next : (s : State) (stack : List Item) (g : Named) → Facts c (with_stack s stack) → NextFacts (enter_named s stack g)
  unfolding enter_named
  named-next s stack g h =
      by-test NextFacts (is_in g.number s.store.fetched) (step (with_stack s stack)) (stand (Wanted g.number)) (λ t. h) (λ t. wanted-stands g.number)

  module _ (s : State) (vs : List ℕ) where
    abbrev Fitting : Option Tuple → Type 0
    Fitting o = IfSome (Fits S Γ s.store.terms vs) o

    once-next : (stack : List Item) (o : Option Tuple) → Fitting o
        → ((t : Tuple) → Fits S Γ s.store.terms vs t → Facts c (with_answer s vs t stack)) → NextFacts (enter_once s vs stack o)
    unfolding enter_once
    once-next stack none p k = waiting-stands
    once-next stack (some t) p k = k t p

    each_next : (rest : List Item) (stack : Tuple → List Item) (o : Option Tuple) → Fitting o → Facts c (with_stack s rest)
        → ((t : Tuple) → Fits S Γ s.store.terms vs t → Facts c (with_answer s vs t (stack t))) → NextFacts (enter_each s vs rest stack o)
    unfolding enter_each
    each_next rest stack none p h k = h
    each_next rest stack (some t) p h k = k t p

  module _ (ranks : List ℕ) (clock : ℤ) (s : State) (h : Facts c s) (rest : List Item) (below : StackIn s s.control.bindings rest) where
    abbrev β : Bindings
    β = s.control.bindings

    abbrev terms : ℕ
    terms = length s.store.terms

    block-answer : (at : ℕ) (each : Bool) (bs : List Binder) (q : Query) (d : Script) (depth : ℕ) → At c.root depth (block at each bs q d)
        → BoundIn β (λ v. is_free v (block at each bs q d)) → (from : Option Tuple)
        → Fine (Fitting s (variables_of bs)) (answer (setting_of c ranks clock) Γ s.store.terms s.store.quads β (variables_of bs) q from)
    unfolding is_free script_typed
    block-answer at each bs q d depth a b from =
        let bounded = bounded_at a (length c.terms) accepted.bounded in
        let typed = typed_at a constants Γ accepted.typed in
        answer-fine (setting_of c ranks clock) Γ c.terms s.store.terms h.extends s.store.quads β (well-bound s h) (variables_of bs) q bounded.1
        (in-query β (variables_of bs) q d b) (and_left (query_typed constants Γ q) (script_typed constants Γ d) typed) from

    act-facts : (last : Option Tuple) (d : Script) → ItemFacts c.root terms β (suc (length rest)) (record { script = d; last = last })
        → Fine NextFacts (act (setting_of c ranks clock) Γ s rest last d)
    unfolding act is_free script_typed
    act-facts last (success at) i = fine (with-stack s h rest below)
    act-facts last (sequence at d e) i =
        let deep = i.deep in
        fine (with-stack s h (fresh d ∷ fresh e ∷ rest) (
          child terms (under_first i.in_root) (omega arith) (in_left β (λ v. is_free v d) (λ v. is_free v e) i.bound),
          (child terms (under_second i.in_root) (omega arith) (in_right β (λ v. is_free v d) (λ v. is_free v e) i.bound), below),
        ))
    act-facts last (from_named at n d) i =
        let b = bounded_at i.in_root (length c.terms) accepted.bounded in
        let typed = typed_at i.in_root constants Γ accepted.typed in
        let deep = i.deep in
        fine-then
        (named-fine (setting_of c ranks clock) Γ c.terms s.store.terms h.extends s.store.quads β (well-bound s h) n (plain Datatype.any_uri) b.0
        (in_left β (λ v. in_name v n) (λ v. is_free v d) i.bound) (and_left (name_has constants Γ n (plain Datatype.any_uri)) (script_typed constants Γ d) typed))
        λ g p.
        fine-and (fine-demand (is_uri g.term) from_named_no_uri (is-uri S g.term p.typed))
        (fine (named-next s (fresh d ∷ rest) g (with-stack s h (fresh d ∷ rest) (
          child terms (under_named i.in_root) (omega arith) (in_right β (λ v. in_name v n) (λ v. is_free v d) i.bound),
          below,
        ))))
    act-facts last (block at false bs q d) i =
        let vs = variables_of bs in
        let deep = i.deep in
        fine-then (block-answer at false bs q d i.depth i.in_root i.bound none) λ o p.
        fine (once-next s vs (fresh d ∷ rest) o p (λ t fits.
        with-answer s h i.depth at false bs q d i.in_root t fits (fresh d ∷ rest) (
          child terms (under_block i.in_root) (omega arith)
              (bound-reached S Γ s.store.terms β vs t fits (λ v. is_free v d) (in-script β vs q d i.bound)),
          stack-stays terms β vs t rest below,
        )))
    act-facts last (block at true bs q d) i =
        let vs = variables_of bs in
        let deep = i.deep in
        let again : Tuple → Item = λ t. record { script = block at true bs q d; last = some t } in
        fine-then (block-answer at true bs q d i.depth i.in_root i.bound last) λ o p.
        fine (each_next s vs rest (λ t. fresh d ∷ again t ∷ rest) o p (with-stack s h rest below) (λ t fits.
        with-answer s h i.depth at true bs q d i.in_root t fits (fresh d ∷ again t ∷ rest) (
          child terms (under_block i.in_root) (omega arith)
              (bound-reached S Γ s.store.terms β vs t fits (λ v. is_free v d) (in-script β vs q d i.bound)),
          (
            record {
              depth = i.depth;
              in_root = i.in_root;
              deep = i.deep;
              bound = λ v m. bound-stays β vs t v (i.bound v m);
              last = last-answer S Γ s.store.terms at bs q d t fits;
            },
            stack-stays terms β vs t rest below,
          ),
        )))

    -- an each block always has a step to take
    each-steps : (at : ℕ) (bs : List Binder) (q : Query) (d : Script) (last : Option Tuple) (depth : ℕ) → At c.root depth (block at true bs q d)
        → BoundIn β (λ v. is_free v (block at true bs q d)) → Fine (λ n. ending_of n ≡ Spent) (act (setting_of c ranks clock) Γ s rest last (block at true bs q d))
    unfolding act enter_each
    each-steps at bs q d last depth a b = fine-then (block-answer at true bs q d depth a b last) λ o p. fine (steps o)
      where
        steps : (o : Option Tuple)
            → ending_of (enter_each s (variables_of bs) rest (λ t. fresh d ∷ record { script = block at true bs q d; last = some t } ∷ rest) o) ≡ Spent
        steps none = refl
        steps (some t) = refl

    -- with no budget left: what is told is what the next step would tell
    abbrev Told : Outcome Next → RunState → Type 0
    Told m r = Fine (λ n. ending_of n ≡ r) m

    told : {P : Next → Type 0} {m : Outcome Next} → Fine P m → Fine (Told m) (m >>= λ n. ok (ending_of n))
    unfolding ◌>>=◌
    told (fine p) = fine (fine refl)

    look-tells : (last : Option Tuple) (d : Script) → ItemFacts c.root terms β (suc (length rest)) (record { script = d; last = last })
        → Fine (Told (act (setting_of c ranks clock) Γ s rest last d)) (elim (is_each_block d) as (λ b. Outcome RunState) [
          | true ↦ ok Spent
          | false ↦ act (setting_of c ranks clock) Γ s rest last d >>= λ n. ok (ending_of n)
        ])
    look-tells last (success at) i = told (act-facts last (success at) i)
    look-tells last (from_named at n d) i = told (act-facts last (from_named at n d) i)
    look-tells last (block at false bs q d) i = told (act-facts last (block at false bs q d) i)
    look-tells last (block at true bs q d) i = fine (each-steps at bs q d last i.depth i.in_root i.bound)
    look-tells last (sequence at d e) i = told (act-facts last (sequence at d e) i)

  next-of-facts : (ranks : List ℕ) (clock : ℤ) (s : State) → Facts c s → (stack : List Item) → StackIn s s.control.bindings stack → Fine NextFacts (next_of (setting_of c ranks clock) Γ s stack)
  unfolding next_of
  next-of-facts ranks clock s h [] k = fine ended-stands
  next-of-facts ranks clock s h (i ∷ rest) k = act-facts ranks clock s h rest k.1 i.last i.script k.0

  look-of-facts : (ranks : List ℕ) (clock : ℤ) (s : State) → Facts c s → (stack : List Item) → StackIn s s.control.bindings stack
      → Fine (λ r. Fine (λ n. ending_of n ≡ r) (next_of (setting_of c ranks clock) Γ s stack)) (look (setting_of c ranks clock) Γ s stack)
  unfolding next_of look
  look-of-facts ranks clock s h [] k = fine (fine refl)
  look-of-facts ranks clock s h (i ∷ rest) k = look-tells ranks clock s h rest k.1 i.last i.script k.0

  -- ── the claims ──

  next-again : (n : Next) → NextFacts n → NextSound c n
  next-again (step s) h = sound c accepted s h
  next-again (stand r) h = h

  -- a sound state takes a step to a sound state, or it stands
  pub next-sound : (ranks : List ℕ) (clock : ℤ) (s : State) → Sound c s → Fine (NextSound c) (next (setting_of c ranks clock) Γ s)
  next-sound ranks clock s h = let k = facts c accepted s h in fine-map (next-of-facts ranks clock s k s.control.stack k.stack) next-again

  -- with no budget left it meets no fault either, and tells what the next step would: spent where there is one
  pub look-sound : (ranks : List ℕ) (clock : ℤ) (s : State) → Sound c s
      → Fine (λ r. Fine (λ n. ending_of n ≡ r) (next (setting_of c ranks clock) Γ s)) (look (setting_of c ranks clock) Γ s s.control.stack)
  look-sound ranks clock s h = let k = facts c accepted s h in look-of-facts ranks clock s k s.control.stack k.stack
