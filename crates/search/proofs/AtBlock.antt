-- A block on top of the stack of a sound state: its search is ready, and what the search finds is the machine's answer.
use Prim.Native.Nat.{ℕ, ◌≤◌, ◌<◌}
use mathlib.Core.Path.{◌≡◌, subst}
use mathlib.Core.List.{List, [], ◌∷◌, ◌++◌}
use mathlib.Core.Bool.{Bool, not, ◌||◌}
use mathlib.Core.Option.{some}
use lib.Dec.{T, eqb}
use lib.ListN.{length, get_or}
use Rattle.definitions.specs.Limits.{depth_limit, ranks_width, variable_limit, pair_limit}
use Rattle.definitions.specs.Bytes.{signed}
use Rattle.definitions.specs.Lists.{every, distinct, is_in}
use Rattle.definitions.specs.Types.{type_of_code}
use Rattle.definitions.specs.Tree.{Binder, Query, Script, block}
use Rattle.definitions.specs.Scope.{variables, variables_of, in_query, is_free, binders_of, in_scope}
use Rattle.definitions.specs.Reading.{read_query}
use Rattle.definitions.specs.Typing.{type_at, query_typed, script_typed}
use Rattle.definitions.specs.Outcome.{ok}
use Rattle.definitions.specs.Evaluate.{Bindings}
use Rattle.definitions.specs.Search.{answer}
use Rattle.definitions.specs.Machine.{Item, State, answer_now}
use Rattle.definitions.specs.Calls.{Checked, constants_of, setting_of}
use Rattle.laws.proofs.Tests.{and_left, and_right, and_make, or_left}
use Rattle.laws.specs.Bindings.{BoundIn}
use Rattle.laws.proofs.Places.{At, inherits, bounded_at, typed_at}
use Rattle.laws.specs.Sound.{Accepted, Sound}
use Rattle.laws.proofs.SoundMeans.{ItemFacts, StackFacts, facts}
use Rattle.query.specs.Codes.{bindings_of}
use Rattle.query.specs.declared.Context.{Context}
use Rattle.query.specs.StoreLent.{setting_in, Told, StoreLent}
use Rattle.search.specs.Ready.{Ready}
use Rattle.search.specs.Finding.{numbers_from, tuple_of, last_of, World, AnswerOf}
use Rattle.search.specs.declared.Block.{Block}
use Rattle.std.specs.Prelude.{Option as Maybe}

-- ── its variables are distinct ──────────────────────────────────────────────────────────────

every-former : (p : ℕ → Bool) (bs cs : List Binder) → T (every p (variables_of (bs ++ cs))) → T (every p (variables_of bs))
every-former p [] cs h = tt
every-former p (b ∷ bs) cs h =
    let here = p b.variable in
    let more = every p (variables_of (bs ++ cs)) in
    and_make here (every p (variables_of bs)) (and_left here more h) (every-former p bs cs (and_right here more h))

abbrev Apart : List Binder → Type 0
Apart bs = T (distinct eqb (variables_of bs))

former-apart : (bs cs : List Binder) → Apart (bs ++ cs) → Apart bs
former-apart [] cs h = tt
former-apart (b ∷ bs) cs h =
    let other : ℕ → Bool = λ y. not (eqb b.variable y) in
    let others = every other (variables_of (bs ++ cs)) in
    let more = distinct eqb (variables_of (bs ++ cs)) in
    and_make (every other (variables_of bs)) (distinct eqb (variables_of bs)) (every-former other bs cs (and_left others more h))
    (former-apart bs cs (and_right others more h))

latter-apart : (bs cs : List Binder) → Apart (bs ++ cs) → Apart cs
latter-apart [] cs h = h
latter-apart (b ∷ bs) cs h =
    latter-apart bs cs (and_right (every (λ y. not (eqb b.variable y)) (variables_of (bs ++ cs))) (distinct eqb (variables_of (bs ++ cs))) h)

pub block_apart : {root d : Script} {depth at : ℕ} {each : Bool} {bs : List Binder} {q : Query} → T (in_scope root) → At root depth (block at each bs q d)
    → T (distinct eqb (variables_of bs))
unfolding in_scope binders_of
block_apart {root} {d} {bs = bs} h a =
    former-apart bs (binders_of d)
    (inherits (λ c. Apart (binders_of c)) (λ at n c k. k) (λ at each bs q c k. latter-apart bs (binders_of c) k)
    (λ at c d k. former-apart (binders_of c) (binders_of d) k) (λ at c d k. latter-apart (binders_of c) (binders_of d) k) a
    (and_right (every (λ v. not (is_free v root)) variables) (distinct eqb (variables_of (binders_of root))) h))

-- ── its search is ready ─────────────────────────────────────────────────────────────────────

module _ (c : Checked) (accepted : Accepted c) (s : State) (sound : Sound c s) where
  module _ {depth at : ℕ} {each : Bool} {bs : List Binder} {q : Query} {d : Script} (a : At c.root depth (block at each bs q d))
      (bound : BoundIn s.control.bindings (λ v. is_free v (block at each bs q d))) where
    pub block-ready : Ready c.schema (type_at c.types) s.store.terms s.control.bindings (variables_of bs) q
    unfolding is_free script_typed
    block-ready =
        let h = facts c accepted s sound in
        let constants = constants_of c.schema c.terms in
        let Γ = type_at c.types in
        record {
          loaded = c.terms;
          extends = h.extends;
          well_bound = λ v i e. (h.bindings v i e).holds;
          bounded = (bounded_at a (length c.terms) accepted.bounded).1;
          bound = λ v m.
              let other = not (is_in v (variables_of bs)) in
              bound v (and_make other (in_query v q || is_free v d) (and_left other (in_query v q) m) (or_left (in_query v q) (is_free v d) (and_right other (in_query v q) m)));
          typed = and_left (query_typed constants Γ q) (script_typed constants Γ d) (typed_at a constants Γ accepted.typed);
        }

  -- ── and finds the machine's answer ────────────────────────────────────────────────────────

  module _ (scope : T (in_scope c.root)) {i : Item} {rest : List Item} (stack : s.control.stack ≡ i ∷ rest)
      {at : ℕ} {each : Bool} {bs : List Binder} {q : Query} {d : Script} (is : i.script ≡ block at each bs q d) where
    top : ItemFacts c.root (length s.store.terms) s.control.bindings (length (i ∷ rest)) i
    top = (subst (StackFacts c.root (length s.store.terms) s.control.bindings) stack (facts c accepted s sound).stack).0

    placed : At c.root top.depth (block at each bs q d)
    placed = subst (At c.root top.depth) is top.in_root

    ready : Ready c.schema (type_at c.types) s.store.terms s.control.bindings (variables_of bs) q
    ready = block-ready placed (subst (λ (x : Script). BoundIn s.control.bindings (λ v. is_free v x)) is top.bound)

    module _ (script ranks : List ℕ) {table quads leasts : List ℕ} {x : Context} (ranked : length ranks ≡ ranks_width) (told : Told x)
        (lent : StoreLent table quads leasts x c.schema s.store.terms s.store.quads)
        (b : Block) (next : ℕ) (read : read_query script x.loaded depth_limit b.«at» ≡ some (q, next)) (size : b.size ≤ pair_limit)
        (small : (j : ℕ) → get_or b.vars j 0 < variable_limit)
        (types : (k : ℕ) → k < b.size → type_of_code (get_or b.types k 0) ≡ some (type_at c.types (get_or b.vars k 0))) where
      -- what is lent stands for
      abbrev pub world : World script ranks table quads leasts x b
      world =
          record {
            schema = c.schema;
            typing = type_at c.types;
            terms = s.store.terms;
            rows = s.store.quads;
            tree = q;
            next = next;
            told = told;
            ranked = ranked;
            lent = lent;
            read = read;
            types = types;
            size = size;
            small = small;
          }

      module _ (known : List ℕ) (started : Bool) (r : Maybe (List ℕ)) (variables_are : numbers_from b.size b.vars 0 ≡ variables_of bs)
          (bindings_are : bindings_of known ≡ s.control.bindings) where
        pub answer-now : AnswerOf world known started r
            → answer_now (setting_of c ranks (signed x.clock)) (type_at c.types) s (variables_of bs) q (last_of started b.last 0 b.size) ≡ ok (tuple_of r 0 b.size)
        unfolding setting_in
        answer-now h = moved variables_are bindings_are h
          where
            Given : List ℕ → Bindings → Type 0
            Given vs β =
                T (distinct eqb vs) → Ready c.schema (type_at c.types) s.store.terms β vs q
                → answer (setting_of c ranks (signed x.clock)) (type_at c.types) s.store.terms s.store.quads β vs q (last_of started b.last 0 b.size) ≡ ok (tuple_of r 0 b.size)

            moved : {vs : List ℕ} {β : Bindings} → vs ≡ variables_of bs → β ≡ s.control.bindings → Given vs β
                → answer_now (setting_of c ranks (signed x.clock)) (type_at c.types) s (variables_of bs) q (last_of started b.last 0 b.size) ≡ ok (tuple_of r 0 b.size)
            moved {vs} {β} ev eb g =
                let g₁ : Given (variables_of bs) β = subst (λ (y : List ℕ). Given y β) ev g in
                subst (Given (variables_of bs)) eb g₁ (block_apart scope placed) ready
