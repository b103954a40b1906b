-- The search over bytes and arrays: one law for each way through the code.
use Prim.Native.Nat.{ℕ, ◌+◌, ◌-◌, ◌≤◌, ◌<◌, min}
use native.Mathlib.Omega.{arith}
use mathlib.Core.Path.{◌≡◌, refl, sym, ◌∙◌, ap, subst, subst⁻¹, fun_ext}
use mathlib.Core.Logic.{⊎_elim}
use mathlib.Core.List.{List, [], ◌∷◌}
use mathlib.Core.Bool.{Bool, true, false, cond, true≢false}
use mathlib.Core.Option.{none, some}
use lib.Dec.{T, eqb, eqb→eq, eqb_refl, lt→ltb}
use lib.ListN.{length, get_or, set}
use lib.Seq.{get_or-set_same, get_or-set_other}
use borrow.Author.Tests.{lt-ltb}
use Rattle.definitions.specs.Limits.{depth_limit, term_limit, variable_limit}
use Rattle.definitions.specs.Reading.{read_query}
use Rattle.definitions.specs.Evaluate.{Bindings, Quad}
use Rattle.definitions.specs.Search.{Tuple, earlier, bind}
use Rattle.definitions.specs.Sound.{number_has}
use Rattle.definitions.specs.Values.{before}
use Rattle.codes.specs.TypeCodes.{code_leq}
use Rattle.laws.proofs.Ranges.{split}
use Rattle.laws.proofs.Reading.{same_read}
use Rattle.laws.proofs.Tests.{is_true}
use Rattle.laws.specs.Walks.{Loads, Walked}
use Rattle.laws.proofs.NoFault.{fine-ok}
use Rattle.laws.specs.Bindings.{Holds}
use Rattle.laws.proofs.Bindings.{test-holds, holds_test, is_below}
use Rattle.scan.specs.Codes.{sought_code, free_code}
use Rattle.query.specs.Codes.{number_at, bindings_of}
use Rattle.query.specs.declared.Context.{Context}
use Rattle.query.specs.StoreLent.{setting_in, rows_of}
use Rattle.query.specs.Eval.{RanksLent, HoldsOf}
use Rattle.query.proofs.Outcomes.{ok-passes}
use Rattle.query.proofs.TermLaws.{few}
use Rattle.seeking.specs.Seeking.{Keeps, holds, Reaches, SeekOf, Denies}
use Rattle.seeking.specs.Parts.{PartsOf}
use Rattle.seeking.specs.declared.Part.{Part}
use Rattle.search.specs.Ready.{Ready}
use Rattle.search.specs.Finding.{numbers_from, tuple_of, skip_types, skip, bind_to, World, Parted, later, First, From, Once, Cleared, setting, Has, ReadyFor, Passes, PassedTo, NextOf}
use Rattle.search.specs.Finding.{HopeAt, HopeOf, WorthOf, Good, FirstOf, FindOf, AfterOf, is_after}
use Rattle.search.specs.declared.Block.{Block}
use Rattle.std.specs.Prelude.{Option as Maybe, None, Some}
use Rattle.std.specs.Bool.{then_some}
use Rattle.search.proofs.TypeLaws.{has_code, skip_is, skip-low}
use Rattle.search.proofs.TupleOrder.{lower, alike}
use Rattle.search.proofs.FirstTuple.{first-map}
use Rattle.search.proofs.TryLaws.{skip-reaches, skip-typed, earlier-cases}
use Rattle.search.proofs.ReadyLaws.{ready-sure, ready-fine, ready-set, ready-more}
use Rattle.search.proofs.Chosen.{cleared-set, keeps-bind, set_keeps, set-bind-at, tuple-has}
use Rattle.search.proofs.TupleArrays.{numbers-none, numbers_more, in-later, tuple-set}

-- ── one more variable known ─────────────────────────────────────────────────────────────────

module _ (known : List ℕ) (v i : ℕ) (inside : v < length known) (small : i < sought_code) where
  pub set-bindings : bindings_of (set known v i) ≡ bind_to v i (bindings_of known)
  unfolding bindings_of
  set-bindings = fun_ext at
    where
      at : (x : ℕ) → number_at (get_or (set known v i) x free_code) ≡ cond (eqb x v) (some i) (number_at (get_or known x free_code))
      at x = go (eqb x v) (eqb→eq x v) (λ (e : x ≡ v). subst⁻¹ (λ y. T (eqb y v)) e (eqb_refl v))
        where
          go : (b : Bool) → (T b → x ≡ v) → (x ≡ v → T b) → number_at (get_or (set known v i) x free_code) ≡ cond b (some i) (number_at (get_or known x free_code))
          go true e f = rw (e tt, get_or-set_same known v i free_code inside, lt-ltb i sought_code small) refl
          go false e f = rw (get_or-set_other known v x i free_code (λ e. f e)) refl

pub from_zero : (t : Tuple) → From 0 t
from_zero [] = tt
from_zero (i ∷ t) = omega arith

-- ── what is lent to the search ──────────────────────────────────────────────────────────────

module _ {script ranks table quads leasts : List ℕ} {x : Context} {block : Block} (w : World script ranks table quads leasts x block) where
  pub loads-here : Loads (read_query script x.loaded depth_limit block.«at»)
  loads-here = (w.tree, w.next, w.read)

  pub lent-here : (known : List ℕ) → length known ≡ variable_limit → RanksLent ranks table known x
  lent-here known h = record { ranked = w.ranked; terms = record { terms = w.terms; tabled = w.lent.tabled; told = w.told; variables = h } }

  pub parts-here : {parts : List Part} → Parted script parts x block → PartsOf script x.loaded parts w.tree
  parts-here p = p.each w.tree w.next w.read

  counted : x.count ≡ length w.terms
  counted = sym w.lent.tabled.counted

  pub few-terms : x.count ≤ term_limit
  few-terms = few table x w.terms w.lent.tabled

  abbrev vars : List ℕ
  vars = block.vars

  abbrev size : ℕ
  size = block.size

  small-number : {δ : Bindings} {k : ℕ} (h : Has w δ k) → h.number < x.count
  small-number h = omega (arith, is_below w.terms h.number h.typed.term h.typed.there, counted)

  module _ (known : List ℕ) where
    abbrev γ : Bindings
    γ = bindings_of known

    -- what a seek promises, of the block's query
    reaches : (v lo a : ℕ) → SeekOf ranks table known x (rows_of quads x) v lo a w.tree → (vs : List ℕ) → ReadyFor w known vs
        → Reaches (setting w) w.terms w.rows γ v lo a w.tree
    unfolding setting_in
    reaches v lo a s vs r =
        let h : SeekOf ranks table known x w.rows v lo a w.tree = subst (λ (rows : List Quad). SeekOf ranks table known x rows v lo a w.tree) w.lent.quads_are s in
        h.1 w.schema w.terms w.lent.tabled.reads (ready-sure (setting w) w.typing w.terms w.rows γ w.tree vs r)

    denied : (v number : ℕ) → Denies ranks table known x (rows_of quads x) v number w.tree → (vs : List ℕ) → ReadyFor w known vs
        → (δ : Bindings) → Passes w known δ → δ v ≡ some number → ⊥
    unfolding setting_in
    denied v number s vs r δ p is =
        let h : Denies ranks table known x w.rows v number w.tree = subst (λ (rows : List Quad). Denies ranks table known x rows v number w.tree) w.lent.quads_are s in
        h w.schema w.terms w.lent.tabled.reads (ready-sure (setting w) w.typing w.terms w.rows γ w.tree vs r) δ p.0 is p.1

    -- ── the next number ───────────────────────────────────────────────────────────────────────

    module _ (k : ℕ) (below : k < size) where
      abbrev v : ℕ
      v = get_or vars k 0

      pub coded : (i : ℕ) → i < x.count → code_leq (get_or leasts i 0) (get_or block.types k 0) ≡ number_has w.schema w.terms i (w.typing v)
      coded i h = has_code w.schema w.terms leasts w.lent.least_of (get_or block.types k 0) (w.typing v) (w.types k below) i (omega (arith, counted))

      skipped : (i : ℕ) → skip_types leasts (get_or block.types k 0) (x.count - i) i ≡ skip w.schema (w.typing v) w.terms (length w.terms - i) i
      unfolding skip_types skip
      skipped i =
          let e = counted in
          ⊎_elim
          (λ h. let z : x.count - i ≡ 0 = omega arith in let y : length w.terms - i ≡ 0 = omega arith in rw (z, y) refl)
          (λ h. ap (λ n. skip_types leasts (get_or block.types k 0) (n - i) i) e
          ∙ skip_is w.schema w.terms leasts w.lent.least_of (get_or block.types k 0) (w.typing v) (w.types k below) (length w.terms - i) i (omega arith))
          (split x.count i)

      module _ (lo : ℕ) where
        -- the numbers from lo on are passed up to one
        abbrev pub SoFar : ℕ → Type 0
        SoFar from = (min lo x.count ≤ from) × PassedTo w known k lo from

        pub next-starts : SoFar lo
        next-starts = (omega arith, λ vs r δ p h l. l)

        module _ (from : ℕ) (so_far : SoFar from) where
          pub next_past : x.count ≤ from → NextOf w known k lo x.count
          next_past h = (omega arith, λ b. absurd (omega arith), λ vs r δ p a l. omega (arith, h, so_far.1 vs r δ p a l))

          module _ (s : ℕ) (es : SeekOf ranks table known x (rows_of quads x) v from s w.tree) where
            to-seek : PassedTo w known k lo s
            to-seek vs r δ p h l = reaches v from s es vs r δ p.0 h.number h.is (so_far.1 vs r δ p h l) p.1

            module _ (typed : ℕ) (et : typed ≡ skip_types leasts (get_or block.types k 0) (x.count - s) s) where
              pub next_here : typed ≡ s → NextOf w known k lo s
              next_here e = (
                omega (arith, so_far.0, es.0),
                λ b.
                    let f : skip w.schema (w.typing v) w.terms (length w.terms - s) s ≡ s = sym (skipped s) ∙ (sym et ∙ e) in
                    test-holds w.schema w.terms (w.typing v) s
                    (subst (λ i. T (number_has w.schema w.terms i (w.typing v))) f
                    (skip-typed w.schema (w.typing v) w.terms (length w.terms - s) s (omega arith) (omega (arith, f, counted, b)))),
                to-seek,
              )

              pub next-higher : s ≤ typed
              next-higher = omega (arith, et, skip-low leasts (get_or block.types k 0) (x.count - s) s)

              pub next-on : SoFar typed
              next-on = (
                omega (arith, so_far.0, es.0, next-higher),
                λ vs r δ p h l.
                    subst⁻¹ (λ i. i ≤ h.number) (et ∙ skipped s)
                    (skip-reaches w.schema (w.typing v) w.terms (length w.terms - s) s h.number (to-seek vs r δ p h l)
                    (holds_test w.schema w.terms (w.typing v) h.number h.typed)),
              )

    -- ── a number chosen ───────────────────────────────────────────────────────────────────────

    module _ (k i : ℕ) (small : i < x.count) (inside : get_or vars k 0 < length known) where
      abbrev with : List ℕ
      with = set known (get_or vars k 0) i

      with-is : bindings_of with ≡ bind_to (get_or vars k 0) i γ
      with-is = set-bindings known (get_or vars k 0) i inside (omega (arith, few-terms))

      pub with-here : bindings_of with (get_or vars k 0) ≡ some i
      with-here = ap (λ (δ : Bindings). δ (get_or vars k 0)) with-is ∙ rw (is_true (eqb (get_or vars k 0) (get_or vars k 0)) (eqb_refl (get_or vars k 0))) refl

      pub with-passes : {δ : Bindings} → Passes w known δ → δ (get_or vars k 0) ≡ some i → Passes w with δ
      with-passes {δ} p is = (subst⁻¹ (λ (β : Bindings). Keeps β δ) with-is (set_keeps (get_or vars k 0) i γ δ p.0 is), p.1)

      module _ (typed : Holds w.schema w.terms i (w.typing (get_or vars k 0))) where
        -- for the same variables
        pub with-ready : (vs : List ℕ) → ReadyFor w known vs → ReadyFor w with vs
        with-ready vs r =
            subst⁻¹ (λ (δ : Bindings). Ready w.schema w.typing w.terms δ vs w.tree) with-is
            (ready-set w.schema w.typing w.terms γ w.tree (get_or vars k 0) i vs (ready-more w.schema w.typing w.terms γ w.tree (get_or vars k 0) vs r) typed)

        -- and for those after it
        pub with_rest : (vs : List ℕ) → ReadyFor w known (get_or vars k 0 ∷ vs) → ReadyFor w with vs
        with_rest vs r =
            subst⁻¹ (λ (δ : Bindings). Ready w.schema w.typing w.terms δ vs w.tree) with-is
            (ready-set w.schema w.typing w.terms γ w.tree (get_or vars k 0) i vs r typed)

  module _ (known : List ℕ) where
    -- ── a variable that still has a number ────────────────────────────────────────────────────

    module _ (j lo : ℕ) (so_far : PassedTo w known j 0 lo) where
      pub hope-past : x.count ≤ lo → HopeAt w known j false
      hope-past h e vs r δ p a = omega (arith, h, small-number a, so_far vs r δ p a (omega arith))

      module _ (i : ℕ) (ei : NextOf w known j lo i) where
        at_least : (vs : List ℕ) → ReadyFor w known vs → (δ : Bindings) → Passes w known δ → (h : Has w δ j) → i ≤ h.number
        at_least vs r δ p h = ei.2 vs r δ p h (so_far vs r δ p h (omega arith))

        pub hope-none : x.count ≤ i → HopeAt w known j false
        hope-none h e vs r δ p a = omega (arith, h, small-number a, at_least vs r δ p a)

        pub hope-on : (small : i < x.count) (inside : get_or vars j 0 < length known)
            → Denies ranks table (set known (get_or vars j 0) i) x (rows_of quads x) (get_or vars j 0) i w.tree → PassedTo w known j 0 (i + 1)
        hope-on small inside d vs r δ p h l =
            let b = at_least vs r δ p h in
            let other : h.number ≡ i → ⊥ = (λ (e : h.number ≡ i).
            let is = h.is ∙ ap some e in
            denied (set known (get_or vars j 0) i) (get_or vars j 0) i d vs (with-ready known j i small inside (ei.1 small) vs r) δ (with-passes known j i small inside p is) is) in
            omega (arith, b, other)

    pub hopeful-lost : (from j : ℕ) {b : Bool} → from ≤ j → j < size → HopeAt w known j b → b ≡ false → HopeOf w known from false
    hopeful-lost from j l h a f e vs r δ p has = a f vs r δ p (has j l h)

    pub hopeful-all : (from : ℕ) → HopeOf w known from true
    hopeful-all from e = absurd (true≢false e)

    -- ── a number that is worth it ─────────────────────────────────────────────────────────────

    pub worth-last : (k number : ℕ) → WorthOf w known k number true
    worth-last k number is = hopeful-all (k + 1)

    pub worth-denied : (k number : ℕ) → Denies ranks table known x (rows_of quads x) (get_or vars k 0) number w.tree → WorthOf w known k number false
    worth-denied k number d is e vs r δ p has = denied known (get_or vars k 0) number d vs r δ p (p.0 (get_or vars k 0) number is)

    pub worth-hopeful : (k number : ℕ) {b : Bool} → HopeOf w known (k + 1 + 1) b → WorthOf w known k number b
    worth-hopeful k number h is e vs r δ p has = h e vs r δ p (λ j l b. has j (omega arith) b)

  -- ── one level ─────────────────────────────────────────────────────────────────────────────

  -- what a tuple's bindings are: they keep what is known, and have the tuple's numbers
  module _ (known : List ℕ) (k : ℕ) (below : k < size) (once : Once (get_or vars k 0 ∷ later block (k + 1)))
      (ready : ReadyFor w known (get_or vars k 0 ∷ later block (k + 1))) (cleared : Cleared (get_or vars k 0 ∷ later block (k + 1)) (bindings_of known)) where
    abbrev here : ℕ
    here = get_or vars k 0

    abbrev rest : List ℕ
    rest = later block (k + 1)

    abbrev all : List ℕ
    all = here ∷ rest

    passes-with : (i : ℕ) (t : Tuple) → Good w known all (i ∷ t) → Passes w known (bind all (i ∷ t) (bindings_of known))
    passes-with i t g = (keeps-bind all (i ∷ t) (bindings_of known) cleared, g.1)

    has_here : (i : ℕ) (t : Tuple) → Good w known all (i ∷ t) → Has w (bind all (i ∷ t) (bindings_of known)) k
    unfolding bind
    has_here i t g = record { number = i; is = rw (is_true (eqb here here) (eqb_refl here)) refl; typed = g.0.0 }

    -- its number is not passed over
    pub not-passed : (lo r : ℕ) → PassedTo w known k lo r → (i : ℕ) (t : Tuple) → Good w known all (i ∷ t) → lo ≤ i → r ≤ i
    unfolding has_here
    not-passed lo r n i t g l = n all ready (bind all (i ∷ t) (bindings_of known)) (passes-with i t g) (has_here i t g) l

    pub good-small : (i : ℕ) (t : Tuple) → Good w known all (i ∷ t) → i < x.count
    unfolding has_here
    good-small i t g = small-number (has_here i t g)

    module _ (i : ℕ) (small : i < x.count) (inside : here < length known) (typed : Holds w.schema w.terms i (w.typing here)) where
      abbrev chosen : List ℕ
      chosen = set known here i

      same : (t : Tuple) → bind all (i ∷ t) (bindings_of known) ≡ bind rest t (bindings_of chosen)
      unfolding bind
      same t = fun_ext (set-bind-at here i rest t (bindings_of known) once.0) ∙ ap (bind rest t) (sym (with-is known k i small inside))

      pub narrow : (t : Tuple) → Good w known all (i ∷ t) → Good w chosen rest t
      narrow t g = (g.0.1, subst (λ (δ : Bindings). T (holds (setting w) w.terms w.rows δ w.tree)) (same t) g.1)

      pub widen : (t : Tuple) → Good w chosen rest t → Good w known all (i ∷ t)
      widen t g = ((typed, g.0), subst⁻¹ (λ (δ : Bindings). T (holds (setting w) w.terms w.rows δ w.tree)) (same t) g.1)

      pub chosen-ready : ReadyFor w chosen rest
      chosen-ready = with_rest known k i small inside typed rest ready

      pub chosen-cleared : Cleared rest (bindings_of chosen)
      chosen-cleared = subst⁻¹ (Cleared rest) (with-is known k i small inside) (cleared-set here i rest (bindings_of known) once.0 cleared)

      -- where it is not worth it no tuple has it
      pub not-worth : {b : Bool} → WorthOf w chosen k i b → b ≡ false → (t : Tuple) → Good w known all (i ∷ t) → ⊥
      not-worth h e t g =
          let n = narrow t g in
          let β = bind rest t (bindings_of chosen) in
          h (with-here known k i small inside) e rest chosen-ready β (keeps-bind rest t (bindings_of chosen) chosen-cleared, n.1)
          (λ j l b. has-later t n j l b)
        where
          has-later : (t : Tuple) → Good w chosen rest t → (j : ℕ) → k + 1 ≤ j → j < size → Has w (bind rest t (bindings_of chosen)) j
          has-later t n j l b =
              let a = tuple-has w.schema w.typing w.terms rest t (bindings_of chosen) n.0 (get_or vars j 0) (in-later vars size (k + 1) j l b) in
              record { number = a.number; is = a.is; typed = a.typed }

      module _ (P Q : Tuple → Type 0) (out : (t : Tuple) → Q (i ∷ t) → P t) where
        -- nothing found after it
        pub none_after : First (λ t. Good w chosen rest t × P t) none → (t : Tuple) → Good w known all (i ∷ t) → Q (i ∷ t) → ⊥
        none_after h t g q = h t (narrow t g, out t q)

        -- the first tuple after it is the first of all, where no number below it has one
        pub first-after : ((t : Tuple) → P t → Q (i ∷ t)) → ((j : ℕ) (t : Tuple) → Good w known all (j ∷ t) → Q (j ∷ t) → i ≤ j) → (u : Tuple)
            → First (λ t. Good w chosen rest t × P t) (some u) → First (λ t. Good w known all t × Q t) (some (i ∷ u))
        first-after into low u h = ((widen u h.0.0, into u h.0.1), least)
          where
            least : (s : Tuple) → Good w known all s × Q s → T (earlier s (i ∷ u)) → ⊥
            least [] g e = g.0.0
            least (j ∷ s) g e =
                earlier-cases j i s u ⊥ (λ (m : j < i). let b = low j s g.0 g.1 in omega arith)
                (λ (m : j ≡ i) (n : T (earlier s u)). h.1 s (narrow s (subst (λ y. Good w known all (y ∷ s)) m g.0), out s (subst (λ y. Q (y ∷ s)) m g.1)) n) e

    -- no tuple at all
    pub no-tuple : (Q : Tuple → Type 0) → ((i : ℕ) (t : Tuple) → Good w known all (i ∷ t) → Q (i ∷ t) → ⊥) → First (λ t. Good w known all t × Q t) none
    no-tuple Q f [] g = g.0.0
    no-tuple Q f (i ∷ t) g = f i t g.0 g.1

  -- ── past the last level ───────────────────────────────────────────────────────────────────

  module _ (known : List ℕ) (k : ℕ) (over : size ≤ k) where
    -- with no variable left to choose
    abbrev Rest : (Tuple → Type 0) → Maybe (List ℕ) → List ℕ → Type 0
    Rest P r vs = Once vs → ReadyFor w known vs → Cleared vs (bindings_of known) → First (λ t. Good w known vs t × P t) (tuple_of r k (size - k))

    at-end : (P : Tuple → Type 0) (r : Maybe (List ℕ)) → Rest P r [] → FirstOf w known k P r
    at-end P r f = subst⁻¹ (Rest P r) (numbers-none vars size k over) f

    pub find-test : (lo : ℕ) (t : List ℕ) {b : Bool} {m n : ℕ} → Walked (HoldsOf ranks table known x (rows_of quads x) b m) (read_query script x.loaded depth_limit block.«at») n
        → FindOf w known k lo (then_some b t)
    unfolding bind setting_in numbers_from before
    find-test lo t {b} {m} s = at-end (From lo) (then_some b t) (λ once ready cleared.
        let h : HoldsOf ranks table known x w.rows b m w.tree =
        subst (λ (rows : List Quad). HoldsOf ranks table known x rows b m w.tree) w.lent.quads_are
        (subst (HoldsOf ranks table known x (rows_of quads x) b m) (same_read s.read w.read).0 s.holds) in
        let f = fine-ok (ready-fine (setting w) w.typing w.terms w.rows (bindings_of known) w.tree ready) in
        let p : b ≡ holds (setting w) w.terms w.rows (bindings_of known) w.tree =
        (h w.schema w.terms w.lent.tabled.reads f.0 f.1).0 ∙ sym (ok-passes f.1) in
        let e : size - k ≡ 0 = omega arith in
        rw e (go b p))
      where
        go : (b : Bool) → b ≡ holds (setting w) w.terms w.rows (bindings_of known) w.tree
            → First (λ u. Good w known [] u × From lo u) (tuple_of (then_some b t) k 0)
        go true p = (((tt, subst T p tt), tt), least)
          where
            least : (u : Tuple) → Good w known [] u × From lo u → T (earlier u []) → ⊥
            least [] g e = e
            least (i ∷ u) g e = g.0.0
        go false p = out
          where
            out : (u : Tuple) → Good w known [] u × From lo u → ⊥
            out [] g = subst T (sym p) g.0.1
            out (i ∷ u) g = g.0.0

    pub after-ends : AfterOf w known k None
    unfolding numbers_from before
    after-ends = at-end _ None (λ once ready cleared.
        let e : size - k ≡ 0 = omega arith in
        rw e out)
      where
        out : (u : Tuple) → Good w known [] u × T (is_after (some []) u) → ⊥
        out [] g = g.1
        out (i ∷ u) g = g.0.0

  -- ── the levels ────────────────────────────────────────────────────────────────────────────

  module _ (known : List ℕ) (k : ℕ) (below : k < size) where
    abbrev this : ℕ
    this = get_or vars k 0

    abbrev both : List ℕ
    both = this ∷ later block (k + 1)

    -- of the variables from this place on
    abbrev pub Given : Type 0 → Type 0
    Given A = Once both → ReadyFor w known both → Cleared both (bindings_of known) → A

    at_level : (P : Tuple → Type 0) (r : Maybe (List ℕ)) → Given (First (λ t. Good w known both t × P t) (tuple_of r k (size - k))) → FirstOf w known k P r
    at_level P r f =
        subst⁻¹ (λ (vs : List ℕ). Once vs → ReadyFor w known vs → Cleared vs (bindings_of known) → First (λ t. Good w known vs t × P t) (tuple_of r k (size - k)))
        (numbers_more vars size k below) f

    of-level : (P : Tuple → Type 0) (r : Maybe (List ℕ)) → FirstOf w known k P r → Given (First (λ t. Good w known both t × P t) (tuple_of r k (size - k)))
    of-level P r f =
        subst (λ (vs : List ℕ). Once vs → ReadyFor w known vs → Cleared vs (bindings_of known) → First (λ t. Good w known vs t × P t) (tuple_of r k (size - k)))
        (numbers_more vars size k below) f

    -- a tuple found after a number, with it
    hit : (P : Tuple → Type 0) (y : List ℕ) (i : ℕ) → k < length y → First P (some (i ∷ numbers_from (size - (k + 1)) y (k + 1)))
        → First P (some (numbers_from (size - k) (set y k i) k))
    hit P y i h f = subst⁻¹ (λ (t : Tuple). First P (some t)) (tuple-set y size k i below h) f

    module _ (lo : ℕ) where
      -- no number below `from` has a tuple
      abbrev pub LevelFrom : ℕ → Type 0
      LevelFrom from = Given ((i : ℕ) (t : Tuple) → Good w known both (i ∷ t) → lo ≤ i → from ≤ i)

      pub level-starts : LevelFrom lo
      level-starts o r c i t g l = l

      module _ (from : ℕ) (so_far : LevelFrom from) where
        pub find_past : x.count ≤ from → FindOf w known k lo None
        find_past h = at_level (From lo) None (λ o r c. no-tuple known k below o r c (From lo)
            (λ i t g l. let a = good-small known k below o r c i t g in let b = so_far o r c i t g l in omega arith))

        module _ (i : ℕ) (ei : NextOf w known k from i) where
          at-least' : Given ((j : ℕ) (t : Tuple) → Good w known both (j ∷ t) → lo ≤ j → i ≤ j)
          at-least' o r c j t g l = not-passed known k below o r c from i ei.2 j t g (so_far o r c j t g l)

          pub find_none : x.count ≤ i → FindOf w known k lo None
          find_none h = at_level (From lo) None (λ o r c. no-tuple known k below o r c (From lo)
              (λ j t g l. let a = good-small known k below o r c j t g in let b = at-least' o r c j t g l in omega arith))

          -- where it has none either
          past-it : Given ((t : Tuple) → Good w known both (i ∷ t) → ⊥) → LevelFrom (i + 1)
          past-it n o r c j t g l =
              let b = at-least' o r c j t g l in
              let d : j ≡ i → ⊥ = (λ e. n o r c t (subst (λ y. Good w known both (y ∷ t)) e g)) in
              omega (arith, b, d)

          module _ (small : i < x.count) (inside : this < length known) where
            pub find-skip : {b : Bool} → WorthOf w (set known this i) k i b → b ≡ false → LevelFrom (i + 1)
            find-skip h e = past-it (λ o r c t g. not-worth known k below o r c i small inside (ei.1 small) h e t g)

            abbrev AfterIt : Tuple → Type 0
            AfterIt t = Good w (set known this i) (later block (k + 1)) t × From 0 t

            rest-first : (y : Maybe (List ℕ)) → FindOf w (set known this i) (k + 1) 0 y → Given (First AfterIt (tuple_of y (k + 1) (size - (k + 1))))
            rest-first y ey o r c = ey o.1 (chosen-ready known k below o r c i small inside (ei.1 small)) (chosen-cleared known k below o r c i small inside (ei.1 small))

            pub find-on : FindOf w (set known this i) (k + 1) 0 None → LevelFrom (i + 1)
            find-on ey = past-it (λ o r c t g.
                none_after known k below o r c i small inside (ei.1 small) (From 0) (λ t. Unit {0}) (λ t q. from_zero t) (rest-first None ey o r c) t g tt)

            pub find-hit : (y : List ℕ) → FindOf w (set known this i) (k + 1) 0 (Some y) → lo ≤ i → k < length y → FindOf w known k lo (Some (set y k i))
            find-hit y ey l h = at_level (From lo) (Some (set y k i)) (λ o r c.
                hit (λ t. Good w known both t × From lo t) y i h
                (first-after known k below o r c i small inside (ei.1 small) (From 0) (From lo) (λ t q. from_zero t) (λ t q. l) (λ j t g q. at-least' o r c j t g q)
                (numbers_from (size - (k + 1)) y (k + 1)) (rest-first (Some y) ey o r c)))

    -- ── after the last tuple ──────────────────────────────────────────────────────────────────

    abbrev own : ℕ
    own = get_or block.last k 0

    abbrev others : Tuple
    others = numbers_from (size - (k + 1)) block.last (k + 1)

    abbrev After : Tuple → Type 0
    After t = T (is_after (some (own ∷ others)) t)

    at_after : (r : Maybe (List ℕ)) → Given (First (λ t. Good w known both t × After t) (tuple_of r k (size - k))) → AfterOf w known k r
    at_after r f = subst⁻¹ (λ (l : Tuple). FirstOf w known k (λ t. T (is_after (some l) t)) r) (numbers_more block.last size k below) (at_level After r f)

    from-own : (j : ℕ) (t : Tuple) → After (j ∷ t) → own ≤ j
    from-own j t h = earlier-cases own j others t (own ≤ j) (λ m. omega arith) (λ m e. omega arith) h

    pub after-past : x.count ≤ own → AfterOf w known k None
    after-past h = at_after None (λ o r c. no-tuple known k below o r c After
        (λ j t g q. let a = good-small known k below o r c j t g in let b = from-own j t q in omega arith))

    -- no tuple with the last one's number comes after it
    abbrev pub NoneOwn : Type 0
    NoneOwn = Given ((t : Tuple) → Good w known both (own ∷ t) → After (own ∷ t) → ⊥)

    pub after-find : NoneOwn → (y : Maybe (List ℕ)) → FindOf w known k (own + 1) y → AfterOf w known k y
    after-find n y ey = at_after y (λ o r c.
        first-map (λ t. Good w known both t × From (own + 1) t) (λ t. Good w known both t × After t) into (out o r c) (tuple_of y k (size - k)) (of-level (From (own + 1)) y ey o r c))
      where
        into : (t : Tuple) → Good w known both t × From (own + 1) t → Good w known both t × After t
        into [] g = absurd g.0.0
        into (j ∷ t) g = (g.0, lower own j others t (lt→ltb own j (let b : own + 1 ≤ j = g.1 in omega arith)))

        out : Given ((t : Tuple) → Good w known both t × After t → Good w known both t × From (own + 1) t)
        out o r c [] g = absurd g.0.0
        out o r c (j ∷ t) g =
            let b = from-own j t g.1 in
            let d : j ≡ own → ⊥ = (λ e. n o r c t (subst (λ i. Good w known both (i ∷ t)) e g.0) (subst (λ i. After (i ∷ t)) e g.1)) in
            (g.0, omega (arith, b, d))

    module _ (small : own < x.count) where
      pub own-untyped : {b : Bool} → b ≡ code_leq (get_or leasts own 0) (get_or block.types k 0) → b ≡ false → NoneOwn
      own-untyped e f o r c t g q =
          subst T (sym (coded known k below own small) ∙ (sym e ∙ f)) (holds_test w.schema w.terms (w.typing this) own g.0.0)

      module _ (inside : this < length known) {b : Bool} (e : b ≡ code_leq (get_or leasts own 0) (get_or block.types k 0)) (f : b ≡ true) where
        own-typed : Holds w.schema w.terms own (w.typing this)
        own-typed = test-holds w.schema w.terms (w.typing this) own (subst T (sym f ∙ (e ∙ coded known k below own small)) tt)

        abbrev AfterOwn : Tuple → Type 0
        AfterOwn t = Good w (set known this own) (later block (k + 1)) t × T (is_after (some others) t)

        rest-after : (y : Maybe (List ℕ)) → AfterOf w (set known this own) (k + 1) y → Given (First AfterOwn (tuple_of y (k + 1) (size - (k + 1))))
        rest-after y ey o r c = ey o.1 (chosen-ready known k below o r c own small inside own-typed) (chosen-cleared known k below o r c own small inside own-typed)

        own_out : (t : Tuple) → After (own ∷ t) → T (is_after (some others) t)
        own_out t q = earlier-cases own own others t (T (earlier others t)) (λ (m : own < own). absurd (omega arith)) (λ m n. n) q

        pub own-none : AfterOf w (set known this own) (k + 1) None → NoneOwn
        own-none ey o r c t a q =
            none_after known k below o r c own small inside own-typed (λ t. T (is_after (some others) t)) After own_out (rest-after None ey o r c) t a q

        pub own-hit : (y : List ℕ) → AfterOf w (set known this own) (k + 1) (Some y) → k < length y → AfterOf w known k (Some (set y k own))
        own-hit y ey h = at_after (Some (set y k own)) (λ o r c.
            hit (λ t. Good w known both t × After t) y own h
            (first-after known k below o r c own small inside own-typed (λ t. T (is_after (some others) t)) After own_out (λ t q. alike own others t q) (λ j t g q. from-own j t q)
            (numbers_from (size - (k + 1)) y (k + 1)) (rest-after (Some y) ey o r c)))
