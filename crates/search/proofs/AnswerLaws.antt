-- The search of a block from its first level on gives the machine's answer.
use Prim.Native.Nat.{ℕ, ◌+◌, ◌-◌, ◌≤◌, ◌<◌}
use native.Mathlib.Omega.{arith}
use mathlib.Core.Path.{◌≡◌, refl, sym, ◌∙◌, ap, subst, subst⁻¹, fun_ext}
use mathlib.Core.List.{List, ◌∷◌}
use mathlib.Core.Bool.{Bool, true, false, cond, ◌||◌}
use mathlib.Core.Option.{Option, none, some}
use lib.Dec.{T, eqb, eqb→eq, eqb_refl}
use lib.ListN.{length, get_or, set, take, length-take}
use lib.Seq.{get_or-set_same, get_or-set_other}
use Rattle.definitions.specs.Limits.{depth_limit}
use Rattle.definitions.specs.Lists.{is_in}
use Rattle.definitions.specs.Tree.{Query}
use Rattle.definitions.specs.Reading.{read_query}
use Rattle.definitions.specs.Evaluate.{Bindings}
use Rattle.definitions.specs.Search.{Tuple, bind}
use Rattle.laws.specs.Bindings.{Fits}
use Rattle.scan.specs.Codes.{free_code}
use Rattle.query.specs.Codes.{number_at, bindings_of}
use Rattle.query.specs.declared.Context.{Context}
use Rattle.query.specs.StoreLent.{setting_in}
use Rattle.seeking.specs.Seeking.{holds}
use Rattle.seeking.specs.Parts.{part_limit, PartsOf}
use Rattle.seeking.specs.declared.Part.{Part}
use Rattle.search.specs.Ready.{Ready}
use Rattle.search.specs.Finding.{clear, numbers_from, tuple_of, last_of, World, Parted, First, is_after, From, Once, Cleared, setting, ReadyFor, Good, FirstOf, FindOf, AfterOf, AnswerOf}
use Rattle.search.specs.declared.Block.{Block}
use Rattle.std.specs.Prelude.{Option as Maybe}
use Rattle.search.proofs.FirstTuple.{first-map, Good as GoodAnswer, answer-first}
use Rattle.search.proofs.Chosen.{distinct-once, clear-cleared, clear-bind}
use Rattle.search.proofs.ReadyLaws.{ready-clear}
use Rattle.search.proofs.TupleArrays.{numbers-none, numbers_more}
use Rattle.search.proofs.FindLaws.{from_zero}

-- ── a block's variables not known ───────────────────────────────────────────────────────────

clear-one : (known : List ℕ) (v : ℕ) (vs : List ℕ) → v < length known → clear (v ∷ vs) (bindings_of known) ≡ clear vs (bindings_of (set known v free_code))
unfolding bindings_of
clear-one known v vs h = fun_ext at
  where
    other : (x : ℕ) (b : Bool) → (T b → x ≡ v) → (x ≡ v → T b) → cond b none (number_at (get_or known x free_code)) ≡ number_at (get_or (set known v free_code) x free_code)
    other x true e f = rw (e tt, get_or-set_same known v free_code free_code h) refl
    other x false e f = rw (get_or-set_other known v x free_code free_code (λ e. f e)) refl

    at : (x : ℕ) → cond (eqb x v || is_in x vs) none (number_at (get_or known x free_code)) ≡ cond (is_in x vs) none (number_at (get_or (set known v free_code) x free_code))
    at x = go (eqb x v) (is_in x vs) (other x (eqb x v) (eqb→eq x v) (λ (e : x ≡ v). subst⁻¹ (λ y. T (eqb y v)) e (eqb_refl v)))
      where
        go : (a b : Bool) → cond a none (number_at (get_or known x free_code)) ≡ number_at (get_or (set known v free_code) x free_code)
            → cond (a || b) none (number_at (get_or known x free_code)) ≡ cond b none (number_at (get_or (set known v free_code) x free_code))
        go a true e = or-none a
          where
            or-none : (a : Bool) → cond (a || true) none (number_at (get_or known x free_code)) ≡ none
            or-none true = refl
            or-none false = refl
        go true false e = e
        go false false e = e

-- `whole` is what all the variables leave
module _ (vars : List ℕ) (size : ℕ) (whole : Bindings) (j : ℕ) (opened : List ℕ)
    (so_far : whole ≡ clear (numbers_from (size - j) vars j) (bindings_of opened)) where
  pub clear-turn : j < size → get_or vars j 0 < length opened → whole ≡ clear (numbers_from (size - (j + 1)) vars (j + 1)) (bindings_of (set opened (get_or vars j 0) free_code))
  clear-turn h k =
      so_far ∙ (ap (λ vs. clear vs (bindings_of opened)) (numbers_more vars size j h)
      ∙ clear-one opened (get_or vars j 0) (numbers_from (size - (j + 1)) vars (j + 1)) k)

  pub clear-ends : size ≤ j → bindings_of opened ≡ whole
  clear-ends h = sym (so_far ∙ ap (λ vs. clear vs (bindings_of opened)) (numbers-none vars size j h))

pub clear-start : (vars : List ℕ) (size : ℕ) (γ : Bindings) → clear (numbers_from size vars 0) γ ≡ clear (numbers_from (size - 0) vars 0) γ
clear-start vars size γ = let e : size - 0 ≡ size = omega arith in rw e refl

-- ── the parts of its query ──────────────────────────────────────────────────────────────────

pub parted : (script : List ℕ) (x : Context) (block : Block) (size : ℕ) (list : List Part) → size ≤ part_limit
    → ((q : Query) (m : ℕ) → read_query script x.loaded depth_limit block.«at» ≡ some (q, m) → PartsOf script x.loaded (take size list) q)
    → Parted script (take size list) x block
parted script x block size list h f = record { room = omega (arith, length-take size list, h); each = f }

-- ── the answer ──────────────────────────────────────────────────────────────────────────────

module _ {script ranks table quads leasts : List ℕ} {x : Context} {block : Block} (w : World script ranks table quads leasts x block) (known opened : List ℕ) (started : Bool)
    (cleared : bindings_of opened ≡ clear (numbers_from block.size block.vars 0) (bindings_of known)) where
  abbrev own : List ℕ
  own = numbers_from block.size block.vars 0

  abbrev last : Option Tuple
  last = last_of started block.last 0 block.size

  -- the first of the good tuples that pass a test is the machine's answer, where the test is to come after the last
  from_first : (P : Tuple → Type 0) → ((t : Tuple) → P t → T (is_after last t)) → ((t : Tuple) → T (is_after last t) → P t) → (r : Maybe (List ℕ))
      → FirstOf w opened 0 P r → AnswerOf w known started r
  unfolding setting_in
  from_first P into out r h apart ready =
      let all : block.size - 0 ≡ block.size = omega arith in
      let whole : bindings_of opened ≡ clear own (bindings_of known) = cleared in
      let ready₁ : ReadyFor w opened own =
      subst⁻¹ (λ (δ : Bindings). Ready w.schema w.typing w.terms δ own w.tree) whole
      (ready-clear w.schema w.typing w.terms (bindings_of known) w.tree own ready) in
      let found : First (λ t. Good w opened own t × P t) (tuple_of r 0 block.size) =
      subst (λ (n : ℕ). Once (numbers_from n block.vars 0) → ReadyFor w opened (numbers_from n block.vars 0) → Cleared (numbers_from n block.vars 0) (bindings_of opened)
      → First (λ t. Good w opened (numbers_from n block.vars 0) t × P t) (tuple_of r 0 n)) all h (distinct-once own apart) ready₁
      (subst⁻¹ (Cleared own) whole (clear-cleared own (bindings_of known))) in
      answer-first (setting w) w.typing w.terms w.rows (bindings_of known) own w.tree ready last (tuple_of r 0 block.size)
      (first-map (λ t. Good w opened own t × P t) (GoodAnswer (setting w) w.typing w.terms w.rows (bindings_of known) own w.tree ready last)
      (λ u g. (g.0.0, into u g.1, subst (λ (δ : Bindings). T (holds (setting w) w.terms w.rows δ w.tree)) (same u g.0.0) g.0.1))
      (λ u g. ((g.0, subst⁻¹ (λ (δ : Bindings). T (holds (setting w) w.terms w.rows δ w.tree)) (same u g.0) g.2), out u g.1))
      (tuple_of r 0 block.size) found)
    where
      same : (u : Tuple) → Fits w.schema w.typing w.terms own u → bind own u (bindings_of opened) ≡ bind own u (bindings_of known)
      same u f = ap (bind own u) cleared ∙ clear-bind w.schema w.typing w.terms own (bindings_of known) u f

  pub answer-begins : started ≡ false → (r : Maybe (List ℕ)) → FindOf w opened 0 0 r → AnswerOf w known started r
  answer-begins e = from_first (From 0) (λ t q. rw e tt) (λ t q. from_zero t)

  pub answer-goes-on : started ≡ true → (r : Maybe (List ℕ)) → AfterOf w opened 0 r → AnswerOf w known started r
  answer-goes-on e r h =
      let all : block.size - 0 ≡ block.size = omega arith in
      from_first (λ t. T (is_after (last_of true block.last 0 (block.size - 0)) t)) (λ t q. rw e (subst (λ (n : ℕ). T (is_after (last_of true block.last 0 n) t)) all q))
      (λ t q. subst⁻¹ (λ (n : ℕ). T (is_after (last_of true block.last 0 n) t)) all (subst (λ (b : Bool). T (is_after (last_of b block.last 0 block.size) t)) e q)) r h
