-- No step changes the store: terms, quads and fetched graphs are those from before a run, and valid terms stay valid.
use Prim.Native.Nat.{ℕ, zero, suc}
use mathlib.Core.Bool.{true, false}
use mathlib.Core.List.{List, [], ◌∷◌}
use mathlib.Core.Option.{Option, none, some}
use mathlib.Core.Path.{◌≡◌, refl, subst, ◌∙◌}
use native.Mathlib.Omega.{arith}
use Rattle.definitions.specs.Lists.{is_in}
use Rattle.definitions.specs.Tree.{Script, success, from_named, block, sequence}
use Rattle.definitions.specs.Scope.{variables_of}
use Rattle.definitions.specs.Outcome.{Outcome, ok, fault, ◌>>=◌, ◌>>◌, demand, from_named_no_uri}
use Rattle.definitions.specs.Evaluate.{Setting, Named, named, is_uri}
use Rattle.definitions.specs.Search.{Typing, Tuple}
use Rattle.definitions.specs.Machine.{Item, State, Store, Next, step, stand, fresh, with_stack, enter_named, enter_once, enter_each, answer_now, act, next_of, next}
use Rattle.definitions.specs.Machine.{Run, still, preceded, go_on, look, run, last_of}
use Rattle.definitions.specs.declared.RunState.TheVariants.{Ended, Wanted}
use Rattle.laws.proofs.Tests.{by-test}
use Rattle.laws.specs.Lists.{All}
use Rattle.laws.proofs.All.{all-weaken}

-- ── what an outcome gives, if it is no fault ────────────────────────────────────────────────

abbrev pub Gives : {A : Type 0} → (A → Type 0) → Outcome A → Type 0
Gives {A} P m = (a : A) → m ≡ ok a → P a

ok-gives : {A : Type 0} (P : A → Type 0) (a : A) → P a → Gives P (ok a)
ok-gives P a h b e = subst P (let p : a ≡ b = cc in p) h

bind-gives : {A B : Type 0} (P : A → Type 0) (Q : B → Type 0) (m : Outcome A) (f : A → Outcome B)
    → Gives P m → ((a : A) → P a → Gives Q (f a)) → Gives Q (m >>= f)
unfolding ◌>>=◌
bind-gives P Q (ok a) f h k = k a (h a refl)
bind-gives P Q (fault x) f h k = λ b e. absurd (let z : ◌≡◌ {A = ℕ} 0 1 = cc in omega arith)

after-gives : {A B : Type 0} (Q : B → Type 0) (m : Outcome A) (n : Outcome B) → Gives Q n → Gives Q (m >> n)
unfolding ◌>>◌
after-gives Q (ok a) n h = h
after-gives Q (fault x) n h = λ b e. absurd (let z : ◌≡◌ {A = ℕ} 0 1 = cc in omega arith)

any : {A : Type 0} (m : Outcome A) → Gives (λ a. Unit {0}) m
any m a e = tt

-- ── one step ────────────────────────────────────────────────────────────────────────────────

-- the next state has the store of the one before
abbrev pub Keeps : State → Next → Type 0
Keeps s (step x) = x.store ≡ s.store
Keeps s (stand r) = Unit {0}

named-keeps : (s : State) (stack : List Item) (g : Named) → Keeps s (enter_named s stack g)
unfolding enter_named
named-keeps s stack g = by-test (Keeps s) (is_in g.number s.store.fetched) (step (with_stack s stack)) (stand (Wanted g.number)) (λ t. refl) (λ t. tt)

once-keeps : (s : State) (vs : List ℕ) (stack : List Item) (t : Option Tuple) → Keeps s (enter_once s vs stack t)
unfolding enter_once
once-keeps s vs stack none = tt
once-keeps s vs stack (some t) = refl

each_keeps : (s : State) (vs : List ℕ) (rest : List Item) (stack : Tuple → List Item) (t : Option Tuple) → Keeps s (enter_each s vs rest stack t)
unfolding enter_each
each_keeps s vs rest stack none = refl
each_keeps s vs rest stack (some t) = refl

module _ (σ : Setting) (Γ : Typing) where
  act-keeps : (s : State) (rest : List Item) (last : Option Tuple) (c : Script) → Gives (Keeps s) (act σ Γ s rest last c)
  unfolding act
  act-keeps s rest last (success at) = ok-gives (Keeps s) (step (with_stack s rest)) refl
  act-keeps s rest last (from_named at n c) =
      let graph = named s.store.terms s.control.bindings n in
      bind-gives (λ g. Unit {0}) (Keeps s) graph (λ g. demand (is_uri g.term) from_named_no_uri >> ok (enter_named s (fresh c ∷ rest) g)) (any graph) (λ g u.
      after-gives (Keeps s) (demand (is_uri g.term) from_named_no_uri) (ok (enter_named s (fresh c ∷ rest) g))
      (ok-gives (Keeps s) (enter_named s (fresh c ∷ rest) g) (named-keeps s (fresh c ∷ rest) g)))
  act-keeps s rest last (block at false bs q c) =
      let found = answer_now σ Γ s (variables_of bs) q none in
      let enter : Option Tuple → Next = enter_once s (variables_of bs) (fresh c ∷ rest) in
      bind-gives (λ t. Unit {0}) (Keeps s) found (λ t. ok (enter t)) (any found) (λ t u.
      ok-gives (Keeps s) (enter t) (once-keeps s (variables_of bs) (fresh c ∷ rest) t))
  act-keeps s rest last (block at true bs q c) =
      let found = answer_now σ Γ s (variables_of bs) q last in
      let stack : Tuple → List Item = λ u. fresh c ∷ record { script = block at true bs q c; last = some u } ∷ rest in
      let enter : Option Tuple → Next = enter_each s (variables_of bs) rest stack in
      bind-gives (λ t. Unit {0}) (Keeps s) found (λ t. ok (enter t)) (any found) (λ t u.
      ok-gives (Keeps s) (enter t) (each_keeps s (variables_of bs) rest stack t))
  act-keeps s rest last (sequence at c d) = ok-gives (Keeps s) (step (with_stack s (fresh c ∷ fresh d ∷ rest))) refl

  next-keeps-go : (s : State) (stack : List Item) → Gives (Keeps s) (next_of σ Γ s stack)
  unfolding next_of
  next-keeps-go s [] = ok-gives (Keeps s) (stand Ended) tt
  next-keeps-go s (i ∷ rest) = act-keeps s rest i.last i.script

  pub next-keeps : (s : State) → Gives (Keeps s) (next σ Γ s)
  next-keeps s = next-keeps-go s s.control.stack

  -- ── a run ───────────────────────────────────────────────────────────────────────────────────

  -- every state passed has the store
  abbrev pub Same : Store → Run → Type 0
  Same store r = All (λ x. x.store ≡ store) r.passed

  go-keeps : (more : State → Outcome Run) → ((s : State) → Gives (Same s.store) (more s)) → (s : State) (n : Next)
      → Keeps s n → Gives (Same s.store) (go_on more n)
  unfolding go_on
  go-keeps more h s (step x) k =
      bind-gives (Same x.store) (Same s.store) (more x) (λ r. ok (preceded x r)) (h x) (λ r f.
      ok-gives (Same s.store) (preceded x r) (k, all-weaken (λ y. y.store ≡ x.store) (λ y. y.store ≡ s.store) (λ y e. e ∙ k) r.passed f))
  go-keeps more h s (stand r) k = ok-gives (Same s.store) (still r) tt

  pub run-keeps : (budget : ℕ) (s : State) → Gives (Same s.store) (run σ Γ budget s)
  unfolding run
  run-keeps zero s =
      bind-gives (λ r. Unit {0}) (Same s.store) (look σ Γ s s.control.stack) (λ r. ok (still r))
      (any (look σ Γ s s.control.stack)) (λ r u. ok-gives (Same s.store) (still r) tt)
  run-keeps (suc budget) s =
      bind-gives (Keeps s) (Same s.store) (next σ Γ s) (go_on (run σ Γ budget)) (next-keeps s)
      (go-keeps (run σ Γ budget) (λ x. run-keeps budget x) s)

-- what holds before a run and of every state passed holds after it
pub last-all : (P : State → Type 0) (s : State) (passed : List State) → P s → All P passed → P (last_of s passed)
last-all P s [] p h = p
last-all P s (x ∷ xs) p h = last-all P x xs h.0 h.1
