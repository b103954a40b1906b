-- What a boolean may come to, one kind at a time: what the code makes of the parts is the model's, wherever the tests that are known meet no fault.
use Prim.Native.Nat.{ℕ}
use Rattle.std.specs.Prelude.{Some}
use mathlib.Core.Path.{◌≡◌, refl, sym, ◌∙◌, ap, subst, subst⁻¹}
use mathlib.Core.List.{List}
use mathlib.Core.Bool.{Bool, true, false, not, beq, cond, ◌||◌, true≢false}
use mathlib.Core.Option.{some}
use lib.Dec.{T, ltb, leb}
use borrow.Author.Tests.{le-ltb, leb-true}
use Rattle.definitions.specs.Tree.{Expr, Cond}
use Rattle.definitions.specs.Bytes.{Got}
use Rattle.definitions.specs.Outcome.{Outcome}
use Rattle.definitions.specs.Evaluated.{gives}
use Rattle.definitions.specs.Truth.{not_truth, is_true}
use Rattle.definitions.specs.declared.Truth.{Truth}
use Rattle.laws.specs.Outcomes.{Fine, Any}
use Rattle.laws.specs.Walks.{Walked}
use Rattle.laws.proofs.NoFault.{fine-ok}
use Rattle.laws.proofs.Reading.{same_read}
use Rattle.laws.proofs.ReadBounds.{Reads}
use Rattle.laws.proofs.Walked.{leaf_walked}
use Rattle.laws.proofs.Productions.{Two}
use Rattle.laws.proofs.Tests.{true_is, and_false}
use Rattle.values.specs.Meaning.{Tells}
use Rattle.query.specs.Known.{expr_known, test_known, IsTest, comes_to, joined, may}
use Rattle.scan.specs.Codes.{sought_code}
use Rattle.query.specs.Codes.{bindings_of}
use Rattle.query.specs.declared.Context.{Context}
use Rattle.query.proofs.Operators.{joint}
use Rattle.query.specs.Eval.{TestOf, MayOf, Waits, PairOpen}

-- ── two Booleans ────────────────────────────────────────────────────────────────────────────

-- what is enough decides, and else the second part does
decided : (w a b : Bool) → beq a w ≡ true → a ≡ joined w a b
decided true true b e = refl
decided false false b e = refl
decided true false b e = absurd (true≢false (sym e))
decided false true b e = absurd (true≢false (sym e))

left-over : (w a b : Bool) → beq a w ≡ false → b ≡ joined w a b
left-over true false b e = refl
left-over false true b e = refl
left-over true true b e = absurd (true≢false e)
left-over false false b e = absurd (true≢false e)

beq-true : (w : Bool) → beq w true ≡ w
beq-true true = refl
beq-true false = refl

beq-false : (w : Bool) → beq w false ≡ not w
beq-false true = refl
beq-false false = refl

-- ── the kinds ───────────────────────────────────────────────────────────────────────────────

module _ (ranks table known : List ℕ) (x : Context) (want : Bool) where
  pub no-may : MayOf ranks table known x want (not want) Cond.no
  unfolding may
  no-may S terms quads t sure = refl

  pub yes-may : MayOf ranks table known x want want Cond.yes
  unfolding may
  yes-may S terms quads t sure = refl

  module _ {a : Bool} (c d : Cond) (h : MayOf ranks table known x want a c) where
    pub joint-may-first : (either : Bool) → beq a (beq want either) ≡ true → MayOf ranks table known x want a (joint either c d)
    unfolding may
    joint-may-first true e S terms quads t sure = rw (sym (h S terms quads t sure.0)) (decided want a _ (subst (λ w. beq a w ≡ true) (beq-true want) e))
    joint-may-first false e S terms quads t sure = rw (sym (h S terms quads t sure.0)) (decided (not want) a _ (subst (λ w. beq a w ≡ true) (beq-false want) e))

    pub joint-may : {b : Bool} (either : Bool) → MayOf ranks table known x want b d → beq a (beq want either) ≡ false → MayOf ranks table known x want b (joint either c d)
    unfolding may
    joint-may {b} true k e S terms quads t sure =
        rw (sym (h S terms quads t sure.0), sym (k S terms quads t sure.1)) (left-over want a b (subst (λ w. beq a w ≡ false) (beq-true want) e))
    joint-may {b} false k e S terms quads t sure =
        rw (sym (h S terms quads t sure.0), sym (k S terms quads t sure.1)) (left-over (not want) a b (subst (λ w. beq a w ≡ false) (beq-false want) e))

  -- a test of which a variable is still to choose
  open-test : (k r : Bool) → k ≡ false → true ≡ (not k || r)
  open-test k r e = rw e refl

  -- a test that is known
  closed-test : {r : Bool} {a : Truth} {o : Outcome Truth} (k : Bool) → k ≡ true → Tells a o → (T k → Fine Any o) → r ≡ is_true (cond want a (not_truth a))
      → r ≡ (not k || gives (comes_to want) o)
  unfolding comes_to
  closed-test k e told sure made =
      let f = fine-ok (sure (true_is k e)) in
      rw (e, f.1) (made ∙ ap (λ t. is_true (cond want t (not_truth t))) (told f.0 f.1))

  pub test-open : (c : Cond) → IsTest c → test_known (bindings_of known) c ≡ false → MayOf ranks table known x want true c
  unfolding may test_known
  test-open Cond.no i = absurd i
  test-open Cond.yes i = absurd i
  test-open (Cond.or c d) i = absurd i
  test-open (Cond.and c d) i = absurd i
  test-open (Cond.not c) i = absurd i
  test-open (Cond.regex p e) i = λ k S terms quads t sure. open-test _ _ k
  test-open (Cond.lang_matches p e) i = λ k S terms quads t sure. open-test _ _ k
  test-open (Cond.equal e f) i = λ k S terms quads t sure. open-test _ _ k
  test-open (Cond.less e f) i = λ k S terms quads t sure. open-test _ _ k

  pub test-may : {u : Truth} {r : Bool} → r ≡ is_true (cond want u (not_truth u)) → (c : Cond) → TestOf ranks table known x (Some u) c → MayOf ranks table known x want r c
  unfolding may test_known
  test-may made Cond.no h = absurd h.0
  test-may made Cond.yes h = absurd h.0
  test-may made (Cond.or c d) h = absurd h.0
  test-may made (Cond.and c d) h = absurd h.0
  test-may made (Cond.not c) h = absurd h.0
  test-may made (Cond.regex p e) h = λ S terms quads t sure. closed-test _ h.1 (λ v o. (h.2 S terms quads t v o).0) sure made
  test-may made (Cond.lang_matches p e) h = λ S terms quads t sure. closed-test _ h.1 (λ v o. (h.2 S terms quads t v o).0) sure made
  test-may made (Cond.equal e f) h = λ S terms quads t sure. closed-test _ h.1 (λ v o. (h.2 S terms quads t v o).0) sure made
  test-may made (Cond.less e f) h = λ S terms quads t sure. closed-test _ h.1 (λ v o. (h.2 S terms quads t v o).0) sure made

-- ── a test that has to wait ─────────────────────────────────────────────────────────────────

-- two parts of which something is known together
pub pair-out : {A B C : Type 0} {t left at x : ℕ} {k : A → B → C} {p : ℕ → Got A} {q : ℕ → Got B} {g : Got C} {R : C → Type 0} → Two t left k p q at g
    → ((a : A) (b : B) (m n : ℕ) → p at ≡ some (a, m) → q m ≡ some (b, n) → R (k a b)) → Reads (λ c n. x ≡ n) g → Walked R g x
pair-out {at = at} {p = p} {q = q} {g = g} {R = R} two h ends =
    let (a, m, ra) = two.first in
    let (b, n, rb) = two.second (leaf_walked {P = λ a. Unit {0}} ra tt) in
    let y = two.node (leaf_walked {P = λ c. p at ≡ some (c, m)} ra ra) (leaf_walked {P = λ c. q m ≡ some (c, n)} rb rb) (λ c d rc rd. h c d m n rc rd) in
    subst⁻¹ (Walked R g) (ends y.tree n y.read) y

module _ (known : List ℕ) {read : ℕ → Got Expr} {at : ℕ} (waits : PairOpen known read at) (ranks table : List ℕ) (x : Context) (want : Bool)
    (e f : Expr) (m n : ℕ) (first : read at ≡ some (e, m)) (second : read m ≡ some (f, n)) where
  pub equal-open : MayOf ranks table known x want true (Cond.equal e f)
  unfolding may
  equal-open S terms quads t sure = rw (waits e f m n first second) refl

  pub less-open : MayOf ranks table known x want true (Cond.less e f)
  unfolding may
  less-open S terms quads t sure = rw (waits e f m n first second) refl

-- one of the two waits
module _ (known : List ℕ) (read : ℕ → Got Expr) (at : ℕ) where
  pub first-waits : Waits known (read at) → PairOpen known read at
  first-waits w e f m n r s = rw (w e m r) refl

  pub second-waits : {k : ℕ} → Reads (λ e m. k ≡ m) (read at) → Waits known (read k) → PairOpen known read at
  second-waits ends w e f m n r s = rw (w f n (ap read (ends e m r) ∙ s)) (and_false (expr_known (bindings_of known) e))

-- by its name's code
pub code-waits : (known : List ℕ) (code : ℕ) {g : Got Expr} {m : ℕ} → Walked (λ e. ltb code sought_code ≡ expr_known (bindings_of known) e) g m → leb sought_code code ≡ true → Waits known g
code-waits known code w h e m r =
    sym (subst (λ d. ltb code sought_code ≡ expr_known (bindings_of known) d) (same_read w.read r).0 w.holds) ∙ le-ltb code sought_code (leb-true sought_code code h)

-- not: the other one is wanted
pub not-may : (ranks table known : List ℕ) (x : Context) (want : Bool) {a : Bool} (c : Cond) → MayOf ranks table known x (not want) a c → MayOf ranks table known x want a (Cond.not c)
unfolding may
not-may ranks table known x want c h S terms quads t sure = h S terms quads t sure
