-- No fault: an outcome that is a value with a property.
use Prim.Native.Nat.{ℕ}
use native.Mathlib.Omega.{arith}
use mathlib.Core.Path.{◌≡◌, refl, sym, subst, ◌∙◌}
use mathlib.Core.Bool.{Bool, true, false}
use lib.Dec.{T}
use Rattle.definitions.specs.Outcome.{Outcome, ok, fault, ◌>>=◌, ◌>>◌, demand, Fault}
use Rattle.laws.specs.Outcomes.{Fine, Any, OrFault, fine, holds, stops}

module _ {A B : Type 0} {P : A → Type 0} {Q : B → Type 0} where
  pub fine-then : {m : Outcome A} {f : A → Outcome B} → Fine P m → ((a : A) → P a → Fine Q (f a)) → Fine Q (m >>= f)
  unfolding ◌>>=◌
  fine-then (fine {a} p) k = k a p

  pub fine-and : {m : Outcome A} {n : Outcome B} → Fine P m → Fine Q n → Fine Q (m >> n)
  unfolding ◌>>◌
  fine-and (fine p) h = h

pub fine-demand : (b : Bool) (x : Fault) → T b → Fine Any (demand b x)
unfolding demand
fine-demand true x h = fine tt
fine-demand false x h = absurd h

module _ {A : Type 0} {P : A → Type 0} where
  pub fine-map : {Q : A → Type 0} {m : Outcome A} → Fine P m → ((a : A) → P a → Q a) → Fine Q m
  fine-map (fine {a} p) k = fine (k a p)

  -- the value
  pub fine-ok : {m : Outcome A} → Fine P m → (a : A) × (m ≡ ok a) × P a
  fine-ok (fine {a} p) = (a, refl, p)

-- ── an outcome that is a value: what its parts gave ─────────────────────────────────────────

pub ok-is : {A : Type 0} {a b : A} → ok a ≡ ok b → a ≡ b
ok-is e = cc

pub no-fault : {A : Type 0} {x : Fault} {a : A} → fault x ≡ ok a → ⊥
no-fault e = let z : ◌≡◌ {A = ℕ} 0 1 = cc in omega arith

pub then_ok : {A B : Type 0} {m : Outcome A} {f : A → Outcome B} {b : B} → m >>= f ≡ ok b → (a : A) × (m ≡ ok a) × (f a ≡ ok b)
unfolding ◌>>=◌
then_ok {A} {B} {m} {f} {b} e = go m e
  where
    go : (m : Outcome A) → m >>= f ≡ ok b → (a : A) × (m ≡ ok a) × (f a ≡ ok b)
    go (ok a) e = (a, refl, e)
    go (fault x) e = absurd (no-fault e)

pub and_ok : {A B : Type 0} (m : Outcome A) {n : Outcome B} {b : B} → m >> n ≡ ok b → n ≡ ok b
unfolding ◌>>◌
and_ok {A} {B} m {n} {b} e = go m e
  where
    go : (m : Outcome A) → m >> n ≡ ok b → n ≡ ok b
    go (ok a) e = e
    go (fault x) e = absurd (no-fault e)

pub fine-at : {A : Type 0} {P : A → Type 0} {m : Outcome A} (a : A) → m ≡ ok a → Fine P m → P a
fine-at {A} {P} a e h = let f = fine-ok h in subst P (ok-is (sym f.1 ∙ e)) f.2

-- ── with or without a fault ─────────────────────────────────────────────────────────────────

module _ {A B : Type 0} {P : A → Type 0} {Q : B → Type 0} where
  pub holds_then : {m : Outcome A} {f : A → Outcome B} → OrFault P m → ((a : A) → P a → OrFault Q (f a)) → OrFault Q (m >>= f)
  unfolding ◌>>=◌
  holds_then (holds {a} p) k = k a p
  holds_then stops k = stops

module _ {A B : Type 0} {Q : B → Type 0} where
  pub holds_after : (m : Outcome A) {f : A → Outcome B} → ((a : A) → OrFault Q (f a)) → OrFault Q (m >>= f)
  unfolding ◌>>=◌
  holds_after (ok a) k = k a
  holds_after (fault x) k = stops

  pub holds-and : (m : Outcome A) {n : Outcome B} → OrFault Q n → OrFault Q (m >> n)
  unfolding ◌>>◌
  holds-and (ok a) h = h
  holds-and (fault x) h = stops

pub holds-ok : {A : Type 0} {P : A → Type 0} {m : Outcome A} (a : A) → m ≡ ok a → OrFault P m → P a
holds-ok {A} {P} a e h = value (rw e at h)
  where
    value : OrFault P (ok a) → P a
    value (holds p) = p
