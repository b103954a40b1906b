-- What the codes stand for: the places of names, and what is known of a variable.
use Prim.Native.Nat.{ℕ, zero, suc, ◌≤◌, ◌<◌}
use native.Mathlib.Omega.{arith}
use mathlib.Core.Path.{◌≡◌, refl}
use mathlib.Core.Bool.{Bool, true, false, cond}
use mathlib.Core.List.{List, [], ◌∷◌}
use mathlib.Core.Option.{none, some}
use lib.Dec.{T, eqb, ltb, ltb→lt}
use lib.ListN.{length, get_or}
use borrow.Author.Tests.{eq-eqb, ne_eqb, lt-ltb, le-ltb}
use Rattle.definitions.specs.Limits.{variable_limit}
use Rattle.definitions.specs.Tree.{Name, var, const, Query}
use Rattle.definitions.specs.Evaluate.{number_of}
use Rattle.definitions.specs.Saved.{is_bound}
use Rattle.laws.specs.Sound.{NameBounded}
use Rattle.scan.specs.Scan.{sought}
use Rattle.query.specs.Known.{known as placed, place_of, name_known}
use Rattle.scan.proofs.Places.{at-sought, at-fixed, at-free}
use Rattle.scan.specs.Codes.{sought_code, free_code, place_at}
use Rattle.query.specs.Codes.{number_at, bindings_of, code_of, Coded}

-- ── names ───────────────────────────────────────────────────────────────────────────────────

-- within a list it does not matter what stands past its end
default-same : (xs : List ℕ) (i a b : ℕ) → i < length xs → get_or xs i a ≡ get_or xs i b
default-same [] i a b h = absurd (omega arith)
default-same (x ∷ xs) zero a b h = refl
default-same (x ∷ xs) (suc i) a b h = default-same xs i a b (omega arith)

module _ (known : List ℕ) (v w : ℕ) where
  pub code-sought : w ≡ v → sought_code ≡ code_of known v (var w)
  unfolding code_of
  code-sought e = rw (eq-eqb w v e) refl

  module _ (other : w ≡ v → ⊥) (inside : w < length known) where
    same : get_or known w 0 ≡ get_or known w free_code
    same = default-same known w 0 free_code inside

    pub code-known : get_or known w 0 < sought_code → get_or known w 0 ≡ code_of known v (var w)
    unfolding code_of
    code-known h = rw (ne_eqb w v other, ← same, lt-ltb (get_or known w 0) sought_code h) refl

    pub code_free : sought_code ≤ get_or known w 0 → free_code ≡ code_of known v (var w)
    unfolding code_of
    code_free h = rw (ne_eqb w v other, ← same, le-ltb (get_or known w 0) sought_code h) refl

-- the place of a name is that of its code
pub code-place : (known : List ℕ) (v : ℕ) (n : Name) → NameBounded sought_code n → place_at (code_of known v n) ≡ place_of (bindings_of known) v n
unfolding code_of bindings_of
code-place known v (const c) b = at-fixed c b
code-place known v (var w) b = go (eqb w v) (ltb (get_or known w free_code) sought_code) (ltb→lt (get_or known w free_code) sought_code)
  where
    k : ℕ
    k = get_or known w free_code

    go : (a b : Bool) → (T b → k < sought_code) → place_at (cond a sought_code (cond b k free_code)) ≡ cond a sought (placed (cond b (some k) none))
    go true b f = at-sought sought_code refl
    go false true f = at-fixed k (f tt)
    go false false f = at-free free_code (λ e. omega arith) (omega arith)

-- where no variable is sought, a code below 65,536 is the number of the name
module _ (known : List ℕ) where
  pub code-number : (n : Name) → NameBounded sought_code n → number_at (code_of known variable_limit n) ≡ number_of (bindings_of known) n
  unfolding code_of bindings_of
  code-number (const c) b = rw (lt-ltb c sought_code b) refl
  code-number (var w) b = rw (ne_eqb w variable_limit (λ e. omega arith)) (go (ltb (get_or known w free_code) sought_code) refl)
    where
      k : ℕ
      k = get_or known w free_code

      go : (b : Bool) → ltb k sought_code ≡ b → number_at (cond b k free_code) ≡ cond b (some k) none
      go true e = rw e refl
      go false e = refl

  pub code-bound : (n : Name) → NameBounded sought_code n → ltb (code_of known variable_limit n) sought_code ≡ name_known (bindings_of known) n
  unfolding code_of bindings_of name_known
  code-bound (const c) b = lt-ltb c sought_code b
  code-bound (var w) b = rw (ne_eqb w variable_limit (λ e. omega arith)) (go (ltb (get_or known w free_code) sought_code) refl)
    where
      k : ℕ
      k = get_or known w free_code

      go : (b : Bool) → ltb k sought_code ≡ b → ltb (cond b k free_code) sought_code ≡ is_bound (cond b (some k) none)
      go true e = e
      go false e = refl

-- a pattern's four names, each with its code
module _ (known : List ℕ) (v : ℕ) (g s p o : Name) {cg cs cp co : ℕ} where
  pub four-codes : (cg ≡ code_of known v g) × NameBounded sought_code g → (cs ≡ code_of known v s) × NameBounded sought_code s
      → (cp ≡ code_of known v p) × NameBounded sought_code p → (co ≡ code_of known v o) × NameBounded sought_code o
      → Coded known v (record { graph = cg; subject = cs; property = cp; object = co }) (Query.pattern g s p o)
  four-codes hg hs hp ho =
      ((λ i. record { graph = hg.0 i; subject = hs.0 i; property = hp.0 i; object = ho.0 i }), (hg.1, hs.1, hp.1, ho.1))
