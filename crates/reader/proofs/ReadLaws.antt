-- The answer of a reader, by what its children answer.
use Rattle.std.specs.Prelude.{None}
use Rattle.std.specs.declared.option.Option as Answer
use Prim.Native.Nat.{ℕ, zero, suc, ◌+◌, ◌≤◌, ◌<◌}
use native.Mathlib.Omega.{arith}
use mathlib.Core.Bool.{Bool, true, false, ◌&&◌}
use mathlib.Core.List.{List}
use mathlib.Core.Logic.{◌⊎◌, ⊎_elim}
use mathlib.Core.Option.{Option, none, some}
use mathlib.Core.Path.{◌≡◌, refl, sym, ◌∙◌}
use lib.Dec.{ltb}
use lib.ListN.{length}
use Rattle.definitions.specs.Bytes.{Got, byte, past, body, whole, provided, onward}
use Rattle.definitions.specs.Limits.{block_width, pair_limit}
use Rattle.definitions.specs.Tree.{Expr, Cond, Query, Binder, Script}
use Rattle.definitions.specs.Reading.{read_name, read_expr, read_cond, read_query, read_script, two_of, with_body, with_binders, binders_at, is_each}
use Rattle.laws.proofs.Reading as R
use Rattle.laws.proofs.ReadAnswers.{none-ends, one-ends, is_none, is-some}
use Rattle.laws.specs.ReadAnswers.{is_some, next_of}

-- ── where no level or no byte is left ───────────────────────────────────────────────────────

over : {left n at : ℕ} → (suc left ≡ 0) ⊎ (n ≤ at) → n ≤ at
over gone = ⊎_elim (λ e. absurd (omega arith)) (λ l. l) gone

module _ (s : List ℕ) (terms : ℕ) where
  pub name-gone : (left at : ℕ) → (left ≡ 0) ⊎ (length s ≤ at) → None ≡ next_of (read_name s terms left at)
  name-gone zero at h = none-ends (R.name-none s terms at)
  name-gone (suc left) at h = none-ends (R.name_out s terms (suc left) at (omega arith) (over h))

  pub expr-gone : (left at : ℕ) → (left ≡ 0) ⊎ (length s ≤ at) → None ≡ next_of (read_expr s terms left at)
  expr-gone zero at h = none-ends (R.expr-none s terms at)
  expr-gone (suc left) at h = none-ends (R.expr-out s terms (suc left) at (omega arith) (over h))

  pub cond-gone : (left at : ℕ) → (left ≡ 0) ⊎ (length s ≤ at) → None ≡ next_of (read_cond s terms left at)
  cond-gone zero at h = none-ends (R.cond-none s terms at)
  cond-gone (suc left) at h = none-ends (R.cond-out s terms (suc left) at (omega arith) (over h))

  pub query-gone : (left at : ℕ) → (left ≡ 0) ⊎ (length s ≤ at) → None ≡ next_of (read_query s terms left at)
  query-gone zero at h = none-ends (R.query-none s terms at)
  query-gone (suc left) at h = none-ends (R.query-out s terms (suc left) at (omega arith) (over h))

  pub script-gone : (left at : ℕ) → (left ≡ 0) ⊎ (length s ≤ at) → None ≡ next_of (read_script s terms left at)
  script-gone zero at h = none-ends (R.script-none s terms at)
  script-gone (suc left) at h = none-ends (R.script-out s terms (suc left) at (omega arith) (over h))

-- ── records with a body that is checked ─────────────────────────────────────────────────────

-- 55 and 56
module _ {g : Got Cond} {A : Type 0} (n : ℕ) (good : List ℕ → Option A) (f : A → Expr → Cond) (s : List ℕ) (at : ℕ) (expr : ℕ → Got Expr)
    (h : g ≡ with_body n good f s at expr) where
  pub body-short : length s < past at n → None ≡ next_of g
  body-short l = none-ends (h ∙ R.body-cut n good f s at expr l)

  module _ (l : past at n ≤ length s) {t : Bool} (e : t ≡ is_some (good (body s at n))) where
    pub body-fails : t ≡ false → None ≡ next_of g
    body-fails q = none-ends (h ∙ R.body-bad n good f s at expr l (is_none (good (body s at n)) (sym e ∙ q)))

    pub body-ends : t ≡ true → {r : Answer.Option ℕ} → r ≡ next_of (expr (past at n)) → r ≡ next_of g
    body-ends q e₂ =
        let a = is-some (good (body s at n)) (sym e ∙ q) in
        one-ends (f a.0) (expr (past at n)) (h ∙ R.body_is n good f s at expr l a.1) e₂

-- 73
module _ {A B : Type 0} (f : A → Option B) where
  unmet : (t : Bool) (o : Option A) → (t && is_some o) ≡ false → provided t (onward o f) ≡ none
  unfolding provided onward
  unmet false o e = refl
  unmet true none e = refl
  unmet true (some a) e = cc

  met : (t : Bool) (o : Option A) → (t && is_some o) ≡ true → (a : A) × (provided t (onward o f) ≡ f a)
  unfolding provided onward
  met false o e = cc
  met true none e = cc
  met true (some a) e = (a, refl)

module _ {g : Got Script} (s : List ℕ) (at : ℕ) (query : ℕ → Got Query) (rest : ℕ → Got Script) (h : g ≡ with_binders s at query rest)
    {t : Bool} (e : t ≡ ((whole s at block_width && ltb (byte s (at + 1)) 2) && is_some (binders_at pair_limit (byte s (at + 2)) s (at + 3)))) where
  pub block-fails : t ≡ false → None ≡ next_of g
  unfolding with_binders
  block-fails q = none-ends (h ∙ unmet _ _ _ (sym e ∙ q))

  pub block-is : t ≡ true → (bs : List Binder) × (g ≡ two_of (Script.block at (is_each s at) bs) query rest (past at block_width))
  unfolding with_binders
  block-is q = let b = met _ _ _ (sym e ∙ q) in (b.0, h ∙ b.1)
