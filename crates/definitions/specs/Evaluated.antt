-- Document 02, Ask 4: how many records of kinds 50 to 65 are evaluated for a tuple, where second parts that can decide nothing are left out.
use Rattle.std.specs.Prelude.{ℕ, suc, ◌+◌, List, Bool, false, cond}
use Rattle.std.proofs.Math.Bool as Bools
use Rattle.definitions.specs.Terms.{Term}
use Rattle.definitions.specs.Tree.{Cond, Query}
use Rattle.definitions.specs.Outcome.{Outcome, ok, fault}
use Rattle.definitions.specs.Truth.{not_truth, is_true}
use Rattle.definitions.specs.Evaluate.{Setting, Bindings, Quad, condition, query}

-- the machine's outcome passes a test
abbrev pub gives : {A : Type 0} → (A → Bool) → Outcome A → Bool
gives test (ok a) = test a
gives test (fault x) = false

-- the first part, and the second unless the first has decided
abbrev pub parts : (decided : Bool) → (first second : ℕ) → ℕ
parts decided m n = cond decided m (m + n)

module _ (σ : Setting) (terms : List Term) (quads : List Quad) (β : Bindings) where
  -- 53 leaves out its second part after a false first, 52 after a true first
  unfoldable pub cond_records : Cond → ℕ
  cond_records Cond.no = 1
  cond_records Cond.yes = 1
  cond_records (Cond.or c d) = suc (parts (gives is_true (condition σ terms quads β c)) (cond_records c) (cond_records d))
  cond_records (Cond.and c d) = suc (parts (gives (λ a. is_true (not_truth a)) (condition σ terms quads β c)) (cond_records c) (cond_records d))
  cond_records (Cond.not c) = suc (cond_records c)
  cond_records (Cond.regex p e) = 1
  cond_records (Cond.lang_matches r e) = 1
  cond_records (Cond.equal e f) = 1
  cond_records (Cond.less e f) = 1

  -- 62 after a false first, 63 after a true first
  unfoldable pub query_records : Query → ℕ
  query_records (Query.pattern g s p o) = 1
  query_records (Query.both q r) = suc (parts (gives Bools.not (query σ terms quads β q)) (query_records q) (query_records r))
  query_records (Query.union q r) = suc (parts (gives (λ a. a) (query σ terms quads β q)) (query_records q) (query_records r))
  query_records (Query.filter c) = suc (cond_records c)
  query_records Query.empty = 1
