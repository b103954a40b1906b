-- A whole script: what a walk from its first byte says of the root.
use Prim.Native.Nat.{ℕ}
use mathlib.Core.Bool.{true}
use mathlib.Core.List.{List}
use mathlib.Core.Option.{some}
use mathlib.Core.Path.{◌≡◌, ap, ◌∙◌}
use lib.Dec.{eqb}
use lib.ListN.{length}
use Rattle.definitions.specs.Limits.{depth_limit}
use Rattle.definitions.specs.Bytes.{provided}
use Rattle.definitions.specs.Tree.{Script}
use Rattle.definitions.specs.Reading.{read_script, parsed}
use Rattle.laws.proofs.Options.{some_is, provided-inv, onward-inv}
use Rattle.laws.proofs.Reading.{same_read}
use Rattle.laws.specs.Walks.{Loads, Walked}
use Rattle.laws.specs.ReadAnswers.{is_some}
use Rattle.laws.proofs.ReadAnswers.{is-some}

-- a script that is well formed, read from its first byte
pub record Whole (terms : ℕ) (s : List ℕ) : Type 0 where
  pub root : Script
  pub parses : parsed terms s ≡ some root
  pub ends : ℕ
  pub read : read_script s terms depth_limit 0 ≡ some (root, ends)

pub whole_of : (terms : ℕ) (s : List ℕ) → is_some (parsed terms s) ≡ true → Whole terms s
unfolding parsed
whole_of terms s e =
    let p = is-some (parsed terms s) e in
    let r = onward-inv (read_script s terms depth_limit 0) (λ r. provided (eqb r.1 (length s)) (some r.0)) p.1 in
    let q = provided-inv (eqb r.0.1 (length s)) (some r.0.0) r.2 in
    record { root = p.0; parses = p.1; ends = r.0.1; read = r.1 ∙ ap (λ (c : Script). some (c, r.0.1)) (some_is q.1) }

pub whole-loads : (terms : ℕ) (s : List ℕ) → is_some (parsed terms s) ≡ true → Loads (read_script s terms depth_limit 0)
whole-loads terms s e = let w = whole_of terms s e in (w.root, w.ends, w.read)

module _ (terms : ℕ) (s : List ℕ) (e : is_some (parsed terms s) ≡ true) where
  -- what a walk from the first byte shows holds of the root
  pub of-root : {P : Script → Type 0} {n : ℕ} → Walked P (read_script s terms depth_limit 0) n → P (whole_of terms s e).root
  of-root {P} w = rw (same_read w.read (whole_of terms s e).read).0 at w.holds
