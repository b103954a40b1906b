-- What the verdict says, proved.
use Prim.Native.Nat.{ℕ}
use mathlib.Core.List.{List}
use Rattle.definitions.specs.Terms.{Sort}
use Rattle.definitions.specs.Tree.{Script}
use Rattle.definitions.specs.Typing.{Written, no_typing, no_greatest, greatest}
use Rattle.laws.proofs.Typings.{verdict-is}
use Rattle.theorems.specs.Verdict.{VerdictClaim}

pub verdict-claim : (constants : ℕ → Sort) (ws : List Written) (s : Script) → VerdictClaim constants ws s
verdict-claim constants ws s = record {
  accepted = λ Γ. verdict-is constants ws s (greatest Γ);
  refusal-8 = verdict-is constants ws s no_typing;
  refusal-9 = verdict-is constants ws s no_greatest;
}
