-- The answer of the typer.
use Rattle.std.specs.Prelude.{ℕ, List, Ok, Err, get_or}
use Rattle.definitions.specs.Result.{OrRefusal}
use Rattle.definitions.specs.declared.Refusal.TheVariants.{NoTyping, NoGreatest}
use Rattle.definitions.specs.Typing.{Written, unbound, Verdict, no_typing, no_greatest, greatest}
use Rattle.definitions.specs.Calls.{reported_type, reported_types}
use Rattle.facts.specs.declared.noting.Tables.{Tables}
use Rattle.facts.specs.Infer.{chosen, best, best_types}

-- refusal 8 or 9, or the reported types
unfoldable pub answer_of : List Written → Verdict → OrRefusal (List ℕ)
answer_of ws no_typing = Err NoTyping
answer_of ws no_greatest = Err NoGreatest
answer_of ws (greatest Γ) = Ok (reported_types ws Γ)

-- what the tables say of one variable, of all
module _ (t : Tables) (ws : List Written) where
  unfoldable pub reported_at : ℕ → ℕ
  reported_at x = let w = get_or ws x unbound in reported_type w (chosen w (best t x))

  unfoldable pub reported_all : List ℕ
  reported_all = reported_types ws (best_types t ws)
