-- The whole script: what the walk noted, read off, is the verdict.
use Prim.Native.Nat.{ℕ}
use mathlib.Core.Path.{◌≡◌, sym, ap, ◌∙◌, subst}
use mathlib.Core.Bool.{true}
use mathlib.Core.List.{List, []}
use mathlib.Core.Option.{some}
use lib.ListN.{length}
use Rattle.definitions.specs.Limits.{variable_limit, depth_limit}
use Rattle.definitions.specs.Tree.{Script}
use Rattle.definitions.specs.Reading.{read_script, parsed}
use Rattle.definitions.specs.Typing.{Written, verdict, written_types}
use Rattle.laws.specs.Walks.{Walked}
use Rattle.laws.specs.ReadAnswers.{is_some}
use Rattle.definitions.specs.Result.{OrRefusal}
use Rattle.facts.specs.declared.noting.Tables.{Tables}
use Rattle.facts.specs.Demands.{script_demands}
use Rattle.facts.specs.Tables.{fresh, all_noted}
use Rattle.facts.specs.Infer.{read_off, tables_of, infer}
use Rattle.facts.specs.Codes.{sorts_in, all_written}
use Rattle.facts.specs.Walk.{Joined, ScriptNoted}
use Rattle.facts.specs.Answers.{answer_of}
use Rattle.facts.proofs.NotingLaws.{fresh-sound}
use Rattle.facts.proofs.Infer.{infer-is-verdict}
use Rattle.readoff.proofs.ReadOffLaws.{written-length}
use Rattle.typing.proofs.PairLaws.{at-root}

pub fresh-joined : {t : Tables} → t ≡ fresh → Joined t
fresh-joined e = subst Joined (sym e) (fresh-sound []).forest

-- over the codes of the constants' least types and of the written types
module _ (leasts s : List ℕ) (good : is_some (parsed (length leasts) s) ≡ true) where
  -- what the walk noted, from fresh tables on
  pub tables-noted : (written : List ℕ) {t u : Tables} {n : ℕ} → t ≡ fresh → Walked (ScriptNoted leasts written t u) (read_script s (length leasts) depth_limit 0) n
      → (root : Script) → parsed (length leasts) s ≡ some root → u ≡ tables_of (sorts_in leasts) (all_written written) root
  tables-noted written et w root p =
      (at-root (length leasts) s good w root p).tables ∙ ap (all_noted (sorts_in leasts) (all_written written) (script_demands root)) et

  pub typed : (written : List ℕ) {u : Tables} {r : OrRefusal (List ℕ)} → length written ≡ variable_limit
      → ((root : Script) → parsed (length leasts) s ≡ some root → u ≡ tables_of (sorts_in leasts) (all_written written) root)
      → r ≡ answer_of (all_written written) (read_off u (all_written written))
      → (root : Script) → parsed (length leasts) s ≡ some root → r ≡ answer_of (all_written written) (verdict (sorts_in leasts) (all_written written) root)
  unfolding infer
  typed written per-variable eu er root p =
      let ws = all_written written in
      er ∙ ap (λ (t : Tables). answer_of ws (read_off t ws)) (eu root p) ∙ ap (answer_of ws) (infer-is-verdict (sorts_in leasts) ws (written-length written per-variable) root)

  -- with the types that the script writes
  pub typed-as-written : (written : List ℕ) {r : OrRefusal (List ℕ)} → ((root : Script) → parsed (length leasts) s ≡ some root → all_written written ≡ written_types root)
      → ((root : Script) → parsed (length leasts) s ≡ some root → r ≡ answer_of (all_written written) (verdict (sorts_in leasts) (all_written written) root))
      → (root : Script) → parsed (length leasts) s ≡ some root → r ≡ answer_of (written_types root) (verdict (sorts_in leasts) (written_types root) root)
  typed-as-written written e h root p = h root p ∙ ap (λ (ws : List Written). answer_of ws (verdict (sorts_in leasts) ws root)) (e root p)
