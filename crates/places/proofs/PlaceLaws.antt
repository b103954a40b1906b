-- The place that is answered at each record, and of a whole script.
use Rattle.std.specs.Prelude.{Some, None}
use Rattle.std.specs.Option.{option_or}
use Rattle.std.specs.declared.option.Option as Answer
use Prim.Native.Nat.{ℕ, suc, ◌+◌}
use mathlib.Core.Bool.{Bool, true, false, cond}
use mathlib.Core.List.{List}
use mathlib.Core.Option.{Option, none, some}
use mathlib.Core.Path.{◌≡◌, refl, sym, ap, ap₂, ◌∙◌}
use native.Mathlib.Numerals.{add-one}
use lib.Dec.{eqb}
use Rattle.definitions.specs.Limits.{depth_limit}
use Rattle.definitions.specs.Bytes.{provided}
use Rattle.definitions.specs.Tree.{Name, Query, Binder, Script, success, from_named, block, sequence}
use Rattle.definitions.specs.Saved as Saved
use Rattle.definitions.specs.Saved.{place_from, place_in, or_else}
use Rattle.definitions.specs.Reading.{read_script, parsed}
use Rattle.laws.specs.Walks.{Walked}
use Rattle.laws.specs.ReadAnswers.{is_some}
use Rattle.walks.proofs.RootLaws.{whole_of, of-root}
use Rattle.places.specs.Places.{place_of, own_place, place_at}

-- a choice that waits until it is asked
chosen : (b : Bool) (p : Saved.Place) (rest : Option Saved.Place)
    → place_of (elim b as (λ c. Option Saved.Place) [ true ↦ some p | false ↦ rest ]) ≡ cond b (Some p.depth) (place_of rest)
chosen true p rest = refl
chosen false p rest = refl

only : (b : Bool) (p : Saved.Place) → place_of (provided b (some p)) ≡ cond b (Some p.depth) None
unfolding provided
only true p = refl
only false p = refl

either : (a b : Option Saved.Place) → place_of (or_else a b) ≡ option_or (place_of a) (place_of b)
either none b = refl
either (some p) b = refl

deeper : (wanted depth : ℕ) (c : Script) {r : Answer.Option ℕ} → r ≡ place_of (place_from (depth + 1) c wanted) → r ≡ place_of (place_from (suc depth) c wanted)
deeper wanted depth c e = e ∙ ap (λ (k : ℕ). place_of (place_from k c wanted)) (add-one depth)

module _ (wanted at depth : ℕ) {r below : Answer.Option ℕ} (e : r ≡ own_place wanted at depth below) where
  pub success-place : below ≡ None → r ≡ place_of (place_from depth (success at) wanted)
  unfolding place_from
  success-place f = e ∙ (ap (own_place wanted at depth) f ∙ sym (only (eqb wanted at) (record { depth = depth; script = success at })))

  pub named-place : (n : Name) (c : Script) → below ≡ place_of (place_from (depth + 1) c wanted) → r ≡ place_of (place_from depth (from_named at n c) wanted)
  unfolding place_from
  named-place n c f =
      e ∙ (ap (own_place wanted at depth) (deeper wanted depth c f) ∙ sym (chosen (eqb wanted at) (record { depth = depth; script = from_named at n c }) (place_from (suc depth) c wanted)))

  pub block-place : (each : Bool) (bs : List Binder) (q : Query) (c : Script) → below ≡ place_of (place_from (depth + 1) c wanted)
      → r ≡ place_of (place_from depth (block at each bs q c) wanted)
  unfolding place_from
  block-place each bs q c f =
      e ∙ (ap (own_place wanted at depth) (deeper wanted depth c f) ∙ sym (chosen (eqb wanted at) (record { depth = depth; script = block at each bs q c }) (place_from (suc depth) c wanted)))

  pub sequence-place : (c d : Script) {p q : Answer.Option ℕ} → below ≡ option_or p q → p ≡ place_of (place_from (depth + 1) c wanted) → q ≡ place_of (place_from (depth + 1) d wanted)
      → r ≡ place_of (place_from depth (sequence at c d) wanted)
  unfolding place_from
  sequence-place c d f g h =
      let rest = or_else (place_from (suc depth) c wanted) (place_from (suc depth) d wanted) in
      e ∙ (ap (own_place wanted at depth) (f ∙ (ap₂ option_or (deeper wanted depth c g) (deeper wanted depth d h) ∙ sym (either (place_from (suc depth) c wanted) (place_from (suc depth) d wanted))))
      ∙ sym (chosen (eqb wanted at) (record { depth = depth; script = sequence at c d }) rest))

-- ── the whole script ────────────────────────────────────────────────────────────────────────

module _ (terms : ℕ) (s : List ℕ) (e : is_some (parsed terms s) ≡ true) where
  pub place_is : (wanted : ℕ) {r : Answer.Option ℕ} {n : ℕ} → Walked (λ c. r ≡ place_of (place_from 1 c wanted)) (read_script s terms depth_limit 0) n → r ≡ place_at (parsed terms s) wanted
  unfolding place_at place_in
  place_is wanted x = let w = whole_of terms s e in of-root terms s e x ∙ ap (λ (o : Option Script). place_at o wanted) (sym w.parses)
