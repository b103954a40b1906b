-- What is suggested for a script, read off its tables.
use Rattle.std.specs.Prelude.{Ok, Err}
use Rattle.definitions.specs.Result.{OrRefusal}
use Rattle.definitions.specs.declared.Refusal.{Refusal}
use Rattle.definitions.specs.declared.Refusal.TheVariants.{NoTyping, NoGreatest}
use Rattle.definitions.specs.declared.Suggested.{Suggested}
use Rattle.definitions.specs.declared.Suggested.TheVariants as Suggests
use Prim.Native.Nat.{ℕ, ◌≤◌, ◌<◌}
use native.Mathlib.Omega.{arith}
use mathlib.Core.Path.{◌≡◌, refl, sym, ap, ap₂, ◌∙◌, fun_ext}
use mathlib.Core.Logic.{◌⊎◌, inl, inr}
use mathlib.Core.List.{List, [], ◌∷◌}
use mathlib.Core.Bool.{Bool, true, false}
use mathlib.Core.Option.{Option, none, some}
use lib.ListN.{length, get_or, get_or-eq_default}
use Rattle.definitions.specs.Limits.{variable_limit}
use Rattle.definitions.specs.Lists.{find}
use Rattle.definitions.specs.Types.{Ty, all_types}
use Rattle.definitions.specs.Terms.{Sort}
use Rattle.definitions.specs.Tree.{Script}
use Rattle.definitions.specs.Reading.{parsed}
use Rattle.definitions.specs.Scope.{variables}
use Rattle.definitions.specs.Typing.{Written, unbound, undecided, fixed, is_open, written_types, Verdict, no_typing, no_greatest, greatest, verdict}
use Rattle.definitions.specs.Suggest.{Suggestion, is_accepted, lowest_type, lowest_in, would_do, suggestion}
use Rattle.definitions.specs.Calls.{suggest_answer, suggest_for}
use Rattle.laws.proofs.Ranges.{split}
use Rattle.facts.specs.declared.noting.Tables.{Tables}
use Rattle.facts.specs.Infer.{read_off, tables_of, infer}
use Rattle.facts.specs.Codes.{sorts_in, all_written}
use Rattle.facts.specs.Answers.{answer_of}
use Rattle.facts.proofs.Infer.{infer-is-verdict}
use Rattle.readoff.proofs.ReadOffLaws.{written-length}
use Rattle.lowest_type.specs.Does.{does_in}
use Rattle.with_type.proofs.TypeWritten.{type-is-verdict}

-- ── the same test at the open variables suggests the same ───────────────────────────────────

module _ (ws : List Written) (f g : ℕ → Ty → Bool) (same : (x : ℕ) → get_or ws x unbound ≡ undecided → (τ : Ty) → f x τ ≡ g x τ) where
  type-same : (x : ℕ) → lowest_type ws f x ≡ lowest_type ws g x
  unfolding lowest_type
  type-same x = go (get_or ws x unbound) refl
    where
      if-open : (Ty → Bool) → Written → Option Ty
      if-open p w = elim (is_open w) as (λ c. Option Ty) [ true ↦ find p all_types | false ↦ none ]

      go : (w : Written) → get_or ws x unbound ≡ w → if-open (f x) w ≡ if-open (g x) w
      go unbound e = refl
      go undecided e = ap (λ (p : Ty → Bool). find p all_types) (fun_ext (same x e))
      go (fixed σ) e = refl

  lowest-same : (xs : List ℕ) → lowest_in ws f xs ≡ lowest_in ws g xs
  unfolding lowest_in
  lowest-same [] = refl
  lowest-same (x ∷ xs) =
      ap₂ (λ (o : Option Ty) (rest : Option Suggestion). elim o as (λ c. Option Suggestion) [ none ↦ rest | some τ ↦ some (record { variable = x; type = τ }) ])
      (type-same x) (lowest-same xs)

ok-not-err : {A : Type 0} {a : A} {n : Refusal} → ◌≡◌ {A = OrRefusal A} (Ok a) (Err n) → ⊥
ok-not-err e = let z : ◌≡◌ {A = ℕ} 0 1 = cc in omega arith

same-refusal : {A : Type 0} {m n : Refusal} → ◌≡◌ {A = OrRefusal A} (Err m) (Err n) → m ≡ n
same-refusal e = cc

not-eight : NoTyping ≡ NoGreatest → ⊥
not-eight e = let z : ◌≡◌ {A = ℕ} 0 1 = cc in omega arith

-- ── of a script ─────────────────────────────────────────────────────────────────────────────

module _ (constants : ℕ → Sort) (ws : List Written) (per-variable : length ws ≡ variable_limit) (s : Script) where
  abbrev t : Tables
  t = tables_of constants ws s

  open-inside : (x : ℕ) → get_or ws x unbound ≡ undecided → (length ws ≤ x) ⊎ (x < length ws) → x < variable_limit
  open-inside x e (inl l) = absurd (let z : ◌≡◌ {A = ℕ} 0 1 = cc (get_or-eq_default ws unbound {n = x} l) in omega arith)
  open-inside x e (inr l) = omega arith

  does-would : (x : ℕ) → get_or ws x unbound ≡ undecided → (τ : Ty) → does_in t ws x τ ≡ would_do constants ws s x τ
  unfolding does_in would_do
  does-would x e τ = ap is_accepted (type-is-verdict constants ws per-variable s x (open-inside x e (split (length ws) x), e) τ)

  -- the lowest that does by the tables is the suggestion
  pub lowest-is : lowest_in ws (does_in t ws) variables ≡ suggestion constants ws s
  unfolding suggestion
  lowest-is = lowest-same ws (does_in t ws) (would_do constants ws s) does-would variables

  abbrev answered : Verdict → OrRefusal Suggested
  answered v = elim v [ no_typing ↦ Err NoTyping | no_greatest ↦ suggest_answer (suggestion constants ws s) | greatest Γ ↦ Ok Suggests.Accepted ]

  pub suggested-as : (v : Verdict) → read_off t ws ≡ v → suggest_for constants ws s ≡ answered v
  unfolding suggest_for infer
  suggested-as v e = ap answered (sym (infer-is-verdict constants ws per-variable s) ∙ e)

  module _ {r : OrRefusal (List ℕ)} (e : r ≡ answer_of ws (read_off t ws)) where
    answer_as : (v : Verdict) → read_off t ws ≡ v → r ≡ answer_of ws v
    answer_as v q = e ∙ ap (answer_of ws) q

    pub told-accepted : {types : List ℕ} → r ≡ Ok types → Ok Suggests.Accepted ≡ suggest_for constants ws s
    unfolding answer_of
    told-accepted {types} n = go (read_off t ws) refl
      where
        go : (v : Verdict) → read_off t ws ≡ v → Ok Suggests.Accepted ≡ suggest_for constants ws s
        go no_typing q = absurd (ok-not-err (sym n ∙ answer_as no_typing q))
        go no_greatest q = absurd (ok-not-err (sym n ∙ answer_as no_greatest q))
        go (greatest Γ) q = sym (suggested-as (greatest Γ) q)

    pub told-refused : {n : Refusal} → r ≡ Err n → (n ≡ NoGreatest → ⊥) → Err n ≡ suggest_for constants ws s
    unfolding answer_of
    told-refused {n} f m = go (read_off t ws) refl
      where
        go : (v : Verdict) → read_off t ws ≡ v → Err n ≡ suggest_for constants ws s
        go no_typing q = ap Err (same-refusal (sym f ∙ answer_as no_typing q)) ∙ sym (suggested-as no_typing q)
        go no_greatest q = absurd (m (same-refusal (sym f ∙ answer_as no_greatest q)))
        go (greatest Γ) q = absurd (ok-not-err (sym (answer_as (greatest Γ) q) ∙ f))

    pub told-lowest : r ≡ Err NoGreatest → {a : Suggested} → Ok a ≡ suggest_answer (lowest_in ws (does_in t ws) variables)
        → Ok a ≡ suggest_for constants ws s
    unfolding answer_of
    told-lowest n {a} q = go (read_off t ws) refl
      where
        go : (v : Verdict) → read_off t ws ≡ v → Ok a ≡ suggest_for constants ws s
        go no_typing k = absurd (not-eight (same-refusal (sym (answer_as no_typing k) ∙ n)))
        go no_greatest k = q ∙ ap suggest_answer lowest-is ∙ sym (suggested-as no_greatest k)
        go (greatest Γ) k = absurd (ok-not-err (sym (answer_as (greatest Γ) k) ∙ n))

-- ── of the bytes ────────────────────────────────────────────────────────────────────────────

module _ (leasts s written : List ℕ) (per-variable : length written ≡ variable_limit)
    (pairs : (root : Script) → parsed (length leasts) s ≡ some root → all_written written ≡ written_types root)
    {t : Tables} (tables : (root : Script) → parsed (length leasts) s ≡ some root → t ≡ tables_of (sorts_in leasts) (all_written written) root)
    {r : OrRefusal (List ℕ)} (e : r ≡ answer_of (all_written written) (read_off t (all_written written))) where
  abbrev ws : List Written
  ws = all_written written

  -- what holds of the written types holds of those that the pairs say
  abbrev Says : OrRefusal Suggested → Type 0
  Says a = (root : Script) → parsed (length leasts) s ≡ some root → a ≡ suggest_for (sorts_in leasts) (written_types root) root

  as-paired : {a : OrRefusal Suggested} → ((root : Script) → parsed (length leasts) s ≡ some root → a ≡ suggest_for (sorts_in leasts) ws root) → Says a
  as-paired h root p = h root p ∙ ap (λ (ws : List Written). suggest_for (sorts_in leasts) ws root) (pairs root p)

  read : (root : Script) → parsed (length leasts) s ≡ some root → r ≡ answer_of ws (read_off (tables_of (sorts_in leasts) ws root) ws)
  read root p = e ∙ ap (λ (t : Tables). answer_of ws (read_off t ws)) (tables root p)

  pub says-accepted : {types : List ℕ} → r ≡ Ok types → Says (Ok Suggests.Accepted)
  says-accepted n = as-paired (λ root p. told-accepted (sorts_in leasts) ws (written-length written per-variable) root (read root p) n)

  pub says-refused : {n : Refusal} → r ≡ Err n → (n ≡ NoGreatest → ⊥) → Says (Err n)
  says-refused n m = as-paired (λ root p. told-refused (sorts_in leasts) ws (written-length written per-variable) root (read root p) n m)

  pub says-lowest : r ≡ Err NoGreatest → {a : Suggested} → Ok a ≡ suggest_answer (lowest_in ws (does_in t ws) variables) → Says (Ok a)
  says-lowest n q =
      as-paired (λ root p. told-lowest (sorts_in leasts) ws (written-length written per-variable) root (read root p) n
      (q ∙ ap (λ (t : Tables). suggest_answer (lowest_in ws (does_in t ws) variables)) (tables root p)))
