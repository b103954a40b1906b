-- The lowest type that does, and the lowest variable, as the loops find them.
use Rattle.std.specs.Prelude.{Some, None, Ok, is_ok}
use Rattle.std.specs.declared.option.Option as Answer
use Rattle.definitions.specs.Result.{OrRefusal}
use Rattle.definitions.specs.declared.Suggested.TheVariants as Suggests
use native.Mathlib.Omega.{arith}
use Prim.Native.Nat.{ℕ, ◌+◌, ◌≤◌, ◌<◌}
use native.Mathlib.Numerals.{add-one}
use mathlib.Core.Path.{◌≡◌, refl, sym, ap, ◌∙◌}
use mathlib.Core.List.{List, ◌∷◌, map}
use mathlib.Core.Bool.{Bool, true, false}
use mathlib.Core.Option.{Option, none, some}
use lib.Dec.{eqb, eqb→eq}
use lib.ListN.{length, get_or, drop, drop_of_length-le}
use lib.Seq.{drop-cons}
use Rattle.definitions.specs.Limits.{variable_limit}
use Rattle.definitions.specs.Lists.{find}
use Rattle.definitions.specs.Types.{Ty, plain, any_uri, type_code, all_types}
use Rattle.definitions.specs.Scope.{variables}
use Rattle.definitions.specs.Typing.{Written, is_open, Verdict, no_typing, no_greatest, greatest}
use Rattle.definitions.specs.Suggest.{Suggestion, is_accepted, lowest_type, lowest_in}
use Rattle.definitions.specs.Calls.{suggest_answer}
use Rattle.laws.proofs.Ranges.{every_in}
use Rattle.laws.proofs.Variables.{at-variable}
use Rattle.codes.specs.TypeCodes.{type_of}
use Rattle.codes.proofs.CodeLaws.{type-back}
use Rattle.facts.specs.declared.noting.Tables.{Tables}
use Rattle.facts.specs.Infer.{read_off}
use Rattle.facts.specs.Codes.{all_written}
use Rattle.facts.specs.Answers.{answer_of}
use Rattle.readoff.proofs.ReadOffLaws.{here-open, here-written}
use Rattle.with_type.specs.WithType.{with_type}
use Rattle.lowest_type.specs.Does.{does_in, code_of}

-- ── one type at one variable ────────────────────────────────────────────────────────────────

accepted-is : (ws : List Written) (v : Verdict) → is_ok (answer_of ws v) ≡ is_accepted v
unfolding answer_of
accepted-is ws no_typing = refl
accepted-is ws no_greatest = refl
accepted-is ws (greatest Γ) = refl

pub does-is : (t : Tables) (ws : List Written) (x : ℕ) (τ : Ty) {u : Tables} {r : OrRefusal (List ℕ)} → u ≡ with_type x τ t → r ≡ answer_of ws (read_off u ws)
    → is_ok r ≡ does_in t ws x τ
unfolding does_in
does-is t ws x τ {u} eu er =
    ap is_ok er ∙ accepted-is ws (read_off u ws) ∙ ap (λ (v : Tables). is_accepted (read_off v ws)) eu

-- ── the first that passes, from a place on ──────────────────────────────────────────────────

module _ {A : Type 0} (p : A → Bool) (l : List A) (i : ℕ) (d : A) where
  find_at : {b : Bool} → i < length l → p (get_or l i d) ≡ b
      → find p (drop i l) ≡ (elim b as (λ c. Option A) [ true ↦ some (get_or l i d) | false ↦ find p (drop (i + 1) l) ])
  unfolding find
  find_at {b} h e =
      ap (find p) (drop-cons l i d h)
      ∙ λ j. elim (e j) as (λ c. Option A) [ true ↦ some (get_or l i d) | false ↦ find p (drop (sym (add-one i) j) l) ]

  pub find-here : i < length l → p (get_or l i d) ≡ true → find p (drop i l) ≡ some (get_or l i d)
  find-here h e = find_at h e

  pub find-next : i < length l → p (get_or l i d) ≡ false → find p (drop i l) ≡ find p (drop (i + 1) l)
  find-next h e = find_at h e

  pub find_none : length l ≤ i → find p (drop i l) ≡ none
  unfolding find
  find_none h = ap (find p) (drop_of_length-le l h)

-- ── the lowest type ─────────────────────────────────────────────────────────────────────────

pub code_at : (i : ℕ) → i < length all_types → get_or (map type_code all_types) i 0 ≡ type_code (get_or all_types i (plain any_uri))
code_at i l =
    eqb→eq (get_or (map type_code all_types) i 0) (type_code (get_or all_types i (plain any_uri)))
    (every_in (λ k. eqb (get_or (map type_code all_types) k 0) (type_code (get_or all_types k (plain any_uri)))) 0 (length all_types) tt i (omega arith) l)

module _ (written : List ℕ) (per-variable : length written ≡ variable_limit) (t : Tables) (x : ℕ) (l : x < variable_limit) where
  abbrev ws : List Written
  ws = all_written written

  abbrev type : Option Ty
  type = lowest_type ws (does_in t ws) x

  abbrev if_open : Bool → Option Ty
  if_open b = elim b [ true ↦ find (does_in t ws x) all_types | false ↦ none ]

  pub type-closed : (get_or written x 0 ≡ 0 → ⊥) → None ≡ code_of type
  unfolding lowest_type
  type-closed n = sym (ap (λ (b : Bool). code_of (if_open b)) (here-written written x per-variable l n))

  pub type-open : get_or written x 0 ≡ 0 → type ≡ find (does_in t ws x) all_types
  unfolding lowest_type
  type-open e = ap (λ (w : Written). if_open (is_open w)) (here-open written x per-variable l e)

  -- so far none has done
  module _ (i : ℕ) (far : type ≡ find (does_in t ws x) (drop i all_types)) where
    module _ (h : i < length all_types) {k : ℕ} {b : Bool} (ek : k ≡ type_code (get_or all_types i (plain any_uri))) (eb : b ≡ does_in t ws x (type_of k)) where
      told : {c : Bool} → b ≡ c → does_in t ws x (get_or all_types i (plain any_uri)) ≡ c
      told e = ap (does_in t ws x) (sym (ap type_of ek ∙ type-back (get_or all_types i (plain any_uri)))) ∙ sym eb ∙ e

      pub type-found : b ≡ true → Some k ≡ code_of type
      type-found e = ap Some ek ∙ sym (ap code_of (far ∙ find-here (does_in t ws x) all_types i (plain any_uri) h (told e)))

      pub type-next : b ≡ false → type ≡ find (does_in t ws x) (drop (i + 1) all_types)
      type-next e = far ∙ find-next (does_in t ws x) all_types i (plain any_uri) h (told e)

    pub type-none : length all_types ≤ i → None ≡ code_of type
    type-none h = sym (ap code_of (far ∙ find_none (does_in t ws x) all_types i (plain any_uri) h))

some-none : {n : ℕ} → ◌≡◌ {A = Answer.Option ℕ} (Some n) None → ⊥
some-none e = let z : ◌≡◌ {A = ℕ} 0 1 = cc in omega arith

same-code : {m n : ℕ} → ◌≡◌ {A = Answer.Option ℕ} (Some m) (Some n) → m ≡ n
same-code e = cc

-- ── the lowest variable ─────────────────────────────────────────────────────────────────────

module _ (ws : List Written) (does : ℕ → Ty → Bool) (x : ℕ) (far : lowest_in ws does variables ≡ lowest_in ws does (drop x variables)) where
  module _ (l : x < variable_limit) {k : Answer.Option ℕ} (ek : k ≡ code_of (lowest_type ws does x)) where
    from-here : drop x variables ≡ x ∷ drop (x + 1) variables
    from-here =
        drop-cons variables x 0 l
        ∙ λ j. at-variable (λ v. v) 0 x l j ∷ drop (sym (add-one x) j) variables

    here : (o : Option Ty) → lowest_type ws does x ≡ o
        → lowest_in ws does variables
        ≡ (elim o as (λ c. Option Suggestion) [ none ↦ lowest_in ws does (drop (x + 1) variables) | some τ ↦ some (record { variable = x; type = τ }) ])
    unfolding lowest_in
    here o e =
        far ∙ ap (lowest_in ws does) from-here
        ∙ λ j. elim (e j) as (λ c. Option Suggestion) [ none ↦ lowest_in ws does (drop (x + 1) variables) | some τ ↦ some (record { variable = x; type = τ }) ]

    pub lowest-found : {n : ℕ} → k ≡ Some n → Ok (Suggests.Named x n) ≡ suggest_answer (lowest_in ws does variables)
    unfolding suggest_answer
    lowest-found {n} f = go (lowest_type ws does x) refl
      where
        go : (o : Option Ty) → lowest_type ws does x ≡ o → Ok (Suggests.Named x n) ≡ suggest_answer (lowest_in ws does variables)
        go none e = absurd (some-none (sym f ∙ ek ∙ ap code_of e))
        go (some τ) e = ap (λ (m : ℕ). Ok (Suggests.Named x m)) (same-code (sym f ∙ ek ∙ ap code_of e)) ∙ sym (ap suggest_answer (here (some τ) e))

    pub lowest-next : k ≡ None → lowest_in ws does variables ≡ lowest_in ws does (drop (x + 1) variables)
    lowest-next z = go (lowest_type ws does x) refl
      where
        go : (o : Option Ty) → lowest_type ws does x ≡ o → lowest_in ws does variables ≡ lowest_in ws does (drop (x + 1) variables)
        go none e = here none e
        go (some τ) e = absurd (some-none (sym (ap code_of e) ∙ sym ek ∙ z))

  pub lowest-none : variable_limit ≤ x → Ok Suggests.NoSingle ≡ suggest_answer (lowest_in ws does variables)
  unfolding suggest_answer lowest_in
  lowest-none h = sym (ap suggest_answer (far ∙ ap (lowest_in ws does) (drop_of_length-le variables h)))
