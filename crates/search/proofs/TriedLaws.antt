-- Trying a tuple, one variable at a time: past the last one the query is evaluated; before that a number is looked at and bound.
use Prim.Native.Nat.{ℕ, zero, suc, ◌+◌, ◌≤◌, ◌<◌}
use native.Mathlib.Omega.{arith}
use mathlib.Core.Path.{◌≡◌, refl, sym, ◌∙◌, ap, ap₂, subst, subst⁻¹, fun_ext}
use mathlib.Core.List.{List, [], ◌∷◌}
use mathlib.Core.Bool.{Bool, true, false, not, ◌&&◌}
use mathlib.Core.Option.{none}
use lib.Dec.{T, eqb}
use lib.ListN.{length, get_or, set, get_elem?}
use Rattle.definitions.specs.Limits.{depth_limit}
use Rattle.definitions.specs.Lists.{every, distinct}
use Rattle.definitions.specs.Terms.{Term}
use Rattle.definitions.specs.Evaluate.{Bindings, Quad, query}
use Rattle.definitions.specs.Search.{bind}
use Rattle.definitions.specs.Evaluated.{query_records}
use Rattle.std.specs.Prelude.{Option as Maybe, None, Some, IfSome}
use Rattle.definitions.specs.Sound.{number_has}
use Rattle.definitions.specs.Reading.{read_query}
use Rattle.definitions.specs.Outcome.{ok}
use Rattle.laws.specs.Walks.{Walked}
use Rattle.laws.specs.Bindings.{Holds}
use Rattle.laws.proofs.Bindings.{test-holds}
use Rattle.laws.proofs.NoFault.{fine-ok}
use Rattle.laws.proofs.Reading.{same_read}
use Rattle.laws.proofs.Tests.{and_right, true_is}
use Rattle.query.specs.Codes.{bindings_of}
use Rattle.query.specs.declared.Context.{Context}
use Rattle.query.specs.StoreLent.{setting_in, rows_of}
use Rattle.query.specs.Eval.{HoldsOf}
use Rattle.query.proofs.TermLaws.{few}
use Rattle.codes.specs.TypeCodes.{code_leq}
use Rattle.search.specs.Ready.{Ready}
use Rattle.search.specs.Finding.{bind_to, World, later, setting, ReadyFor}
use Rattle.search.specs.Trying.{tuple_fits, numbers_at, TriedOf}
use Rattle.search.specs.declared.Block.{Block}
use Rattle.search.specs.declared.Tried.{Tried}
use Rattle.search.proofs.FindLaws.{set-bindings}
use Rattle.search.proofs.Chosen.{distinct-once, set-bind-at}
use Rattle.search.proofs.TupleArrays.{numbers-none, numbers_more}
use Rattle.search.proofs.ReadyLaws.{ready-fine, ready-set}
use Rattle.search.proofs.TypeLaws.{has_code}

past_end : (terms : List Term) (i : ℕ) → length terms ≤ i → get_elem? terms i ≡ none
past_end [] i h = refl
past_end (t ∷ ts) zero h = absurd (omega arith)
past_end (t ∷ ts) (suc i) h = past_end ts i (omega arith)

module _ {script ranks table quads leasts : List ℕ} {x : Context} {block : Block} (w : World script ranks table quads leasts x block) (known tuple : List ℕ) (k : ℕ) where
  abbrev size : ℕ
  size = block.size

  -- ── past the last variable ────────────────────────────────────────────────────────────────

  pub tried-all : size ≤ k → {b : Bool} {m n : ℕ} → Walked (HoldsOf ranks table known x (rows_of quads x) b m) (read_query script x.loaded depth_limit block.«at») n
      → TriedOf w known tuple k (Some (record { holds = b; records = m }))
  unfolding setting_in tuple_fits bind
  tried-all over {b} {m} s d r =
      let e = numbers-none block.vars size k over in
      let h : HoldsOf ranks table known x w.rows b m w.tree =
      subst (λ (rows : List Quad). HoldsOf ranks table known x rows b m w.tree) w.lent.quads_are
      (subst (HoldsOf ranks table known x (rows_of quads x) b m) (same_read s.read w.read).0 s.holds) in
      let r₀ : ReadyFor w known [] = subst (ReadyFor w known) e r in
      let f = fine-ok (ready-fine (setting w) w.typing w.terms w.rows (bindings_of known) w.tree r₀) in
      let p = h w.schema w.terms w.lent.tabled.reads f.0 f.1 in
      rw e (refl, (f.1 ∙ ap ok (sym p.0), p.1))

  -- ── a variable ────────────────────────────────────────────────────────────────────────────

  module _ (below : k < size) where
    abbrev v : ℕ
    v = get_or block.vars k 0

    abbrev i : ℕ
    i = get_or tuple k 0

    abbrev rest : List ℕ
    rest = later block (k + 1)

    abbrev has : Bool
    has = number_has w.schema w.terms i (w.typing v)

    fits_more : tuple_fits w.schema w.typing w.terms (later block k) (numbers_at w known tuple k)
        ≡ (has && tuple_fits w.schema w.typing w.terms rest (numbers_at w known tuple (k + 1)))
    unfolding tuple_fits
    fits_more = rw (numbers_more block.vars size k below, numbers_more tuple size k below) refl

    -- a number that does not fit
    unfit : has ≡ false → TriedOf w known tuple k None
    unfit e d r = (sym (fits_more ∙ rw e refl), tt)

    pub no-term : x.count ≤ i → TriedOf w known tuple k None
    no-term h = unfit (rw (past_end w.terms i (omega (arith, w.lent.tabled.counted))) refl)

    module _ (small : i < x.count) where
      coded : code_leq (get_or leasts i 0) (get_or block.types k 0) ≡ has
      coded = has_code w.schema w.terms leasts w.lent.least_of (get_or block.types k 0) (w.typing v) (w.types k below) i (omega (arith, w.lent.tabled.counted))

      pub wrong_type : {t : Bool} → t ≡ code_leq (get_or leasts i 0) (get_or block.types k 0) → t ≡ false → TriedOf w known tuple k None
      wrong_type e f = unfit (sym coded ∙ (sym e ∙ f))

      pub one_more : {t : Bool} → t ≡ code_leq (get_or leasts i 0) (get_or block.types k 0) → t ≡ true → v < length known → (y : Maybe Tried)
          → TriedOf w (set known v i) tuple (k + 1) y → TriedOf w known tuple k y
      unfolding setting_in bind
      one_more e f inside y h d r =
          let fits : has ≡ true = sym coded ∙ (sym e ∙ f) in
          let more = numbers_more block.vars size k below in
          let d₁ : T (distinct eqb (v ∷ rest)) = subst (λ (vs : List ℕ). T (distinct eqb vs)) more d in
          let once = distinct-once (v ∷ rest) d₁ in
          let with-is : bindings_of (set known v i) ≡ bind_to v i (bindings_of known) = set-bindings known v i inside (omega (arith, few table x w.terms w.lent.tabled)) in
          let r₁ : ReadyFor w known (v ∷ rest) = subst (ReadyFor w known) more r in
          let r₂ : ReadyFor w (set known v i) rest =
          subst⁻¹ (λ (δ : Bindings). Ready w.schema w.typing w.terms δ rest w.tree) with-is
          (ready-set w.schema w.typing w.terms (bindings_of known) w.tree v i rest r₁ (holds fits)) in
          let z = h (and_right (every (λ y. not (eqb v y)) rest) (distinct eqb rest) d₁) r₂ in
          let t = numbers_at w known tuple (k + 1) in
          let same : bind (later block k) (numbers_at w known tuple k) (bindings_of known) ≡ bind rest t (bindings_of (set known v i)) =
          ap₂ (λ (vs u : List ℕ). bind vs u (bindings_of known)) more (numbers_more tuple size k below)
          ∙ (fun_ext (set-bind-at v i rest t (bindings_of known) once.0) ∙ ap (bind rest t) (sym with-is)) in
          (z.0 ∙ sym (fits_more ∙ rw fits refl), subst⁻¹ Comes same z.1)
        where
          Comes : Bindings → Type 0
          Comes β = IfSome y (λ t. (query (setting w) w.terms w.rows β w.tree ≡ ok t.holds) × (t.records ≡ query_records (setting w) w.terms w.rows β w.tree))

          holds : has ≡ true → Holds w.schema w.terms i (w.typing v)
          holds e = test-holds w.schema w.terms (w.typing v) i (true_is has e)
