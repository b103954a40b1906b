-- The page call, refusal by refusal, and its result where nothing is refused.
use Rattle.definitions.specs.declared.Refusal.TheVariants.{NoGraph, BadPage, NoRoom}
use Rattle.std.specs.Prelude.{Some, None, Err}
use Rattle.std.specs.declared.option.Option as Answer
use Rattle.definitions.specs.declared.Refusal.{Refusal}
use Prim.Native.Nat.{ℕ, ◌≤◌, ◌<◌}
use native.Mathlib.Omega.{arith}
use mathlib.Core.Path.{◌≡◌, refl, sym, ap, ◌∙◌}
use mathlib.Core.List.{List}
use mathlib.Core.Bool.{true, false}
use mathlib.Core.Option.{Option, none, some}
use lib.ListN.{length, get_elem?}
use borrow.Author.Tests.{le-leb, lt-leb}
use Rattle.laws.proofs.Tests.{true_is}
use Rattle.definitions.specs.Limits.{page_limit}
use Rattle.definitions.specs.Bytes.{provided}
use Rattle.definitions.specs.Terms.{Triple, read_page}
use Rattle.definitions.specs.Machine.{State, Taken, taken, with_page, in_limits}
use Rattle.definitions.specs.Saved.{term_table, quad_table}
use Rattle.definitions.specs.Result.{Result, OrRefusal, refused, passed, ◌>>=◌, ◌>>◌, require, given}
use Rattle.definitions.specs.Calls as Calls
use Rattle.definitions.specs.Calls.{Checked, Lent, entry_tests, is_graph, page_in, PageTaken, page_taken, take_in, Taking, page_tests, PageResult, page_result, page_call}
use Rattle.definitions.specs.declared.SavedRun.{SavedRun}
use Rattle.definitions.specs.declared.Paged.{Paged}
use Rattle.laws.proofs.Results.{given-bind, require-after, given-refused, require-refused, bind-refused, bind-passed}
use Rattle.laws.specs.ReadAnswers.{is_some}
use Rattle.fields.specs.Answers.{count_of}
use Rattle.paging.specs.Refused.{handed_back}

-- ── whether a page reads ────────────────────────────────────────────────────────────────────

module _ (page : List ℕ) where
  pub page-long : page_limit < length page → false ≡ is_some (page_in page)
  unfolding page_in provided
  page-long h = rw (lt-leb (length page) page_limit h) refl

  module _ (short : length page ≤ page_limit) {n : Answer.Option ℕ} (e : n ≡ count_of (read_page page)) where
    pub page-bad : n ≡ None → false ≡ is_some (page_in page)
    unfolding page_in provided count_of
    page-bad f = rw (le-leb (length page) page_limit short) (go (read_page page) (sym e ∙ f))
      where
        go : (o : Option (List Triple)) → count_of o ≡ None → false ≡ is_some o
        go none h = refl
        go (some rs) h = absurd (let z : ◌≡◌ {A = ℕ} 0 1 = cc in omega arith)

    pub page-good : (k : ℕ) → n ≡ Some k → true ≡ is_some (page_in page)
    unfolding page_in provided count_of
    page-good k f = rw (le-leb (length page) page_limit short) (go (read_page page) (sym e ∙ f))
      where
        go : (o : Option (List Triple)) → count_of o ≡ Some k → true ≡ is_some o
        go none h = absurd (let z : ◌≡◌ {A = ℕ} 0 1 = cc in omega arith)
        go (some rs) h = refl

-- ── refusals ────────────────────────────────────────────────────────────────────────────────

module _ (l : Lent) (saved : SavedRun) (g : ℕ) (page : List ℕ) where
  -- both tables as they were
  abbrev keeping : Paged → PageResult
  keeping r = record { returned = r; term_table = l.term_table; quad_table = l.quad_table }

  -- what comes after soundness
  abbrev after : Calls.Sound → Result Taking
  after x = take_in x.checked g page x.state >>= λ k. passed (record { checked = x.checked; taken = k })

  pub entry-refused : {n : Refusal} → entry_tests l saved ≡ refused n → {r : OrRefusal Paged} → r ≡ Err n → page_call l saved g page ≡ keeping (handed_back saved r)
  unfolding page_call page_tests page_result
  entry-refused e k = ap (page_result l saved) (bind-refused after e) ∙ ap (λ (r : OrRefusal Paged). keeping (handed_back saved r)) (sym k)

  module _ (x : Calls.Sound) (entered : entry_tests l saved ≡ passed x) where
    abbrev s : State
    s = x.state

    abbrev c : Checked
    c = x.checked

    abbrev result : Result PageTaken → PageResult
    result r = page_result l saved (r >>= λ k. passed (record { checked = c; taken = k }))

    goes_on : (r : Result PageTaken) → take_in c g page s ≡ r → page_call l saved g page ≡ result r
    unfolding page_call page_tests
    goes_on r e = ap (page_result l saved) (bind-passed after entered) ∙ ap result e

    abbrev from14 : List Triple → Result PageTaken
    from14 rs = require NoRoom (in_limits (with_page g (taken c.schema g rs s.store) s.store)) >> passed (page_taken g (taken c.schema g rs s.store) s)

    pub refused-12 : is_graph (get_elem? s.store.terms g) ≡ false → page_call l saved g page ≡ keeping (handed_back saved (Err NoGraph))
    unfolding take_in page_result ◌>>=◌
    refused-12 e = goes_on (refused NoGraph) (require-refused NoGraph (given BadPage (page_in page) >>= from14) e)

    module _ (graph : is_graph (get_elem? s.store.terms g) ≡ true) where
      taking : (r : Result PageTaken) → (given BadPage (page_in page) >>= from14) ≡ r → page_call l saved g page ≡ result r
      unfolding take_in
      taking r e = goes_on r (require-after NoGraph (is_graph (get_elem? s.store.terms g)) (given BadPage (page_in page) >>= from14) (true_is (is_graph (get_elem? s.store.terms g)) graph) ∙ e)

      pub refused-13 : page_in page ≡ none → page_call l saved g page ≡ keeping (handed_back saved (Err BadPage))
      unfolding page_result ◌>>=◌
      refused-13 e = taking (refused BadPage) (given-refused BadPage from14 e)

      module _ (rs : List Triple) (reads : page_in page ≡ some rs) where
        abbrev k : Taken
        k = taken c.schema g rs s.store

        pub refused-14 : in_limits (with_page g k s.store) ≡ false → page_call l saved g page ≡ keeping (handed_back saved (Err NoRoom))
        unfolding page_result ◌>>=◌
        refused-14 e = taking (refused NoRoom) (given-bind BadPage from14 reads ∙ require-refused NoRoom (passed (page_taken g k s)) e)

        pub taken_in : in_limits (with_page g k s.store) ≡ true → page_call l saved g page ≡ result (passed (page_taken g k s))
        taken_in e =
            taking (passed (page_taken g k s))
            (given-bind BadPage from14 reads ∙ require-after NoRoom (in_limits (with_page g k s.store)) (passed (page_taken g k s)) (true_is (in_limits (with_page g k s.store)) e))
