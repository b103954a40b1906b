-- The call by its cases: a buffer of another length, a bad page, too many entries, and the entries written.
use Rattle.definitions.specs.declared.Refusal.TheVariants.{WrongLength, BadPage, TooManyEntries}
use Rattle.std.specs.Prelude.{Ok, Err}
use Rattle.definitions.specs.declared.Refusal.{Refusal}
use Prim.Native.Nat.{ℕ, ◌+◌, ◌-◌, ◌≤◌, ◌<◌}
use native.Mathlib.Omega.{arith}
use mathlib.Core.Path.{◌≡◌, refl, sym, ap, ◌∙◌}
use mathlib.Core.List.{List, []}
use mathlib.Core.Bool.{Bool, true, false, not}
use mathlib.Core.Option.{Option, none, some}
use lib.Dec.{eqb, leb}
use lib.ListN.{length}
use borrow.Author.Tests.{eq-eqb, ne_eqb, le-leb, lt-leb, not-true, not-false}
use Rattle.definitions.specs.Limits.{entry_limit, page_limit, schema_width}
use Rattle.definitions.specs.Bytes.{provided}
use Rattle.definitions.specs.Terms.{Triple, Schema, read_page}
use Rattle.definitions.specs.Gathering.{askings, subjects_after, gathered_of, Gathered, gathered}
use Rattle.definitions.specs.Result.{Result, refused, passed, ◌>>=◌, ◌>>◌, require, given}
use Rattle.definitions.specs.Calls.{page_in, schema_tests, written, SchemaResult, schema_result, schema_call}
use Rattle.laws.specs.ReadAnswers.{is_some}
use Rattle.laws.proofs.ReadAnswers.{is-some, is_none}
use Rattle.laws.proofs.Tests.{true_is}
use Rattle.laws.proofs.Results.{given-bind, given-refused, require-after, require-refused}
use Rattle.laws.proofs.Gathering.{gathered-count}
use Rattle.subjects.specs.declared.Subjects.{Subjects}
use Rattle.subjects.specs.Noted.{Noted}
use Rattle.gathering.specs.Entries.{entries_of}

module _ (page schema : List ℕ) where
  abbrev pub refused_with : Refusal → SchemaResult
  refused_with n = record { answer = Err n; schema = schema }

  -- after 13
  abbrev last : Gathered → Result Gathered
  last g = require TooManyEntries (leb (length g.entries) entry_limit) >> passed g

  abbrev rest : Result Gathered
  rest = given BadPage (page_in page) >>= (λ triples. last (gathered triples))

  refuses : (n : Refusal) → schema_tests page schema ≡ refused n → schema_call page schema ≡ refused_with n
  unfolding schema_call schema_result
  refuses n e = ap (schema_result schema) e

  pub wrong-length : (length schema ≡ schema_width → ⊥) → schema_call page schema ≡ refused_with WrongLength
  unfolding schema_tests
  wrong-length h = refuses WrongLength (require-refused WrongLength rest (ne_eqb (length schema) schema_width h))

  module _ (w : length schema ≡ schema_width) where
    tests : schema_tests page schema ≡ rest
    unfolding schema_tests
    tests = require-after WrongLength (eqb (length schema) schema_width) rest (true_is (eqb (length schema) schema_width) (eq-eqb (length schema) schema_width w))

    bad : page_in page ≡ none → schema_call page schema ≡ refused_with BadPage
    bad e = refuses BadPage (tests ∙ given-refused BadPage (λ triples. last (gathered triples)) e)

    pub long-page : page_limit < length page → schema_call page schema ≡ refused_with BadPage
    unfolding page_in provided
    long-page l = bad (rw (lt-leb (length page) page_limit l))

    module _ (l : length page ≤ page_limit) {good : Bool} (e : good ≡ is_some (read_page page)) where
      pub bad-page : not good ≡ true → schema_call page schema ≡ refused_with BadPage
      unfolding page_in provided
      bad-page n = bad (rw (le-leb (length page) page_limit l) (is_none (read_page page) (sym e ∙ not-true good n)))

      module _ (y : not good ≡ false) where
        pub read : (rs : List Triple) × (read_page page ≡ some rs)
        read = is-some (read_page page) (sym e ∙ not-false good y)

        page-in : page_in page ≡ some read.0
        unfolding page_in provided
        page-in = rw (le-leb (length page) page_limit l) read.1

        goes : schema_tests page schema ≡ last (gathered read.0)
        goes = tests ∙ given-bind BadPage (λ triples. last (gathered triples)) page-in

        entries-are : gathered read.0 ≡ gathered_of (askings read.0) (subjects_after [] (askings read.0))
        unfolding gathered
        entries-are = refl

        module _ {entries : ℕ} (c : entries ≡ length (entries_of (askings read.0))) where
          counted : length (gathered read.0).entries ≡ entries
          counted = ap (λ (g : Gathered). length g.entries) entries-are ∙ sym c

          pub too_many : entry_limit < entries → schema_call page schema ≡ refused_with TooManyEntries
          too_many m = refuses TooManyEntries (goes ∙ require-refused TooManyEntries (passed (gathered read.0)) (lt-leb (length (gathered read.0).entries) entry_limit (omega (arith, counted))))

          module _ (few : entries ≤ entry_limit) where
            passes : schema_tests page schema ≡ passed (gathered read.0)
            passes =
                goes
                ∙ require-after TooManyEntries (leb (length (gathered read.0).entries) entry_limit) (passed (gathered read.0))
                (true_is (leb (length (gathered read.0).entries) entry_limit) (le-leb (length (gathered read.0).entries) entry_limit (omega (arith, counted))))

            pub gathers : (s : Subjects) → Noted page (askings read.0) s → {after : List ℕ} → after ≡ written (entries_of (askings read.0)) schema
                → schema_call page schema ≡ record { answer = Ok (record { entries = entries; left_out = (s.count - entries) }); schema = after }
            unfolding schema_call schema_result
            gathers s h {after} f =
                let left : (gathered read.0).left_out ≡ s.count - entries =
                omega (
                  arith,
                  h.count,
                  counted,
                  gathered-count (askings read.0) (subjects_after [] (askings read.0)),
                  ap (λ (g : Gathered). length g.entries) entries-are,
                  ap (λ (g : Gathered). g.left_out) entries-are,
                ) in
                let all : written (gathered read.0).entries schema ≡ after = ap (λ (g : Gathered). written g.entries schema) entries-are ∙ sym f in
                ap (schema_result schema) passes ∙ (λ i. record { answer = Ok (record { entries = (counted i); left_out = (left i) }); schema = all i })
