-- Laws of a page whose records are noted one by one.
use Rattle.std.specs.Prelude.{Some, None}
use Rattle.std.specs.declared.option.Option as Answer
use Prim.Native.Nat.{ℕ, ◌+◌, ◌≤◌, ◌<◌}
use native.Mathlib.Omega.{arith}
use native.Mathlib.Decide.{ℕ_discrete}
use mathlib.Core.Path.{◌≡◌, refl, sym, ap, subst, ◌∙◌}
use mathlib.Core.List.{List, [], ◌∷◌, ◌++◌, append_assoc, append-nil}
use mathlib.Core.Option.{Option, none, some}
use lib.ListN.{length}
use Rattle.definitions.specs.Limits.{text_width, object_offset}
use Rattle.definitions.specs.Bytes.{byte, part, in_front}
use Rattle.definitions.specs.Types.{Datatype, datatype_code}
use Rattle.definitions.specs.Terms.{Text, Triple, body_width, uri_text, read_triple, read_page}
use Rattle.definitions.specs.Gathering.{Asking, asking, asks, askings, subjects_after}
use Rattle.laws.specs.Records.{TripleAt, records_at}
use Rattle.laws.specs.ReadAnswers.{next_of}
use Rattle.laws.proofs.ReadAnswers.{next-lost, next-got}
use Rattle.laws.proofs.RecordsAt.{triple-inv, triple-forward, page-at, at-end, at-bad, at_one}
use Rattle.laws.proofs.Options.{some_is}
use Rattle.laws.proofs.Gathering.{askings-one}
use Rattle.std.specs.Prelude.{Some, None}
use Rattle.std.specs.declared.option.Option as Answer
use Rattle.fields.specs.Answers.{code_of, code_if}
use Rattle.fields.proofs.NumberLaws.{code-is, code-not}
use Rattle.subjects.specs.declared.Subjects.{Subjects}
use Rattle.asks.specs.PageRecords.{RecordAt}
use Rattle.subjects.specs.Noted.{Noted, one_more}
use Rattle.subjects.specs.Room.{asking_width}
use Rattle.asks.proofs.AskLaws.{no-uri, is-uri}
use Rattle.subjects.proofs.NotedLaws.{code-positive}

-- a record that asks something is so long
asking-long : (page : List ℕ) (at next : ℕ) (x : Triple) → TripleAt page at x next → {code : ℕ} → code ≡ code_of (asks x.property x.object) → (code ≡ 0 → ⊥)
    → at + asking_width ≤ next
asking-long page at next x h e n = go (ℕ_discrete (byte page at) 0x81)
  where
    go : Dec (byte page at ≡ 0x81) → at + asking_width ≤ next
    go (yes k) = omega (arith, h.ends, ap body_width (is-uri page at next x h k))
    go (no d) = absurd (n (e ∙ sym (no-uri page at next x h d)))

-- records in front of those that follow
abbrev after : List Triple → Option (List Triple) → Option (List Triple)
after done none = none
after done (some rs) = some (done ++ rs)

-- the records before an offset are noted
pub record Going (page : List ℕ) (at : ℕ) (s : Subjects) : Type 0 where
  pub done : List Triple
  pub noted : Noted page (askings done) s
  pub whole : read_page page ≡ after done (records_at read_triple page at)

pub going-first : (page : List ℕ) (offsets hashes codes : List ℕ) → Going page 0 (record { count = 0; offsets = offsets; hashes = hashes; codes = codes })
unfolding askings subjects_after
going-first page offsets hashes codes =
    record {
      done = [];
      noted =
          record {
            count = refl;
            within = λ i l. absurd (omega arith);
            texts = λ i l. absurd (omega arith);
            hashed = λ i l. absurd (omega arith);
            codes = λ i l. absurd (omega arith);
          };
      whole = page-at page ∙ front (records_at read_triple page 0);
    }
  where
    front : (o : Option (List Triple)) → o ≡ after [] o
    front none = refl
    front (some rs) = refl

module _ (page : List ℕ) (at : ℕ) (s : Subjects) (g : Going page at s) where
  -- none is left
  pub going_end : length page ≤ at → read_page page ≡ some g.done
  going_end l = g.whole ∙ ap (after g.done) (at-end read_triple triple-forward page at l) ∙ ap (λ (rs : List Triple). some rs) (append-nil g.done)

  pub going-noted : length page ≤ at → (rs : List Triple) → read_page page ≡ some rs → Noted page (askings rs) s
  going-noted l rs e = subst (λ (rs : List Triple). Noted page (askings rs) s) (some_is (sym (going_end l) ∙ e)) g.noted

  module _ (l : at < length page) {r : Answer.Option ℕ} (e : r ≡ next_of (read_triple page at)) where
    -- a bad record
    pub going-bad : r ≡ None → read_page page ≡ none
    going-bad m = g.whole ∙ ap (after g.done) (at-bad read_triple triple-forward page at l (next-lost (read_triple page at) (sym e ∙ m)))

    module _ {next : ℕ} (m : r ≡ Some next) where
      one : (x : Triple) × (read_triple page at ≡ some (x, next))
      one = next-got (read_triple page at) (sym e ∙ m)

      holds : TripleAt page at one.0 next
      holds = triple-inv page at one.0 next one.1

      pub record-at : RecordAt page at
      record-at = (one.0, next, holds)

      pub next-after : (at + object_offset ≤ next) × (next ≤ length page)
      next-after = (omega (arith, holds.ends), holds.fits)

      more : read_page page ≡ after (g.done ++ (one.0 ∷ [])) (records_at read_triple page next)
      more = g.whole ∙ ap (after g.done) (at_one read_triple triple-forward page at l one.1) ∙ front (records_at read_triple page next)
        where
          front : (o : Option (List Triple)) → after g.done (in_front read_triple one.0 o) ≡ after (g.done ++ (one.0 ∷ [])) o
          front none = unfold in_front in refl
          front (some rs) = unfold in_front in ap (λ (rs : List Triple). some rs) (sym (append_assoc g.done (one.0 ∷ []) rs))

      module _ {ask : Answer.Option ℕ} (c : (x : Triple) (next : ℕ) → TripleAt page at x next → ask ≡ code_if (code_of (asks x.property x.object))) where
        -- nothing is asked
        pub going_on : ask ≡ None → Going page next s
        unfolding code_of
        going_on z =
            record {
              done = g.done ++ (one.0 ∷ []);
              noted = subst (λ (all : List Asking). Noted page all s) (sym same) g.noted;
              whole = more;
            }
          where
            nothing : (o : Option Datatype) → 0 ≡ code_of o → (u : Text) → asking u o ≡ []
            nothing none q u = refl
            nothing (some d) q u = absurd (omega (arith, q, code-positive d))

            same : askings (g.done ++ (one.0 ∷ [])) ≡ askings g.done
            same =
                askings-one g.done one.0
                ∙ ap (λ (all : List Asking). askings g.done ++ all)
                (nothing (asks one.0.property one.0.object) (sym (code-not _ (c one.0 next holds) z)) one.0.subject)
                ∙ append-nil (askings g.done)

        -- something is
        module _ {code : ℕ} (y : ask ≡ Some code) where
          told : (code ≡ code_of (asks one.0.property one.0.object)) × (0 < code_of (asks one.0.property one.0.object))
          told = code-is _ (c one.0 next holds) y

          pub record-long : at + asking_width ≤ next
          record-long = asking-long page at next one.0 holds refl (λ z. omega (arith, told, z))

          pub going-noting : (after : Subjects)
              → ((all : List Asking) (u : Text) (d : Datatype) → Noted page all s → uri_text (part page (at + 1) text_width) ≡ some u → code ≡ datatype_code d → Noted page (one_more all u d) after)
              → Going page next after
          unfolding code_of
          going-noting after note = go (asks one.0.property one.0.object) refl
            where
              go : (o : Option Datatype) → asks one.0.property one.0.object ≡ o → Going page next after
              go none q = absurd (omega (arith, told, ap code_of q))
              go (some d) q =
                  record {
                    done = g.done ++ (one.0 ∷ []);
                    noted = subst (λ (all : List Asking). Noted page all after)
                        (sym (askings-one g.done one.0 ∙ ap (λ (o : Option Datatype). askings g.done ++ asking one.0.subject o) q))
                        (note (askings g.done) one.0.subject d g.noted holds.subject (told.0 ∙ ap code_of q));
                    whole = more;
                  }
