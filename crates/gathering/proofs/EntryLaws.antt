-- Laws of the entries of subjects: how many there are, and their records one after the other.
use Prim.Native.Nat.{ℕ, suc, ◌+◌, ◌*◌, ◌-◌, ◌≤◌, ◌<◌}
use native.Mathlib.Omega.{arith}
use native.Mathlib.Numerals.{add-one}
use native.Mathlib.Decide.{ℕ_discrete}
use mathlib.Core.Path.{◌≡◌, refl, sym, ap, ◌∙◌}
use mathlib.Core.List.{List, [], ◌∷◌, ◌++◌, append_assoc, append-nil}
use mathlib.Core.Option.{Option, none, some}
use lib.ListN.{length, get_or, take, drop, length-append, drop_of_length-le}
use lib.Seq.{take-suc, take_all, drop-cons}
use borrow.Author.Tests.{ne_eqb}
use Rattle.definitions.specs.Limits.{text_width, entry_width, entry_limit}
use Rattle.definitions.specs.Bytes.{part, filled}
use Rattle.definitions.specs.Types.{Datatype, datatype_code}
use Rattle.definitions.specs.Terms.{Text, Entry, Schema, entry_record, schema_records}
use Rattle.definitions.specs.Gathering.{Asking, least_asked, subjects_after, Gathered, entering, gathered_of}
use Rattle.definitions.specs.Calls.{written}
use Rattle.laws.proofs.Bytes.{part_length}
use Rattle.laws.proofs.Valid.{uri-inv}
use Rattle.laws.proofs.Gathering.{met-least, entries-append}
use Rattle.fields.specs.Answers.{code_of}
use Rattle.fields.proofs.PartLaws.{some-part}
use Rattle.output.specs.Written.{Written}
use Rattle.output.proofs.WritingLaws.{written_none, written_then, written_as}
use Rattle.subjects.specs.declared.Subjects.{Subjects}
use Rattle.subjects.specs.Noted.{Noted, field_at}
use Rattle.gathering.specs.Entries.{entries_of, record_bytes, one_for}
use Rattle.subjects.proofs.NotedLaws.{code-positive}

-- a code that is not 0 is of a datatype
code-some : (o : Option Datatype) {code : ℕ} → code ≡ code_of o → (code ≡ 0 → ⊥) → (d : Datatype) × (o ≡ some d) × (datatype_code d ≡ code)
unfolding code_of
code-some none e n = absurd (n e)
code-some (some d) e n = (d, refl, sym e)

code-none : (o : Option Datatype) {code : ℕ} → code ≡ code_of o → code ≡ 0 → o ≡ none
unfolding code_of
code-none none e z = refl
code-none (some d) e z = absurd (omega (arith, e, z, code-positive d))

pub one_none : (code : ℕ) → code ≡ 0 → 0 ≡ one_for code
unfolding one_for
one_none code z = rw z

pub one-some : (code : ℕ) → (code ≡ 0 → ⊥) → 1 ≡ one_for code
unfolding one_for
one-some code n = rw (ne_eqb code 0 n)

pub none-bytes : (field : List ℕ) (code : ℕ) → code ≡ 0 → [] ≡ record_bytes field code
unfolding record_bytes
none-bytes field code z = rw z

pub some_bytes : (field : List ℕ) (code : ℕ) → (code ≡ 0 → ⊥) → 0x21 ∷ field ++ (code ∷ []) ≡ record_bytes field code
unfolding record_bytes
some_bytes field code n = rw (ne_eqb code 0 n)

schema-one : (S : Schema) (e : Entry) → schema_records (S ++ (e ∷ [])) ≡ schema_records S ++ entry_record e
unfolding schema_records
schema-one [] e = append-nil (entry_record e)
schema-one (x ∷ S) e = ap (λ (l : List ℕ). entry_record x ++ l) (schema-one S e) ∙ sym (append_assoc (entry_record x) (schema_records S) (entry_record e))

module _ (page : List ℕ) (all : List Asking) (s : Subjects) (h : Noted page all s) where
  abbrev us : List Text
  us = subjects_after [] all

  -- the entries of the first subjects, and of the others
  abbrev before : ℕ → Schema
  before i = (gathered_of all (take i us)).entries

  abbrev from : ℕ → Schema
  from i = (gathered_of all (drop i us)).entries

  least-code : (i : ℕ) → i < s.count → get_or s.codes i 0 ≡ code_of (least_asked (get_or us i []) all)
  unfolding least_asked
  least-code i l = let m = h.codes i l in m.is ∙ ap code_of (sym (met-least _ m.datatype m.met))

  from-none : (i : ℕ) → s.count ≤ i → from i ≡ []
  unfolding gathered_of
  from-none i l = ap (λ (us : List Text). (gathered_of all us).entries) (drop_of_length-le us {i = i} (omega (arith, h.count)))

  module _ (i : ℕ) (l : i < s.count) where
    from-here : from i ≡ (entering (get_or us i []) (least_asked (get_or us i []) all) (gathered_of all (drop (i + 1) us))).entries
    unfolding gathered_of
    from-here =
        ap (λ (us : List Text). (gathered_of all us).entries) (drop-cons us i [] (omega (arith, h.count)))
        ∙ ap (λ (n : ℕ). (entering (get_or us i []) (least_asked (get_or us i []) all) (gathered_of all (drop n us))).entries) (sym (add-one i))

    before-next : before (i + 1) ≡ before i ++ (entering (get_or us i []) (least_asked (get_or us i []) all) (gathered_of all [])).entries
    unfolding gathered_of
    before-next =
        ap (λ (n : ℕ). before n) (add-one i)
        ∙ ap (λ (us : List Text). (gathered_of all us).entries) (take-suc us i [] (omega (arith, h.count)))
        ∙ entries-append all (take i us) (get_or us i [] ∷ [])

    -- a subject that is left out
    module _ (z : get_or s.codes i 0 ≡ 0) where
      left_out : least_asked (get_or us i []) all ≡ none
      left_out = code-none (least_asked (get_or us i []) all) (least-code i l) z

      pub from-skip : from i ≡ from (i + 1)
      from-skip = from-here ∙ ap (λ (o : Option Datatype). (entering (get_or us i []) o (gathered_of all (drop (i + 1) us))).entries) left_out

      before-skip : before (i + 1) ≡ before i
      unfolding gathered_of
      before-skip =
          before-next ∙ ap (λ (o : Option Datatype). before i ++ (entering (get_or us i []) o (gathered_of all [])).entries) left_out ∙ append-nil (before i)

    -- one that has an entry
    module _ (n : get_or s.codes i 0 ≡ 0 → ⊥) where
      given : (d : Datatype) × (least_asked (get_or us i []) all ≡ some d) × (datatype_code d ≡ get_or s.codes i 0)
      given = code-some (least_asked (get_or us i []) all) (least-code i l) n

      abbrev entry : Entry
      entry = record { property = get_or us i []; datatype = given.0 }

      from-entry : from i ≡ entry ∷ from (i + 1)
      from-entry = from-here ∙ ap (λ (o : Option Datatype). (entering (get_or us i []) o (gathered_of all (drop (i + 1) us))).entries) given.1

      pub from_more : length (from i) ≡ suc (length (from (i + 1)))
      from_more = ap length from-entry

      before-entry : before (i + 1) ≡ before i ++ (entry ∷ [])
      unfolding gathered_of
      before-entry = before-next ∙ ap (λ (o : Option Datatype). before i ++ (entering (get_or us i []) o (gathered_of all [])).entries) given.1

      entry-bytes : 0x21 ∷ field_at page s.offsets i ++ (get_or s.codes i 0 ∷ []) ≡ entry_record entry
      unfolding entry_record
      entry-bytes =
          λ t. 0x21 ∷ sym (uri-inv (field_at page s.offsets i) (get_or us i []) (h.texts i l)).0.whole t ++ (sym given.2 t ∷ [])

-- ── the entries counted ─────────────────────────────────────────────────────────────────────

-- those before a place are
abbrev pub Counting : Subjects → (entries i : ℕ) → Type 0
Counting s entries i = (page : List ℕ) (all : List Asking) → Noted page all s → entries + length (gathered_of all (drop i (subjects_after [] all))).entries ≡ length (entries_of all)

module _ (s : Subjects) where
  pub counting-first : Counting s 0 0
  counting-first page all h = omega arith

  module _ (entries i : ℕ) (c : Counting s entries i) where
    pub counting-end : s.count ≤ i → (page : List ℕ) (all : List Asking) → Noted page all s → entries ≡ length (entries_of all)
    counting-end l page all h = omega (arith, c page all h, ap length (from-none page all s h i l))

    pub counting-next : i < s.count → {r : ℕ} → r ≡ one_for (get_or s.codes i 0) → Counting s (entries + r) (i + 1)
    counting-next l {r} e page all h = go (ℕ_discrete (get_or s.codes i 0) 0)
      where
        go : Dec (get_or s.codes i 0 ≡ 0) → entries + r + length (gathered_of all (drop (i + 1) (subjects_after [] all))).entries ≡ length (entries_of all)
        go (yes z) = omega (arith, c page all h, e, one_none (get_or s.codes i 0) z, ap length (from-skip page all s h i l z))
        go (no n) = omega (arith, c page all h, e, one-some (get_or s.codes i 0) n, from_more page all s h i l n)

-- ── the entries written ─────────────────────────────────────────────────────────────────────

-- a schema record, as the code puts it
pub entry-written : (page old one two new : List ℕ) (field code at m n r : ℕ) → at + entry_width ≤ length old → Written (0x21 ∷ []) old one at m
    → Written (part page field (field + text_width - field)) one two m n → Written (code ∷ []) two new n r
    → Written (0x21 ∷ part page field text_width ++ (code ∷ [])) old new at r
entry-written page old one two new field code at m n r l a b c =
    written_as (written_then (written_then a b (omega arith)) c (omega arith))
    (ap (λ (t : List ℕ). (0x21 ∷ t) ++ (code ∷ [])) (some-part page field text_width))

-- the entries of the subjects before a place are written
pub record Putting (page : List ℕ) (all : List Asking) (s : Subjects) (old new : List ℕ) (at i : ℕ) : Type 0 where
  pub room : at + length (gathered_of all (drop i (subjects_after [] all))).entries * entry_width ≡ length (entries_of all) * entry_width
  pub list : Written (schema_records (gathered_of all (take i (subjects_after [] all))).entries) old new 0 at

module _ (page : List ℕ) (all : List Asking) (s : Subjects) (h : Noted page all s) (old : List ℕ) where
  pub putting-first : Putting page all s old old 0 0
  unfolding gathered_of schema_records
  putting-first = record { room = omega arith; list = written_none old 0 }

  module _ (new : List ℕ) (at i : ℕ) (p : Putting page all s old new at i) where
    module _ (l : i < s.count) where
      -- there is room for it
      pub putting-room : length (entries_of all) ≤ entry_limit → (get_or s.codes i 0 ≡ 0 → ⊥) → at + entry_width ≤ entry_limit * entry_width
      putting-room few n = omega (arith, p.room, from_more page all s h i l n)

      module _ {field : ℕ} {next : List ℕ} {r : ℕ} (e : field ≡ get_or s.offsets i 0) (k : field + text_width ≤ length page)
          (w : Written (record_bytes (part page field text_width) (get_or s.codes i 0)) new next at r) where
        put-none : get_or s.codes i 0 ≡ 0 → Putting page all s old next r (i + 1)
        put-none z =
            let nothing = none-bytes (part page field text_width) (get_or s.codes i 0) z in
            record {
              room = omega (arith, p.room, ap length (from-skip page all s h i l z), w.end, ap length nothing);
              list =
                  written_as (written_then p.list w (omega arith))
                  (ap (λ (t : List ℕ). schema_records (before page all s h i) ++ t) (sym nothing)
                  ∙ append-nil (schema_records (before page all s h i)) ∙ ap schema_records (sym (before-skip page all s h i l z)));
            }

        put_one : (get_or s.codes i 0 ≡ 0 → ⊥) → Putting page all s old next r (i + 1)
        put_one n =
            let something = some_bytes (part page field text_width) (get_or s.codes i 0) n in
            let bytes : record_bytes (part page field text_width) (get_or s.codes i 0) ≡ entry_record (entry page all s h i l n) =
            sym something ∙ ap (λ (o : ℕ). 0x21 ∷ part page o text_width ++ (get_or s.codes i 0 ∷ [])) e ∙ entry-bytes page all s h i l n in
            record {
              room = omega (
                arith,
                p.room,
                from_more page all s h i l n,
                w.end,
                ap length something,
                length-append (part page field text_width) (get_or s.codes i 0 ∷ []),
                part_length page field text_width k,
              );
              list =
                  written_as (written_then p.list w (omega arith))
                  (ap (λ (t : List ℕ). schema_records (before page all s h i) ++ t) bytes
                  ∙ sym (ap schema_records (before-entry page all s h i l n) ∙ schema-one (before page all s h i) (entry page all s h i l n)));
            }

        pub putting-next : Putting page all s old next r (i + 1)
        putting-next = go (ℕ_discrete (get_or s.codes i 0) 0)
          where
            go : Dec (get_or s.codes i 0 ≡ 0) → Putting page all s old next r (i + 1)
            go (yes z) = put-none z
            go (no n) = put_one n

    pub putting-end : s.count ≤ i → new ≡ written (entries_of all) old
    unfolding written
    putting-end l =
        let whole = ap (λ (us : List Text). schema_records (gathered_of all us).entries) (take_all i (subjects_after [] all) (omega (arith, h.count))) in
        let w = written_as p.list whole in
        let end : at ≡ length (schema_records (entries_of all)) = omega (arith, w.end) in
        w.list ∙ ap (λ (n : ℕ). schema_records (entries_of all) ++ drop n old) end
