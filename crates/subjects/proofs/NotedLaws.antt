-- Laws of what is noted of a page: the datatype that meets one thing more, the place of a subject, and a record that asks.
use Prim.Native.Nat.{ℕ, ◌+◌, ◌-◌, ◌≤◌, ◌<◌}
use native.Mathlib.Omega.{arith}
use native.Mathlib.Decide.{ℕ_discrete}
use mathlib.Core.Path.{◌≡◌, refl, sym, ap, ap₂, subst, ◌∙◌}
use mathlib.Core.Logic.{⊎_elim}
use mathlib.Core.List.{List, [], ◌∷◌, ◌++◌}
use mathlib.Core.Bool.{Bool, true, false, not}
use mathlib.Core.Option.{Option, none, some}
use lib.Dec.{T}
use lib.ListN.{length, get_or, set, take, length-append, get_or-append}
use lib.Seq.{get_or_at, get_or-take, length-take-le, get_or-set_same, get_or-set_other}
use borrow.Author.Count.{below_more}
use Rattle.definitions.specs.Limits.{text_width, property_offset, object_offset}
use Rattle.definitions.specs.Lists.{some?}
use Rattle.definitions.specs.Bytes.{part, same_bytes}
use Rattle.definitions.specs.Types.{Datatype, any_uri, string, decimal, date_time, integer, datatype_code, leq_datatype}
use Rattle.definitions.specs.Terms.{Text, Triple, uri_text}
use Rattle.definitions.specs.Gathering.{Asking, asked_of, subjects_after}
use Rattle.laws.specs.Records.{TripleAt}
use Rattle.laws.specs.Gathering.{MetAbove, with_asked}
use Rattle.laws.proofs.Tests.{is_true, is_false, true_is}
use Rattle.laws.proofs.Ranges.{split}
use Rattle.laws.proofs.Equality.{same_bytes_lem, bytes-refl}
use Rattle.laws.proofs.Gathering.{bytes-swap, some-place, some-nowhere, distinct-places, asked-same, asked-other, met-one, met-more, subject-there, subject-joins, subjects-one}
use Rattle.laws.proofs.Gathering.{subjects-distinct, nothing-asked}
use Rattle.codes.specs.TypeCodes.{datatype_of}
use Rattle.fields.specs.Answers.{code_of}
use Rattle.fields.proofs.PartLaws.{some-part}
use Rattle.fields.proofs.SameLaws.{same-uris, compared}
use Rattle.table.specs.Hashes.{hash_of, uri_slot, NoneWith, FirstWith}
use Rattle.std.specs.Prelude.{Some, None}
use Rattle.std.specs.declared.option.Option as Answer
use Rattle.subjects.specs.declared.Subjects.{Subjects}
use Rattle.subjects.specs.Noted.{field_at, FieldsHashed, First, Meeting, NotedOf, Noted, one_more}

-- ── one thing more ──────────────────────────────────────────────────────────────────────────

pub code-positive : (d : Datatype) → 1 ≤ datatype_code d
code-positive any_uri = omega arith
code-positive string = omega arith
code-positive decimal = omega arith
code-positive date_time = omega arith
code-positive integer = omega arith

datatype-back : (d : Datatype) → datatype_of (datatype_code d) ≡ d
unfolding datatype_of
datatype-back any_uri = refl
datatype-back string = refl
datatype-back decimal = refl
datatype-back date_time = refl
datatype-back integer = refl

module _ (held code : ℕ) (o : Option Datatype) (d : Datatype) (e : held ≡ code_of o) (f : code ≡ datatype_code d) where
  pub join-none : held ≡ 0 → 0 ≡ code_of (with_asked o d)
  unfolding code_of
  join-none z = go o (sym e ∙ z)
    where
      go : (o : Option Datatype) → code_of o ≡ 0 → 0 ≡ code_of (with_asked o d)
      go none q = refl
      go (some c) q = absurd (omega (arith, q, code-positive c))

  module _ (n : held ≡ 0 → ⊥) where
    some-held : (c : Datatype) × (o ≡ some c) × (held ≡ datatype_code c)
    unfolding code_of
    some-held = go o e
      where
        go : (o : Option Datatype) → held ≡ code_of o → (c : Datatype) × (o ≡ some c) × (held ≡ datatype_code c)
        go none q = absurd (n q)
        go (some c) q = (c, refl, q)

    held-is : datatype_of held ≡ some-held.0
    held-is = ap datatype_of some-held.2 ∙ datatype-back some-held.0

    code_is : datatype_of code ≡ d
    code_is = ap datatype_of f ∙ datatype-back d

    joined : code_of (with_asked o d) ≡ code_of (with_asked (some some-held.0) d)
    joined = ap (λ (o : Option Datatype). code_of (with_asked o d)) some-held.1

    module _ {t : Bool} (g : t ≡ leq_datatype (datatype_of code) (datatype_of held)) where
      below-held : t ≡ leq_datatype d some-held.0
      below-held = g ∙ ap₂ leq_datatype code_is held-is

      pub join-held : t ≡ true → held ≡ code_of (with_asked o d)
      unfolding code_of
      join-held q = some-held.2 ∙ sym (joined ∙ rw (sym below-held ∙ q))

      module _ (no : t ≡ false) {v : Bool} (k : v ≡ leq_datatype (datatype_of held) (datatype_of code)) where
        above-held : v ≡ leq_datatype some-held.0 d
        above-held = k ∙ ap₂ leq_datatype held-is code_is

        pub join-code : v ≡ true → code ≡ code_of (with_asked o d)
        unfolding code_of
        join-code q = f ∙ sym (joined ∙ rw (sym below-held ∙ no, sym above-held ∙ q))

        pub join_apart : v ≡ false → 0 ≡ code_of (with_asked o d)
        unfolding code_of
        join_apart q = sym (joined ∙ rw (sym below-held ∙ no, sym above-held ∙ q))

-- ── the place of a subject ──────────────────────────────────────────────────────────────────

module _ (page offsets hashes : List ℕ) (n : ℕ) (uri : List ℕ) (hash : ℕ) (few : n ≤ length hashes) (w : FieldsHashed page offsets n hashes)
    (e : hash ≡ hash_of (uri_slot uri)) where
  abbrev test : ℕ → Bool
  test i = same_bytes (field_at page offsets i) uri

  hashes-differ : (i : ℕ) → i < n → (get_or hashes i 0 ≡ hash → ⊥) → test i ≡ false
  hashes-differ i l d = go (test i) refl
    where
      go : (b : Bool) → test i ≡ b → b ≡ false
      go true q =
          absurd (d (w i l ∙ ap (λ (f : List ℕ). hash_of (uri_slot f)) (same_bytes_lem (field_at page offsets i) uri (true_is (test i) q)) ∙ sym e))
      go false q = refl

  -- what the code finds, where its test compares the fields
  module _ (Test : ℕ → Bool → Type 0)
      (same : (i : ℕ) → i < n → (t : Bool) → Test i t → t ≡ same_bytes (part page (get_or offsets i 0) (get_or offsets i 0 + text_width - get_or offsets i 0)) uri) where
    tested : (i : ℕ) → i < n → (t : Bool) → Test i t → test i ≡ t
    tested i l t p = sym (same i l t p ∙ ap (λ (f : List ℕ). same_bytes f uri) (some-part page (get_or offsets i 0) text_width))

    none-before : (k : ℕ) → k ≤ n → NoneWith Test (take n hashes) hash 0 k → (j : ℕ) → j < k → test j ≡ false
    none-before k l d j b = go (ℕ_discrete (get_or (take n hashes) j 0) hash)
      where
        go : Dec (get_or (take n hashes) j 0 ≡ hash) → test j ≡ false
        go (yes q) = tested j (omega arith) false (d j (omega arith) b q)
        go (no q) = hashes-differ j (omega arith) (λ r. q (get_or-take n hashes j 0 (omega arith) ∙ r))

    first_is : {r : Answer.Option ℕ} → FirstWith Test (take n hashes) hash 0 r → First test n r
    first_is {r} x = record {
      some = λ i q. let o = x.some i q in let l : i < n = omega (arith, o.1, all) in (l, tested i l true o.3, none-before i (omega arith) o.4);
      none = λ q. none-before n (omega arith) (subst (λ (k : ℕ). NoneWith Test (take n hashes) hash 0 k) all (x.none q));
    }
      where
        all : length (take n hashes) ≡ n
        all = length-take-le n hashes few

  pub place_found : {Test : ℕ → Bool → Type 0} {r : Answer.Option ℕ} → FirstWith Test (take n hashes) hash 0 r
      → ((i : ℕ) → i < n → (t : Bool) → Test i t → t ≡ same_bytes (part page (get_or offsets i 0) (get_or offsets i 0 + text_width - get_or offsets i 0)) uri)
      → First test n r
  place_found {Test} x same = first_is Test same x

pub record-inside : (page : List ℕ) (at next : ℕ) (x : Triple) → TripleAt page at x next → at + object_offset ≤ length page
record-inside page at next x h = omega (arith, h.ends, h.fits)

-- the subject's field, as the code hands it on
pub subject-field : (page : List ℕ) (at : ℕ) → part page (at + 1) (at + property_offset - (at + 1)) ≡ part page (at + 1) text_width
subject-field page at = let e : at + property_offset - (at + 1) ≡ text_width = omega arith in ap (λ (n : ℕ). part page (at + 1) n) e

-- ── one thing more is noted ─────────────────────────────────────────────────────────────────

module _ (page : List ℕ) (all : List Asking) (s : Subjects) (h : Noted page all s) (u : Text) (d : Datatype) (uri : List ℕ) (e : uri_text uri ≡ some u) where
  abbrev us : List Text
  us = subjects_after [] all

  abbrev more : List Asking
  more = one_more all u d

  -- texts are the same where their fields are
  text-test : (j : ℕ) → j < s.count → same_bytes (field_at page s.offsets j) uri ≡ same_bytes (get_or us j []) u
  text-test j l = same-uris (field_at page s.offsets j) uri (get_or us j []) u (h.texts j l) e (compared (field_at page s.offsets j) uri (same_bytes (field_at page s.offsets j) uri) refl)

  module _ {r : Answer.Option ℕ} (f : First (λ j. same_bytes (field_at page s.offsets j) uri) s.count r) where
    -- the subject is there
    module _ (i : ℕ) (e₁ : r ≡ Some i) where
      l : i < s.count
      l = (f.some i e₁).0

      met-here : same_bytes (field_at page s.offsets i) uri ≡ true
      met-here = (f.some i e₁).1

      other-before : (j : ℕ) → j < i → same_bytes (get_or us j []) u ≡ false
      other-before j k = sym (text-test j (omega (arith, l))) ∙ (f.some i e₁).2 j k

      here : get_or us i [] ≡ u
      here = same_bytes_lem (get_or us i []) u (true_is (same_bytes (get_or us i []) u) (sym (text-test i l) ∙ met-here))

      same-subjects : subjects_after [] more ≡ us
      same-subjects =
          subjects-one [] all (record { subject = u; least = d })
          ∙ subject-there u us (is_true (some? (same_bytes u) us) (some-place (same_bytes u) [] us i (omega (arith, h.count, l))
          (true_is (same_bytes u (get_or us i [])) (bytes-swap u (get_or us i []) ∙ sym (text-test i l) ∙ met-here))))

      other : (j : ℕ) → j < s.count → (j ≡ i → ⊥) → same_bytes (get_or us j []) u ≡ false
      other j k ne = ⊎_elim (λ m. after (omega (arith, ne))) (λ m. other-before j m) (split i j)
        where
          after : i < j → same_bytes (get_or us j []) u ≡ false
          after m =
              is_false (same_bytes (get_or us j []) u)
              (subst (λ (v : Text). T (not (same_bytes (get_or us j []) v))) here
              (subst (λ (b : Bool). T (not b)) (bytes-swap (get_or us i []) (get_or us j []))
              (distinct-places same_bytes [] us (subjects-distinct [] all tt) i j m (omega (arith, h.count)))))

      pub note-there : i < length s.codes → {c : ℕ}
          → ((o : Option Datatype) → get_or s.codes i 0 ≡ code_of o → c ≡ code_of (with_asked o d))
          → Noted page more (record { count = s.count; offsets = s.offsets; hashes = s.hashes; codes = set s.codes i c })
      note-there room {c} join =
          let next : Subjects = record { count = s.count; offsets = s.offsets; hashes = s.hashes; codes = set s.codes i c } in
          subst (λ (us : List Text). NotedOf page more us next) (sym same-subjects) (
          record {
            count = h.count;
            within = h.within;
            texts = h.texts;
            hashed = h.hashed;
            codes = λ j k. go j k (ℕ_discrete j i);
          }
          )
        where
          go : (j : ℕ) → j < s.count → Dec (j ≡ i) → Meeting (get_or (set s.codes i c) j 0) (asked_of (get_or us j []) more)
          go j k (yes q) =
              let m = h.codes i l in
              let asked : asked_of (get_or us i []) more ≡ asked_of (get_or us i []) all ++ (d ∷ []) =
              asked-same (get_or us i []) all (record { subject = u; least = d }) (sym (text-test i l) ∙ met-here) in
              subst (λ (j : ℕ). Meeting (get_or (set s.codes i c) j 0) (asked_of (get_or us j []) more)) (sym q) (
              record {
                datatype = with_asked m.datatype d;
                is = get_or-set_same s.codes i c 0 room ∙ join m.datatype m.is;
                met = subst (λ (ds : List Datatype). MetAbove ds (with_asked m.datatype d)) (sym asked)
                    (met-more (asked_of (get_or us i []) all) m.datatype d m.met);
              }
              )
          go j k (no q) =
              let m = h.codes j k in
              let asked : asked_of (get_or us j []) more ≡ asked_of (get_or us j []) all = asked-other (get_or us j []) all (record { subject = u; least = d }) (other j k q) in
              record {
                datatype = m.datatype;
                is = get_or-set_other s.codes i j c 0 q ∙ m.is;
                met = subst (λ (ds : List Datatype). MetAbove ds m.datatype) (sym asked) m.met;
              }

    -- it is not: it joins at the end
    module _ (e₁ : r ≡ None) where
      none-there : some? (same_bytes u) us ≡ false
      none-there =
          some-nowhere (same_bytes u) [] us (λ j k. bytes-swap u (get_or us j []) ∙ sym (text-test j (omega (arith, h.count))) ∙ f.none e₁ j (omega (arith, h.count)))

      more-subjects : subjects_after [] more ≡ us ++ (u ∷ [])
      more-subjects = subjects-one [] all (record { subject = u; least = d }) ∙ subject-joins u us none-there

      -- places before the last, and the last
      old-text : (j : ℕ) → j < s.count → get_or (us ++ (u ∷ [])) j [] ≡ get_or us j []
      old-text j k = get_or-append us (u ∷ []) [] j (omega (arith, h.count))

      new-text : get_or (us ++ (u ∷ [])) s.count [] ≡ u
      new-text = get_or_at us u [] [] s.count (sym h.count)

      module _ (offset hash code : ℕ) (at : part page offset text_width ≡ uri) (inside : offset + text_width ≤ length page)
          (room : s.count < length s.offsets) (room₁ : s.count < length s.hashes) (room₂ : s.count < length s.codes)
          (q : hash ≡ hash_of (uri_slot uri)) (c : code ≡ datatype_code d) where
        abbrev joined-offsets : List ℕ
        joined-offsets = set s.offsets s.count offset

        old-offset : (j : ℕ) → j < s.count → get_or joined-offsets j 0 ≡ get_or s.offsets j 0
        old-offset j k = get_or-set_other s.offsets s.count j offset 0 (λ q. omega arith)

        new-offset : get_or joined-offsets s.count 0 ≡ offset
        new-offset = get_or-set_same s.offsets s.count offset 0 room

        old-field : (j : ℕ) → j < s.count → field_at page joined-offsets j ≡ field_at page s.offsets j
        old-field j k = ap (λ (o : ℕ). part page o text_width) (old-offset j k)

        new-field : field_at page joined-offsets s.count ≡ uri
        new-field = ap (λ (o : ℕ). part page o text_width) new-offset ∙ at

        old-code : (j : ℕ) → j < s.count → Meeting (get_or (set s.codes s.count code) j 0) (asked_of (get_or (us ++ (u ∷ [])) j []) more)
        old-code j k =
            let m = h.codes j k in
            let asked : asked_of (get_or (us ++ (u ∷ [])) j []) more ≡ asked_of (get_or us j []) all =
            ap (λ (v : Text). asked_of v more) (old-text j k)
            ∙ asked-other (get_or us j []) all (record { subject = u; least = d }) (sym (text-test j k) ∙ f.none e₁ j k) in
            record {
              datatype = m.datatype;
              is = get_or-set_other s.codes s.count j code 0 (λ q. omega arith) ∙ m.is;
              met = subst (λ (ds : List Datatype). MetAbove ds m.datatype) (sym asked) m.met;
            }

        new-code : Meeting (get_or (set s.codes s.count code) s.count 0) (asked_of (get_or (us ++ (u ∷ [])) s.count []) more)
        new-code =
            let asked : asked_of (get_or (us ++ (u ∷ [])) s.count []) more ≡ d ∷ [] =
            ap (λ (v : Text). asked_of v more) new-text
            ∙ asked-same u all (record { subject = u; least = d }) (is_true (same_bytes u u) (bytes-refl u))
            ∙ ap (λ (ds : List Datatype). ds ++ (d ∷ [])) (nothing-asked u all none-there) in
            record {
              datatype = some d;
              is = get_or-set_same s.codes s.count code 0 room₂ ∙ (unfold code_of in c);
              met = subst (λ (ds : List Datatype). MetAbove ds (some d)) (sym asked) (met-one d);
            }

        pub note-new : Noted page more (record { count = s.count + 1; offsets = joined-offsets; hashes = set s.hashes s.count hash; codes = set s.codes s.count code })
        note-new =
            let next : Subjects =
            record { count = s.count + 1; offsets = joined-offsets; hashes = set s.hashes s.count hash; codes = set s.codes s.count code } in
            subst (λ (us : List Text). NotedOf page more us next) (sym more-subjects) (
            record {
              count = omega (arith, h.count, length-append us (u ∷ []));
              within = below_more (λ j. get_or joined-offsets j 0 + text_width ≤ length page) s.count
                  (λ j k. omega (arith, old-offset j k, h.within j k)) (omega (arith, new-offset, inside));
              texts = below_more (λ j. uri_text (field_at page joined-offsets j) ≡ some (get_or (us ++ (u ∷ [])) j [])) s.count
                  (λ j k. ap uri_text (old-field j k) ∙ h.texts j k ∙ ap (λ (v : Text). some v) (sym (old-text j k)))
                  (ap uri_text new-field ∙ e ∙ ap (λ (v : Text). some v) (sym new-text));
              hashed = below_more (λ j. get_or (set s.hashes s.count hash) j 0 ≡ hash_of (uri_slot (field_at page joined-offsets j))) s.count
                  (λ j k. get_or-set_other s.hashes s.count j hash 0 (λ q. omega arith) ∙ h.hashed j k
                  ∙ ap (λ (f : List ℕ). hash_of (uri_slot f)) (sym (old-field j k)))
                  (get_or-set_same s.hashes s.count hash 0 room₁ ∙ q ∙ ap (λ (f : List ℕ). hash_of (uri_slot f)) (sym new-field));
              codes = below_more (λ j. Meeting (get_or (set s.codes s.count code) j 0) (asked_of (get_or (us ++ (u ∷ [])) j []) more)) s.count old-code new-code;
            }
            )
