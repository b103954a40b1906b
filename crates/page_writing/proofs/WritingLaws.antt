-- Laws of writing records and pages, over plain lists and numbers.
use Rattle.definitions.specs.declared.Refusal.TheVariants.{ShortBuffer}
use Rattle.std.specs.Prelude.{Ok, Err}
use Prim.Native.Nat.{ℕ, ◌+◌, ◌-◌, ◌*◌, ◌≤◌, ◌<◌}
use mathlib.Core.Path.{◌≡◌, refl, ap, sym, ◌∙◌, subst}
use mathlib.Core.List.{List, [], ◌∷◌, ◌++◌, map, append_assoc, append-nil}
use mathlib.Core.Bool.{Bool, true, false}
use mathlib.Core.Option.{Option, none, some}
use native.Mathlib.Omega.{arith}
use native.Mathlib.Numerals.{add-one}
use borrow.Author.Tests.{lt-leb}
use lib.Dec.{leb, le→leb}
use lib.ListN.{length, get_or, take, drop, length-append, take-append-drop}
use lib.Seq.{take-suc, take_all}
use Rattle.definitions.specs.Limits.{text_width, slot_width, object_offset}
use Rattle.definitions.specs.Types.{Datatype}
use Rattle.definitions.specs.Terms.{term_kind, of_term_kind}
use Rattle.definitions.specs.Lists.{every}
use Rattle.definitions.specs.Publish.{page_of}
use Rattle.definitions.specs.Result.{passed}
use Rattle.definitions.specs.Calls.{publish_result}
use Rattle.laws.specs.ReadAnswers.{is_some}
use Rattle.laws.proofs.Bytes.{part_length}
use Rattle.laws.proofs.Slots.{kind-inv}
use Rattle.laws.proofs.Results.{require-after, require-refused}
use Rattle.triples.specs.Sorting.{sort}
use Rattle.triples.proofs.Merging.{length-sort, every-sort}
use Rattle.keys.specs.Keys.{quad_of}
use Rattle.fields.specs.Answers.{width_of}
use Rattle.output.specs.Written.{Written}
use Rattle.output.proofs.WritingLaws.{written_none, written_then, written_as}
use Rattle.record_order.specs.Records.{kind_of, body_of_slot, from_property, from_subject, record_in, slot_in, key_record, key_le, key_in, keys_in}
use Rattle.record_order.proofs.CompareLaws.{slot-fits, lent-part, subject-in, property-in, object-in, object-kind, width_small}
use Rattle.page_writing.specs.Page.{keys_page, sorted_page, fitted}

-- ── a slot's body ───────────────────────────────────────────────────────────────────────────

body-long : (t : List ℕ) (n width : ℕ) → slot_in t n ≡ true → width < slot_width → length (body_of_slot t n width) ≡ width
body-long t n width e w = part_length t (n * slot_width + 1) width (omega (arith, slot-fits t n e))

module _ (t : List ℕ) (n width : ℕ) where
  abbrev lent : List ℕ
  lent = take (n * slot_width + 1 + width - (n * slot_width + 1)) (drop (n * slot_width + 1) t)

  pub body-room : slot_in t n ≡ true → width < slot_width → length lent ≡ width
  body-room e w = ap length (lent-part t (n * slot_width + 1) width) ∙ body-long t n width e w

  pub body-put : {old new : List ℕ} {at r : ℕ} → Written lent old new at r → Written (body_of_slot t n width) old new at r
  body-put w = written_as w (lent-part t (n * slot_width + 1) width)

  pub body_end : slot_in t n ≡ true → width < slot_width → {old new : List ℕ} {at r : ℕ} → Written lent old new at r → r ≡ at + width
  body_end e k {at} w = w.end ∙ ap (λ n. at + n) (body-room e k)

-- ── a record ────────────────────────────────────────────────────────────────────────────────

module _ (t : List ℕ) (k : ℕ) (h : key_in t k ≡ true) where
  abbrev kind : ℕ
  kind = kind_of t (quad_of k).object

  pub record-long : length (key_record t k) ≡ object_offset + width_of (of_term_kind kind)
  unfolding key_record record_in from_subject from_property
  record-long =
      let x = body_of_slot t (quad_of k).subject text_width in
      let p = body_of_slot t (quad_of k).property text_width in
      let o = body_of_slot t (quad_of k).object (width_of (of_term_kind kind)) in
      omega (
        arith,
        length-append x (p ++ o),
        length-append p o,
        body-long t (quad_of k).subject text_width (subject-in t k h) (omega arith),
        body-long t (quad_of k).property text_width (property-in t k h) (omega arith),
        body-long t (quad_of k).object (width_of (of_term_kind kind)) (object-in t k h) (width_small kind),
      )

  -- a record's kind is a byte
  pub kind-small : kind ≤ 0x15
  kind-small = go (of_term_kind kind) refl (object-kind t k h)
    where
      go : (o : Option Datatype) → of_term_kind kind ≡ o → is_some o ≡ true → kind ≤ 0x15
      go none e i = absurd (no i)
        where
          no : ◌≡◌ {A = Bool} false true → ⊥
          no z = let e : ◌≡◌ {A = ℕ} 0 1 = cc in omega arith
      go (some d) e i = subst (λ n. n ≤ 0x15) (kind-inv kind d e) (small d)
        where
          small : (d : Datatype) → term_kind d ≤ 0x15
          small Datatype.any_uri = omega arith
          small Datatype.string = omega arith
          small Datatype.integer = omega arith
          small Datatype.decimal = omega arith
          small Datatype.date_time = omega arith

  pub record-small : length (key_record t k) < 512
  record-small = omega (arith, record-long, width_small kind)

  -- kind, subject, property and object, one after the other
  pub record-put : {out out₁ out₂ out₃ out₄ : List ℕ} {at n₁ n₂ n₃ n₄ width : ℕ} → at + length (key_record t k) ≤ length out
      → width ≡ width_of (of_term_kind kind)
      → Written ((kind + 0x70) ∷ []) out out₁ at n₁
      → Written (body_of_slot t (quad_of k).subject text_width) out₁ out₂ n₁ n₂
      → Written (body_of_slot t (quad_of k).property text_width) out₂ out₃ n₂ n₃
      → Written (body_of_slot t (quad_of k).object width) out₃ out₄ n₃ n₄
      → Written (key_record t k) out out₄ at n₄
  unfolding key_record record_in from_subject from_property
  record-put {out} {out₁} {out₂} {out₃} {out₄} {at} {n₁} {n₂} {n₃} {n₄} {width} room w a b c d =
      let x = body_of_slot t (quad_of k).subject text_width in
      let p = body_of_slot t (quad_of k).property text_width in
      let o : ℕ → List ℕ = body_of_slot t (quad_of k).object in
      let l : at ≤ length out = omega arith in
      written_as (written_then (written_then (written_then a b l) c l) d l)
      (ap (λ z. (kind + 0x70) ∷ z) (append_assoc x p (o width) ∙ ap (λ n. x ++ (p ++ o n)) w))

  -- the width of the object's body, by another name of its slot
  pub width-kept : {o width : ℕ} → o ≡ (quad_of k).object → width ≡ width_of (of_term_kind (kind_of t o)) → width ≡ width_of (of_term_kind kind)
  width-kept e w = w ∙ ap (λ o. width_of (of_term_kind (kind_of t o))) e

  -- the same by other names of kind and slots
  pub record-written : {out out₁ out₂ out₃ out₄ : List ℕ} {at n₁ n₂ n₃ n₄ width v m n o : ℕ} → v ≡ kind → m ≡ (quad_of k).subject → n ≡ (quad_of k).property → o ≡ (quad_of k).object
      → at + length (key_record t k) ≤ length out → width ≡ width_of (of_term_kind v)
      → Written ((v + 0x70) ∷ []) out out₁ at n₁
      → Written (body_of_slot t m text_width) out₁ out₂ n₁ n₂
      → Written (body_of_slot t n text_width) out₂ out₃ n₂ n₃
      → Written (body_of_slot t o width) out₃ out₄ n₃ n₄
      → Written (key_record t k) out out₄ at n₄
  record-written {width = width} ev em en eo room w a b c d =
      record-put room (w ∙ ap (λ n. width_of (of_term_kind n)) ev) (written_as a (ap (λ v. (v + 0x70) ∷ []) ev)) (written_as b (ap (λ m. body_of_slot t m text_width) em))
      (written_as c (ap (λ m. body_of_slot t m text_width) en)) (written_as d (ap (λ m. body_of_slot t m width) eo))

-- ── a page ──────────────────────────────────────────────────────────────────────────────────

page-append : (a b : List (List ℕ)) → page_of (a ++ b) ≡ page_of a ++ page_of b
unfolding page_of
page-append [] b = refl
page-append (r ∷ a) b = ap (λ l. r ++ l) (page-append a b) ∙ sym (append_assoc r (page_of a) (page_of b))

map-append : (f : ℕ → List ℕ) (a b : List ℕ) → map f (a ++ b) ≡ map f a ++ map f b
map-append f [] b = refl
map-append f (x ∷ a) b = ap (λ l. f x ∷ l) (map-append f a b)

keys-append : (t a b : List ℕ) → keys_page t (a ++ b) ≡ keys_page t a ++ keys_page t b
unfolding keys_page
keys-append t a b = ap page_of (map-append (key_record t) a b) ∙ page-append (map (key_record t) a) (map (key_record t) b)

one_key : (t : List ℕ) (k : ℕ) → keys_page t (k ∷ []) ≡ key_record t k
unfolding keys_page page_of
one_key t k = append-nil (key_record t k)

module _ (t ks : List ℕ) (i : ℕ) (h : i < length ks) where
  page-on : keys_page t (take (i + 1) ks) ≡ keys_page t (take i ks) ++ key_record t (get_or ks i 0)
  page-on = rw (add-one, take-suc ks i 0 h) (keys-append t (take i ks) (get_or ks i 0 ∷ []) ∙ ap (λ l. keys_page t (take i ks) ++ l) (one_key t (get_or ks i 0)))

  pub longer : length (keys_page t (take i ks)) + length (key_record t (get_or ks i 0)) ≡ length (keys_page t (take (i + 1) ks))
  longer = sym (ap length page-on ∙ length-append (keys_page t (take i ks)) (key_record t (get_or ks i 0)))

  -- the record has room where the page has
  pub within : length (keys_page t (take i ks)) + length (key_record t (get_or ks i 0)) ≤ length (keys_page t ks)
  within =
      let e : length (keys_page t ks) ≡ length (keys_page t (take (i + 1) ks)) + length (keys_page t (drop (i + 1) ks)) =
      ap (λ l. length (keys_page t l)) (sym (take-append-drop (i + 1) ks))
      ∙ (ap length (keys-append t (take (i + 1) ks) (drop (i + 1) ks)) ∙ length-append (keys_page t (take (i + 1) ks)) (keys_page t (drop (i + 1) ks))) in
      omega (arith, e, longer)

  pub written_on : {old mid new : List ℕ} {at r : ℕ} → Written (keys_page t (take i ks)) old mid 0 at → Written (key_record t (get_or ks i 0)) mid new at r
      → Written (keys_page t (take (i + 1) ks)) old new 0 r
  written_on a b = written_as (written_then a b (omega arith)) (sym page-on)

pub none-long : (t ks : List ℕ) → 0 ≡ length (keys_page t (take 0 ks))
unfolding keys_page page_of
none-long t ks = refl

pub none_written : (t ks old : List ℕ) → Written (keys_page t (take 0 ks)) old old 0 0
unfolding keys_page page_of
none_written t ks old = written_none old 0

pub all-taken : (t ks : List ℕ) (i : ℕ) → length ks ≤ i → keys_page t (take i ks) ≡ keys_page t ks
all-taken t ks i h = ap (keys_page t) (take_all i ks h)

pub page-written : (t ks : List ℕ) (i : ℕ) → length ks ≤ i → {old new : List ℕ} {at : ℕ} → Written (keys_page t (take i ks)) old new 0 at
    → new ≡ keys_page t ks ++ drop (length (keys_page t ks)) old
page-written t ks i h {old} {new} {at} w =
    let e = all-taken t ks i h in
    let n : at ≡ length (keys_page t ks) = omega (arith, w.end, ap length e) in
    w.list ∙ (λ j. e j ++ drop (n j) old)

-- ── sorted, and fitted into a buffer ────────────────────────────────────────────────────────

module _ (t ks : List ℕ) where
  pub sorted-in : keys_in t ks ≡ true → {sorted : List ℕ} → sorted ≡ sort (key_le t) ks → keys_in t sorted ≡ true
  unfolding keys_in
  sorted-in h e = ap (every (key_in t)) e ∙ (every-sort (key_le t) (key_in t) ks ∙ h)

  pub sorted-long : {sorted : List ℕ} → sorted ≡ sort (key_le t) ks → length sorted ≡ length ks
  sorted-long e = ap length e ∙ length-sort (key_le t) ks

  -- the page of the sorted keys is the sorted page
  module _ {sorted : List ℕ} (e : sorted ≡ sort (key_le t) ks) where
    pub page-long : {n : ℕ} → n ≡ length (keys_page t sorted) → n ≡ length (sorted_page t ks)
    page-long h = h ∙ ap (λ l. length (keys_page t l)) e

    pub page-out : (out : List ℕ) {out' : List ℕ} → out' ≡ keys_page t sorted ++ drop (length (keys_page t sorted)) out → out' ≡ sorted_page t ks ++ drop (length (sorted_page t ks)) out
    page-out out h = h ∙ ap (λ l. keys_page t l ++ drop (length (keys_page t l)) out) e

module _ (page out : List ℕ) where
  pub too_short : length out < length page → publish_result out (fitted page (length out)) ≡ record { returned = Err ShortBuffer; page = out }
  unfolding fitted publish_result
  too_short h = ap (publish_result out) (require-refused ShortBuffer (passed page) (lt-leb (length page) (length out) h))

  pub it-fits : length page ≤ length out → {n : ℕ} {out' : List ℕ} → n ≡ length page → out' ≡ page ++ drop (length page) out
      → publish_result out (fitted page (length out)) ≡ record { returned = Ok n; page = out' }
  unfolding fitted publish_result
  it-fits h en eo =
      ap (publish_result out) (require-after ShortBuffer (leb (length page) (length out)) (passed page) (le→leb (length page) (length out) h))
      ∙ (λ i. record { returned = Ok (sym en i); page = sym eo i })
