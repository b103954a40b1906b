-- What a schema call leaves at the front of its buffer, proved.
use Rattle.definitions.specs.declared.SchemaCounts.{SchemaCounts}
use Rattle.definitions.specs.declared.Refusal.TheVariants.{WrongLength, BadTerm, TermTwice, BadEntry, PropertyTwice, BadPage, TooManyEntries}
use Rattle.std.specs.Prelude.{Ok}
use Prim.Native.Nat.{ℕ, zero, suc, ◌+◌, ◌*◌, ◌≤◌, ◌<◌}
use native.Mathlib.Omega.{arith}
use native.Mathlib.Numerals.{add-one}
use mathlib.Core.Path.{◌≡◌, refl, sym, ap, subst, ◌∙◌}
use mathlib.Core.List.Memᴰ
use mathlib.Core.List.{List, [], ◌∷◌, ◌++◌, map, append_assoc}
use mathlib.Core.Bool.{Bool, true, false, not, cond, ◌&&◌, ◌||◌}
use mathlib.Core.Option.{Option, none, some}
use mathlib.Core.Logic.{⊎_elim}
use lib.Dec.{T, eqb, leb, leb→le}
use lib.ListN.{length, get_or, get_elem?, take, drop, length-append}
use lib.Seq.{take_at, drop_at, drop-drop, drop-append_seam, get_or_at}
use borrow.Author.Tests.{le-leb}
use Rattle.definitions.specs.Limits.{text_width, entry_width, entry_limit, schema_width, page_limit}
use Rattle.definitions.specs.Lists.{every, some?, keep, distinct}
use Rattle.definitions.specs.Bytes.{byte, part, filled, same_bytes, provided, onward, in_front}
use Rattle.definitions.specs.Types.{Datatype, any_uri, string, decimal, date_time, integer, datatype_code, datatype_of_code, leq_datatype, all_datatypes, same_datatype}
use Rattle.definitions.specs.Terms.{Text, Term, Entry, Schema, Triple, uri_text, uri_at, read_entry, read_terms, read_schema, read_page, entry_record, schema_records, same_term, same_property}
use Rattle.definitions.specs.Gathering.{Asking, asking, asks, askings, asked_of, meets, is_least, least_that, least_asked, with_subject, subjects_after, Gathered, entering, gathered_of, gathered}
use Rattle.definitions.specs.Result.{Result, refused, passed}
use Rattle.definitions.specs.Calls.{Listed, record_tests, page_in, schema_tests, written, SchemaResult, schema_result, schema_call}
use Rattle.laws.specs.Lists.{All, ◌∈◌}
use Rattle.laws.specs.ReadAnswers.{is_some}
use Rattle.laws.specs.Records.{records_at}
use Rattle.laws.specs.Valid.{ValidURI, ValidTriple}
use Rattle.laws.proofs.Tests.{and_left, and_right, and_make, or_cases, true_is, implies, apply}
use Rattle.laws.proofs.Lists.{here, there, by-cons, every-at, every_of, some_at, some_of, keep_at, keep-of}
use Rattle.laws.proofs.Equality.{same_bytes_lem, bytes-refl}
use Rattle.laws.proofs.Options.{some_is, provided-inv}
use Rattle.laws.proofs.Order.{by_datatype, by_datatype2, same-datatype}
use Rattle.laws.proofs.Results.{passed_is, given-bind, given-bind-inv, require-after, require-after-inv}
use Rattle.laws.proofs.All.{all_append}
use Rattle.laws.proofs.Bytes.{byte-from, filled-length}
use Rattle.laws.proofs.Slots.{uri-of}
use Rattle.laws.proofs.Valid.{page-valid}
use Rattle.laws.proofs.RecordsAt.{entry-forward, schema-at, at-end, at_one}
use Rattle.laws.proofs.Gathering.{subjects-distinct, subjects-some, nothing-asked, gathered-count}
use Rattle.theorems.specs.PageSchema.{IsLeast, subjects, asked_in, PageSchema, PageSchemas}

-- ── the least datatype ──────────────────────────────────────────────────────────────────────

all_there : (d : Datatype) → d ∈ all_datatypes
all_there any_uri = here
all_there string = there here
all_there decimal = there (there here)
all_there date_time = there (there (there here))
all_there integer = there (there (there (there here)))

-- the first of those that pass
first-in : {A : Type 0} (xs : List A) {x : A} → get_elem? xs 0 ≡ some x → x ∈ xs
first-in [] e = absurd (let z : ◌≡◌ {A = ℕ} 0 1 = cc in omega arith)
first-in (y ∷ ys) {x} e = subst (λ z. z ∈ y ∷ ys) (some_is e) here

some_first : {A : Type 0} (xs : List A) (x : A) → x ∈ xs → (y : A) × (get_elem? xs 0 ≡ some y)
some_first [] x m = absurd (Memᴰ.not-nil m)
some_first (y ∷ ys) x m = (y, refl)

module _ (asked : List Datatype) where
  is-least : (d : Datatype) → T (is_least (meets asked) d) → IsLeast asked d
  is-least d h =
      let rest : Bool = every (λ f. not (meets asked f) || leq_datatype d f) all_datatypes in
      record {
        met = and_left (meets asked d) rest h;
        below = λ e m. ⊎_elim (λ n. absurd (no_both (meets asked e) m n)) (λ l. l)
            (or_cases (not (meets asked e)) (leq_datatype d e) (every-at (λ f. not (meets asked f) || leq_datatype d f) all_datatypes (and_right (meets asked d) rest h) e (all_there e)));
      }
    where
      no_both : (b : Bool) → T b → T (not b) → ⊥
      no_both true p q = q
      no_both false p q = p

  least-is : (d : Datatype) → IsLeast asked d → T (is_least (meets asked) d)
  least-is d l =
      and_make (meets asked d) (every (λ f. not (meets asked f) || leq_datatype d f) all_datatypes) l.met
      (every_of (λ f. not (meets asked f) || leq_datatype d f) all_datatypes (λ f m. go (meets asked f) (leq_datatype d f) (l.below f)))
    where
      go : (a b : Bool) → (T a → T b) → T (not a || b)
      go true b f = f tt
      go false b f = tt

  pub least-told : {d : Datatype} → least_that (meets asked) ≡ some d → IsLeast asked d
  unfolding least_that
  least-told {d} e = is-least d (keep_at (is_least (meets asked)) all_datatypes d (first-in (keep (is_least (meets asked)) all_datatypes) e)).1

  one-least : (d e : Datatype) → IsLeast asked d → IsLeast asked e → d ≡ e
  one-least d e l k =
      same-datatype d e
      (apply (leq_datatype e d) (same_datatype d e)
      (apply (leq_datatype d e) (implies (leq_datatype e d) (same_datatype d e))
      (by_datatype2 (λ d e. implies (leq_datatype d e) (implies (leq_datatype e d) (same_datatype d e))) tt d e) (l.below e k.met)) (k.below d l.met))

  pub least-found : (d : Datatype) → IsLeast asked d → least_that (meets asked) ≡ some d
  unfolding least_that
  least-found d l =
      let f = some_first (keep (is_least (meets asked)) all_datatypes) d (keep-of (is_least (meets asked)) all_datatypes d (all_there d) (least-is d l)) in
      f.1 ∙ ap (λ (d : Datatype). some d)
      (one-least f.0 d (is-least f.0 (keep_at (is_least (meets asked)) all_datatypes f.0 (first-in (keep (is_least (meets asked)) all_datatypes) f.1)).1) l)

-- ── entries and subjects ────────────────────────────────────────────────────────────────────

module _ (all : List Asking) where
  -- an entry is of one of the subjects, and has its least datatype
  entry_in : (us : List Text) (e : Entry) → e ∈ (gathered_of all us).entries → (e.property ∈ us) × (least_asked e.property all ≡ some e.datatype)
  unfolding gathered_of
  entry_in [] e m = absurd (Memᴰ.not-nil m)
  entry_in (u ∷ us) e m = go (entry_in us) (least_asked u all) refl e m
    where
      go : ((e : Entry) → e ∈ (gathered_of all us).entries → (e.property ∈ us) × (least_asked e.property all ≡ some e.datatype))
          → (o : Option Datatype) → least_asked u all ≡ o → (e : Entry) → e ∈ (entering u o (gathered_of all us)).entries
          → (e.property ∈ u ∷ us) × (least_asked e.property all ≡ some e.datatype)
      go later none q = λ e m. let r = later e m in (there r.0, r.1)
      go later (some d) q =
          by-cons {P = λ (e : Entry). (e.property ∈ u ∷ us) × (least_asked e.property all ≡ some e.datatype)} (here, q)
          (λ e m. let r = later e m in (there r.0, r.1))

  entries-order : (us : List Text) → map (λ e. e.property) (gathered_of all us).entries ≡ keep (λ u. is_some (least_asked u all)) us
  unfolding gathered_of
  entries-order [] = refl
  entries-order (u ∷ us) = go (least_asked u all) (entries-order us)
    where
      go : (o : Option Datatype) → map (λ e. e.property) (gathered_of all us).entries ≡ keep (λ u. is_some (least_asked u all)) us
          → map (λ e. e.property) (entering u o (gathered_of all us)).entries
          ≡ cond (is_some o) (u ∷ keep (λ u. is_some (least_asked u all)) us) (keep (λ u. is_some (least_asked u all)) us)
      go none q = q
      go (some d) q = ap (λ l. u ∷ l) q

  has-entry : (us : List Text) (u : Text) → u ∈ us → (d : Datatype) → least_asked u all ≡ some d → record { property = u; datatype = d } ∈ (gathered_of all us).entries
  unfolding gathered_of
  has-entry [] u m = absurd (Memᴰ.not-nil m)
  has-entry (v ∷ us) u m =
      by-cons {P = λ (u : Text). (d : Datatype) → least_asked u all ≡ some d → record { property = u; datatype = d } ∈ (entering v (least_asked v all) (gathered_of all us)).entries}
      (λ d q. rw q here) (λ w k d q. past (least_asked v all) (has-entry us w k d q)) u m
    where
      past : {e : Entry} (o : Option Datatype) → e ∈ (gathered_of all us).entries → e ∈ (entering v o (gathered_of all us)).entries
      past none k = k
      past (some d) k = there k

  entries-distinct : (us : List Text) → T (distinct same_bytes us) → T (distinct same_property (gathered_of all us).entries)
  unfolding gathered_of
  entries-distinct [] h = tt
  entries-distinct (u ∷ us) h =
      go (least_asked u all) (entries-distinct us (and_right (every (λ v. not (same_bytes u v)) us) (distinct same_bytes us) h))
    where
      go : (o : Option Datatype) → T (distinct same_property (gathered_of all us).entries) → T (distinct same_property (entering u o (gathered_of all us)).entries)
      go none k = k
      go (some d) k =
          let x : Entry = record { property = u; datatype = d } in
          and_make (every (λ y. not (same_property x y)) (gathered_of all us).entries) (distinct same_property (gathered_of all us).entries)
          (every_of (λ y. not (same_property x y)) (gathered_of all us).entries
          (λ e m. every-at (λ v. not (same_bytes u v)) us (and_left (every (λ v. not (same_bytes u v)) us) (distinct same_bytes us) h) e.property (entry_in us e m).0)) k

  entries-valid : (us : List Text) → All ValidURI us → All (λ e. ValidURI e.property) (gathered_of all us).entries
  unfolding gathered_of
  entries-valid [] h = tt
  entries-valid (u ∷ us) h = go (least_asked u all) (entries-valid us h.1)
    where
      go : (o : Option Datatype) → All (λ e. ValidURI e.property) (gathered_of all us).entries → All (λ e. ValidURI e.property) (entering u o (gathered_of all us)).entries
      go none k = k
      go (some d) k = (h.0, k)

  -- the subjects are those of which something is asked
  subject-asked : (u : Text) → u ∈ subjects_after [] all → asked_of u all ≡ [] → ⊥
  unfolding asked_of
  subject-asked u m e =
      let there = some_of (same_bytes u) (subjects_after [] all) u m (bytes-refl u) in
      let a = some_at (λ a. same_bytes u a.subject) all (subst (λ (b : Bool). T b) (subjects-some u [] all) there) in
      nothing-kept (keep (λ a. same_bytes u a.subject) all) (keep-of (λ a. same_bytes u a.subject) all a.0 a.1 a.2) e
    where
      nothing-kept : {a : Asking} (xs : List Asking) → a ∈ xs → map (λ a. a.least) xs ≡ [] → ⊥
      nothing-kept [] k q = Memᴰ.not-nil k
      nothing-kept (x ∷ xs) k q = let z : ◌≡◌ {A = ℕ} 0 1 = cc in omega arith

  asked-subject : (u : Text) → (asked_of u all ≡ [] → ⊥) → u ∈ subjects_after [] all
  asked-subject u n = go (some? (same_bytes u) (subjects_after [] all)) refl
    where
      go : (b : Bool) → some? (same_bytes u) (subjects_after [] all) ≡ b → u ∈ subjects_after [] all
      go false e = absurd (n (nothing-asked u all e))
      go true e =
          let v = some_at (same_bytes u) (subjects_after [] all) (true_is (some? (same_bytes u) (subjects_after [] all)) e) in
          subst (λ (w : Text). w ∈ subjects_after [] all) (sym (same_bytes_lem u v.0 v.2)) v.1

-- subjects are URIs of the page
askings-valid : (rs : List Triple) → All ValidTriple rs → All (λ a. ValidURI a.subject) (askings rs)
unfolding askings
askings-valid [] h = tt
askings-valid (r ∷ rs) h = go (asks r.property r.object) (askings-valid rs h.1)
  where
    go : (o : Option Datatype) → All (λ a. ValidURI a.subject) (askings rs) → All (λ a. ValidURI a.subject) (asking r.subject o ++ askings rs)
    go none k = k
    go (some d) k = (h.0.subject, k)

subjects-valid : (us : List Text) (xs : List Asking) → All ValidURI us → All (λ a. ValidURI a.subject) xs → All ValidURI (subjects_after us xs)
unfolding subjects_after with_subject
subjects-valid us [] h k = h
subjects-valid us (x ∷ xs) h k = subjects-valid (with_subject x.subject us) xs (go (some? (same_bytes x.subject) us)) k.1
  where
    go : (b : Bool) → All ValidURI (elim b as (λ c. List Text) [ true ↦ us | false ↦ us ++ (x.subject ∷ []) ])
    go true = h
    go false = all_append ValidURI us (x.subject ∷ []) h (k.0, tt)

-- ── records written and read ────────────────────────────────────────────────────────────────

code-back : (d : Datatype) → datatype_of_code (datatype_code d) ≡ some d
code-back any_uri = refl
code-back string = refl
code-back decimal = refl
code-back date_time = refl
code-back integer = refl

record-length : (e : Entry) → ValidURI e.property → length (entry_record e) ≡ entry_width
unfolding entry_record
record-length e v =
    omega (arith, length-append (filled text_width e.property) (datatype_code e.datatype ∷ []), filled-length text_width e.property v.0.fits)

schema-length : (S : Schema) → All (λ e. ValidURI e.property) S → length (schema_records S) ≡ length S * entry_width
unfolding schema_records
schema-length [] h = refl
schema-length (e ∷ S) h = omega (arith, length-append (entry_record e) (schema_records S), record-length e h.0, schema-length S h.1)

-- a record after any bytes
module _ (before after : List ℕ) (e : Entry) (v : ValidURI e.property) where
  abbrev s : List ℕ
  s = before ++ (entry_record e ++ after)

  from-here : (k : ℕ) → byte s (length before + k) ≡ byte (entry_record e ++ after) k
  from-here k = byte-from s (length before) k ∙ ap (λ (l : List ℕ). byte l k) (drop-append_seam before (entry_record e ++ after))

  kind : byte s (length before) ≡ 0x21
  unfolding entry_record
  kind = let z : length before ≡ length before + 0 = omega arith in ap (byte s) z ∙ from-here 0

  field : part s (length before + 1) text_width ≡ filled text_width e.property
  unfolding entry_record
  field =
      ap (take text_width) (sym (drop-drop 1 (length before) s) ∙ ap (drop 1) (drop-append_seam before (entry_record e ++ after)))
      ∙ ap (take text_width) (append_assoc (filled text_width e.property) (datatype_code e.datatype ∷ []) after)
      ∙ take_at (filled text_width e.property) ((datatype_code e.datatype ∷ []) ++ after) text_width (filled-length text_width e.property v.0.fits)

  code : byte s (length before + 1 + text_width) ≡ datatype_code e.datatype
  unfolding entry_record
  code =
      let z : length before + 1 + text_width ≡ length before + (1 + text_width) = omega arith in
      ap (byte s) z ∙ from-here (1 + text_width)
      ∙ ap (λ (l : List ℕ). byte l text_width) (append_assoc (filled text_width e.property) (datatype_code e.datatype ∷ []) after)
      ∙ get_or_at (filled text_width e.property) (datatype_code e.datatype) after 0 text_width (filled-length text_width e.property v.0.fits)

  fits : length before + entry_width ≤ length s
  fits = omega (arith, length-append before (entry_record e ++ after), length-append (entry_record e) after, record-length e v)

  reads : read_entry s (length before) ≡ some (e, length before + entry_width)
  unfolding read_entry uri_at provided onward
  reads =
      let end : length before + 1 + text_width + 1 ≡ length before + entry_width = omega arith in
      rw (
        kind,
        le-leb (length before + entry_width) (length s) fits,
        le-leb (length before + 1 + text_width) (length s) (omega (arith, fits)),
        field,
        uri-of e.property v,
        code,
        code-back
            e.datatype,
      )
      (ap (λ (n : ℕ). some (e, n)) end)

read_back : (S : Schema) → All (λ e. ValidURI e.property) S → (before : List ℕ) → records_at read_entry (before ++ schema_records S) (length before) ≡ some S
unfolding schema_records in_front
read_back [] h before = at-end read_entry entry-forward (before ++ []) (length before) (omega (arith, length-append before []))
read_back (e ∷ S) h before =
    let s = before ++ (entry_record e ++ schema_records S) in
    let again : s ≡ (before ++ entry_record e) ++ schema_records S = sym (append_assoc before (entry_record e) (schema_records S)) in
    let long : length before + entry_width ≡ length (before ++ entry_record e) = omega (arith, length-append before (entry_record e), record-length e h.0) in
    at_one read_entry entry-forward s (length before) (omega (arith, fits before (schema_records S) e h.0)) (reads before (schema_records S) e h.0)
    ∙ ap (in_front read_entry e)
    (ap (records_at read_entry s) long ∙ ap (λ (s : List ℕ). records_at read_entry s (length (before ++ entry_record e))) again ∙ read_back S h.1 (before ++ entry_record e))

pub schema-back : (S : Schema) → All (λ e. ValidURI e.property) S → read_schema (schema_records S) ≡ some S
schema-back S h = schema-at (schema_records S) ∙ read_back S h []

-- ── the theorem ─────────────────────────────────────────────────────────────────────────────

module _ (page before : List ℕ) (rs : List Triple) (read : page_in page ≡ some rs) (few : length (gathered rs).entries ≤ entry_limit) where
  abbrev all : List Asking
  all = askings rs

  S : Schema
  S = (gathered rs).entries

  S-is : S ≡ (gathered_of all (subjects rs)).entries
  unfolding S gathered
  S-is = refl

  valid : All (λ e. ValidURI e.property) S
  unfolding page_in
  valid =
      let r = (provided-inv (leb (length page) page_limit) (read_page page) read).1 in
      rw S-is (entries-valid all (subjects rs) (subjects-valid [] all tt (askings-valid rs (page-valid page rs r))))

  back : read_schema (take (length S * entry_width) (written S before)) ≡ some S
  unfolding written
  back = ap read_schema (take_at (schema_records S) (drop (length (schema_records S)) before) (length S * entry_width) (schema-length S valid)) ∙ schema-back S valid

  apart : T (distinct same_property S)
  apart = rw S-is (entries-distinct all (subjects rs) (subjects-distinct [] all tt))

  past : (terms : List ℕ) (listed : List Term) → read_terms terms ≡ some listed → T (distinct same_term listed)
      → record_tests terms (take (length S * entry_width) (written S before)) ≡ passed (record { terms = listed; schema = S })
  unfolding record_tests
  past terms listed e d = given-bind BadTerm _ e ∙ require-after TermTwice (distinct same_term listed) _ d ∙ given-bind BadEntry _ back ∙ require-after PropertyTwice (distinct same_property S) _ apart

  holds : PageSchema page before (written (gathered rs).entries before) (length (gathered rs).entries) (gathered rs).left_out
  unfolding written gathered S
  holds =
      let l = schema-length S valid in
      record {
        triples = rs;
        reads = read;
        schema = S;
        back = back;
        count = refl;
        few = few;
        apart = apart;
        taken = λ terms listed e d. past terms listed e d;
        asked = λ u. (subject-asked all u, asked-subject all u);
        once = subjects-distinct [] all tt;
        order = ap (map (λ e. e.property)) S-is ∙ entries-order all (subjects rs);
        rest = drop_at (schema_records S) (drop (length (schema_records S)) before) (length S * entry_width) l ∙ ap (λ (n : ℕ). drop n before) l;
        least = λ e m. least-told (asked_in rs e.property) (unfold least_asked in (entry_in all (subjects rs) e (subst (λ (S : Schema). e ∈ S) S-is m)).1);
        entered = λ u m d k. subst (λ (S : Schema). record { property = u; datatype = d } ∈ S) (sym S-is)
            (has-entry all (subjects rs) u m d (unfold least_asked in least-found (asked_in rs u) d k));
        others = gathered-count all (subjects rs);
      }

pub page-schemas : PageSchemas
unfolding schema_result schema_call
page-schemas page schema entries left_out e = go (schema_tests page schema) refl e
  where
    go : (r : Result Gathered) → schema_tests page schema ≡ r → (schema_result schema r).answer ≡ Ok (record { entries = entries; left_out = left_out })
        → PageSchema page schema (schema_call page schema).schema entries left_out
    go (refused n) q a = absurd (unfold schema_result in let z : ◌≡◌ {A = ℕ} 0 1 = cc in omega arith)
    go (passed g) q a = unfold schema_tests schema_result schema_call in
        let one = require-after-inv WrongLength (eqb (length schema) schema_width) _ q in
        let two = given-bind-inv BadPage (page_in page) _ one.1 in
        let three = require-after-inv TooManyEntries (leb (length (gathered two.0).entries) entry_limit) _ two.2 in
        let is : gathered two.0 ≡ g = passed_is three.1 in
        let both : ◌≡◌ {A = SchemaCounts} (record { entries = length g.entries; left_out = g.left_out }) (record { entries = entries; left_out = left_out }) = cc in
        let n : length (gathered two.0).entries ≡ entries = rw is (ap (λ (c : SchemaCounts). c.entries) both) in
        let m : (gathered two.0).left_out ≡ left_out = rw is (ap (λ (c : SchemaCounts). c.left_out) both) in
        rw (q, ← is, ← n, ← m) (holds page schema two.0 two.1 (leb→le (length (gathered two.0).entries) entry_limit three.0))
