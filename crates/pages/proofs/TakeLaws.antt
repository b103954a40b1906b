-- Laws of a page record that is taken in: its bodies, the numbers of its terms, its quad; and of record after record.
use Rattle.std.specs.Prelude.{Some}
use Prim.Native.Nat.{ℕ, ◌+◌, ◌-◌, ◌*◌, ◌≤◌, ◌<◌}
use native.Mathlib.Omega.{arith}
use native.Mathlib.Numerals.{add-one}
use mathlib.Core.Path.{◌≡◌, refl, ap, sym, subst, ◌∙◌}
use mathlib.Core.List.{List, [], ◌∷◌}
use mathlib.Core.Bool.{Bool, true, false, ◌&&◌}
use mathlib.Core.Option.{Option, none, some}
use lib.Dec.{leb}
use lib.ListN.{length, set, take, drop}
use Rattle.definitions.specs.Limits.{text_width, property_offset, object_offset, number_width, term_limit, quad_limit, quad_width, quad_table_width}
use Rattle.pages.specs.Room.{least_record_width}
use Rattle.definitions.specs.Bytes.{byte, part, all_zero, in_front}
use Rattle.definitions.specs.Types.{Datatype}
use Rattle.definitions.specs.Terms.{Term, Schema, Triple, body_width, term_of_body, uri_text}
use Rattle.definitions.specs.Terms.{read_schema, read_triple, read_page}
use Rattle.definitions.specs.Evaluate.{Quad}
use Rattle.definitions.specs.Machine.{Taken, skip, store, take_one, take_all, numbered, well_typed}
use Rattle.definitions.specs.Saved.{quad_table, quads_from, quads_in}
use Rattle.laws.proofs.Options.{some_is, pair_is, some-not-none, onward-some, provided-inv}
use Rattle.laws.specs.Records.{TripleAt, records_at}
use Rattle.laws.proofs.RecordsAt.{triple-inv, triple-forward, at-end, at-bad, at_one, page-at}
use Rattle.laws.proofs.Taking.{take_all_lem}
use Rattle.laws.proofs.TermNumbers.{number-extends, extends-length}
use Rattle.laws.specs.Quads.{Small}
use Rattle.keys.specs.Keys.{key_of}
use Rattle.laws.proofs.Tables.{quads-of, quad-table-length}
use Rattle.laws.specs.ReadAnswers.{is_some, next_of}
use Rattle.laws.proofs.ReadAnswers.{next-got}
use Rattle.laws.proofs.Bytes.{part_length}
use Rattle.pages.specs.declared.Counts.{Counts}
use Rattle.records.specs.declared.Joined.{Joined}
use Rattle.pages.specs.declared.Numbers.{Numbers}
use Rattle.ordering.proofs.Gathering.{gathered-one}
use Rattle.quad_table.specs.Quads.{quad}
use Rattle.pages.specs.Page.{BodyIs, Joins, subject_in, property_in, object_in, Numbering, HeldQuads, HeldTaken, Took}
use Rattle.records.proofs.NumberingLaws.{held-width}
use Rattle.page_reader.proofs.RecordLaws.{page-kind, record-ends}

-- ── the bodies of a record ──────────────────────────────────────────────────────────────────

uri-body : (body : List ℕ) (u : List ℕ) → length body ≡ text_width → uri_text body ≡ some u → BodyIs 0x11 body (Term.uri u)
unfolding term_of_body
uri-body body u l e = record { datatype = Datatype.any_uri; kind = refl; width = l; says = onward-some (λ u. some (Term.uri u)) e }

body-wide : (d : Datatype) → number_width ≤ body_width d
body-wide Datatype.any_uri = omega arith
body-wide Datatype.string = omega arith
body-wide Datatype.decimal = omega arith
body-wide Datatype.date_time = omega arith
body-wide Datatype.integer = omega arith

module _ (page : List ℕ) (at next : ℕ) (x : Triple) (r : TripleAt page at x next) where
  -- no record is shorter than one whose object is a number
  pub record-long : at + least_record_width ≤ next
  record-long = omega (arith, r.ends, body-wide r.datatype)

  -- as the code hands them on
  pub subject-body : BodyIs 0x11 (take (at + property_offset - (at + 1)) (drop (at + 1) page)) (Term.uri x.subject)
  subject-body =
      let n : at + property_offset - (at + 1) ≡ text_width = omega arith in
      rw n (uri-body (part page (at + 1) text_width) x.subject (part_length page (at + 1) text_width (omega (arith, record-ends page at next x r))) r.subject)

  pub property-body : BodyIs 0x11 (take (at + object_offset - (at + property_offset)) (drop (at + property_offset) page)) (Term.uri x.property)
  property-body =
      let n : at + object_offset - (at + property_offset) ≡ text_width = omega arith in
      rw n (uri-body (part page (at + property_offset) text_width) x.property (part_length page (at + property_offset) text_width (omega (arith, record-ends page at next x r))) r.property)

  pub object-body : BodyIs (byte page at - 0x70) (take (next - (at + object_offset)) (drop (at + object_offset) page)) x.object
  object-body =
      let w = body_width r.datatype in
      let n : next - (at + object_offset) ≡ w = omega (arith, r.ends) in
      rw n
      (record {
        datatype = r.datatype;
        kind = (page-kind (byte page at) r.datatype r.kind).1;
        width = part_length page (at + object_offset) w (omega (arith, r.ends, r.fits));
        says = r.object;
      })

-- ── the numbers of its terms ────────────────────────────────────────────────────────────────

-- no term goes
numbered_more : (t : Term) (ts : List Term) → length ts ≤ length (numbered t ts).terms
numbered_more t ts = extends-length ts (numbered t ts).terms (number-extends t ts)

module _ (ts : List Term) (x : Triple) where
  -- the subject has no room
  pub first-over : (s : Joined) (table : List ℕ) → Joins ts (Term.uri x.subject) s table → term_limit < s.terms
      → Numbering ts x (record { subject = 0; property = 0; object = 0; terms = s.terms }) table
  first-over s table j over =
      record {
        at_most = omega (arith, j.count, numbered_more (Term.uri x.property) (subject_in ts x).terms, numbered_more x.object (property_in ts x).terms);
        width = j.width;
        held = λ few. absurd (omega arith);
      }

  pub second-over : (p : Joined) (table : List ℕ) → Joins (subject_in ts x).terms (Term.uri x.property) p table → term_limit < p.terms
      → Numbering ts x (record { subject = 0; property = 0; object = 0; terms = p.terms }) table
  second-over p table j over =
      record {
        at_most = omega (arith, j.count, numbered_more x.object (property_in ts x).terms);
        width = j.width;
        held = λ few. absurd (omega arith);
      }

  pub all-numbered : (s p o : Joined) (t₁ t₂ table : List ℕ) → Joins ts (Term.uri x.subject) s t₁ → Joins (subject_in ts x).terms (Term.uri x.property) p t₂
      → Joins (property_in ts x).terms x.object o table
      → Numbering ts x (record { subject = s.number; property = p.number; object = o.number; terms = o.terms }) table
  all-numbered s p o t₁ t₂ table js jp jo =
      record {
        at_most = omega (arith, jo.count);
        width = jo.width;
        held = λ few. record { subject = js.is; property = jp.is; object = jo.is; terms = jo.held few };
      }

-- ── quads ───────────────────────────────────────────────────────────────────────────────────

module _ (table : List ℕ) (n : ℕ) (qs : List Quad) (h : HeldQuads table n qs) where
  pub quads-width : length table ≡ quad_table_width
  quads-width = ap length h.is ∙ quad-table-length qs (omega (arith, h.count, h.few))

  pub quads-are : quads_from n table 0 ≡ qs
  unfolding quads_in
  quads-are =
      let fits = leb (length qs) quad_limit in
      let z = all_zero (drop (quad_width * length qs) (quad_table qs)) in
      let p = provided-inv (fits && z) (some (quads_from (length qs) (quad_table qs) 0)) (quads-of qs h.small (omega (arith, h.count, h.few))) in
      (λ i. quads_from (sym h.count i) (h.is i) 0) ∙ some_is p.1

-- ── one record ──────────────────────────────────────────────────────────────────────────────

-- no term goes
store-more : (g : ℕ) (x : Triple) (k : Taken) → length k.terms ≤ length (store g x k).terms
unfolding store
store-more g x k =
    let ts = k.terms in
    omega (arith, numbered_more (Term.uri x.subject) ts, numbered_more (Term.uri x.property) (subject_in ts x).terms, numbered_more x.object (property_in ts x).terms)

module _ (S : Schema) (g : ℕ) where
  pub take_more : (rs : List Triple) (k : Taken) → length k.terms ≤ length (take_all S g rs k).terms
  take_more rs k =
      take_all_lem S g (λ j. length k.terms ≤ length j.terms) rs (λ x j m t h. omega (arith, h, store-more g x j)) (λ j h. h) k (omega arith)

  module _ (x : Triple) (k : Taken) (c : Counts) (t f : List ℕ) (others : List Quad) (h : HeldTaken t f others c k) where
    pub take-skipped : well_typed S x ≡ false → Took t f others (record { terms = c.terms; keys = c.keys; skipped = c.skipped + 1 }) (take_one S g x k)
    unfolding take_one
    take-skipped e =
        subst (Took t f others (record { terms = c.terms; keys = c.keys; skipped = c.skipped + 1 }))
        (sym (ap (λ (b : Bool). elim b as (λ c. Taken) [ true ↦ store g x k | false ↦ skip k ]) e))
        (record {
          terms_at_most = omega (arith, h.terms.count);
          term_width = held-width t c.terms k.terms h.terms;
          held = λ few. record { terms = h.terms; quads = h.quads; skipped = ap (λ (n : ℕ). n + 1) h.skipped ∙ add-one k.skipped };
        })

    module _ (e : well_typed S x ≡ true) (r : Numbers) (t' : List ℕ) (n : Numbering k.terms x r t') where
      taken_is : take_one S g x k ≡ store g x k
      unfolding take_one
      taken_is = ap (λ (b : Bool). elim b as (λ c. Taken) [ true ↦ store g x k | false ↦ skip k ]) e

      pub take-over : term_limit < r.terms → Took t' f others (record { terms = r.terms; keys = c.keys; skipped = c.skipped }) (take_one S g x k)
      unfolding store
      take-over over =
          subst (Took t' f others (record { terms = r.terms; keys = c.keys; skipped = c.skipped })) (sym taken_is)
          (record { terms_at_most = n.at_most; term_width = n.width; held = λ few. absurd (omega arith) })

      -- its quad's key after those that there are
      pub take-stored : r.terms ≤ term_limit → c.keys < length f → (y : ℕ) → y ≡ key_of (quad g r.subject r.property r.object)
          → Small (quad g r.subject r.property r.object)
          → Took t' (set f c.keys y) others (record { terms = r.terms; keys = c.keys + 1; skipped = c.skipped }) (take_one S g x k)
      unfolding store
      take-stored few room y is small =
          let a = n.held few in
          let same : quad g r.subject r.property r.object ≡ quad g (subject_in k.terms x).number (property_in k.terms x).number (object_in k.terms x).number =
          λ i. quad g (a.subject i) (a.property i) (a.object i) in
          subst (Took t' (set f c.keys y) others (record { terms = r.terms; keys = c.keys + 1; skipped = c.skipped })) (sym taken_is)
          (record {
            terms_at_most = n.at_most;
            term_width = n.width;
            held = λ little.
                record {
                  terms = a.terms;
                  quads = gathered-one others f c.keys k.quads h.quads _ y (subst Small same small) (is ∙ ap key_of same) room;
                  skipped = h.skipped;
                };
          })

-- ── record after record ─────────────────────────────────────────────────────────────────────

-- what is left to take in, from an offset on
pub record Left (page : List ℕ) (S : Schema) (g at : ℕ) (t f : List ℕ) (others : List Quad) (c : Counts) (final : Taken) : Type 0 where
  pub rest : List Triple
  pub so_far : Taken
  pub reads : records_at read_triple page at ≡ some rest
  pub holds : HeldTaken t f others c so_far
  pub leads : final ≡ take_all S g rest so_far

-- whatever the page, the term table and the quads of other graphs were at first
abbrev pub Going : (page schema : List ℕ) → (g : ℕ) → (t₀ f₀ : List ℕ) → Counts → (t f : List ℕ) → Counts → (at : ℕ) → Type 0
Going page schema g t₀ f₀ c₀ t f c at =
    (S : Schema) (rs : List Triple) (others : List Quad) (k : Taken) → read_schema schema ≡ some S → read_page page ≡ some rs → HeldTaken t₀ f₀ others c₀ k
    → Left page S g at t f others c (take_all S g rs k)

pub going-first : (page schema : List ℕ) (g : ℕ) (t f : List ℕ) (c : Counts) → Going page schema g t f c t f c 0
going-first page schema g t f c S rs others k e r h = record { rest = rs; so_far = k; reads = sym (page-at page) ∙ r; holds = h; leads = refl }

module _ (page : List ℕ) (S : Schema) (g at : ℕ) (t f : List ℕ) (others : List Quad) (c : Counts) (final : Taken) (l : Left page S g at t f others c final) where
  -- none is left
  pub left-none : length page ≤ at → Took t f others c final
  unfolding take_all
  left-none h =
      let n : [] ≡ l.rest = some_is (sym (at-end read_triple triple-forward page at h) ∙ l.reads) in
      subst (Took t f others c) (sym (l.leads ∙ ap (λ (rs : List Triple). take_all S g rs l.so_far) (sym n)))
      (record {
        terms_at_most = omega (arith, l.holds.terms.count);
        term_width = held-width t c.terms l.so_far.terms l.holds.terms;
        held = λ few. l.holds;
      })

  -- one and the others
  module _ (h : at < length page) where
    pub record Next : Type 0 where
      pub triple : Triple
      pub next : ℕ
      pub later : List Triple
      pub read : read_triple page at ≡ some (triple, next)
      pub here : TripleAt page at triple next
      pub after : records_at read_triple page next ≡ some later
      pub all : l.rest ≡ triple ∷ later
      pub farther : at < next

    next-of : (o : Option (Triple × ℕ)) → read_triple page at ≡ o → Next
    unfolding in_front
    next-of none e = absurd (some-not-none l.reads (at-bad read_triple triple-forward page at h e))
    next-of (some (x, n)) e = go (records_at read_triple page n) refl
      where
        go : (o : Option (List Triple)) → records_at read_triple page n ≡ o → Next
        go none z = absurd (some-not-none l.reads (at_one read_triple triple-forward page at h e ∙ ap (in_front read_triple x) z))
        go (some later) z =
            record {
              triple = x;
              next = n;
              later = later;
              read = e;
              here = triple-inv page at x n e;
              after = z;
              all = some_is (sym l.reads ∙ (at_one read_triple triple-forward page at h e ∙ ap (in_front read_triple x) z));
              farther = (triple-forward page at x n e).0;
            }

    pub left_one : Next
    left_one = next-of (read_triple page at) refl

    pub left-reads : is_some (read_triple page at) ≡ true
    left-reads = ap is_some left_one.read

    -- its end, as the code finds it
    module _ (n : ℕ) (end : Some n ≡ next_of (read_triple page at)) where
      pub end-next : n ≡ left_one.next
      end-next = let r = next-got (read_triple page at) (sym end) in (pair_is (sym r.1 ∙ left_one.read)).1

      pub here-at : TripleAt page at left_one.triple n
      here-at = subst (λ (m : ℕ). TripleAt page at left_one.triple m) (sym end-next) left_one.here

  module _ (h : at < length page) (t' f' : List ℕ) (c' : Counts) (took : Took t' f' others c' (take_one S g (left_one h).triple l.so_far)) where
    leads-on : final ≡ take_all S g (left_one h).later (take_one S g (left_one h).triple l.so_far)
    unfolding take_all
    leads-on = l.leads ∙ ap (λ (rs : List Triple). take_all S g rs l.so_far) (left_one h).all

    -- there was room
    pub left-next : (n : ℕ) → Some n ≡ next_of (read_triple page at) → c'.terms ≤ term_limit → Left page S g n t' f' others c' final
    left-next n end few =
        subst (λ (m : ℕ). Left page S g m t' f' others c' final) (sym (end-next h n end))
        (record { rest = (left_one h).later; so_far = take_one S g (left_one h).triple l.so_far; reads = (left_one h).after; holds = took.held few; leads = leads-on })

    -- the limit is passed, and stays passed
    pub left-terms : term_limit < c'.terms → Took t' f' others c' final
    left-terms over =
        let m = take_more S g (left_one h).later (take_one S g (left_one h).triple l.so_far) in
        record {
          terms_at_most = omega (arith, took.terms_at_most, m, ap (λ (k : Taken). length k.terms) leads-on);
          term_width = took.term_width;
          held = λ few. absurd (omega arith);
        }
